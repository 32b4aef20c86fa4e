-- Examples for every row of the table "Elements" and every fault that the order of expressions in an element can have: 8, 9, 11 and 12.
-- An element's inside is written as the classes of its expressions. That each has the verdict beside it is `rows_judged` of `proofs/Rows.antt`.
use Rattle.std.specs.Prelude.{ℕ, ◌+◌, cond, List, [], ◌∷◌}
use Rattle.elements.specs.rules.Class
use Rattle.elements.specs.rules.Inside.{State, Step, go, bad, step, start, ended}

-- All is taken and the element may end; or the expression with this number, from 0, has a fault; or the element has 9 at its end.
pub data RowVerdict : Type 0 where
  right : RowVerdict
  fault : ℕ → ℕ → RowVerdict
  unfinished : RowVerdict

unfoldable pub go_on : ℕ → (State → RowVerdict) → Step → RowVerdict
go_on i next (go s) = next s
go_on i next (bad n) = fault n i

unfoldable pub verdict_from : ℕ → ℕ → State → List ℕ → RowVerdict
verdict_from k i s [] = cond (ended k s) right unfinished
verdict_from k i s (c ∷ cs) = go_on i (λ s'. verdict_from k (i + 1) s' cs) (step k s c)

pub record Row : Type 0 where
  pub kind : ℕ
  pub inside : List ℕ
  pub expected : RowVerdict

unfoldable pub verdict : Row → RowVerdict
verdict r = verdict_from r.kind 0 (start r.kind) r.inside

abbrev is : ℕ → List ℕ → RowVerdict → Row
is k cs v = record { kind = k; inside = cs; expected = v }

unfoldable pub rows : List Row
rows =
    is Class.document (Class.title ∷ Class.id ∷ Class.type ∷ Class.part ∷ Class.part ∷ []) right
    ∷ is Class.document (Class.title ∷ Class.type ∷ Class.id ∷ Class.section ∷ []) right
    ∷ is Class.document (Class.title ∷ []) right
    ∷ is Class.document [] unfinished
    ∷ is Class.document (Class.id ∷ Class.title ∷ []) (fault 9 0)
    ∷ is Class.document (Class.title ∷ Class.id ∷ Class.id ∷ []) (fault 8 2)
    ∷ is Class.document (Class.title ∷ Class.part ∷ Class.section ∷ []) (fault 11 2)
    ∷ is Class.document (Class.title ∷ Class.section ∷ Class.part ∷ []) (fault 11 2)
    ∷ is Class.document (Class.title ∷ Class.subsection ∷ []) (fault 8 1)
    ∷ is Class.document (Class.title ∷ Class.part ∷ Class.subsection ∷ []) (fault 8 2)
    ∷ is Class.document (Class.title ∷ Class.part ∷ Class.include ∷ []) (fault 12 2)
    ∷ is Class.document (Class.title ∷ Class.text ∷ []) (fault 8 1)
    ∷ is Class.document (Class.title ∷ Class.import ∷ []) (fault 12 1)
    ∷ is Class.part (Class.title ∷ Class.section ∷ Class.section ∷ []) right
    ∷ is Class.part (Class.title ∷ Class.part ∷ []) (fault 8 1)
    ∷ is Class.section (Class.title ∷ Class.subsection ∷ Class.subsection ∷ []) right
    ∷ is Class.section (Class.title ∷ Class.paragraph ∷ Class.formal_item ∷ Class.footnote ∷ []) right
    ∷ is Class.section (Class.title ∷ Class.footnote ∷ Class.subsection ∷ []) (fault 11 2)
    ∷ is Class.section (Class.title ∷ Class.subsection ∷ Class.paragraph ∷ []) (fault 11 2)
    ∷ is Class.section (Class.title ∷ Class.paragraph ∷ Class.text ∷ []) (fault 8 2)
    ∷ is Class.subsection (Class.title ∷ Class.id ∷ Class.paragraph ∷ Class.formal_item ∷ Class.footnote ∷ []) right
    ∷ is Class.subsection (Class.title ∷ Class.subsection ∷ []) (fault 8 1)
    ∷ is Class.paragraph (Class.type ∷ Class.id ∷ Class.text ∷ Class.term ∷ Class.image ∷ Class.verbatim ∷ Class.link ∷ Class.link_ext ∷ []) right
    ∷ is Class.paragraph (Class.footnote_ref ∷ Class.list_ordered ∷ Class.list_unordered ∷ Class.table ∷ []) right
    ∷ is Class.paragraph (Class.title ∷ []) (fault 8 0)
    ∷ is Class.paragraph (Class.text ∷ Class.id ∷ []) (fault 8 1)
    ∷ is Class.paragraph (Class.item ∷ []) (fault 8 0)
    ∷ is Class.paragraph (Class.text ∷ Class.include ∷ []) (fault 12 1)
    ∷ is Class.formal_item (Class.title ∷ Class.type ∷ Class.text ∷ Class.table ∷ []) right
    ∷ is Class.formal_item (Class.text ∷ []) (fault 9 0)
    ∷ is Class.footnote (Class.id ∷ Class.type ∷ Class.text ∷ []) right
    ∷ is Class.footnote (Class.type ∷ Class.id ∷ []) (fault 9 0)
    ∷ is Class.footnote (Class.id ∷ Class.paragraph ∷ []) (fault 8 1)
    ∷ is Class.title (Class.text ∷ Class.text ∷ []) right
    ∷ is Class.title (Class.term ∷ []) (fault 8 0)
    ∷ is Class.term (Class.type ∷ Class.text ∷ []) right
    ∷ is Class.term (Class.link ∷ []) (fault 8 0)
    ∷ is Class.image (Class.target ∷ Class.size ∷ Class.type ∷ Class.text ∷ []) right
    ∷ is Class.image (Class.target ∷ Class.type ∷ Class.size ∷ []) (fault 8 2)
    ∷ is Class.image (Class.size ∷ []) (fault 9 0)
    ∷ is Class.verbatim (Class.type ∷ Class.text ∷ []) right
    ∷ is Class.verbatim (Class.type ∷ []) unfinished
    ∷ is Class.verbatim (Class.text ∷ Class.text ∷ []) (fault 8 1)
    ∷ is Class.verbatim (Class.text ∷ Class.include ∷ []) (fault 12 1)
    ∷ is Class.link (Class.target ∷ Class.text ∷ Class.image ∷ []) right
    ∷ is Class.link (Class.target ∷ Class.type ∷ []) (fault 8 1)
    ∷ is Class.link_ext (Class.target ∷ Class.image ∷ Class.text ∷ []) right
    ∷ is Class.link_ext (Class.text ∷ []) (fault 9 0)
    ∷ is Class.footnote_ref (Class.target ∷ []) right
    ∷ is Class.footnote_ref (Class.target ∷ Class.text ∷ []) (fault 8 1)
    ∷ is Class.footnote_ref (Class.target ∷ Class.include ∷ []) (fault 12 1)
    ∷ is Class.list_ordered (Class.item ∷ Class.item ∷ []) right
    ∷ is Class.list_ordered (Class.text ∷ []) (fault 8 0)
    ∷ is Class.list_unordered (Class.item ∷ []) right
    ∷ is Class.list_unordered (Class.list_unordered ∷ []) (fault 8 0)
    ∷ is Class.item (Class.text ∷ Class.list_ordered ∷ Class.table ∷ []) right
    ∷ is Class.item (Class.item ∷ []) (fault 8 0)
    ∷ is Class.table (Class.summary ∷ Class.type ∷ Class.head ∷ Class.body ∷ []) right
    ∷ is Class.table (Class.summary ∷ Class.body ∷ []) right
    ∷ is Class.table (Class.summary ∷ Class.head ∷ Class.type ∷ Class.body ∷ []) (fault 9 2)
    ∷ is Class.table (Class.summary ∷ Class.body ∷ Class.head ∷ []) (fault 8 2)
    ∷ is Class.table (Class.summary ∷ Class.type ∷ []) unfinished
    ∷ is Class.summary (Class.text ∷ []) right
    ∷ is Class.summary (Class.name ∷ []) (fault 8 0)
    ∷ is Class.head (Class.name ∷ Class.name ∷ []) right
    ∷ is Class.head (Class.cell ∷ []) (fault 8 0)
    ∷ is Class.name (Class.text ∷ []) right
    ∷ is Class.name (Class.term ∷ []) (fault 8 0)
    ∷ is Class.body (Class.row ∷ Class.row ∷ []) right
    ∷ is Class.body (Class.cell ∷ []) (fault 8 0)
    ∷ is Class.row (Class.cell ∷ []) right
    ∷ is Class.row (Class.text ∷ []) (fault 8 0)
    ∷ is Class.cell (Class.text ∷ Class.list_ordered ∷ Class.link ∷ []) right
    ∷ is Class.cell (Class.text ∷ Class.table ∷ []) (fault 8 1)
    ∷ []
