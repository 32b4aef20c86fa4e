-- The table "Elements" of document 01 as data: one row a kind.
use Rattle.std.specs.Prelude.{ℕ, cond, List, [], ◌∷◌, eqb}
use Rattle.elements.specs.rules.Class as Class

-- A parameter, in its place in the order: required, optional (`?`), or `id?/type?`, which "means either order".
pub data Slot : Type 0 where
  must may : ℕ → Slot
  id_type : Slot

-- What follows the parameters: any number of children, all of one of these alternatives, or exactly one child of a kind.
pub data Content : Type 0 where
  alternatives : List (List ℕ) → Content
  exactly_one : ℕ → Content

-- The alternatives that a child may be of.
unfoldable pub alternatives_of : Content → List (List ℕ)
alternatives_of (alternatives kss) = kss
alternatives_of (exactly_one k) = (k ∷ []) ∷ []

pub record Rule : Type 0 where
  pub kind : ℕ
  pub parameters : List Slot
  pub content : Content

abbrev none : Content
none = alternatives []

abbrev only : List ℕ → Content
only ks = alternatives (ks ∷ [])

abbrev rule : ℕ → List Slot → Content → Rule
rule k ps c = record { kind = k; parameters = ps; content = c }

-- "Inline is text and kinds 10 to 17 and 19."
abbrev inline_but_table : List ℕ
inline_but_table =
    Class.text
    ∷ Class.term
    ∷ Class.image
    ∷ Class.verbatim
    ∷ Class.link
    ∷ Class.link_ext
    ∷ Class.footnote_ref
    ∷ Class.list_ordered
    ∷ Class.list_unordered
    ∷ []

abbrev inline : Content
inline = only (Class.table ∷ inline_but_table)

abbrev texts : Content
texts = only (Class.text ∷ [])

abbrev titled : List Slot
titled = must Class.title ∷ id_type ∷ []

abbrev paragraphs : List ℕ
paragraphs = Class.paragraph ∷ Class.formal_item ∷ Class.footnote ∷ []

-- Two rows have alternatives: a document "parts only or sections only", a section "subsections only, or paragraphs, formal items and footnotes".
unfoldable pub rules : List Rule
rules =
    rule Class.document titled (alternatives ((Class.part ∷ []) ∷ (Class.section ∷ []) ∷ []))
    ∷ rule Class.part titled (only (Class.section ∷ []))
    ∷ rule Class.section titled (alternatives ((Class.subsection ∷ []) ∷ paragraphs ∷ []))
    ∷ rule Class.subsection titled (only paragraphs)
    ∷ rule Class.paragraph (id_type ∷ []) inline
    ∷ rule Class.formal_item titled inline
    ∷ rule Class.footnote (must Class.id ∷ may Class.type ∷ []) inline
    ∷ rule Class.title [] texts
    ∷ rule Class.term (may Class.type ∷ []) texts
    ∷ rule Class.image (must Class.target ∷ may Class.size ∷ may Class.type ∷ []) texts
    ∷ rule Class.verbatim (may Class.type ∷ []) (exactly_one Class.text)
    ∷ rule Class.link (must Class.target ∷ []) (only (Class.text ∷ Class.image ∷ []))
    ∷ rule Class.link_ext (must Class.target ∷ []) (only (Class.text ∷ Class.image ∷ []))
    ∷ rule Class.footnote_ref (must Class.target ∷ []) none
    ∷ rule Class.list_ordered [] (only (Class.item ∷ []))
    ∷ rule Class.list_unordered [] (only (Class.item ∷ []))
    ∷ rule Class.item [] inline
    ∷ rule Class.table (must Class.summary ∷ may Class.type ∷ may Class.head ∷ must Class.body ∷ []) none
    ∷ rule Class.summary [] texts
    ∷ rule Class.head [] (only (Class.name ∷ []))
    ∷ rule Class.name [] texts
    ∷ rule Class.body [] (only (Class.row ∷ []))
    ∷ rule Class.row [] (only (Class.cell ∷ []))
    ∷ rule Class.cell [] (only inline_but_table)
    ∷ []

unfoldable pub rule_in : List Rule → ℕ → Rule
rule_in [] k = rule k [] none
rule_in (r ∷ rs) k = cond (eqb k r.kind) r (rule_in rs k)

unfoldable pub rule_of : ℕ → Rule
rule_of k = rule_in rules k
