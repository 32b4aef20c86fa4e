-- What may stand in each element once more, line by line: after what is taken so far, every name that may come next, written as words.
-- `Rules` has the parameters of a kind as slots and `Inside` goes through them; that both agree, for every line and every class, and that no line is missing,
-- is computed in `proofs/PlainInside.antt`. A rule that is misread has to be misread twice, in two shapes. Document 01, "Elements", its table.
use Rattle.std.specs.Prelude.{ℕ, Bool, true, false, cond, ◌||◌, List, [], ◌∷◌, ◌++◌}
use Prim.Native.String.{String}
use Rattle.elements.specs.rules.Bytes.{among}
use Rattle.elements.specs.examples.PlainNames.{numbers}

-- In elements of these kinds, after these parameters:
pub data Line : Type 0 where
  -- one of these parameters must come; anything else is 9, and so is the element's end;
  needs : String → String → String → Line
  -- one of these parameters may come, or one of these children as the first; include and import are 12 and anything else is 8;
  takes : String → String → String → String → Line
  -- the same, but the element's end is 9;
  lacks : String → String → String → String → Line
  -- after a first child among these, these may follow; those of the other sort are 11, include and import 12 and anything else is 8.
  holds : String → String → String → String → String → Line

-- "Inline is text and kinds 10 to 17 and 19."
abbrev inline : String
inline = "text term image verbatim link link-ext footnote-ref list-ordered list-unordered table"

-- "inline but no table"
abbrev without_table : String
without_table = "text term image verbatim link link-ext footnote-ref list-ordered list-unordered"

abbrev blocks : String
blocks = "paragraph formal-item footnote"

unfoldable pub lines : List Line
lines =
    -- document | title, id?/type? | parts only or sections only
    needs "document" "" "title"
    ∷ takes "document" "title" "id type" "part section"
    ∷ takes "document" "title id" "type" "part section"
    ∷ takes "document" "title type" "id" "part section"
    ∷ takes "document" "title id type" "" "part section"
    ∷ takes "document" "title type id" "" "part section"
    ∷ holds "document" "title" "part" "part" "section"
    ∷ holds "document" "title" "section" "section" "part"
    -- part | title, id?/type? | sections
    ∷ needs "part" "" "title"
    ∷ takes "part" "title" "id type" "section"
    ∷ takes "part" "title id" "type" "section"
    ∷ takes "part" "title type" "id" "section"
    ∷ takes "part" "title id type" "" "section"
    ∷ takes "part" "title type id" "" "section"
    ∷ holds "part" "title" "section" "section" ""
    -- section | title, id?/type? | subsections only, or paragraphs, formal items and footnotes
    ∷ needs "section" "" "title"
    ∷ takes "section" "title" "id type" "subsection paragraph formal-item footnote"
    ∷ takes "section" "title id" "type" "subsection paragraph formal-item footnote"
    ∷ takes "section" "title type" "id" "subsection paragraph formal-item footnote"
    ∷ takes "section" "title id type" "" "subsection paragraph formal-item footnote"
    ∷ takes "section" "title type id" "" "subsection paragraph formal-item footnote"
    ∷ holds "section" "title" "subsection" "subsection" blocks
    ∷ holds "section" "title" blocks blocks "subsection"
    -- subsection | title, id?/type? | paragraphs, formal items, footnotes
    ∷ needs "subsection" "" "title"
    ∷ takes "subsection" "title" "id type" blocks
    ∷ takes "subsection" "title id" "type" blocks
    ∷ takes "subsection" "title type" "id" blocks
    ∷ takes "subsection" "title id type" "" blocks
    ∷ takes "subsection" "title type id" "" blocks
    ∷ holds "subsection" "title" blocks blocks ""
    -- formal-item | title, id?/type? | inline
    ∷ needs "formal-item" "" "title"
    ∷ takes "formal-item" "title" "id type" inline
    ∷ takes "formal-item" "title id" "type" inline
    ∷ takes "formal-item" "title type" "id" inline
    ∷ takes "formal-item" "title id type" "" inline
    ∷ takes "formal-item" "title type id" "" inline
    ∷ holds "formal-item" "title" inline inline ""
    -- paragraph | id?/type? | inline
    ∷ takes "paragraph" "" "id type" inline
    ∷ takes "paragraph" "id" "type" inline
    ∷ takes "paragraph" "type" "id" inline
    ∷ takes "paragraph" "id type" "" inline
    ∷ takes "paragraph" "type id" "" inline
    ∷ holds "paragraph" "" inline inline ""
    -- footnote | id, type? | inline
    ∷ needs "footnote" "" "id"
    ∷ takes "footnote" "id" "type" inline
    ∷ takes "footnote" "id type" "" inline
    ∷ holds "footnote" "id" inline inline ""
    -- term | type? | text
    ∷ takes "term" "" "type" "text"
    ∷ takes "term" "type" "" "text"
    ∷ holds "term" "" "text" "text" ""
    -- image | target, size?, type? | text
    ∷ needs "image" "" "target"
    ∷ takes "image" "target" "size type" "text"
    ∷ takes "image" "target size" "type" "text"
    ∷ takes "image" "target size type" "" "text"
    ∷ takes "image" "target type" "" "text"
    ∷ holds "image" "target" "text" "text" ""
    -- verbatim | type? | exactly one text
    ∷ lacks "verbatim" "" "type" "text"
    ∷ lacks "verbatim" "type" "" "text"
    ∷ holds "verbatim" "" "text" "" ""
    -- link, link-ext | target | text, images
    ∷ needs "link link-ext" "" "target"
    ∷ takes "link link-ext" "target" "" "text image"
    ∷ holds "link link-ext" "target" "text image" "text image" ""
    -- footnote-ref | target | none
    ∷ needs "footnote-ref" "" "target"
    ∷ takes "footnote-ref" "target" "" ""
    -- list-ordered, list-unordered | none | items
    ∷ takes "list-ordered list-unordered" "" "" "item"
    ∷ holds "list-ordered list-unordered" "" "item" "item" ""
    -- item; cell | none | inline; inline but no table
    ∷ takes "item" "" "" inline
    ∷ holds "item" "" inline inline ""
    ∷ takes "cell" "" "" without_table
    ∷ holds "cell" "" without_table without_table ""
    -- table | summary, type?, head?, body | none
    ∷ needs "table" "" "summary"
    ∷ needs "table" "summary" "type head body"
    ∷ needs "table" "summary type" "head body"
    ∷ needs "table" "summary head" "body"
    ∷ needs "table" "summary type head" "body"
    ∷ takes "table" "summary body" "" ""
    ∷ takes "table" "summary type body" "" ""
    ∷ takes "table" "summary head body" "" ""
    ∷ takes "table" "summary type head body" "" ""
    -- title, summary, name | none | text
    ∷ takes "title summary name" "" "" "text"
    ∷ holds "title summary name" "" "text" "text" ""
    -- head; body; row | none | names; rows; cells
    ∷ takes "head" "" "" "name"
    ∷ holds "head" "" "name" "name" ""
    ∷ takes "body" "" "" "row"
    ∷ holds "body" "" "row" "row" ""
    ∷ takes "row" "" "" "cell"
    ∷ holds "row" "" "cell" "cell" ""
    -- "Text (9) is a symbol or quoted string": nothing stands in it.
    ∷ takes "text" "" "" ""
    ∷ []

-- A line read as numbers, for one kind: which parameters are taken and which child is the first (0 before it), what may come as a parameter and as a child,
-- what is of the other sort, whether a parameter is still required and whether the element may end.
pub record LineEntry : Type 0 where
  pub kind : ℕ
  pub taken : List ℕ
  pub first : ℕ
  pub parameters : List ℕ
  pub children : List ℕ
  pub others : List ℕ
  pub required : Bool
  pub ends : Bool

unfoldable pub for_each : List ℕ → (ℕ → List LineEntry) → List LineEntry
for_each [] f = []
for_each (k ∷ ks) f = f k ++ for_each ks f

unfoldable pub entries_of : Line → List LineEntry
unfolding for_each numbers
entries_of (needs ks t ps) =
    for_each (numbers ks)
    (λ k. record { kind = k; taken = numbers t; first = 0; parameters = numbers ps; children = []; others = []; required = true; ends = false } ∷ [])
entries_of (takes ks t ps cs) =
    for_each (numbers ks)
    (λ k. record { kind = k; taken = numbers t; first = 0; parameters = numbers ps; children = numbers cs; others = []; required = false; ends = true } ∷ [])
entries_of (lacks ks t ps cs) =
    for_each (numbers ks)
    (λ k. record { kind = k; taken = numbers t; first = 0; parameters = numbers ps; children = numbers cs; others = []; required = false; ends = false } ∷ [])
entries_of (holds ks t fs cs os) =
    for_each (numbers ks)
    (λ k. for_each (numbers fs)
    (λ f. record { kind = k; taken = numbers t; first = f; parameters = []; children = numbers cs; others = numbers os; required = false; ends = true } ∷ []))

unfoldable pub all_entries : List Line → List LineEntry
unfolding entries_of
all_entries [] = []
all_entries (l ∷ ls) = entries_of l ++ all_entries ls

unfoldable pub entries : List LineEntry
unfolding lines all_entries
entries = all_entries lines

-- What a line says of an expression of a class: 0 where it is taken, or the number of its fault. 12 comes before 8, and 8 before 11.
unfoldable pub said : LineEntry → ℕ → ℕ
unfolding numbers among
said e c =
    cond (among c e.parameters || among c e.children) 0
    (cond e.required 9
    (cond (among c (numbers "include import")) 12
    (cond (among c e.others) 11 8)))
