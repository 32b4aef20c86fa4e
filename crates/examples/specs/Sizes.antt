-- Texts and tables built by number, for what only counts show: counts needed, tables of many columns, long ids, levels, lengths of an output.
-- That each has what is beside it is proved in `proofs/Sizes.antt`.
use Rattle.std.specs.Prelude.{ℕ, zero, suc, ◌+◌, ◌-◌, ◌*◌, Bool, ◌&&◌, List, [], ◌∷◌, ◌++◌, eqb, length, replicate}
use Rattle.elements.specs.rules.Bytes.{same}
use Rattle.document.specs.rules.Document.{Node, node, Nodes, childless, child}
use Rattle.document.specs.rules.Spelling.{nested, imperative}
use Rattle.document.specs.reference.Check.{Check, sound, unsound, check}
use Rattle.document.specs.rules.Memory.{Answer}
use Rattle.document.specs.rules.Draft.{Printed}
use Rattle.utf8.specs.examples.Quoted.{utf8_of}
use Rattle.document.specs.examples.Expected.{no_parent, no_width, no_height, bare, texts, joined, Table}
use Rattle.document.specs.examples.Judged.{example_of, Lent, lent, read_into}
use Rattle.document.specs.examples.Printing.{Print, printed_as, blank, needs, no_table_of}

-- The bytes n times over.
unfoldable pub times : ℕ → List ℕ → List ℕ
times zero s = []
times (suc n) s = s ++ times n s

-- The two answers are the same, word for word: a test, since numbers that are computed on both sides would else be compared by counting.
unfoldable pub same_answer : Answer → Answer → Bool
same_answer a b =
    eqb a.number b.number
    && eqb a.place b.place
    && eqb a.line b.line
    && eqb a.column b.column
    && eqb a.nodes b.nodes
    && eqb a.pool b.pool

unfoldable pub as_expected : Lent → Bool
as_expected l = same_answer (read_into l).answer l.example.expected

-- A document of a title, a section and n paragraphs: n + 6 nodes.
unfoldable pub paragraphs : ℕ → List ℕ
paragraphs n = utf8_of "[document [title A] [section [title B]" ++ times n (utf8_of " [paragraph]") ++ utf8_of "]]"

-- In the imperative spelling, with a text in each paragraph: 2 n + 6 nodes, n + 2 pool bytes.
unfoldable pub commands : ℕ → List ℕ
commands n = utf8_of "[document [title A]] [section [title B]]" ++ times n (utf8_of " [paragraph] x")

-- 13 and 14: "counts needed", and 0 where the room is just enough. Node words, places and pool bytes that are lent, and the text.
unfoldable pub counted : List Lent
counted =
    lent 0 0 0 (example_of nested (paragraphs 100) 13 0 1 1 106 2)
    ∷ lent 1165 106 2 (example_of nested (paragraphs 100) 13 0 1 1 106 2)
    ∷ lent 1166 105 2 (example_of nested (paragraphs 100) 13 0 1 1 106 2)
    ∷ lent 3366 306 1 (example_of nested (paragraphs 300) 14 0 1 1 306 2)
    ∷ lent 0 0 0 (example_of imperative (commands 100) 13 0 1 1 206 102)
    ∷ lent 2266 206 101 (example_of imperative (commands 100) 14 0 1 1 206 102)
    ∷ lent 2266 206 102 (example_of imperative (commands 100) 0 0 1 1 206 102)
    ∷ []

-- A head of n names over a row of m cells.
unfoldable pub columns : ℕ → ℕ → List ℕ
columns n m =
    utf8_of "[document [title] [section [title] [paragraph [table [summary] [head"
    ++ times n (utf8_of " [name]")
    ++ utf8_of "] [body [row"
    ++ times m (utf8_of " [cell]")
    ++ utf8_of "]]]]]]"

-- The names begin at place 68 with seven bytes each, and the row is eight bytes behind them; ten nodes are neither names nor cells.
-- 0 with as many cells as names; 15 at the row with one more or one fewer.
unfoldable pub column_texts : List ℕ → List Lent
column_texts [] = []
column_texts (n ∷ ns) =
    lent 1100 100 0 (example_of nested (columns n n) 0 0 1 1 (10 + n + n) 0)
    ∷ lent 1100 100 0 (example_of nested (columns n (n + 1)) 15 (76 + 7 * n) 1 (77 + 7 * n) (11 + n + n) 0)
    ∷ lent 1100 100 0 (example_of nested (columns n (n - 1)) 15 (76 + 7 * n) 1 (77 + 7 * n) (9 + n + n) 0)
    ∷ column_texts ns

-- The same document without a text, which is judged in less time: a node of kind k with neither strings nor size, and n of them without children.
unfoldable pub bare_node : ℕ → Nodes → Node
bare_node k ns = node k [] [] [] no_width no_height ns

unfoldable pub alike : ℕ → ℕ → Nodes
alike zero k = childless
alike (suc n) k = child (bare_node k childless) (alike n k)

unfoldable pub only : Node → Nodes
only n = child n childless

unfoldable pub column_document : ℕ → ℕ → Node
column_document n m =
    let body = bare_node 23 (only (bare_node 24 (alike m 25))) in
    let table = bare_node 19 (child (bare_node 20 childless) (child (bare_node 21 (alike n 22)) (only body))) in
    let section = bare_node 3 (child (bare_node 8 childless) (only (bare_node 5 (only table)))) in
    bare_node 1 (child (bare_node 8 childless) (only section))

-- The row is node 9 plus the names.
unfoldable pub columns_checked : ℕ → List Check
columns_checked n = check (column_document n n) ∷ check (column_document n (n + 1)) ∷ check (column_document n (n - 1)) ∷ []

unfoldable pub columns_expected : ℕ → List Check
columns_expected n = sound ∷ unsound 15 (9 + n) ∷ unsound 15 (9 + n) ∷ []

-- The id a ... a of n bytes on the document, and this id on the section in it.
unfoldable pub two_ids : ℕ → List ℕ → List ℕ
two_ids n s = utf8_of "[document [title] [id " ++ replicate n 0x61 ++ utf8_of "] [section [title] [id " ++ s ++ utf8_of "]]]"

-- The id a ... a of n bytes on the document, and a link to this target.
unfoldable pub id_and_link : ℕ → List ℕ → List ℕ
id_and_link n s =
    utf8_of "[document [title] [id " ++ replicate n 0x61 ++ utf8_of "] [section [title] [paragraph [link [target " ++ s ++ utf8_of "]]]]]"

-- Ids count to their last byte: the same one is 16 on a second block and found by a link; one that is shorter by a byte, longer by a byte, or has another last byte
-- is neither. The document's id begins at place 22; the section is two bytes behind its end, the link 28 bytes behind the section.
unfoldable pub long_ids : List ℕ → List Lent
long_ids [] = []
long_ids (n ∷ ns) =
    let a : List ℕ = replicate n 0x61 in
    let shorter : List ℕ = replicate (n - 1) 0x61 in
    lent 66 6 700 (example_of nested (two_ids n a) 16 (24 + n) 1 (25 + n) 4 (n + n))
    ∷ lent 66 6 700 (example_of nested (two_ids n shorter) 0 0 1 1 4 (n + n - 1))
    ∷ lent 66 6 700 (example_of nested (two_ids n (shorter ++ (0x62 ∷ []))) 0 0 1 1 4 (n + n))
    ∷ lent 66 6 700 (example_of nested (id_and_link n a) 0 0 1 1 6 (n + n))
    ∷ lent 66 6 700 (example_of nested (id_and_link n shorter) 17 (52 + n) 1 (53 + n) 6 (n + n - 1))
    ∷ lent 66 6 700 (example_of nested (id_and_link n (0x61 ∷ a)) 17 (52 + n) 1 (53 + n) 6 (n + n + 1))
    ∷ lent 66 6 700 (example_of nested (id_and_link n (shorter ++ (0x62 ∷ []))) 17 (52 + n) 1 (53 + n) 6 (n + n))
    ∷ long_ids ns

-- n lists in one another, each with one item.
unfoldable pub lists : ℕ → List ℕ
lists n = times n (utf8_of "[list-ordered [item ")

unfoldable pub closed : ℕ → List ℕ
closed n = replicate n 0x5D

-- 64 levels nested and 59 in the imperative spelling are read; the next one is 6 at its bracket. Under the most blocks that 59 levels can have around them the nested form has 64: no 19.
unfoldable pub levels : List Lent
levels =
    lent 726 66 0
    (example_of nested (utf8_of "[document [title] [section [title] [paragraph " ++ lists 30 ++ utf8_of "[term]" ++ closed 63) 0 0 1 1 66 0)
    ∷ lent 1100 100 0
    (example_of nested (utf8_of "[document [title] [section [title] [paragraph " ++ lists 31 ++ closed 65) 6 660 1 661 0 0)
    ∷ lent 704 64 0
    (example_of imperative (utf8_of "[document [title]] [section [title]] [paragraph] " ++ lists 29 ++ utf8_of "[term]" ++ closed 58) 0 0 1 1 64 0)
    ∷ lent 1100 100 0
    (example_of imperative (utf8_of "[document [title]] [section [title]] [paragraph] " ++ lists 30 ++ closed 60) 6 643 1 644 0 0)
    ∷ lent 748 68 0
    (example_of imperative (utf8_of "[document [title]] [part [title]] [section [title]] [subsection [title]] [paragraph] " ++ lists 29 ++ utf8_of "[term]" ++ closed 58) 0 0 1 1 68 0)
    ∷ []

-- The table of `paragraphs n`.
unfoldable pub paragraph_rows : ℕ → ℕ → List (List ℕ)
paragraph_rows i zero = []
paragraph_rows i (suc n) = bare 5 3 (i + 1) ∷ paragraph_rows (i + 1) n

unfoldable pub paragraphs_table : ℕ → Table
paragraphs_table n =
    record {
      rows =
          bare 1 no_parent (n + 6)
          ∷ bare 8 0 3
          ∷ texts 1 3 0 1
          ∷ bare 3 0 (n + 6)
          ∷ bare 8 3 6
          ∷ texts 4 6 1 1
          ∷ paragraph_rows 6 n;
      pool = utf8_of "AB";
    }

-- Its places: the paragraphs are twelve bytes apart.
unfoldable pub every_twelve : ℕ → ℕ → List ℕ
every_twelve p zero = []
every_twelve p (suc n) = p ∷ every_twelve (p + 12) n

unfoldable pub paragraph_places : ℕ → List ℕ
paragraph_places n = 0 ∷ 10 ∷ 17 ∷ 20 ∷ 29 ∷ 36 ∷ every_twelve 39 n

-- Reading `paragraphs n` into room that is just enough answers 0 and fills all of it with that table and those places.
unfoldable pub fills_all : ℕ → Bool
fills_all n =
    let l = lent (11 * (n + 6)) (n + 6) 2 (example_of nested (paragraphs n) 0 0 1 1 (n + 6) 2) in
    let m = (read_into l).memory in
    as_expected l && same m.nodes (joined (paragraphs_table n).rows) && same m.places (paragraph_places n) && same m.pool (utf8_of "AB")

-- n lists in one another with an item each, as records from node number i on, in a table of `end` nodes.
unfoldable pub list_rows : ℕ → ℕ → ℕ → List (List ℕ)
list_rows i end zero = []
list_rows i end (suc n) = bare 16 (i - 1) end ∷ bare 18 i end ∷ list_rows (i + 2) end n

-- A paragraph with 30 of them in it and a list without items in the last is 64 levels; with 31 it is 65.
unfoldable pub levels_64 : Table
levels_64 =
    record {
      rows =
          (bare 1 no_parent 66 ∷ bare 8 0 2 ∷ bare 3 0 66 ∷ bare 8 2 4 ∷ bare 5 2 66 ∷ []) ++ list_rows 5 66 30 ++ (bare 16 64 66 ∷ []);
      pool = [];
    }

unfoldable pub levels_65 : Table
levels_65 =
    record {
      rows = (bare 1 no_parent 67 ∷ bare 8 0 2 ∷ bare 3 0 67 ∷ bare 8 2 4 ∷ bare 5 2 67 ∷ []) ++ list_rows 5 67 31;
      pool = [];
    }

-- The table into an output that is just long enough.
abbrev pub fills_output : Table → ℕ → List ℕ → Print
fills_output t size s =
    record {
      words = joined t.rows;
      nodes = length t.rows;
      bytes = t.pool;
      pool = length t.pool;
      out = blank size;
      expected = record { number = 0; size = size; out = s };
    }

unfoldable pub same_printed : Printed → Printed → Bool
same_printed a b = eqb a.number b.number && eqb a.size b.size && same a.out b.out

unfoldable pub is_printed : Print → Bool
is_printed p = same_printed (printed_as p) p.expected

-- Outputs of exactly the length needed and one byte less, and "canonical nesting at most 64".
unfoldable pub long_outputs : List Print
long_outputs =
    needs (paragraphs_table 100) 1243 1244
    ∷ fills_output (paragraphs_table 100) 1244 (utf8_of "[document [title \"A\"] [section [title \"B\"]" ++ times 100 (utf8_of " [paragraph]") ++ closed 2)
    ∷ needs levels_64 722 723
    ∷ fills_output levels_64 723 (utf8_of "[document [title] [section [title] [paragraph " ++ lists 30 ++ utf8_of "[list-ordered]" ++ closed 63)
    ∷ no_table_of levels_65
    ∷ []
