-- The judged examples of document 01 that are marked * and its printed listing, each with the whole outcome of the pair of reading and the check;
-- and with their answers alone its settlements, the open points of docs/decisions/readings.md, and texts for the numbers 2 to 18, each as one list.
-- That each text has what is beside it is proved in `proofs/Judged.antt`.
use Rattle.std.specs.Prelude.{ℕ, List, [], ◌∷◌, ◌++◌, length, replicate}
use Prim.Native.String.{String}
use Rattle.document.specs.rules.Spelling.{Spelling, nested, imperative}
use Rattle.document.specs.reference.Outcome.{outcome}
use Rattle.document.specs.reference.Pair.{paired}
use Rattle.document.specs.rules.Memory.{Answer, Memory, Outcome, over}
use Rattle.document.specs.reference.Printing.{printing}
use Rattle.document.specs.rules.Draft.{Printed}
use Rattle.utf8.specs.examples.Quoted.{utf8_of}
use Rattle.document.specs.examples.Expected.{no_parent, bare, keyed, texts, Table, Whole, pair_outcome, refused_as, fills}

-- The table of a document whose title is A, however it is spelled.
unfoldable pub titled_A : Table
titled_A = record { rows = bare 1 no_parent 3 ∷ bare 8 0 3 ∷ texts 1 3 0 1 ∷ []; pool = utf8_of "A" }

-- An empty title.
unfoldable pub untitled : Table
untitled = record { rows = bare 1 no_parent 2 ∷ bare 8 0 2 ∷ []; pool = [] }

-- A document and a section in it, both with the id x: in the pool each id stands before the title inside.
unfoldable pub same_id_twice : Table
same_id_twice =
    record {
      rows = keyed 1 no_parent 6 0 1 ∷ bare 8 0 3 ∷ texts 1 3 1 1 ∷ keyed 3 0 6 2 1 ∷ bare 8 3 6 ∷ texts 4 6 3 1 ∷ [];
      pool = utf8_of "xAxB";
    }

-- A link, whose target x is on no block.
unfoldable pub link_to_nowhere : Table
link_to_nowhere =
    record {
      rows =
          bare 1 no_parent 8
          ∷ bare 8 0 3
          ∷ texts 1 3 0 1
          ∷ bare 3 0 8
          ∷ bare 8 3 6
          ∷ texts 4 6 1 1
          ∷ bare 5 3 8
          ∷ keyed 13 6 8 2 1
          ∷ [];
      pool = utf8_of "ABx";
    }

-- The document of the printed listing: kind, parent and end are the numbers of its lines.
unfoldable pub listed : Table
listed =
    record {
      rows =
          bare 1 no_parent 8
          ∷ bare 8 0 3
          ∷ texts 1 3 0 1
          ∷ bare 3 0 8
          ∷ bare 8 3 6
          ∷ texts 4 6 1 1
          ∷ bare 5 3 8
          ∷ texts 6 8 2 2
          ∷ [];
      pool = utf8_of "ABhi";
    }

-- The judged examples. The third has the second's table.
unfoldable pub examples : List Whole
examples =
    refused_as nested (utf8_of "") 7 0 1 1
    ∷ fills nested (utf8_of "[document [title \"A\"]]") 0 0 1 1 3 1 titled_A (0 ∷ 10 ∷ 17 ∷ [])
    ∷ fills nested (utf8_of "(document (title A))") 0 0 1 1 3 1 titled_A (0 ∷ 10 ∷ 17 ∷ [])
    ∷ fills nested (utf8_of "[document [title]]") 0 0 1 1 2 0 untitled (0 ∷ 10 ∷ [])
    ∷ refused_as nested (utf8_of "[document]") 9 0 1 1
    ∷ refused_as nested (utf8_of "[document [title A)]") 5 18 1 19
    ∷ refused_as nested (utf8_of "[document [title \"\"]]") 4 17 1 18
    ∷ refused_as nested (utf8_of "[document [title A] [paragraph]]") 8 20 1 21
    ∷ refused_as nested (utf8_of "[document [title A] [section [title B] [footnote [type t] [id f]]]]") 9 39 1 40
    ∷ refused_as nested (utf8_of "[document [title A] [section [title B] [paragraph] [subsection [title C]]]]") 11 51 1 52
    ∷ fills nested (utf8_of "[document [title A] [id x] [section [title B] [id x]]]") 16 27 1 28 6 4 same_id_twice (0 ∷ 10 ∷ 17 ∷ 27 ∷ 36 ∷ 43 ∷ [])
    ∷ fills nested (utf8_of "[document [title A] [section [title B] [paragraph [link [target x]]]]]") 17 50 1 51 8 3 link_to_nowhere (0 ∷ 10 ∷ 17 ∷ 20 ∷ 29 ∷ 36 ∷ 39 ∷ 50 ∷ [])
    ∷ refused_as imperative (utf8_of "[document [title A]] hi") 8 21 1 22
    ∷ fills imperative (utf8_of "[document [title A]] [section [title B]] [paragraph] hi") 0 0 1 1 8 4 listed (0 ∷ 10 ∷ 17 ∷ 21 ∷ 30 ∷ 37 ∷ 41 ∷ 53 ∷ [])
    ∷ []

-- A text and what the pair answers of it.
pub record Example : Type 0 where
  pub spelling : Spelling
  pub text : List ℕ
  pub expected : Answer

-- A text with its number, place, line, column, node count and pool count.
abbrev pub example_of : Spelling → List ℕ → ℕ → ℕ → ℕ → ℕ → ℕ → ℕ → Example
example_of s t n p line column nodes pool =
    record { spelling = s; text = t; expected = record { number = n; place = p; line = line; column = column; nodes = nodes; pool = pool } }

-- The same of a text that is written out, as UTF-8.
abbrev pub example : Spelling → String → ℕ → ℕ → ℕ → ℕ → ℕ → ℕ → Example
example s t = example_of s (utf8_of t)

-- Room for 64 nodes and 64 pool bytes.
unfoldable pub room : Memory
room = record { nodes = replicate 704 7; places = replicate 64 7; pool = replicate 64 7 }

unfoldable pub answered : Example → Answer
answered e = paired e.spelling e.text room

-- "Its settlements": each text would be answered otherwise under the source's reading.
unfoldable pub settlements : List Example
settlements =
    -- An empty section does not have every id: the target is on no block.
    example nested "[document [title A] [section [title B] [paragraph [link [target x]]]] [section [title C]]]" 17 50 1 51 11 4
    -- One block has the id, and no other block needs it.
    ∷ example nested "[document [title A] [section [title B] [id x] [paragraph [link [target x]]]] [section [title C] [id y]]]" 0 0 1 1 11 6
    -- A table is inline content.
    ∷ example nested "[document [title A] [section [title B] [paragraph [table [summary] [body]]]]]" 0 0 1 1 10 2
    -- `\\` is no escape.
    ∷ example nested "[document [title \"\\\\\"]]" 4 18 1 19 0 0
    -- `\n` is one character, U+000A.
    ∷ example nested "[document [title \"\\n\"]]" 0 0 1 1 3 1
    -- `\u` takes four digits: U+0001 and then the four characters F600.
    ∷ example nested "[document [title \"\\u0001F600\"]]" 0 0 1 1 3 5
    -- A letter that is not ASCII may not stand in an id.
    ∷ example nested "[document [title A] [id é]]" 10 20 1 21 0 0
    -- A URI has no space in it.
    ∷ example nested "[document [title A] [section [title B] [paragraph [link-ext [target \"a b\"]]]]]" 10 60 1 61 0 0
    -- A URI may have what an id may not.
    ∷ example nested "[document [title A] [section [title B] [paragraph [link-ext [target \"http://a/?b=c\"]]]]]" 0 0 1 1 8 15
    ∷ []

-- The open points, by their number in docs/decisions/readings.md.
unfoldable pub open_points : List Example
open_points =
    -- B4
    example nested "\"a\\z" 4 2 1 3 0 0
    -- B5
    ∷ example nested "\"a\\u00" 4 2 1 3 0 0
    -- B6
    ∷ example nested "\u{feff}[document [title A]]" 7 3 1 2 0 0
    ∷ example imperative "\u{feff}[document [title A]]" 8 0 1 1 0 0
    -- B7
    ∷ example nested "[document\r\r\n[title A]]" 3 9 1 10 0 0
    -- B8
    ∷ example nested "[document [title a\\nb]]" 0 0 1 1 3 4
    -- B9
    ∷ example nested "[document [title A] [section [title B] [paragraph [footnote-ref [target a] (include \"x\")]]]]" 12 75 1 76 0 0
    ∷ example nested "[document [title A] [section [title B] [paragraph [table [summary] [body] (include \"x\")]]]]" 12 74 1 75 0 0
    ∷ example nested "[document [title A] [section [title B] [paragraph [verbatim a (include \"x\")]]]]" 12 62 1 63 0 0
    -- B10
    ∷ example nested "[document [title A] [section [title B] [paragraph [verbatim [type \"t\"]]]]]" 10 60 1 61 0 0
    -- B11
    ∷ example nested "[document [title A] [section [title B] [paragraph [table [summary [x]]]]]]" 8 66 1 67 0 0
    ∷ example nested "[document [title A] [section [title B] [paragraph [table [summary] [type \"t\"]]]]]" 10 67 1 68 0 0
    -- B12
    ∷ example nested "[document (include \"x\")]" 9 0 1 1 0 0
    ∷ example nested "[document [title A] [section [title B] [paragraph [table [summary] (include \"x\") [body]]]]]" 9 50 1 51 0 0
    -- B13
    ∷ example nested "[document [title A] [id (include \"x\")]]" 10 20 1 21 0 0
    -- B14
    ∷ example nested "[document [\"title\" A]]" 9 0 1 1 0 0
    ∷ example nested "[document [title A] [section [title B] [paragraph [\"include\" \"x\"]]]]" 8 50 1 51 0 0
    -- B15
    ∷ example nested "[document [title A] [section [title B] [paragraph [text x]]]]" 8 50 1 51 0 0
    -- B16
    ∷ example nested "[Document [title A]]" 8 0 1 1 0 0
    -- B17
    ∷ example imperative "[document [title A]] [document]" 8 21 1 22 0 0
    -- B18
    ∷ example imperative "[document [title A]] (include \"x\")" 12 21 1 22 0 0
    ∷ example imperative "(include \"x\")" 8 0 1 1 0 0
    ∷ example imperative "[document [title A] (include \"x\")]" 8 20 1 21 0 0
    -- B19
    ∷ example imperative "[document]" 9 0 1 1 0 0
    -- B20
    ∷ example nested "[document [title A] [section [title B] [paragraph [table [summary] [head [name]] [body [row [cell [list-ordered [item [table [summary] [head [name]] [body [row]]]]]]] [row]]]]]]" 15 155 1 156 23 2
    -- B21
    ∷ example nested "[document [title A] [section [title B] [id x]] [section [title C] [id y]] [section [title D] [id x]]]" 16 74 1 75 12 7
    -- B28
    ∷ example nested "[document [title \"\\u0000\\ufffe\"]]" 0 0 1 1 3 4
    ∷ []

-- A text, and how many node words, places and pool bytes are lent for it.
pub record Lent : Type 0 where
  pub example : Example
  pub nodes : ℕ
  pub places : ℕ
  pub pool : ℕ

abbrev pub lent : ℕ → ℕ → ℕ → Example → Lent
lent n p b e = record { example = e; nodes = n; places = p; pool = b }

unfoldable pub memory_of : Lent → Memory
memory_of l = record { nodes = replicate l.nodes 7; places = replicate l.places 7; pool = replicate l.pool 7 }

unfoldable pub read_into : Lent → Outcome
read_into l = pair_outcome l.example.spelling l.example.text (memory_of l)

-- 13 and 14 have the counts needed. 13 goes by whole records of eleven words and by the place list, ahead of 14 and of 16, behind 12.
unfoldable pub short_of_room : List Lent
short_of_room =
    lent 32 3 1 (example nested "[document [title A]]" 13 0 1 1 3 1)
    ∷ lent 33 2 1 (example nested "[document [title A]]" 13 0 1 1 3 1)
    ∷ lent 33 3 0 (example nested "[document [title A]]" 14 0 1 1 3 1)
    ∷ lent 0 0 0 (example nested "[document [title AB] [id x] [section [title C] [id x]]]" 13 0 1 1 6 5)
    ∷ lent 66 6 4 (example nested "[document [title AB] [id x] [section [title C] [id x]]]" 14 0 1 1 6 5)
    ∷ lent 0 0 0 (example nested "[document [title A] (include \"x\")]" 12 20 1 21 0 0)
    ∷ lent 87 8 6 (example imperative "[document [title A]] [section [title B]] [paragraph] \"h\\u0069\"" 13 0 1 1 8 4)
    ∷ lent 88 8 3 (example imperative "[document [title A]] [section [title B]] [paragraph] \"h\\u0069\"" 14 0 1 1 8 4)
    ∷ []

-- A text and the canonical spelling of its document.
pub record Tidied : Type 0 where
  pub spelling : Spelling
  pub text : List ℕ
  pub canonical : List ℕ

abbrev pub tidied : Spelling → List ℕ → List ℕ → Tidied
tidied s t c = record { spelling = s; text = t; canonical = c }

unfoldable pub printable : List Tidied
printable =
    tidied nested
    (utf8_of "(document(title A \"b c\")[type t](id x)[section (title \"S\\u0041\\\"\\n\\r\\t\\u005c\\u0001\\u007Fé\")"
    ++ utf8_of " [paragraph [image [target \"http://x\"] [size 007 65535] [type p] alt] [verbatim \"v\"]]])")
    (utf8_of "[document [title \"A\" \"b c\"] [id x] [type t] [section [title \"SA\\\"\\n\\r\\t\\u005c\\u0001\\u007fé\"]"
    ++ utf8_of " [paragraph [image [target \"http://x\"] [size 7 65535] [type p] \"alt\"] [verbatim \"v\"]]]]")
    ∷ tidied imperative
    (utf8_of "[document [title A]] [part [title P]] [section [title B]] [subsection [title C]] [paragraph [id p]] hi [link"
    ++ utf8_of " [target p] x] [footnote [id f]] n [formal-item [title F]] [footnote-ref [target f]] [list-unordered [item a]"
    ++ utf8_of " [item]] [section [title D]] [paragraph] [table [summary s] [type t] [head [name N]] [body [row [cell 1]]]]")
    (utf8_of "[document [title \"A\"] [part [title \"P\"] [section [title \"B\"] [subsection [title \"C\"] [paragraph [id"
    ++ utf8_of " p] \"hi\" [link [target \"p\"] \"x\"]] [footnote [id f] \"n\"] [formal-item [title \"F\"] [footnote-ref"
    ++ utf8_of " [target \"f\"]] [list-unordered [item \"a\"] [item]]]]] [section [title \"D\"] [paragraph [table [summary"
    ++ utf8_of " \"s\"] [type t] [head [name \"N\"]] [body [row [cell \"1\"]]]]]]]]")
    ∷ []

unfoldable pub paper : List ℕ
paper = replicate 512 7

-- Printing what a read has left.
unfoldable pub printed_from : Outcome → Printed
printed_from o = printing o.memory.nodes o.answer.nodes o.memory.pool o.answer.pool paper

unfoldable pub read_in : Spelling → List ℕ → Outcome
read_in s t = outcome s t room

unfoldable pub spelled_out : List ℕ → Printed
spelled_out c = record { number = 0; size = length c; out = over c paper }
