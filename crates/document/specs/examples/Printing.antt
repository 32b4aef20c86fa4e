-- Tables lent to the printer, each with the number, the length and the whole output that printing leaves, as one list.
-- That each has them is proved in `proofs/Judged.antt`.
use Rattle.std.specs.Prelude.{ℕ, ◌+◌, ◌-◌, List, [], ◌∷◌, ◌++◌, length}
use Prim.Native.String.{String}
use Rattle.document.specs.reference.Printing.{printing}
use Rattle.document.specs.rules.Draft.{Printed}
use Rattle.utf8.specs.examples.Quoted.{utf8_of}
use Rattle.document.specs.examples.Expected.{numbers, no_parent, no_width, no_height, row, bare, texts, joined, Table}
use Rattle.document.specs.examples.Judged.{titled_A, same_id_twice, link_to_nowhere}
use Rattle.document.specs.examples.Outcomes.{id_behind_type, images_and_a_link, table_and_list, two_spellings, row_too_short, reference_to_a_section}

-- Node words, a node count, a pool, a pool count, an output, and what printing answers and leaves in it.
pub record Print : Type 0 where
  pub words : List ℕ
  pub nodes : ℕ
  pub bytes : List ℕ
  pub pool : ℕ
  pub out : List ℕ
  pub expected : Printed

unfoldable pub printed_as : Print → Printed
printed_as p = printing p.words p.nodes p.bytes p.pool p.out

-- An output of n bytes, no two alike.
unfoldable pub blank : ℕ → List ℕ
blank n = numbers 100 n

-- The table into an output of n bytes. 0: "the spelling, its length, later bytes unaltered."
abbrev pub spells_bytes : Table → ℕ → ℕ → List ℕ → Print
spells_bytes t n size s =
    record {
      words = joined t.rows;
      nodes = length t.rows;
      bytes = t.pool;
      pool = length t.pool;
      out = blank n;
      expected = record { number = 0; size = size; out = s ++ numbers (100 + size) (n - size) };
    }

abbrev pub spells : Table → ℕ → ℕ → String → Print
spells t n size s = spells_bytes t n size (utf8_of s)

-- 21: "output too short; length needed", and the output untouched.
abbrev pub needs : Table → ℕ → ℕ → Print
needs t n size =
    record {
      words = joined t.rows;
      nodes = length t.rows;
      bytes = t.pool;
      pool = length t.pool;
      out = blank n;
      expected = record { number = 21; size = size; out = blank n };
    }

-- 20: "length 0", and the output untouched.
abbrev pub no_table : List ℕ → ℕ → List ℕ → ℕ → Print
no_table words nodes bytes pool =
    record {
      words = words;
      nodes = nodes;
      bytes = bytes;
      pool = pool;
      out = blank 120;
      expected = record { number = 20; size = 0; out = blank 120 };
    }

-- The same of a table with its own counts.
abbrev pub no_table_of : Table → Print
no_table_of t = no_table (joined t.rows) (length t.rows) t.pool (length t.pool)

-- The same of three records that could be a document, its title and a text, over the pool A.
abbrev pub no_title : List ℕ → List ℕ → List ℕ → Print
no_title d t x = no_table (d ++ t ++ x) 3 (utf8_of "A") 1

-- Each character that has an escape of its own, others that are spelled by number, and the first that is raw again: " LF CR TAB \ U+0001 U+001F U+007F U+0080.
unfoldable pub escaped : Table
escaped =
    record {
      rows = bare 1 no_parent 3 ∷ bare 8 0 3 ∷ texts 1 3 0 10 ∷ [];
      pool = 0x22 ∷ 0x0A ∷ 0x0D ∷ 0x09 ∷ 0x5C ∷ 0x01 ∷ 0x1F ∷ 0x7F ∷ 0xC2 ∷ 0x80 ∷ [];
    }

unfoldable pub prints : List Print
prints =
    -- No output, one byte, one byte short, exact, and longer by one and by more.
    needs titled_A 0 22
    ∷ needs titled_A 1 22
    ∷ needs titled_A 21 22
    ∷ spells titled_A 22 22 "[document [title \"A\"]]"
    ∷ spells titled_A 23 22 "[document [title \"A\"]]"
    ∷ spells titled_A 60 22 "[document [title \"A\"]]"
    -- The length needed counts escapes as they are spelled, and a character of two bytes as two.
    ∷ needs escaped 54 55
    ∷ spells escaped 55 55 "[document [title \"\\\"\\n\\r\\t\\u005c\\u0001\\u001f\\u007f\u{80}\"]]"
    ∷ needs id_behind_type 47 48
    ∷ spells id_behind_type 48 48 "[document [title \"é\\t\" \"É\"] [id x-1] [type t]]"
    -- Every kind.
    ∷ needs images_and_a_link 189 190
    ∷ spells_bytes images_and_a_link 192 190
    (utf8_of "[document [title \"A\"] [section [title \"B\"] [id s] [paragraph [image [target \"a.png\"] [size 7 65535]"
    ++ utf8_of " [type p] \"alt\"] [image [target \"b\"] \"c d\"] [link [target \"s\"] \"e\" [image [target \"f\"]]]]]]")
    ∷ needs table_and_list 187 188
    ∷ spells_bytes table_and_list 188 188
    (utf8_of "[document [title] [section [title] [paragraph [table [summary \"S\"] [type t] [head [name \"N\"] [name]]"
    ++ utf8_of " [body [row [cell \"1\"] [cell [list-ordered [item \"a\"] [item]]]] [row [cell] [cell]]]]]]]")
    ∷ needs two_spellings 277 278
    ∷ spells_bytes two_spellings 280 278
    (utf8_of "[document [title \"A\"] [part [title] [section [title \"B\"] [subsection [title \"C\"] [id s] [type c]"
    ++ utf8_of " [footnote [id f] [term [type t] \"x\"] [verbatim \"v\"]] [formal-item [title \"F\"] [footnote-ref [target"
    ++ utf8_of " \"f\"]] [link-ext [target \"u:/\"]] [list-unordered [item]]]] [subsection [title]]]]]")
    -- Words and pool beyond the counts are not looked at.
    ∷ record {
      words = joined titled_A.rows ++ (5 ∷ 6 ∷ []);
      nodes = 3;
      bytes = utf8_of "A\"";
      pool = 1;
      out = blank 22;
      expected = record { number = 0; size = 22; out = utf8_of "[document [title \"A\"]]" };
    }
    -- A count beyond what is lent, of nodes and of pool bytes; a count of 0; and counts that cut the table or leave pool bytes that no node has.
    ∷ no_table (joined titled_A.rows) 4 (utf8_of "A") 1
    ∷ no_table (joined titled_A.rows) 3 (utf8_of "A") 2
    ∷ no_table (joined titled_A.rows) 0 (utf8_of "A") 1
    ∷ no_table [] 0 [] 0
    ∷ no_table (joined titled_A.rows) 2 (utf8_of "A") 1
    ∷ no_table (joined titled_A.rows) 3 (utf8_of "A") 0
    ∷ no_table (joined titled_A.rows) 3 (utf8_of "AB") 2
    -- A wrong word: the kind, parent or end of a node, and those of the root.
    ∷ no_title (bare 3 no_parent 3) (bare 8 0 3) (texts 1 3 0 1)
    ∷ no_title (bare 1 0 3) (bare 8 0 3) (texts 1 3 0 1)
    ∷ no_title (bare 1 no_parent 4) (bare 8 0 3) (texts 1 3 0 1)
    ∷ no_title (bare 1 no_parent 3) (bare 20 0 3) (texts 1 3 0 1)
    ∷ no_title (bare 1 no_parent 3) (bare 26 0 3) (texts 1 3 0 1)
    ∷ no_title (bare 1 no_parent 3) (bare 8 1 3) (texts 1 3 0 1)
    ∷ no_title (bare 1 no_parent 3) (bare 8 0 2) (texts 1 3 0 1)
    ∷ no_title (bare 1 no_parent 3) (bare 8 0 3) (texts 0 3 0 1)
    ∷ no_title (bare 1 no_parent 3) (bare 8 0 3) (texts 1 2 0 1)
    -- A string that a node of its kind has not, one outside the pool, and an empty one.
    ∷ no_title (bare 1 no_parent 3) (row 8 0 3 0 1 0 0 0 0 no_width no_height) (bare 9 1 3)
    ∷ no_title (bare 1 no_parent 3) (bare 8 0 3) (texts 1 3 1 1)
    ∷ no_title (bare 1 no_parent 3) (bare 8 0 3) (texts 1 3 0 2)
    ∷ no_title (bare 1 no_parent 3) (bare 8 0 3) (texts 1 3 0 0)
    -- An offset of 5 beside a length of 0.
    ∷ no_title (row 1 no_parent 3 5 0 0 0 0 0 no_width no_height) (bare 8 0 3) (texts 1 3 0 1)
    ∷ no_title (bare 1 no_parent 3) (row 8 0 3 0 0 5 0 0 0 no_width no_height) (texts 1 3 0 1)
    ∷ no_title (bare 1 no_parent 3) (row 8 0 3 0 0 0 0 5 0 no_width no_height) (texts 1 3 0 1)
    -- A missing width or height as 0, and a size where none may be.
    ∷ no_title (bare 1 no_parent 3) (row 8 0 3 0 0 0 0 0 0 0 no_height) (texts 1 3 0 1)
    ∷ no_title (bare 1 no_parent 3) (row 8 0 3 0 0 0 0 0 0 no_width 0) (texts 1 3 0 1)
    ∷ no_title (bare 1 no_parent 3) (row 8 0 3 0 0 0 0 0 0 7 8) (texts 1 3 0 1)
    -- A text that is not UTF-8.
    ∷ no_table (joined titled_A.rows) 3 (0x80 ∷ []) 1
    -- Drafts: tables with the faults 15 to 18 are printed like others.
    ∷ spells row_too_short 93 93 "[document [title] [section [title] [paragraph [table [summary] [head [name]] [body [row]]]]]]"
    ∷ spells same_id_twice 60 58 "[document [title \"A\"] [id x] [section [title \"B\"] [id x]]]"
    ∷ needs link_to_nowhere 75 76
    ∷ spells link_to_nowhere 80 76 "[document [title \"A\"] [section [title \"B\"] [paragraph [link [target \"x\"]]]]]"
    ∷ spells reference_to_a_section 100 91 "[document [title \"A\"] [section [title \"B\"] [id s] [paragraph [footnote-ref [target \"s\"]]]]]"
    ∷ []
