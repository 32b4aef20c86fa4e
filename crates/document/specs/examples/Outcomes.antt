-- Texts beyond the judged ones with the whole outcome of the pair of reading and the check, as one list: between them every kind of element, every sort of string, both spellings,
-- 15 to 18 with the table filled, and the refusals that the judged ones have not. That each text has its outcome is proved in `proofs/Judged.antt`.
use Rattle.std.specs.Prelude.{List, [], ◌∷◌, ◌++◌, replicate}
use Rattle.document.specs.rules.Spelling.{nested, imperative}
use Rattle.utf8.specs.examples.Quoted.{utf8_of}
use Rattle.document.specs.examples.Judged.{same_id_twice}
use Rattle.document.specs.examples.Expected.{no_parent, no_width, no_height, row, bare, keyed, typed, texts, Table, Whole, refused_as, fills}

-- The id x-1 stands before the type t in the pool, and both before the texts, though the text has the type before the id and both behind the title.
-- The texts are U+00E9 U+0009, written by two escapes, and U+00C9, written raw.
unfoldable pub id_behind_type : Table
id_behind_type =
    record {
      rows = row 1 no_parent 4 0 3 3 1 0 0 no_width no_height ∷ bare 8 0 4 ∷ texts 1 3 4 3 ∷ texts 1 4 7 2 ∷ [];
      pool = utf8_of "x-1t" ++ (0xC3 ∷ 0xA9 ∷ 0x09 ∷ 0xC3 ∷ 0x89 ∷ []);
    }

-- Escapes by number at the ends of the lengths that UTF-8 has, and on both sides of the surrogates: U+007F U+0080 U+07FF U+0800 U+D7FF U+E000 U+FFFF.
unfoldable pub escaped_by_number : Table
escaped_by_number =
    record {
      rows = bare 1 no_parent 3 ∷ bare 8 0 3 ∷ texts 1 3 0 17 ∷ [];
      pool =
          0x7F
          ∷ 0xC2 ∷ 0x80
          ∷ 0xDF ∷ 0xBF
          ∷ 0xE0 ∷ 0xA0 ∷ 0x80
          ∷ 0xED ∷ 0x9F ∷ 0xBF
          ∷ 0xEE ∷ 0x80 ∷ 0x80
          ∷ 0xEF ∷ 0xBF ∷ 0xBF
          ∷ [];
    }

-- Images with and without a size and a type, and a link that holds a text and an image. The target is there once more in the pool, beside the id that it names.
unfoldable pub images_and_a_link : Table
images_and_a_link =
    record {
      rows =
          bare 1 no_parent 14
          ∷ bare 8 0 3
          ∷ texts 1 3 0 1
          ∷ keyed 3 0 14 1 1
          ∷ bare 8 3 6
          ∷ texts 4 6 2 1
          ∷ bare 5 3 14
          ∷ row 11 6 9 3 5 8 1 0 0 7 65535
          ∷ texts 7 9 9 3
          ∷ keyed 11 6 11 12 1
          ∷ texts 9 11 13 3
          ∷ keyed 13 6 14 16 1
          ∷ texts 11 13 17 1
          ∷ keyed 11 11 14 18 1
          ∷ [];
      pool = utf8_of "AsBa.pngpaltbc dsef";
    }

-- A table: summary, head, body in order, two names over rows of two cells, and in a cell a list of two items.
unfoldable pub table_and_list : Table
table_and_list =
    record {
      rows =
          bare 1 no_parent 24
          ∷ bare 8 0 2
          ∷ bare 3 0 24
          ∷ bare 8 2 4
          ∷ bare 5 2 24
          ∷ typed 19 4 24 0 1
          ∷ bare 20 5 8
          ∷ texts 6 8 1 1
          ∷ bare 21 5 12
          ∷ bare 22 8 11
          ∷ texts 9 11 2 1
          ∷ bare 22 8 12
          ∷ bare 23 5 24
          ∷ bare 24 12 21
          ∷ bare 25 13 16
          ∷ texts 14 16 3 1
          ∷ bare 25 13 21
          ∷ bare 16 16 21
          ∷ bare 18 17 20
          ∷ texts 18 20 4 1
          ∷ bare 18 17 21
          ∷ bare 24 12 24
          ∷ bare 25 21 23
          ∷ bare 25 21 24
          ∷ [];
      pool = utf8_of "tSN1a";
    }

-- The kinds that are left: part, subsection, formal-item, footnote, term, verbatim, link-ext, footnote-ref, list-unordered.
unfoldable pub two_spellings : Table
two_spellings =
    record {
      rows =
          bare 1 no_parent 25
          ∷ bare 8 0 3
          ∷ texts 1 3 0 1
          ∷ bare 2 0 25
          ∷ bare 8 3 5
          ∷ bare 3 3 25
          ∷ bare 8 5 8
          ∷ texts 6 8 1 1
          ∷ row 4 5 23 2 1 3 1 0 0 no_width no_height
          ∷ bare 8 8 11
          ∷ texts 9 11 4 1
          ∷ keyed 7 8 16 5 1
          ∷ typed 10 11 14 6 1
          ∷ texts 12 14 7 1
          ∷ bare 12 11 16
          ∷ texts 14 16 8 1
          ∷ bare 6 8 23
          ∷ bare 8 16 19
          ∷ texts 17 19 9 1
          ∷ keyed 15 16 20 10 1
          ∷ keyed 14 16 21 11 3
          ∷ bare 17 16 23
          ∷ bare 18 21 23
          ∷ bare 4 5 25
          ∷ bare 8 23 25
          ∷ [];
      pool = utf8_of "ABscCftxvFfu:/";
    }

-- Under 15 to 18 the table is filled too. A head of one name over a row of no cell:
unfoldable pub row_too_short : Table
row_too_short =
    record {
      rows =
          bare 1 no_parent 11
          ∷ bare 8 0 2
          ∷ bare 3 0 11
          ∷ bare 8 2 4
          ∷ bare 5 2 11
          ∷ bare 19 4 11
          ∷ bare 20 5 7
          ∷ bare 21 5 9
          ∷ bare 22 7 9
          ∷ bare 23 5 11
          ∷ bare 24 9 11
          ∷ [];
      pool = [];
    }

-- the id x on a section and on the paragraph in it;
unfoldable pub id_again : Table
id_again =
    record {
      rows = bare 1 no_parent 6 ∷ bare 8 0 2 ∷ keyed 3 0 6 0 1 ∷ bare 8 2 4 ∷ keyed 5 2 6 1 1 ∷ texts 4 6 2 2 ∷ [];
      pool = utf8_of "xxhi";
    }

-- a link to no block, on the third line: two texts of one character in two bytes, and the target;
unfoldable pub link_on_line_3 : Table
link_on_line_3 =
    record {
      rows =
          bare 1 no_parent 8
          ∷ bare 8 0 3
          ∷ texts 1 3 0 2
          ∷ bare 3 0 8
          ∷ bare 8 3 5
          ∷ bare 5 3 8
          ∷ texts 5 7 2 2
          ∷ keyed 13 5 8 4 1
          ∷ [];
      pool = 0xC3 ∷ 0xA9 ∷ 0xC3 ∷ 0xA9 ∷ 0x78 ∷ [];
    }

-- a footnote-ref to a section.
unfoldable pub reference_to_a_section : Table
reference_to_a_section =
    record {
      rows =
          bare 1 no_parent 8
          ∷ bare 8 0 3
          ∷ texts 1 3 0 1
          ∷ keyed 3 0 8 1 1
          ∷ bare 8 3 6
          ∷ texts 4 6 2 1
          ∷ bare 5 3 8
          ∷ keyed 15 6 8 3 1
          ∷ [];
      pool = utf8_of "AsBs";
    }

unfoldable pub outcomes : List Whole
outcomes =
    fills nested (utf8_of "(document(title \"\\u00e9\\t\" É)[type t](id x-1))") 0 0 1 1 4 9 id_behind_type (0 ∷ 9 ∷ 16 ∷ 27 ∷ [])
    ∷ fills nested (utf8_of "[document [title \"\\u007f\\u0080\\u07FF\\u0800\\ud7ff\\uE000\\uffff\"]]") 0 0 1 1 3 17 escaped_by_number (0 ∷ 10 ∷ 17 ∷ [])
    ∷ fills nested
    (utf8_of "[document [title A] [section [title B] [id s] [paragraph [image [target a.png] [size 007 65535] [type p] alt]"
    ++ utf8_of " [image [target b] \"c d\"] [link [target s] e [image [target f]]]]]]")
    0 0 1 1 14 19 images_and_a_link
    (0 ∷ 10 ∷ 17 ∷ 20 ∷ 29 ∷ 36 ∷ 46 ∷ 57 ∷ 105 ∷ 110 ∷ 128 ∷ 135 ∷ 152 ∷ 154 ∷ [])
    ∷ fills nested
    (utf8_of "[document [title] [section [title] [paragraph [table [summary S] [type t] [head [name N] [name]] [body [row"
    ++ utf8_of " [cell 1] [cell [list-ordered [item \"a\"] [item]]]] [row [cell] [cell]]]]]]]")
    0 0 1 1 24 5 table_and_list
    (0 ∷ 10 ∷ 18 ∷ 27 ∷ 35 ∷ 46 ∷ 53 ∷ 62 ∷ 74 ∷ 80 ∷ 86 ∷ 89 ∷ 97 ∷ 103 ∷ 108 ∷ 114 ∷ 117 ∷ 123 ∷ 137 ∷ 143 ∷ 148 ∷ 158 ∷ 163 ∷ 170 ∷ [])
    -- One document in both spellings: the same table, other places.
    ∷ fills nested
    (utf8_of "[document [title A] [part [title] [section [title B] [subsection [title C] [type c] [id s] [footnote [id f]"
    ++ utf8_of " [term [type t] x] [verbatim v]] [formal-item [title F] [footnote-ref [target f]] [link-ext [target u:/]]"
    ++ utf8_of " [list-unordered [item]]]] [subsection [title]]]]]")
    0 0 1 1 25 14 two_spellings
    (0 ∷ 10 ∷ 17 ∷ 20 ∷ 26 ∷ 34 ∷ 43 ∷ 50 ∷ 53 ∷ 65 ∷ 72 ∷ 91 ∷ 108 ∷ 123 ∷ 126 ∷ 136 ∷ 140 ∷ 153 ∷ 160 ∷ 163 ∷ 189 ∷ 213 ∷ 229 ∷ 239 ∷ 251 ∷ [])
    ∷ fills imperative
    (utf8_of "[document [title A]] [part [title]] [section [title B]] [subsection [title C] [id s] [type c]] [footnote [id"
    ++ utf8_of " \"f\"]] [term [type t] \"\\u0078\"] [verbatim v] [formal-item [title F]] [footnote-ref [target f]] [link-ext"
    ++ utf8_of " [target \"u:/\"]] [list-unordered [item]] [subsection [title]]")
    0 0 1 1 25 14 two_spellings
    (0 ∷ 10 ∷ 17 ∷ 21 ∷ 27 ∷ 36 ∷ 45 ∷ 52 ∷ 56 ∷ 68 ∷ 75 ∷ 95 ∷ 115 ∷ 130 ∷ 140 ∷ 150 ∷ 153 ∷ 166 ∷ 173 ∷ 177 ∷ 203 ∷ 229 ∷ 245 ∷ 253 ∷ 265 ∷ [])
    -- 15 to 18.
    ∷ fills nested (utf8_of "[document [title] [section [title] [paragraph [table [summary] [head [name]] [body [row]]]]]]") 15 83 1 84 11 0 row_too_short
    (0 ∷ 10 ∷ 18 ∷ 27 ∷ 35 ∷ 46 ∷ 53 ∷ 63 ∷ 69 ∷ 77 ∷ 83 ∷ [])
    ∷ fills imperative (utf8_of "[document [title]] [section [title] [id x]] [paragraph [id x]] hi") 16 44 1 45 6 4 id_again (0 ∷ 10 ∷ 19 ∷ 28 ∷ 44 ∷ 63 ∷ [])
    ∷ fills nested (utf8_of "[document\r\n[title é]\n\t[section [title] [paragraph é [link [target x]]]]]") 17 54 3 32 8 5 link_on_line_3 (0 ∷ 11 ∷ 18 ∷ 23 ∷ 32 ∷ 40 ∷ 51 ∷ 54 ∷ [])
    ∷ fills nested (utf8_of "[document [title A] [section [title B] [id s] [paragraph [footnote-ref [target s]]]]]") 18 57 1 58 8 4 reference_to_a_section (0 ∷ 10 ∷ 17 ∷ 20 ∷ 29 ∷ 36 ∷ 46 ∷ 57 ∷ [])
    -- Refusals that the judged examples have not: 2, 3, 6, 10 and 12, and 4 at an escape.
    ∷ refused_as nested (utf8_of "[document [title " ++ (0xC0 ∷ 0x80 ∷ []) ++ utf8_of "]]") 2 17 1 18
    ∷ refused_as imperative (utf8_of "[document [title A]]\r") 3 20 1 21
    -- A surrogate by number is 4, the first half of a pair too, and either half alone.
    ∷ refused_as nested (utf8_of "[document [title \"\\ud83d\\ude00\"]]") 4 18 1 19
    ∷ refused_as nested (utf8_of "[document [title \"\\uD800\"]]") 4 18 1 19
    ∷ refused_as nested (utf8_of "[document [title \"\\udbFF\"]]") 4 18 1 19
    ∷ refused_as nested (utf8_of "[document [title \"\\udc00\"]]") 4 18 1 19
    ∷ refused_as imperative (utf8_of "[document [title \"\\u00e9\\uDFff\"]]") 4 24 1 25
    ∷ refused_as imperative (replicate 60 0x5B) 6 59 1 60
    ∷ refused_as nested (utf8_of "[document [title A] [type \"t\"]]") 10 20 1 21
    ∷ refused_as imperative (utf8_of "[document [title A]] (include \"x\")") 12 21 1 22
    ∷ []

-- The texts with the faults 15 to 18, read alone: 0 at place 0, with the same counts, table and places.
unfoldable pub drafts : List Whole
drafts =
    fills nested (utf8_of "[document [title] [section [title] [paragraph [table [summary] [head [name]] [body [row]]]]]]") 0 0 1 1 11 0 row_too_short
    (0 ∷ 10 ∷ 18 ∷ 27 ∷ 35 ∷ 46 ∷ 53 ∷ 63 ∷ 69 ∷ 77 ∷ 83 ∷ [])
    ∷ fills nested (utf8_of "[document [title A] [id x] [section [title B] [id x]]]") 0 0 1 1 6 4 same_id_twice (0 ∷ 10 ∷ 17 ∷ 27 ∷ 36 ∷ 43 ∷ [])
    ∷ fills imperative (utf8_of "[document [title]] [section [title] [id x]] [paragraph [id x]] hi") 0 0 1 1 6 4 id_again (0 ∷ 10 ∷ 19 ∷ 28 ∷ 44 ∷ 63 ∷ [])
    ∷ fills nested (utf8_of "[document\r\n[title é]\n\t[section [title] [paragraph é [link [target x]]]]]") 0 0 1 1 8 5 link_on_line_3 (0 ∷ 11 ∷ 18 ∷ 23 ∷ 32 ∷ 40 ∷ 51 ∷ 54 ∷ [])
    ∷ fills nested (utf8_of "[document [title A] [section [title B] [id s] [paragraph [footnote-ref [target s]]]]]") 0 0 1 1 8 4 reference_to_a_section (0 ∷ 10 ∷ 17 ∷ 20 ∷ 29 ∷ 36 ∷ 46 ∷ 57 ∷ [])
    ∷ []
