-- Texts for the numbers 2 to 12 and 15 to 18, each with its answer. That each text has what is beside it is proved in `proofs/Faults.antt`.
use Rattle.std.specs.Prelude.{List, [], ◌∷◌, ◌++◌, replicate}
use Rattle.document.specs.rules.Spelling.{nested, imperative}
use Rattle.utf8.specs.examples.Quoted.{utf8_of}
use Rattle.document.specs.examples.Judged.{Example, example, example_of}

-- Texts for the numbers 2 to 12 and 15 to 18 in both spellings, each aimed at a mistake that would give another number or place,
-- and beside them texts that have no fault though they are close to one.
unfoldable pub faults : List Example
faults =
    -- 2: over the whole text, ahead of all that a scan finds.
    example_of nested (utf8_of "[document [title " ++ (0xED ∷ 0xA0 ∷ 0x80 ∷ []) ++ utf8_of "]]") 2 17 1 18 0 0
    ∷ example_of nested (utf8_of "[document [title " ++ (0xC0 ∷ 0x80 ∷ []) ++ utf8_of "]]") 2 17 1 18 0 0
    ∷ example_of nested (0x01 ∷ 0x0A ∷ 0xC3 ∷ []) 2 2 2 1 0 0
    ∷ example_of imperative (utf8_of "[document [title A]] é" ++ (0xF4 ∷ 0x90 ∷ 0x80 ∷ 0x80 ∷ [])) 2 23 1 23 0 0
    -- 3: a control character, U+000D with no U+000A after it; the column counts characters. Inside a string it is raw.
    ∷ example nested "[document \u{1}[title A]]" 3 10 1 11 0 0
    ∷ example nested "[document [title é]]\u{1}" 3 21 1 21 0 0
    ∷ example nested "[document [title A]]\r" 3 20 1 21 0 0
    ∷ example nested "[document\r\n\u{1f}" 3 11 2 1 0 0
    ∷ example nested "[document [title \"\u{1}\r\"]]" 0 0 1 1 3 2
    ∷ example imperative "[document [title A]] \u{1}" 3 21 1 22 0 0
    -- 4: at the backslash, or at the quote of a string that is empty or unclosed, which comes before an open list. Either case of a digit is one.
    ∷ example nested "[document [title \"a\\ud800\"]]" 4 19 1 20 0 0
    ∷ example nested "[document [title \"\\u00g0\"]]" 4 18 1 19 0 0
    ∷ example nested "[document [title \"\\U0001F600\"]]" 4 18 1 19 0 0
    ∷ example nested "[document [title \"a]]" 4 17 1 18 0 0
    ∷ example nested "[document [title \"\\u00Ef\"]]" 0 0 1 1 3 2
    ∷ example imperative "[document [title A]] \"x\\q\"" 4 23 1 24 0 0
    ∷ example imperative "[document [title A]] \"\"" 4 21 1 22 0 0
    ∷ example imperative "[document [title A]] [section \"" 4 30 1 31 0 0
    -- 5: at the bracket that closes nothing or another, or at the innermost one that is open. The first fault of the scan is the one found.
    ∷ example nested "]" 5 0 1 1 0 0
    ∷ example nested "[document [title A" 5 10 1 11 0 0
    ∷ example nested "[document [title A]" 5 0 1 1 0 0
    ∷ example nested "[document (title A]]" 5 18 1 19 0 0
    ∷ example nested "[document [title A]]]" 5 20 1 21 0 0
    ∷ example nested "[document )\u{1}" 5 10 1 11 0 0
    ∷ example imperative "[document [title A]] [section [title B]" 5 21 1 22 0 0
    ∷ example imperative "[document [title A]] [section [title B" 5 30 1 31 0 0
    ∷ example imperative "[document [title A]] ) [" 5 21 1 22 0 0
    -- 6: at the bracket of level 65, imperative 60; levels count, and not brackets.
    ∷ example_of nested (replicate 65 0x5B) 6 64 1 65 0 0
    ∷ example_of nested (replicate 64 0x5B ++ replicate 64 0x5D) 8 0 1 1 0 0
    ∷ example_of nested (replicate 64 0x5B ++ replicate 63 0x5D) 5 0 1 1 0 0
    ∷ example_of imperative (replicate 60 0x5B) 6 59 1 60 0 0
    ∷ example_of imperative (replicate 59 0x5B ++ replicate 59 0x5D) 8 0 1 1 0 0
    -- 7: ahead of 8 and 9; an imperative text may have any number of expressions.
    ∷ example nested " \n " 7 3 2 2 0 0
    ∷ example nested "a b" 7 2 1 3 0 0
    ∷ example nested "[document] [document]" 7 11 1 12 0 0
    ∷ example imperative "" 7 0 1 1 0 0
    ∷ example imperative " \n " 7 3 2 2 0 0
    ∷ example imperative "[document [title A]] [section [title B]]" 0 0 1 1 6 2
    -- 8: at the expression, ahead of what is inside it, and of 11.
    ∷ example nested "a" 8 0 1 1 0 0
    ∷ example nested "(include \"x\")" 8 0 1 1 0 0
    ∷ example nested "[section [title A]]" 8 0 1 1 0 0
    ∷ example nested "[document [title [term a]]]" 8 17 1 18 0 0
    ∷ example nested "[document [title A] []]" 8 20 1 21 0 0
    ∷ example nested "[document [title A] [subsection]]" 8 20 1 21 0 0
    ∷ example nested "[document [title A] [paragraph (include \"x\")]]" 8 20 1 21 0 0
    ∷ example nested "[document [title A] [id x] [id y]]" 8 27 1 28 0 0
    ∷ example nested "[document [title A] [part [title B]] [paragraph]]" 8 37 1 38 0 0
    ∷ example nested "[document [title A] [section [title B] hi]]" 8 39 1 40 0 0
    ∷ example nested "[document [title A] [section [title B] [paragraph [item]]]]" 8 50 1 51 0 0
    ∷ example nested "[document [title A] [section [title B] [paragraph [verbatim a b]]]]" 8 62 1 63 0 0
    ∷ example nested "[document [title A] [section [title B] [paragraph [image [target u] [type t] [size 1 2]]]]]" 8 77 1 78 0 0
    ∷ example nested "[document [title A] [section [title B] [paragraph [footnote-ref [target a] x]]]]" 8 75 1 76 0 0
    ∷ example nested "[document [title A] [section [title B] [paragraph [table [summary] [body] [head]]]]]" 8 74 1 75 0 0
    ∷ example nested "[document [title A] [section [title B] [paragraph [table [summary] [body [row [cell [table [summary] [body]]]]]]]]]" 8 84 1 85 0 0
    -- Only the direct children of a cell are tested for a table.
    ∷ example nested "[document [title A] [section [title B] [paragraph [table [summary] [body [row [cell [list-ordered [item [table [summary] [body]]]]]]]]]]]" 0 0 1 1 17 2
    -- 8 in a command is at its own place; a loose parameter and a second document command are none.
    ∷ example imperative "a" 8 0 1 1 0 0
    ∷ example imperative "[section [title A]]" 8 0 1 1 0 0
    ∷ example imperative "[document [title A] [section [title B]]]" 8 20 1 21 0 0
    ∷ example imperative "[document [title A] [id x] [id y]]" 8 27 1 28 0 0
    ∷ example imperative "[document [title A]] [section [title B] hi] [x]" 8 40 1 41 0 0
    ∷ example imperative "[document [title A]] [section [title B]] [paragraph hi]" 8 52 1 53 0 0
    ∷ example imperative "[document [title A]] [paragraph hi]" 8 21 1 22 0 0
    ∷ example imperative "[document [title A]] [id x]" 8 21 1 22 0 0
    ∷ example imperative "[document [title A]] [section [title B]] [title C]" 8 41 1 42 0 0
    ∷ example imperative "[document [title A]] [section [title B]] [paragraph] [type t]" 8 53 1 54 0 0
    ∷ example imperative "[document [title A]] [section [title B]] [paragraph] [list-ordered [item [paragraph]]]" 8 73 1 74 0 0
    ∷ example imperative "[document [title A]] [section [title B]] [paragraph] hi [document [title C]]" 8 56 1 57 0 0
    -- 9: at the element, and not at what stands where the parameter is wanted; a loose title is no parameter.
    ∷ example nested "[document [id x] [title A]]" 9 0 1 1 0 0
    ∷ example nested "[document [title A] [section [id s]]]" 9 20 1 21 0 0
    ∷ example nested "[document [title A] [section [x]]]" 9 20 1 21 0 0
    ∷ example nested "[document [title A] [section [title B] [paragraph [verbatim]]]]" 9 50 1 51 0 0
    ∷ example nested "[document [title A] [section [title B] [paragraph [link x]]]]" 9 50 1 51 0 0
    ∷ example nested "[document [title A] [section [title B] [paragraph [image [size 1 2]]]]]" 9 50 1 51 0 0
    ∷ example nested "[document [title A] [section [title B] [paragraph [table [summary] [head]]]]]" 9 50 1 51 0 0
    ∷ example nested "[document [title A] [section [title B] [paragraph [list-ordered [item [footnote-ref]]]]]]" 9 70 1 71 0 0
    ∷ example imperative "[document [id x]] [title A]" 9 0 1 1 0 0
    ∷ example imperative "[document [title A]] [section] [paragraph]" 9 21 1 22 0 0
    ∷ example imperative "[document [title A]] [section [title B]] [footnote [type t]] hi" 9 41 1 42 0 0
    ∷ example imperative "[document [title A]] [section [title B]] [paragraph] [verbatim]" 9 53 1 54 0 0
    -- 10: at the parameter, and neither at the element nor at the value.
    ∷ example nested "[document [title A] [id]]" 10 20 1 21 0 0
    ∷ example nested "[document [title A] [id a b]]" 10 20 1 21 0 0
    ∷ example nested "[document [title A] [id [a]]]" 10 20 1 21 0 0
    ∷ example nested "[document [title A] [id \"a b\"]]" 10 20 1 21 0 0
    ∷ example nested "[document [title A] [type \"t\"]]" 10 20 1 21 0 0
    ∷ example nested "[document [title A] [type a-b]]" 10 20 1 21 0 0
    ∷ example nested "[document [title A] [type a_1] [id \"a-b.c_1\"]]" 0 0 1 1 3 11
    ∷ example nested "[document [title A] [section [title B] [paragraph [image [target u] [size 1]]]]]" 10 68 1 69 0 0
    ∷ example nested "[document [title A] [section [title B] [paragraph [image [target u] [size 1 65536]]]]]" 10 68 1 69 0 0
    ∷ example nested "[document [title A] [section [title B] [paragraph [image [target u] [size 000001 1]]]]]" 10 68 1 69 0 0
    ∷ example nested "[document [title A] [section [title B] [paragraph [image [target u] [size \"1\" 1]]]]]" 10 68 1 69 0 0
    ∷ example nested "[document [title A] [section [title B] [paragraph [image [target u] [size 00001 65535]]]]]" 0 0 1 1 8 3
    ∷ example nested "[document [title A] [section [title B] [paragraph [image [target é]]]]]" 10 57 1 58 0 0
    ∷ example nested "[document [title A] [section [title B] [paragraph [link [target a/b]]]]]" 10 56 1 57 0 0
    ∷ example nested "[document [title A] [section [title B] [paragraph [link-ext [target a/b]]]]]" 0 0 1 1 8 5
    ∷ example nested "[document [title A] [section [title B] [paragraph [footnote-ref [target \"a b\"]]]]]" 10 64 1 65 0 0
    ∷ example imperative "[document [title A] [id é]] [section]" 10 20 1 21 0 0
    ∷ example imperative "[document [title A]] [section [title B] [type \"t\"]] hi" 10 40 1 41 0 0
    ∷ example imperative "[document [title A]] [section [title B]] [paragraph] [link [target a/b]]" 10 59 1 60 0 0
    -- 11: at the child, ahead of what is inside it.
    ∷ example nested "[document [title A] [part [title P]] [section [title B]]]" 11 37 1 38 0 0
    ∷ example nested "[document [title A] [section [title B]] [part]]" 11 40 1 41 0 0
    ∷ example nested "[document [title A] [section [title B] [subsection [title C]] [footnote]]]" 11 62 1 63 0 0
    ∷ example imperative "[document [title A]] [section [title B]] [part [title P]]" 11 41 1 42 0 0
    ∷ example imperative "[document [title A]] [section [title B]] [paragraph] hi [subsection [title C]]" 11 56 1 57 0 0
    -- A paragraph after a subsection is the subsection's; a part ends the section before it.
    ∷ example imperative "[document [title A]] [section [title B]] [subsection [title C]] [paragraph]" 0 0 1 1 10 3
    ∷ example imperative "[document [title A]] [part [title P]] [section [title B]] [part [title Q]]" 0 0 1 1 12 4
    -- 12: at its bracket, ahead of 8 and 11 there and of what is inside it. A symbol is no list.
    ∷ example nested "[document [title [import]]]" 12 17 1 18 0 0
    ∷ example nested "[document [title A] [include [import]]]" 12 20 1 21 0 0
    ∷ example nested "[document [title A] [section [title B]] (include \"x\")]" 12 40 1 41 0 0
    ∷ example nested "[document [title A] [section [title B] [paragraph hi (import \"x\")]]]" 12 53 1 54 0 0
    ∷ example nested "[document [title include]]" 0 0 1 1 3 7
    ∷ example imperative "[document [title (include \"x\")]]" 12 17 1 18 0 0
    ∷ example imperative "[document [title A]] [section [title B]] [paragraph] hi [import [x]]" 12 56 1 57 0 0
    ∷ example imperative "[document [title A]] [section [title B]] [paragraph] [term [include]]" 12 59 1 60 0 0
    -- 15: at the row, and in tables with a head only: the head's own rows, and not those of a table inside.
    ∷ example nested "[document [title A] [section [title B] [paragraph [table [summary] [head [name] [name]] [body [row [cell]]]]]]]" 15 94 1 95 15 2
    ∷ example nested "[document [title A] [section [title B] [paragraph [table [summary] [head [name]] [body [row [cell]] [row] [row [cell] [cell]]]]]]]" 15 100 1 101 18 2
    ∷ example nested "[document [title A] [section [title B] [paragraph [table [summary] [head] [body [row [cell]]]]]]]" 15 80 1 81 13 2
    ∷ example nested "[document [title A] [section [title B] [paragraph [table [summary] [body [row [cell]] [row [cell] [cell]]]]]]]" 0 0 1 1 15 2
    ∷ example nested "[document [title A] [section [title B] [paragraph [table [summary] [head [name]] [body [row [cell [list-ordered [item [table [summary] [body [row]]]]]]]]]]]]" 0 0 1 1 20 2
    ∷ example nested "[document [title A] [section [title B] [paragraph [table [summary] [head [name]] [body]] [table [summary] [body [row]]]]]]" 0 0 1 1 16 2
    ∷ example nested "[document [title A] [id x] [section [title B] [id x] [paragraph [table [summary] [head [name]] [body [row]]]]]]" 15 101 1 102 13 4
    ∷ example imperative "[document [title A]] [section [title B]] [paragraph] [table [summary] [head [name]] [body [row]]]" 15 90 1 91 13 2
    ∷ example imperative "[document [title A]] [section [title B]] [paragraph] [table [summary] [body [row [cell]] [row]]]" 0 0 1 1 13 2
    -- 16: at the first block in document order whose id an earlier block has; ahead of 17. Case counts, and a target is no id.
    ∷ example nested "[document [title A] [section [title B] [id x] [paragraph [id x]]] [section [title C] [id x]]]" 16 46 1 47 10 6
    ∷ example nested "[document [title A] [id x] [section [title B] [paragraph [link [target z]]] [paragraph [id x]]]]" 16 76 1 77 9 5
    ∷ example nested "[document [title A] [id x] [section [title B] [footnote [id x]]]]" 16 46 1 47 7 4
    ∷ example nested "[document [title A] [id x] [section [title B] [id X] [paragraph [id xx]] [paragraph] [paragraph [image [target x]]]]]" 0 0 1 1 10 7
    ∷ example imperative "[document [title A] [id x]] [section [title B]] [paragraph [id x]] hi [paragraph [id x]]" 16 48 1 49 9 7
    -- 17: the target may be on any block, a later one too, and on nothing else; ahead of 18.
    ∷ example nested "[document [title A] [section [title B] [paragraph [image [target x]] [link [target x]]]]]" 17 69 1 70 9 4
    ∷ example nested "[document [title A] [section [title B] [id x] [paragraph [link [target xy]] [link [target y]]]]]" 17 57 1 58 9 6
    ∷ example nested "[document [title A] [section [title B] [paragraph [footnote-ref [target q]] [link [target q]]]]]" 17 76 1 77 9 4
    ∷ example nested "[document [title A] [id d] [section [title B] [paragraph [link [target d]] [link [target f]] [link-ext [target q]]] [footnote [id f]]]]" 0 0 1 1 11 7
    ∷ example imperative "[document [title A]] [section [title B]] [paragraph [id p]] [link [target p]] [link [target q]]" 17 78 1 79 9 5
    -- 18: a block that is no footnote will not do.
    ∷ example nested "[document [title A] [section [title B] [id s] [paragraph [footnote-ref [target s]]]]]" 18 57 1 58 8 4
    ∷ example nested "[document [title A] [section [title B] [paragraph [footnote-ref [target f]] [footnote-ref [target g]]]]]" 18 50 1 51 9 4
    ∷ example nested "[document [title A] [section [title B] [footnote [id f]] [paragraph [footnote-ref [target f]]]]]" 0 0 1 1 9 4
    ∷ example imperative "[document [title A]] [section [title B]] [footnote [id f]] [paragraph [id p]] [footnote-ref [target f]] [footnote-ref [target p]]" 18 104 1 105 10 6
    ∷ []
