-- The names and numbers of kinds once more, as plain text: a name's number is its place in one list of words, and what holds of a number is a mark at its place.
-- `Class` gives each name its number and tests numbers by comparisons; that both agree is computed in `proofs/PlainNames.antt`.
-- A rule that is misread has to be misread twice, in two shapes. Document 01, "Elements": "Kinds are numbered 1 to 25".
use Rattle.std.specs.Prelude.{ℕ, ◌+◌, ◌-◌, cond, ◌&&◌, List, [], ◌∷◌, ◌++◌, map, eqb, leb, length, take, drop}
use Prim.Native.String.{String}
use Rattle.elements.specs.rules.Bytes.{codes, same}
use Rattle.elements.specs.rules.Class.{is_kind, is_element, is_block, significance}

-- A character in front of words: a space begins another word.
unfoldable pub in_front : ℕ → List (List ℕ) → List (List ℕ)
in_front c [] = cond (eqb c 0x20) [] ((c ∷ []) ∷ [])
in_front c (w ∷ ws) = cond (eqb c 0x20) ([] ∷ w ∷ ws) ((c ∷ w) ∷ ws)

unfoldable pub split : List ℕ → List (List ℕ)
unfolding in_front
split [] = []
split (c ∷ s) = in_front c (split s)

-- The words of a text that has one space between them.
unfoldable pub words : String → List (List ℕ)
unfolding codes split
words s = split (codes s)

-- Document 01's list of the kinds, then the names of parameters, then include and import.
unfoldable pub in_order : List (List ℕ)
unfolding words
in_order =
    words "document part section subsection paragraph formal-item footnote title text term image verbatim link link-ext footnote-ref"
    ++ words "list-ordered list-unordered item table summary head name body row cell id type target size include import"

unfoldable pub place_in : List (List ℕ) → ℕ → List ℕ → ℕ
unfolding same
place_in [] n w = 0
place_in (v ∷ vs) n w = cond (same w v) n (place_in vs (n + 1) w)

-- The numbers of words, and 0 of a word that is none of the list.
unfoldable pub numbers : String → List ℕ
unfolding words in_order place_in
numbers s = map (place_in in_order 1) (words s)

-- The classes of lists led by these words in order: `text` leads no element, so its class is 0, as that of any other word.
unfoldable pub classes : List ℕ
classes = 1 ∷ 2 ∷ 3 ∷ 4 ∷ 5 ∷ 6 ∷ 7 ∷ 8 ∷ 0 ∷ 10 ∷ 11 ∷ 12 ∷ 13 ∷ 14 ∷ 15 ∷ 16 ∷ 17 ∷ 18 ∷ 19 ∷ 20 ∷ 21 ∷ 22 ∷ 23 ∷ 24 ∷ 25 ∷ 26 ∷ 27 ∷ 28 ∷ 29 ∷ 30 ∷ 31 ∷ []

unfoldable pub capital : ℕ → ℕ
capital c = cond (leb 0x61 c && leb c 0x7A) (c - 0x20) c

-- A word with a character more at either end, with one less at either end, with its first letter or all letters as capitals: none of these is a name.
unfoldable pub misspelled : List ℕ → List (List ℕ)
unfolding codes capital
misspelled w =
    let more : List ℕ = codes "sx-_ " in
    map (λ (c : ℕ). c ∷ w) more
    ++ map (λ (c : ℕ). w ++ (c ∷ [])) more
    ++ (drop 1 w ∷ take (length w - 1) w ∷ (map capital (take 1 w) ++ drop 1 w) ∷ map capital w ∷ [])

-- What a word begins and ends with that is not the whole word.
unfoldable pub beginnings : List ℕ → List (List ℕ)
beginnings [] = []
beginnings (c ∷ w) = [] ∷ map (λ (v : List ℕ). c ∷ v) (beginnings w)

unfoldable pub endings : List ℕ → List (List ℕ)
endings [] = []
endings (c ∷ w) = w ∷ endings w

-- The names that other names begin with, in the order of the longer ones: link-ext, footnote-ref.
unfoldable pub beginning : List ℕ
unfolding numbers
beginning = numbers "link footnote"

-- The names that other names end with, in the order of the longer ones: subsection, formal-item.
unfoldable pub ending : List ℕ
unfolding numbers
ending = numbers "section item"

-- What holds of each of the numbers 0 to 32: its significance, and whether it is a kind, an element, a block. A column is a number.
-- "Significance: document 4, part 3, section 2, subsection 1, the other three 0."; "Text (9) is a symbol or quoted string; every other kind is a list led by the
-- symbol of its name."; "blocks are kinds 1 to 7".
unfoldable pub marked : List (List ℕ)
unfolding codes
marked =
    codes "043210000000000000000000000000000" ∷
    codes ".kkkkkkkkkkkkkkkkkkkkkkkkk......." ∷
    codes ".eeeeeeee.eeeeeeeeeeeeeeee......." ∷
    codes ".bbbbbbb........................." ∷
    []

-- The same as these definitions have it.
unfoldable pub marked_by : List (ℕ → ℕ)
marked_by =
    (λ n. 0x30 + significance n) ∷
    (λ n. cond (is_kind n) 0x6B 0x2E) ∷
    (λ n. cond (is_element n) 0x65 0x2E) ∷
    (λ n. cond (is_block n) 0x62 0x2E) ∷
    []
