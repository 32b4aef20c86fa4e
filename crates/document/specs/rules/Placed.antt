-- What stands at the place of a node in a text that spells its document. Document 01, "The table": "the offset of its first byte".
use Rattle.std.specs.Prelude.{ℕ, ◌<◌, ◌≡◌, not, T, length, get_or, drop}
use mathlib.Core.List.{List, [], ◌∷◌, ◌++◌, Memᴰ}
use Rattle.elements.specs.rules.Class as Class
use Rattle.syntax.specs.rules.Byte.{Bracket, open_byte, is_ordinary}
use Rattle.syntax.specs.rules.Syntax.{Piece, are_pieces, pieces_before, pieces_value, are_ordinary, space, line_end, word, string, Forest, end, leaf, brackets, is_leaf, bytes_before}
use Rattle.document.specs.rules.Document.{Node}
use Rattle.document.specs.rules.Table.{count}
use Rattle.document.specs.rules.Visits.{node_kind, node_text, Visit, visits_of}

-- A run of white space.
unfoldable pub Blank : Forest → Type 0
Blank end = Unit {0}
Blank (leaf (space b) f) = T (is_leaf (space b)) × Blank f
Blank (leaf line_end f) = Blank f
Blank (leaf (word b bs) f) = ⊥
Blank (leaf (string p ps) f) = ⊥
Blank (brackets b inside f) = ⊥

-- A symbol ends before these bytes.
unfoldable pub SymbolEnds : List ℕ → Type 0
SymbolEnds [] = Unit {0}
SymbolEnds (b ∷ bs) = T (not (is_ordinary b))

-- The node begins at the front of these bytes: a text by its symbol or by the quote of its string, an element by its bracket, which its name follows.
pub data Begins (n : Node) : List ℕ → Type 0 where
  as_symbol : (rest : List ℕ) → node_kind n ≡ Class.text → T (are_ordinary (node_text n)) → SymbolEnds rest → Begins n (node_text n ++ rest)
  as_string : (p : Piece) (ps : List Piece) (rest : List ℕ) → node_kind n ≡ Class.text → T (are_pieces (p ∷ ps)) → pieces_value (p ∷ ps) ≡ node_text n
      → Begins n (0x22 ∷ pieces_before (p ∷ ps) (0x22 ∷ rest))
  as_list : (b : Bracket) (blank : Forest) (rest : List ℕ) → T (Class.is_element (node_kind n)) → Blank blank → SymbolEnds rest
      → Begins n (open_byte b ∷ bytes_before blank (Class.name_of (node_kind n) ++ rest))

-- Each is less than the next.
unfoldable pub Ascending : List ℕ → Type 0
Ascending [] = Unit {0}
Ascending (p ∷ []) = Unit {0}
Ascending (p ∷ q ∷ ps) = (p < q) × Ascending (q ∷ ps)

-- The place list of a text that spells d: one place a node, ascending, and each node begins at its place.
pub record Placed (d : Node) (text : List ℕ) (places : List ℕ) : Type 0 where
  pub one_each : length places ≡ count d
  pub ascending : Ascending places
  pub begins : (v : Visit) → Memᴰ v (visits_of d) → Begins v.visited (drop (get_or places v.number 0) text)
