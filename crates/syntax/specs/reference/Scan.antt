-- The scan: faults 3 to 6 "by one scan left to right, the first fault found", or the concrete syntax of the text.
-- First bytes to items, with 3 and 4; then items to levels, with 5 and 6. Items are looked at in order, so the first fault of either sort is the one found.
use Rattle.std.specs.Prelude.{ℕ, zero, suc, ◌+◌, ◌-◌, cond, List, [], ◌∷◌, eqb, length, get_or}
use Rattle.base.specs.rules.Numbers as Number
use Rattle.syntax.specs.rules.Byte.{Bracket, ByteClass, blank, return, quote, forbidden, ordinary, opening, closing, byte_class, same_bracket, is_ordinary}
use Rattle.syntax.specs.rules.Syntax.{Piece, raw, letter, number, is_piece, piece_before, pieces_before, Leaf, space, line_end, word, string, Forest, end, leaf, brackets}

-- The rest of a symbol: the ordinary bytes at the front.
unfoldable pub ordinary_run : List ℕ → List ℕ
ordinary_run [] = []
ordinary_run (b ∷ s) = let r = b ∷ ordinary_run s in cond (is_ordinary b) r []

-- The escape whose backslash stands before these bytes, if it is one. What is cut off by the end has 0 for its last bytes, which is no digit and no letter.
unfoldable pub escape_at : List ℕ → Piece
escape_at s =
    cond (eqb (get_or s 0 0) 0x75) (number (get_or s 1 0) (get_or s 2 0) (get_or s 3 0) (get_or s 4 0)) (letter (get_or s 0 0))

-- What follows an opening quote: pieces up to the closing one, or the text's end first, or a bad escape with the place of its backslash.
pub data Quoted : Type 0 where
  closed : List Piece → Quoted
  unclosed : Quoted
  bad_escape : ℕ → Quoted

unfoldable pub piece : Piece → Quoted → Quoted
piece p (closed ps) = closed (p ∷ ps)
piece p unclosed = unclosed
piece p (bad_escape n) = bad_escape n

-- The pieces from place n on; the first `skip` bytes belong to a piece already read.
unfoldable pub quoted_from : ℕ → ℕ → List ℕ → Quoted
quoted_from skip n [] = unclosed
quoted_from (suc k) n (b ∷ s) = quoted_from k (n + 1) s
quoted_from zero n (b ∷ s) =
    let p = escape_at s in
    let escape = cond (is_piece p) (piece p (quoted_from (length (piece_before p []) - 1) (n + 1) s)) (bad_escape n) in
    let plain = piece (raw b) (quoted_from 0 (n + 1) s) in
    cond (eqb b 0x22) (closed []) (cond (eqb b 0x5C) escape plain)

pub data Items : Type 0 where
  done : Items
  broken : ℕ → ℕ → Items
  a_leaf : Leaf → Items → Items
  opens closes : ℕ → Bracket → Items → Items

-- The string whose opening quote is at place n: "string empty or unclosed" is 4 at "the opening quote".
unfoldable pub quoted_item : ℕ → (ℕ → Items) → Quoted → Items
quoted_item n next (closed []) = broken Number.bad_string n
quoted_item n next (closed (p ∷ ps)) = a_leaf (string p ps) (next (length (pieces_before (p ∷ ps) []) + 1))
quoted_item n next unclosed = broken Number.bad_string n
quoted_item n next (bad_escape p) = broken Number.bad_string p

-- The item that begins with byte b at place n, in front of s, by b's class. `next k` are the items after k more bytes.
unfoldable pub item_at : ℕ → ℕ → List ℕ → (ℕ → Items) → ByteClass → Items
item_at n b s next blank = a_leaf (space b) (next 0)
item_at n b s next return = let r = a_leaf line_end (next 1) in cond (eqb (get_or s 0 0) 0x0A) r (broken Number.forbidden_character n)
item_at n b s next quote = quoted_item n next (quoted_from 0 (n + 1) s)
item_at n b s next forbidden = broken Number.forbidden_character n
item_at n b s next ordinary = a_leaf (word b (ordinary_run s)) (next (length (ordinary_run s)))
item_at n b s next (opening x) = opens n x (next 0)
item_at n b s next (closing x) = closes n x (next 0)

-- The items from place n on; the first `skip` bytes belong to an item already read.
unfoldable pub items_from : ℕ → ℕ → List ℕ → Items
items_from skip n [] = done
items_from (suc k) n (b ∷ s) = items_from k (n + 1) s
items_from zero n (b ∷ s) = item_at n b s (λ k. items_from k (n + 1) s) (byte_class b)

-- A bracket that is open, and its place.
pub record Open : Type 0 where
  pub bracket : Bracket
  pub place : ℕ

-- A fault with its place; or, under open brackets, what stands up to the partner of the innermost one, and then outwards, level by level, what follows each.
pub data Levels : Type 0 where
  fault : ℕ → ℕ → Levels
  level : Forest → List Forest → Levels

unfoldable pub add_leaf : Leaf → Levels → Levels
add_leaf l (fault n p) = fault n p
add_leaf l (level f fs) = level (leaf l f) fs

unfoldable pub wrap : Bracket → Levels → Levels
wrap b (fault n p) = fault n p
wrap b (level f []) = level f []
wrap b (level inside (f ∷ fs)) = level (brackets b inside f) fs

unfoldable pub end_level : Levels → Levels
end_level (fault n p) = fault n p
end_level (level f fs) = level end (f ∷ fs)

-- "list open at the end": 5 at the "innermost open bracket".
unfoldable pub at_end : List Open → Levels
at_end [] = level end []
at_end (o ∷ os) = fault Number.unpaired_bracket o.place

-- One level more: 6 at its bracket where no room is left.
unfoldable pub one_more : ℕ → Bracket → (ℕ → Levels) → ℕ → Levels
one_more n b next zero = fault Number.too_deep n
one_more n b next (suc room) = wrap b (next room)

-- "closing bracket without its partner": 5 at it.
unfoldable pub one_less : ℕ → Bracket → (List Open → Levels) → List Open → Levels
one_less n b next [] = fault Number.unpaired_bracket n
one_less n b next (o ∷ os) = let r = end_level (next os) in cond (same_bracket b o.bracket) r (fault Number.unpaired_bracket n)

unfoldable pub build : List Open → ℕ → Items → Levels
build stack room done = at_end stack
build stack room (broken n p) = fault n p
build stack room (a_leaf l is) = add_leaf l (build stack room is)
build stack room (opens n b is) = one_more n b (λ r. build (record { bracket = b; place = n } ∷ stack) r is) room
build stack room (closes n b is) = one_less n b (λ os. build os (suc room) is) stack

pub data Scanned : Type 0 where
  refused : ℕ → ℕ → Scanned
  scanned : Forest → Scanned

unfoldable pub outermost : Levels → Scanned
outermost (fault n p) = refused n p
outermost (level f fs) = scanned f

-- The scan of a text in which brackets nest at most `room` deep.
unfoldable pub scan : ℕ → List ℕ → Scanned
scan room text = outermost (build [] room (items_from 0 0 text))
