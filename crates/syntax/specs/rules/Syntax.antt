-- The concrete syntax of a text: white space, symbols, quoted strings and bracketed lists, and the bytes of each.
-- Document 01, "Characters and brackets".
use Rattle.std.specs.Prelude.{ℕ, suc, ◌+◌, ◌-◌, ◌*◌, max, Bool, true, false, cond, ◌&&◌, ◌||◌, List, [], ◌∷◌, ◌++◌, T, eqb, leb}
use Rattle.utf8.specs.rules.Scalar.{is_scalar, encode}
use Rattle.syntax.specs.rules.Byte.{Bracket, open_byte, close_byte, is_blank, is_ordinary, is_raw}

-- A piece of a quoted string: a raw byte, an escape by letter, an escape by number with its four digits.
pub data Piece : Type 0 where
  raw letter : ℕ → Piece
  number : ℕ → ℕ → ℕ → ℕ → Piece

-- What has no brackets. A symbol has a first byte and a quoted string a first piece, so neither is empty.
pub data Leaf : Type 0 where
  space : ℕ → Leaf
  line_end : Leaf
  word : ℕ → List ℕ → Leaf
  string : Piece → List Piece → Leaf

-- A run of leaves and lists: `brackets b inside after` is a list and what follows it.
pub data Forest : Type 0 where
  end : Forest
  leaf : Leaf → Forest → Forest
  brackets : Bracket → Forest → Forest → Forest

-- The bytes of each, in front of the bytes k that follow.
unfoldable pub piece_before : Piece → List ℕ → List ℕ
piece_before (raw b) k = b ∷ k
piece_before (letter c) k = 0x5C ∷ c ∷ k
piece_before (number d₁ d₂ d₃ d₄) k = 0x5C ∷ 0x75 ∷ d₁ ∷ d₂ ∷ d₃ ∷ d₄ ∷ k

unfoldable pub pieces_before : List Piece → List ℕ → List ℕ
pieces_before [] k = k
pieces_before (p ∷ ps) k = piece_before p (pieces_before ps k)

unfoldable pub leaf_before : Leaf → List ℕ → List ℕ
leaf_before (space b) k = b ∷ k
leaf_before line_end k = 0x0D ∷ 0x0A ∷ k
leaf_before (word b bs) k = b ∷ (bs ++ k)
leaf_before (string p ps) k = 0x22 ∷ pieces_before (p ∷ ps) (0x22 ∷ k)

unfoldable pub bytes_before : Forest → List ℕ → List ℕ
bytes_before end k = k
bytes_before (leaf l f) k = leaf_before l (bytes_before f k)
bytes_before (brackets b inside f) k = open_byte b ∷ bytes_before inside (close_byte b ∷ bytes_before f k)

unfoldable pub bytes_of : Forest → List ℕ
bytes_of f = bytes_before f []

-- A hexadecimal digit "of either case", and its value.
unfoldable pub is_hex : ℕ → Bool
is_hex d = (leb 0x30 d && leb d 0x39) || (leb 0x41 d && leb d 0x46) || (leb 0x61 d && leb d 0x66)

unfoldable pub hex_digit : ℕ → ℕ
hex_digit d = cond (leb d 0x39) (d - 0x30) (cond (leb d 0x46) (d - 0x37) (d - 0x57))

unfoldable pub hex_value : ℕ → ℕ → ℕ → ℕ → ℕ
hex_value d₁ d₂ d₃ d₄ = hex_digit d₁ * 4096 + hex_digit d₂ * 256 + hex_digit d₃ * 16 + hex_digit d₄

-- "Escapes: `\r \n \t \"` and `\u` with four hex digits of either case, not D800 to DFFF."
unfoldable pub is_piece : Piece → Bool
is_piece (raw b) = is_raw b
is_piece (letter c) = eqb c 0x72 || eqb c 0x6E || eqb c 0x74 || eqb c 0x22
is_piece (number d₁ d₂ d₃ d₄) = is_hex d₁ && is_hex d₂ && is_hex d₃ && is_hex d₄ && is_scalar (hex_value d₁ d₂ d₃ d₄)

unfoldable pub are_pieces : List Piece → Bool
are_pieces [] = true
are_pieces (p ∷ ps) = is_piece p && are_pieces ps

unfoldable pub are_ordinary : List ℕ → Bool
are_ordinary [] = true
are_ordinary (b ∷ bs) = is_ordinary b && are_ordinary bs

unfoldable pub is_leaf : Leaf → Bool
is_leaf (space b) = is_blank b
is_leaf line_end = true
is_leaf (word b bs) = are_ordinary (b ∷ bs)
is_leaf (string p ps) = are_pieces (p ∷ ps)

-- What stands before a leaf. A symbol "ends only at one of those or the end", so a symbol directly after a symbol would be one symbol:
-- "White space is needed only between two symbols."
pub data Before : Type 0 where
  a_symbol another : Before

unfoldable pub after : Leaf → Before
after (space b) = another
after line_end = another
after (word b bs) = a_symbol
after (string p ps) = another

unfoldable pub may_follow : Before → Leaf → Bool
may_follow another l = true
may_follow a_symbol (space b) = true
may_follow a_symbol line_end = true
may_follow a_symbol (word b bs) = false
may_follow a_symbol (string p ps) = true

-- The run is concrete syntax: each leaf has the bytes of its kind, and no symbol stands directly after another.
unfoldable pub Ok : Before → Forest → Type 0
Ok m end = Unit {0}
Ok m (leaf l f) = T (may_follow m l) × T (is_leaf l) × Ok (after l) f
Ok m (brackets b inside f) = Ok another inside × Ok another f

-- How deep brackets nest.
unfoldable pub levels : Forest → ℕ
levels end = 0
levels (leaf l f) = levels f
levels (brackets b inside f) = max (suc (levels inside)) (levels f)

-- The code points that a string's pieces stand for, as UTF-8.
unfoldable pub letter_value : ℕ → ℕ
letter_value c = cond (eqb c 0x72) 0x0D (cond (eqb c 0x6E) 0x0A (cond (eqb c 0x74) 0x09 0x22))

unfoldable pub piece_value : Piece → List ℕ
piece_value (raw b) = b ∷ []
piece_value (letter c) = letter_value c ∷ []
piece_value (number d₁ d₂ d₃ d₄) = encode (hex_value d₁ d₂ d₃ d₄)

unfoldable pub pieces_value : List Piece → List ℕ
pieces_value [] = []
pieces_value (p ∷ ps) = piece_value p ++ pieces_value ps
