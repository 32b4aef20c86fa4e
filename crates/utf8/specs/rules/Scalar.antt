-- What UTF-8 is, with no decoder: a text is UTF-8 if it is the encodings of some scalar values, one after another.
-- Document 01, "Characters and brackets": "Text is UTF-8 (Unicode's well-formed sequences: no overlong form, no surrogate, at most U+10FFFF)".
use Rattle.std.specs.Prelude.{ℕ, ◌+◌, ◌/◌, ◌%◌, ◌<◌, ◌≡◌, Bool, true, cond, ◌&&◌, ◌||◌, List, [], ◌∷◌, ◌++◌, T, leb, ltb, length, take, drop}

-- A scalar value: at most U+10FFFF and no surrogate, which are U+D800 to U+DFFF.
unfoldable pub is_scalar : ℕ → Bool
is_scalar n = ltb n 0xD800 || (leb 0xE000 n && leb n 0x10FFFF)

-- A byte after the first carries the lowest six bits of a number.
abbrev pub further : ℕ → ℕ
further n = 0x80 + n % 64

-- The encoding of a scalar value in one to four bytes: the fewest that hold it, so no overlong form is an encoding.
unfoldable pub encode : ℕ → List ℕ
encode n =
    cond (leb n 0x7F) (n ∷ [])
    (cond (leb n 0x7FF) ((0xC0 + n / 64) ∷ further n ∷ [])
    (cond (leb n 0xFFFF) ((0xE0 + n / 4096) ∷ further (n / 64) ∷ further n ∷ [])
    ((0xF0 + n / 262144) ∷ further (n / 4096) ∷ further (n / 64) ∷ further n ∷ [])))

unfoldable pub encode_all : List ℕ → List ℕ
encode_all [] = []
encode_all (n ∷ ns) = encode n ++ encode_all ns

unfoldable pub all_scalar : List ℕ → Bool
all_scalar [] = true
all_scalar (n ∷ ns) = is_scalar n && all_scalar ns

-- A text is UTF-8.
pub record IsUtf8 (text : List ℕ) : Type 0 where
  pub scalars : List ℕ
  pub are_scalar : T (all_scalar scalars)
  pub encoded : encode_all scalars ≡ text

-- The first ill-formed sequence of a text begins at p (number 2 of document 01): all before it is UTF-8, and no scalar value's encoding stands there.
pub record IllFormedAt (text : List ℕ) (p : ℕ) : Type 0 where
  pub inside : p < length text
  pub before : IsUtf8 (take p text)
  pub no_encoding : (n : ℕ) (rest : List ℕ) → T (is_scalar n) → encode n ++ rest ≡ drop p text → ⊥
