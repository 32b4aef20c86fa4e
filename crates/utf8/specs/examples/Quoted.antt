-- What quoted text is read as in tables and examples: the bytes of a text, and one mark for each byte.
use Rattle.std.specs.Prelude.{ℕ, zero, suc, ◌+◌, List, [] as []ᴸ, ◌∷◌ as ◌∷ᴸ◌, ◌++◌, map}
use Prim.Native.String.{String, [], ◌∷◌}
use Prim.Native.Char.{Char, code}
use Rattle.utf8.specs.rules.Scalar.{encode}

-- The bytes of a text, as UTF-8.
unfoldable pub utf8_of : String → List ℕ
utf8_of [] = []ᴸ
utf8_of (c ∷ s) = encode (code c) ++ utf8_of s

-- So many numbers from n on.
unfoldable pub numbers_from : ℕ → ℕ → List ℕ
numbers_from n zero = []ᴸ
numbers_from n (suc k) = n ∷ᴸ numbers_from (n + 1) k

-- What a definition says of each of the 256 bytes, in order.
unfoldable pub of_bytes : {A : Type 0} → (ℕ → A) → List A
unfolding numbers_from
of_bytes f = map f (numbers_from 0 256)

-- What the marks of a table say, in order. A table of the 256 bytes is 16 rows of 16 marks: the row is the byte's first hexadecimal digit, the mark in it the second.
unfoldable pub in_row : {A : Type 0} → (Char → A) → String → List A → List A
in_row f [] rest = rest
in_row f (c ∷ s) rest = f c ∷ᴸ in_row f s rest

unfoldable pub of_marks : {A : Type 0} → (Char → A) → List String → List A
unfolding in_row
of_marks f []ᴸ = []ᴸ
of_marks f (r ∷ᴸ rs) = in_row f r (of_marks f rs)
