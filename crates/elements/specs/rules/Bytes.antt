-- Byte strings written as quoted text, and tests on lists of numbers.
use Rattle.std.specs.Prelude.{ℕ, Bool, true, false, ◌&&◌, ◌||◌, List, [] as []ᴸ, ◌∷◌ as ◌∷ᴸ◌, eqb}
use Prim.Native.String.{String, [], ◌∷◌}
use Prim.Native.Char.{code}

-- The code points of a quoted text: its bytes where it is ASCII.
unfoldable pub codes : String → List ℕ
codes [] = []ᴸ
codes (c ∷ s) = code c ∷ᴸ codes s

unfoldable pub same : List ℕ → List ℕ → Bool
same []ᴸ []ᴸ = true
same []ᴸ (y ∷ᴸ ys) = false
same (x ∷ᴸ xs) []ᴸ = false
same (x ∷ᴸ xs) (y ∷ᴸ ys) = eqb x y && same xs ys

-- The number stands in the list.
unfoldable pub among : ℕ → List ℕ → Bool
among n []ᴸ = false
among n (x ∷ᴸ xs) = eqb n x || among n xs
