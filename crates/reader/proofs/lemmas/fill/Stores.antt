-- Runs of stores one after the other, in lists of any length, and the offsets of strings.
use Prim.Native.Nat.{ℕ, ◌+◌}
use mathlib.Core.Path.{◌≡◌, refl}
use mathlib.Core.List.{List, [], ◌∷◌, ◌++◌}
use native.Mathlib.Omega.{arith}
use lib.ListN.{length}
use lib.Seq.{sets}
use Rattle.base.proofs.Stores.{sets_append}
use Rattle.document.specs.rules.Table.{offset}

-- Two runs of stores that meet are one.
pub sets_on : (l m z : List ℕ) (i j : ℕ) (xs ys zs : List ℕ) → m ≡ sets l i xs → z ≡ sets m j ys → j ≡ i + length xs → zs ≡ xs ++ ys → z ≡ sets l i zs
sets_on l m z i j xs ys zs p q r s =
    rw (s, sets_append l xs ys i, q, p, r)

-- The offset of a string of length n is 0 where it is empty, and its place elsewhere.
pub offset_none : (p n : ℕ) (s : List ℕ) → n ≡ length s → n ≡ 0 → 0 ≡ offset p s
unfolding offset
offset_none p n [] e z = refl
offset_none p n (b ∷ s) e z = absurd (omega arith)

pub offset_some : (p n : ℕ) (s : List ℕ) → n ≡ length s → (n ≡ 0 → ⊥) → p ≡ offset p s
unfolding offset
offset_some p n [] e o = absurd (o e)
offset_some p n (b ∷ s) e o = refl
