-- Stores one after the other, and a row of words written into a list, are one run of stores.
use Prim.Native.Nat.{ℕ, suc, ◌+◌, ◌-◌, ◌≤◌}
use mathlib.Core.Path.{◌≡◌, refl, ap, subst, ◌∙◌}
use mathlib.Core.List.{List, [], ◌∷◌, ◌++◌}
use native.Mathlib.Omega.{arith}
use lib.ListN.{length, set, take, drop, length-drop, drop_of_length-le}
use lib.Seq.{sets}
use Rattle.std.proofs.lemmas.List.{append-nil, take_all}
use Rattle.base.proofs.Copied.{part_stored}

-- One store after the other, at k and the places after it, counted from i.
-- No proof of this repository uses it or its law now. They are kept since other crates can cite them.
abbrev pub stores_from : List ℕ → ℕ → ℕ → List ℕ → List ℕ
stores_from l i k [] = l
stores_from l i k (x ∷ xs) = stores_from (set l (i + k) x) i (k + 1) xs

pub stores_from_lem : (l : List ℕ) (i k : ℕ) (xs : List ℕ) → stores_from l i k xs ≡ sets l (i + k) xs
stores_from_lem l i k [] = refl
stores_from_lem l i k (x ∷ xs) =
    let e : i + (k + 1) ≡ suc (i + k) = omega arith in
    stores_from_lem (set l (i + k) x) i (k + 1) xs ∙ ap (λ (n : ℕ). sets (set l (i + k) x) n xs) e

-- A row is written over the first words of what the list has from a place on.
pub row_stored : (l row rest : List ℕ) (at n : ℕ) → length row ≡ n → at + n ≤ length l → rest ≡ row ++ drop n (take (length l - at) (drop at l))
    → take at l ++ (rest ++ drop (length l - at) (drop at l)) ≡ sets l at row
row_stored l row rest at n e h f =
    let left : length (drop at l) ≤ length l - at = omega (arith, length-drop at l) in
    let count : at + n - at ≡ n = omega arith in
    let stored = subst (λ (k : ℕ). take at l ++ (row ++ drop k (drop at l)) ≡ sets l at row) count (part_stored l row at n e h) in
    rw (drop_of_length-le (drop at l) left, append-nil rest, f, take_all (length l - at) (drop at l) left) stored
