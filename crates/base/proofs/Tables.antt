-- Facts about a whole table by one test that antt computes: what passes at every entry passes at each.
use Prim.Native.Nat.{ℕ, zero, suc, ◌<◌}
use mathlib.Core.Path.{◌≡◌, refl, subst⁻¹}
use mathlib.Core.Logic.{⊎_elim}
use mathlib.Core.Bool.{Bool, true, false, not, ◌&&◌}
use mathlib.Core.List.{List, [], ◌∷◌, Memᴰ}
use native.Mathlib.Nat.{le_of_suc-le-suc, not-suc-le-zero, eq-or-lt_of_le}
use lib.Dec.{T}
use Rattle.base.proofs.Booleans.{both}

-- The entries of a list.
module _ {A : Type 0} (test : A → Bool) where
  abbrev pub every : List A → Bool
  every [] = true
  every (x ∷ xs) = test x && every xs

  pub each : {x : A} {xs : List A} → Memᴰ x xs → T (every xs) → T (test x)
  each (Memᴰ.head {x = y} {xs = ys} e) t = subst⁻¹ (λ (z : A). T (test z)) e (both (test y) (every ys) t).0
  each (Memᴰ.tail {x = y} {xs = ys} h) t = each h (both (test y) (every ys) t).1

-- The numbers below a bound.
module _ (test : ℕ → Bool) where
  abbrev pub below : ℕ → Bool
  below zero = true
  below (suc k) = test k && below k

  pub each_below : (k c : ℕ) → c < k → T (below k) → T (test c)
  each_below zero c h t = absurd (not-suc-le-zero h)
  each_below (suc k) c h t =
      let (now, later) = both (test k) (below k) t in
      ⊎_elim
      (λ (e : c ≡ k). subst⁻¹ (λ (m : ℕ). T (test m)) e now)
      (λ (l : c < k). each_below k c l later)
      (eq-or-lt_of_le (le_of_suc-le-suc h))

-- Two tests agree at an entry.
abbrev pub alike : Bool → Bool → Bool
alike true b = b
alike false b = not b

pub alike_eq : (a b : Bool) → T (alike a b) → a ≡ b
alike_eq true true t = refl
alike_eq true false t = absurd t
alike_eq false true t = absurd t
alike_eq false false t = refl
