-- What a `match` on a number knows past its last arm.
use Prim.Native.Nat.{ℕ}
use mathlib.Core.Path.{◌≡◌}
use mathlib.Core.List.{List, [], ◌∷◌}

-- x is none of these keys; N is known before the first.
abbrev pub Missed : ℕ → Type 0 → List ℕ → Type 0
Missed x N [] = N
Missed x N (k ∷ ks) = Missed x (N × (x ≡ k → ⊥)) ks
