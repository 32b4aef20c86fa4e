-- A test of every byte.
use Prim.Native.Nat.{ℕ}
use mathlib.Core.Path.{◌≡◌, refl, ap}
use mathlib.Core.Bool.{Bool, ◌&&◌}
use mathlib.Core.List.{List, [], ◌∷◌}
use Rattle.std.specs.List.{list_all}
use Rattle.document.specs.rules.Value.{every}

pub all_every : (test : ℕ → Bool) (xs : List ℕ) → list_all test xs ≡ every test xs
unfolding every
all_every test [] = refl
all_every test (x ∷ xs) = ap (λ (b : Bool). test x && b) (all_every test xs)
