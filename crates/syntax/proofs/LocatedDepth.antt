-- Lists nest in the expressions of a run as brackets do in the run.
use Prim.Native.Nat.{ℕ, ◌+◌}
use mathlib.Core.Path.{◌≡◌, refl, ◌∙◌}
use native.Mathlib.Omega.{arith}
use mathlib.Core.List.{[]}
use lib.ListN.{length}
use Rattle.syntax.specs.rules.Syntax.{Leaf, space, line_end, word, string, leaf_before, Forest, end, leaf, brackets, bytes_of, levels}
use Rattle.syntax.specs.rules.Expression.{Exprs, locate_leaf, locate, depth, depth_all}

-- A leaf adds no depth.
leaf_depth : (n : ℕ) (l : Leaf) (es : Exprs) → depth_all (locate_leaf n l es) ≡ depth_all es
unfolding locate_leaf depth_all depth
leaf_depth n (space b) es = refl
leaf_depth n line_end es = refl
leaf_depth n (word b bs) es = omega arith
leaf_depth n (string p ps) es = omega arith

-- Lists nest as deep as brackets do.
pub located_depth : (n : ℕ) (f : Forest) → depth_all (locate n f) ≡ levels f
unfolding locate depth_all depth levels
located_depth n end = refl
located_depth n (leaf l f) =
    let next : ℕ = n + length (leaf_before l []) in
    leaf_depth n l (locate next f) ∙ located_depth next f
located_depth n (brackets b inside f) =
    rw (located_depth (n + 1) inside, located_depth (n + (1 + length (bytes_of inside) + 1)) f)
