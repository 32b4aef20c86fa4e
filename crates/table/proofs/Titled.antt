-- The kinds whose first parameter is a title or a summary, by one test of every row.
use Prim.Native.Nat.{ℕ, ◌<◌, ◌≤◌}
use mathlib.Core.Path.{◌≡◌}
use mathlib.Core.Bool.{Bool, true, ◌&&◌, ◌||◌}
use native.Mathlib.Omega.{arith}
use lib.Dec.{eqb, leb}
use borrow.Author.Tests.{leb-true, leb-false, ne_eqb, lt-leb, le-leb}
use Rattle.base.proofs.Booleans.{bool_case}
use Rattle.base.proofs.Tables.{each_below, alike, alike_eq}
use Rattle.elements.specs.rules.Rules.{rules, rule_in, rule_of}
use Rattle.inside.proofs.Table.{no_row}
use Rattle.document.specs.rules.Canonical.{node_first}

-- As the code tests them.
abbrev titled : ℕ → Bool
titled k = leb 1 k && leb k 4 || (eqb k 6 || eqb k 19)

abbrev titled_alike : ℕ → Bool
titled_alike k = alike (node_first (rule_of k).parameters) (titled k)

pub titled_is : (k : ℕ) → node_first (rule_of k).parameters ≡ titled k
unfolding rules rule_in rule_of node_first
titled_is k = bool_case (leb 26 k) past (λ e. alike_eq _ _ (each_below titled_alike 26 k (leb-false 26 k e) tt))
  where
    past : leb 26 k ≡ true → node_first (rule_of k).parameters ≡ titled k
    past e =
        let high : 26 ≤ k = leb-true 26 k e in
        let one : 1 ≤ k = omega arith in
        let four : 4 < k = omega arith in
        rw (no_row k high, le-leb 1 k one, lt-leb k 4 four, ne_eqb k 6 (λ v. omega arith), ne_eqb k 19 (λ v. omega arith))
