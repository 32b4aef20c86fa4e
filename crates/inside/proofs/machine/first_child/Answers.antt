-- `machine::first_child` meets its contract.
use mathlib.Core.Path.{◌∙◌, sym}
use native.Mathlib.Omega.{arith}
use Rattle.inside.specs.Machine.{with_child}
use Rattle.inside.proofs.Table.{no_include}
use Rattle.inside.proofs.Steps.{numbers_of_taken, significance_small}
use Rattle.inside.proofs.Children.{first_refused, first_child_taken}
use Rattle.inside.proofs.machine.first_child.Goals as goal

pub returns-then-not-allowed : goal.returns-then-not-allowed
returns-then-not-allowed c = first_refused _ _ _ c.refused.ensures (sym c.allowed.ensures ∙ c.if-not-allowed.true)

pub overflow_add-result : goal.overflow_add-result
overflow_add-result c = omega (arith, c.significance.ensures, significance_small c.args.class)

pub returns : goal.returns
unfolding with_child
returns c = let stands = sym c.allowed.ensures ∙ c.if-not-allowed.false in
    numbers_of_taken (rw c.significance.ensures) (first_child_taken _ _ (no_include _ _ stands) stands c.significance.ensures)
