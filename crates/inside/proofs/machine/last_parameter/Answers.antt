-- `machine::last_parameter` meets its contract.
use mathlib.Core.Path.{refl}
use borrow.Author.Tests.{eq-eqb, ne_eqb}
use Rattle.elements.specs.rules.Inside.{next_parameter}
use Rattle.inside.specs.Machine.{after_last}
use Rattle.inside.proofs.Steps.{numbers_of_taken, last_state}
use Rattle.inside.proofs.machine.last_parameter.Goals as goal

pub returns-then-class-parameter : goal.returns-then-class-parameter
unfolding next_parameter after_last
returns-then-class-parameter c = rw (eq-eqb _ _ c.if-class-parameter.true) (numbers_of_taken refl (rw last_state))

pub returns : goal.returns
unfolding next_parameter after_last
returns c = rw (ne_eqb _ _ c.if-class-parameter.false) c.first_child.ensures
