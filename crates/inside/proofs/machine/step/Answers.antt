-- `machine::step` meets its contract: the child is taken at once, or the state says which function goes on.
use Rattle.inside.proofs.machine.step.Goals as goal

pub returns-then-takes : goal.returns-then-takes
returns-then-takes c = c.takes.ensures c.if-takes.true
