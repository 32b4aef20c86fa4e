-- `machine::refused` meets its contract: each branch is a case of the test.
use Rattle.inside.proofs.machine.refused.Goals as goal

pub returns-then-is_include : goal.returns-then-is_include
returns-then-is_include c = rw (← c.is_include.ensures, c.if-is_include.true)

pub returns : goal.returns
returns c = rw (← c.is_include.ensures, c.if-is_include.false)
