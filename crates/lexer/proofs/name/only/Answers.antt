-- `name::only` meets its contract: each branch is a case of the test.
use mathlib.Core.Path.{sym, ◌∙◌}
use Rattle.lexer.proofs.name.only.Goals as goal

pub returns-then-follows : goal.returns-then-follows
returns-then-follows c = rw (sym c.follows.ensures ∙ c.if-follows.true)

pub returns : goal.returns
returns c = rw (sym c.follows.ensures ∙ c.if-follows.false)
