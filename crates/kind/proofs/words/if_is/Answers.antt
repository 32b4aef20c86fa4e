-- `words::if_is` meets its contract: each branch is a case of the test.
use borrow.Author.Rules.{rules}
use Rattle.elements.proofs.Same.{same_told}
use Rattle.kind.proofs.words.if_is.Goals as goal

pub returns-then-eq : goal.returns-then-eq
returns-then-eq c = rw (← same_told c.args.name.now c.args.word.now c.eq.result (search rules), c.if-eq.true)

pub returns-else-eq : goal.returns-else-eq
returns-else-eq c = rw (← same_told c.args.name.now c.args.word.now c.eq.result (search rules), c.if-eq.false)
