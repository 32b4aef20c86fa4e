-- `Target::takes` meets its contract.
use borrow.Author.Tests.{le-leb, lt-leb}
use Rattle.elements.specs.rules.Class.{is_block}
use Rattle.validate.proofs.index.Target.takes.Goals as goal

pub returns-then-kind-ge-DOCUMENT : goal.returns-then-kind-ge-DOCUMENT
unfolding is_block
returns-then-kind-ge-DOCUMENT c = rw (c.in-Block.is, le-leb 1 c.args.kind c.if-kind-ge-DOCUMENT.true)

pub returns-else-kind-ge-DOCUMENT : goal.returns-else-kind-ge-DOCUMENT
unfolding is_block
returns-else-kind-ge-DOCUMENT c = rw (c.in-Block.is, lt-leb 1 c.args.kind c.if-kind-ge-DOCUMENT.false)
