-- `rows::allowed` meets its contract: the bits of a row's number are the classes that may stand, and none is past them.
use mathlib.Core.Path.{sym}
use Rattle.inside.proofs.Table.{past_classes, content_at}
use Rattle.inside.proofs.rows.allowed.Goals as goal

pub returns-then-class-ge32 : goal.returns-then-class-ge32
returns-then-class-ge32 c = sym (past_classes _ _ c.if-class-ge32.true)

pub returns : goal.returns
returns c = rw c.row_of-row.ensures.1
    (content_at c.args.kind c.args.class c.if-class-ge32.false)
