-- The walks over blocks meet their contracts. The invariant of each loop is `Gone`; each way through a loop's body is one law of `BlockTurns`.
-- The measure is twice the bytes left, and one for `child`, which hands them on to `block`.
use Prim.Native.Nat.{◌+◌, ◌*◌, ◌-◌}
use lib.ListN.{length}
use Rattle.reader.specs.internal.BlockWalk.{InCommand, InContent}
use Rattle.reader.proofs.lemmas.commands.BlockTurns.{Gone}
use Rattle.reader.proofs.commands.+block_child_content.Given as goal

abbrev pub decreases-block : goal.decreases-block
decreases-block l = 2 * (length l.text.now - l.from.place)

abbrev pub decreases-child : goal.decreases-child
decreases-child l = 2 * (length l.text.now - l.from.place) + 1

abbrev pub decreases-content : goal.decreases-content
decreases-content l = 2 * (length l.text.now - l.from.place)

abbrev pub invariant-block-loop-reached : goal.invariant-block-loop-reached
invariant-block-loop-reached l = Gone (InCommand l.text l.element.at l.element.kind l.element.node) l.text
    l.fn.from.place 0 l.fn.from.nodes l.fn.from.pool l.initial.tape l.reached.place l.state l.reached.nodes l.reached.pool l.tape

abbrev pub decreases-block-loop-reached : goal.decreases-block-loop-reached
decreases-block-loop-reached l = length l.text - l.reached.place

abbrev pub invariant-content-loop-seen : goal.invariant-content-loop-seen
invariant-content-loop-seen l = Gone (InContent l.text l.element.at l.element.kind l.element.node) l.text
    l.fn.from.place l.read l.fn.from.nodes l.fn.from.pool l.initial.tape l.reached.place l.state l.reached.nodes l.reached.pool l.tape

abbrev pub decreases-content-loop-seen : goal.decreases-content-loop-seen
decreases-content-loop-seen l = length l.text - l.reached.place
