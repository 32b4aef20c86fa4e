-- The walks over an element's content meet their contracts. The invariant of a loop is `Walking`; each way through a loop's body is one law of `LoopInvariant`.
-- The measure is five times the bytes left, and a rank: `inside` hands the bytes on to `content_of`, that to a walk, and `item` to `inline`.
use Prim.Native.Nat.{◌+◌, ◌*◌, ◌-◌}
use lib.ListN.{length}
use Rattle.inside.specs.Machine.{state_of}
use Rattle.reader.proofs.lemmas.walk.LoopInvariant.{WalkingIn}
use Rattle.reader.proofs.lemmas.walk.ListItems.{Bare}
use Rattle.reader.proofs.walk.+content_of_inline_inside_item_list.Given as goal

abbrev pub decreases-content_of : goal.decreases-content_of
decreases-content_of l = 5 * (length l.text.now - l.from.place) + 3

abbrev pub decreases-inline : goal.decreases-inline
decreases-inline l = 5 * (length l.text.now - l.from.place) + 1

abbrev pub decreases-inside : goal.decreases-inside
decreases-inside l = 5 * (length l.text.now - l.from.place) + 4

abbrev pub decreases-item : goal.decreases-item
decreases-item l = 5 * (length l.text.now - l.from.place) + 2

abbrev pub decreases-list : goal.decreases-list
decreases-list l = 5 * (length l.text.now - l.from.place) + 1

abbrev pub invariant-inline-loop-element : goal.invariant-inline-loop-element
invariant-inline-loop-element l = WalkingIn l.text l.element l.fn.from l.initial.tape l.reached l.state l.tape

abbrev pub decreases-inline-loop-element : goal.decreases-inline-loop-element
decreases-inline-loop-element l = length l.text - l.reached.place

abbrev pub invariant-list-loop-reached : goal.invariant-list-loop-reached
invariant-list-loop-reached l = WalkingIn l.text l.element l.fn.from l.initial.tape l.reached l.state l.tape × Bare (state_of l.element.kind l.state)

abbrev pub decreases-list-loop-reached : goal.decreases-list-loop-reached
decreases-list-loop-reached l = length l.text - l.reached.place
