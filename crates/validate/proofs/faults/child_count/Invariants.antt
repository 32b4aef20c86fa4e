-- `validate::child_count` meets its contract. The loop's invariant: `n` and the children from `at` on are as many as the children.
use Prim.Native.Nat.{◌≤◌, ◌-◌}
use Rattle.document.specs.rules.Document.{Nodes}
use Rattle.validate.specs.internal.TableWords.{Family}
use Rattle.validate.proofs.lemmas.faults.Children.{ChildrenCounted}
use Rattle.validate.proofs.faults.child_count.Given as goal

abbrev pub invariant-loop-at : goal.invariant-loop-at
invariant-loop-at l = (l.n ≤ l.at) × ((ns : Nodes) → Family l.nodes l.i ns → ChildrenCounted l.nodes l.i l.at l.end l.n ns)

abbrev pub decreases-loop-at : goal.decreases-loop-at
decreases-loop-at l = l.end - l.at
