-- `validate::head_names` meets its contract. The loop's invariant: the first head among the children from `at` on is that of all.
use Prim.Native.Nat.{◌-◌}
use Rattle.document.specs.rules.Document.{Nodes}
use Rattle.validate.specs.internal.TableWords.{Family}
use Rattle.validate.proofs.lemmas.faults.Children.{HeadSought}
use Rattle.validate.proofs.faults.head_names.Given as goal

abbrev pub invariant-loop-at : goal.invariant-loop-at
invariant-loop-at l = (ns : Nodes) → Family l.nodes l.t ns → HeadSought l.nodes l.t l.at l.end ns

abbrev pub decreases-loop-at : goal.decreases-loop-at
decreases-loop-at l = l.end - l.at
