-- `validate::first_bad_row` meets its contract. The loop's invariant: the first bad row is the first from node `i` on.
use Prim.Native.Nat.{◌-◌}
use Rattle.document.specs.reference.Check.{First}
use Rattle.validate.specs.internal.TableWords.{Searched}
use Rattle.validate.proofs.faults.first_bad_row.Given as goal

abbrev pub invariant-loop-i : goal.invariant-loop-i
invariant-loop-i l = (f : First) → Searched l.table.nodes.now l.table.count 0 f → Searched l.table.nodes.now (l.table.count - l.i) l.i f
