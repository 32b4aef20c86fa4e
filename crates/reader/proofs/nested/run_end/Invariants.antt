-- `run_end` meets its contract: each way through the loop is one law of `TopExpressions`.
use Prim.Native.Nat.{◌-◌}
use lib.ListN.{length}
use Rattle.reader.proofs.lemmas.nested.TopExpressions.{Running}
use Rattle.reader.proofs.nested.run_end.Given as goal

abbrev pub invariant-loop-i : goal.invariant-loop-i
invariant-loop-i l = Running l.text l.from l.i l.depth

abbrev pub decreases-loop-i : goal.decreases-loop-i
decreases-loop-i l = length l.text - l.i
