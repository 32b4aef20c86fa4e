-- `run::plain_end` meets its contract. The loop's invariant: from `i` on the run ends where it ends from `from` on.
use mathlib.Core.Path.{◌≡◌}
use Prim.Native.Nat.{◌+◌, ◌≤◌, max}
use lib.ListN.{length}
use Rattle.atoms.proofs.run.PlainRuns.{plains}
use Rattle.atoms.proofs.run.plain_end.Given as goal

abbrev pub invariant-loop-i : goal.invariant-loop-i
invariant-loop-i l = (l.i ≤ max l.start (length l.text)) × (l.i + plains l.text l.i ≡ l.from + plains l.text l.from)
