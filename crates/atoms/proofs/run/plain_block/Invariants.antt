-- `run::plain_block` meets its contract. The loop's invariant: the bytes so far are plain.
use mathlib.Core.Path.{◌≡◌}
use lib.Dec.{leb}
use Rattle.atoms.proofs.run.PlainRuns.{plains}
use Rattle.atoms.proofs.run.plain_block.Given as goal

abbrev pub invariant-loop-k : goal.invariant-loop-k
invariant-loop-k g l = l.all ≡ leb l.k (plains l.text l.i)
