-- `run::plain_block` meets its contract.
use native.Mathlib.Omega.{arith}
use Rattle.atoms.proofs.run.PlainRuns.{plain_more}
use Rattle.atoms.proofs.run.plain_block.Goals as goal

pub loop-k-preserved : goal.loop-k-preserved
loop-k-preserved g c = rw (c.loop-k.invariant, c.plain-all.ensures) (plain_more c.args.text.now c.args.i c.loop-k.k (omega arith))
