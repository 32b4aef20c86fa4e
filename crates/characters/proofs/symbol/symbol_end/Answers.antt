-- `symbol::symbol_end` meets its contract.
use mathlib.Core.Path.{ap}
use native.Mathlib.Omega.{arith}
use lib.ListN.{length, drop_of_length-le}
use Rattle.syntax.specs.reference.Scan.{ordinary_run}
use Rattle.characters.proofs.Symbols.{run_turn, run_stop}
use Rattle.characters.proofs.symbol.symbol_end.Goals as goal

pub returns-then-not-is_ordinary : goal.returns-then-not-is_ordinary
returns-then-not-is_ordinary c =
    omega (arith, ap length (run_stop c.args.text.now c.loop-i.i c.loop-i-test.true cc))

pub loop-i-preserved : goal.loop-i-preserved
loop-i-preserved c =
    (omega arith, omega (arith, ap length (run_turn c.args.text.now c.loop-i.i c.loop-i-test.true cc)))

pub returns : goal.returns
unfolding ordinary_run
returns c = omega (arith, rw (drop_of_length-le _ c.loop-i-test.false) at c.loop-i.invariant.1)
