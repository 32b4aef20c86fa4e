-- `put::raw_8` meets its contract: each test adds a byte to those before it.
use Rattle.std.proofs.Common.{arith}
use Rattle.printer.proofs.put.RawBytes.{raw_none, raw_more}
use Rattle.printer.proofs.put.raw_8.Goals as goal

pub loop-k-init : goal.loop-k-init
loop-k-init c = λ e. raw_none

pub loop-k-preserved : goal.loop-k-preserved
loop-k-preserved c =
    raw_more c.args.bytes.now c.args.i c.loop-k.k (omega arith) c.loop-k.invariant c.raw-all.ensures
