-- `put::raw_blocks` meets its contract.
use Rattle.std.proofs.Common.{rules, arith, ◌≡◌, ◌+◌, ◌*◌, add-zero}
use Rattle.printer.proofs.put.RawBytes.{raw_start, raw_two}
use Rattle.printer.proofs.put.raw_blocks.Goals as goal

pub loop-k-init : goal.loop-k-init
loop-k-init c = rw add-zero (raw_start c.args.bytes.now c.args.from (search rules))

pub loop-k-preserved : goal.loop-k-preserved
loop-k-preserved c =
    let next : c.args.from + 16 * c.loop-k.k + 16 ≡ c.args.from + 16 * (c.loop-k.k + 1) = omega arith in
    rw next at
    (raw_two c.args.bytes.now c.args.from (c.args.from + 16 * c.loop-k.k) c.loop-k.invariant (omega arith) c.raw_8.ensures c.raw_8-in-loop-k.ensures
    c.if-not-raw_8.false)
