-- `put::raw_end` meets its contract.
use native.Mathlib.Omega.{arith}
use lib.ListN.{length}
use Rattle.printer.proofs.put.RawBytes.{raw_first, raw_on, raw_join}
use Rattle.printer.proofs.put.raw_end.Goals as goal

pub returns-then-raw_rest : goal.returns-then-raw_rest
returns-then-raw_rest c = let args = c.args in
    let raw-blocks = c.raw_blocks-first in
    let rest = c.raw_rest.ensures c.if-raw_rest.true in
    raw_join args.bytes.now args.from raw-blocks.result (length args.bytes.now) raw-blocks.ensures rest

pub loop-i-init : goal.loop-i-init
loop-i-init c = c.raw_blocks-first.ensures

pub loop-i-preserved : goal.loop-i-preserved
loop-i-preserved c = let args = c.args in
    let loop = c.loop-i in
    let raw = c.raw in
    let inside = c.loop-i-test.true in
    let one = raw_first args.bytes.now loop.i inside raw.ensures (c.if-not-raw.false) in
    raw_on args.bytes.now args.from loop.i 1 loop.invariant (omega arith) one
