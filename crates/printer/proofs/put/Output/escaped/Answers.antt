-- `put::Output::escaped` meets its contract.
use Rattle.std.proofs.Common.{rules}
use Rattle.document.specs.rules.Canonical.{bytes_before}
use Rattle.printer.proofs.put.Appending.{appends_as, appends_none, appends_join}
use Rattle.printer.proofs.put.Pieces.{bytes_more, bytes_all}
use Rattle.printer.proofs.put.RawBytes.{appends_raw}
use Rattle.printer.proofs.put.Output.escaped.Goals as goal

pub loop-i-init : goal.loop-i-init
unfolding bytes_before
loop-i-init c = (search rules, appends_none _)

pub returns-then-bytes-end : goal.returns-then-bytes-end
returns-then-bytes-end c =
    appends_as (bytes_all c.args.bytes.now c.raw_end-end.result c.if-bytes-end.true)
    (appends_raw c.args.bytes.now c.loop-i.i c.raw_end-end.result c.raw_end-end.ensures c.loop-i.invariant.1 c.bytes.ensures)

pub loop-i-preserved : goal.loop-i-preserved
loop-i-preserved c =
    let run = appends_raw c.args.bytes.now c.loop-i.i c.raw_end-end.result c.raw_end-end.ensures c.loop-i.invariant.1 c.bytes.ensures in
    (search rules, appends_as (bytes_more c.args.bytes.now c.raw_end-end.result c.if-bytes-end.false) (appends_join run c.string_byte.ensures))
