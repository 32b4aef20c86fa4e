-- `put::Output::value` meets its contract.
use Rattle.std.proofs.Common.{rules}
use Rattle.printer.proofs.put.Appending.{appends_as, appends_none, appends_join}
use Rattle.printer.proofs.put.Pieces.{value_none, value_parts}
use Rattle.printer.proofs.put.Output.value.Goals as goal

pub returns-then-is_empty : goal.returns-then-is_empty
returns-then-is_empty c = appends_as (value_none c.args.class c.args.bytes.now (search rules)) (appends_none _)

pub returns : goal.returns
returns c =
    appends_as (value_parts c.args.class c.args.bytes.now (search rules))
    (appends_join c.bytes.ensures
    (appends_join c.name.ensures (appends_join c.byte.ensures.appends (appends_join c.string.ensures c.byte-2.ensures.appends))))
