-- `put::Output::quoted` meets its contract.
use Rattle.printer.proofs.put.Appending.{appends_as, appends_join}
use Rattle.printer.proofs.put.Pieces.{quoted_parts}
use Rattle.printer.proofs.put.Output.quoted.Goals as goal

pub returns-clause-appends : goal.returns-clause-appends
returns-clause-appends c =
    appends_as (quoted_parts c.args.bytes.now) (appends_join c.byte.ensures.appends (appends_join c.escaped.ensures c.byte-2.ensures.appends))
