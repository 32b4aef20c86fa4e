-- `put::Output::size` meets its contract.
use Rattle.printer.proofs.put.Appending.{appends_as, appends_none, appends_join}
use Rattle.printer.proofs.put.Pieces.{shown_none, shown_parts}
use Rattle.printer.proofs.put.Output.size.Goals as goal

pub returns-in_default : goal.returns-in_default
returns-in_default c = rw c.in_default.is (appends_as shown_none (appends_none _))

pub returns : goal.returns
returns c =
    rw c.in-Some.is (appends_as (shown_parts c.in-Some.width c.in-Some.height)
    (appends_join c.bytes.ensures
    (appends_join c.digits.ensures (appends_join c.byte.ensures.appends (appends_join c.digits-2.ensures c.byte-2.ensures.appends)))))
