-- `put::Output::string` meets its contract.
use Rattle.printer.proofs.put.Appending.{appends_as}
use Rattle.printer.proofs.put.Pieces.{string_target, string_symbol}
use Rattle.printer.proofs.put.Output.string.Goals as goal

pub returns-then-class-eq-TARGET : goal.returns-then-class-eq-TARGET
returns-then-class-eq-TARGET c = appends_as (string_target c.args.class c.args.bytes.now c.if-class-eq-TARGET.true) c.quoted.ensures.appends

pub returns-else-class-eq-TARGET : goal.returns-else-class-eq-TARGET
returns-else-class-eq-TARGET c = appends_as (string_symbol c.args.class c.args.bytes.now c.if-class-eq-TARGET.false) c.bytes.ensures
