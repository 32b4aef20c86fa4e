-- `put::raw` meets its contract.
use Rattle.printer.proofs.put.RawBytes.{raw_tested}
use Rattle.printer.proofs.put.raw.Goals as goal

pub returns : goal.returns
returns c = raw_tested c.args.b
