-- `put::Output::bytes` meets its contract.
use Rattle.std.proofs.Common.{rules}
use Rattle.base.proofs.Adding.{adds_put}
use Rattle.printer.proofs.put.Output.bytes.Goals as goal

pub returns : goal.returns
returns c = record { same_output = search rules; adds = adds_put c.put_bytes-self.ensures }
