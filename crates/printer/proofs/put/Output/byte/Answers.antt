-- `put::Output::byte` meets its contract.
use Rattle.std.proofs.Common.{rules}
use Rattle.base.proofs.Adding.{adds_byte, sum_most}
use Rattle.printer.proofs.put.Output.byte.Goals as goal

pub returns : goal.returns
returns c = record {
  fits = sum_most _ _ c.put_byte-self.ensures.0;
  appends = record { same_output = search rules; adds = adds_byte c.put_byte-self.ensures };
}
