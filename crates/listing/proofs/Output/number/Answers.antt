-- `Output::number` meets its contract.
use Rattle.listing.proofs.Puts.{appends_on}
use Rattle.listing.proofs.Output.number.Goals as goal

pub returns : goal.returns
returns c = appends_on c.decimal.ensures c.byte.ensures
