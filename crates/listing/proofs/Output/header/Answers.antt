-- `Output::header` meets its contract.
use Rattle.elements.specs.rules.Bytes.{codes}
use Rattle.listing.specs.Listing.{header_line}
use Rattle.listing.proofs.Puts.{appends_on}
use Rattle.listing.proofs.Output.header.Goals as goal

pub returns : goal.returns
unfolding header_line codes
returns c = appends_on c.bytes.ensures (appends_on c.decimal.ensures (appends_on c.bytes-2.ensures c.number.ensures))
