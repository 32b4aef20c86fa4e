-- `Output::node` meets its contract.
use Rattle.std.proofs.Common.{append_assoc}
use Rattle.listing.specs.Listing.{node_line}
use Rattle.listing.proofs.Puts.{appends_on}
use Rattle.listing.proofs.Output.node.Goals as goal

pub returns : goal.returns
unfolding node_line
returns c =
    simp append_assoc at
    (appends_on c.number.ensures (appends_on c.number-2.ensures (appends_on c.parent.ensures (appends_on c.byte.ensures c.number-3.ensures))))
