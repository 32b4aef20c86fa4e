-- `put_too_long` meets its contract.
use Rattle.std.proofs.Common.{rules}
use Rattle.elements.specs.rules.Bytes.{codes}
use Rattle.listing.specs.Listing.{too_long}
use Rattle.listing.proofs.Puts.{puts_whole, left_whole}
use Rattle.listing.proofs.put_too_long.Goals as goal

pub returns : goal.returns
unfolding codes too_long
returns c = let line = c.bytes.ensures.puts in
    record { value = (puts_whole line).0; out_after = left_whole line (search rules) }
