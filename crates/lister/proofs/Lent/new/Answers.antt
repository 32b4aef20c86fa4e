-- `Lent::new` meets its contract.
use Rattle.std.proofs.Common.{refl}
use Rattle.listing.specs.Listing.{lent_memory}
use Rattle.lister.proofs.Lent.new.Goals as goal

pub returns : goal.returns
unfolding lent_memory
returns c = refl
