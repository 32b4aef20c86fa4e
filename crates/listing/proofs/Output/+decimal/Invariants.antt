-- `Output::decimal` meets its contract. The measure is the number.
use Rattle.listing.proofs.Output.+decimal.Given as goal

abbrev pub decreases-decimal : goal.decreases-decimal
decreases-decimal l = l.n
