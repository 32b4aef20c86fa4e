-- `utf8::leading_ones` meets its contract: the complement of a byte b is 255 - b.
use borrow.Author.Rules.{rules}
use lib.Count.{count_leading_zeros}
use Rattle.utf8.specs.reference.Sequence.{leading_ones}
use Rattle.utf8.proofs.leading_ones.Goals as goal

pub returns : goal.returns
unfolding count_leading_zeros leading_ones
returns c = search rules
