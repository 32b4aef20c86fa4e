-- `Output::parent` meets its contract.
use borrow.Author.Tests.{eq-eqb, ne_eqb}
use Rattle.elements.specs.rules.Bytes.{codes}
use Rattle.base.specs.rules.Limits.{missing}
use Rattle.listing.specs.Listing.{parent_word}
use Rattle.listing.proofs.Output.parent.Goals as goal

pub returns-then-parent-eq-NO_PARENT : goal.returns-then-parent-eq-NO_PARENT
unfolding parent_word codes
returns-then-parent-eq-NO_PARENT c = rw (eq-eqb c.args.parent missing c.if-parent-eq-NO_PARENT.true) c.byte.ensures

pub returns-else-parent-eq-NO_PARENT : goal.returns-else-parent-eq-NO_PARENT
unfolding parent_word
returns-else-parent-eq-NO_PARENT c = rw (ne_eqb c.args.parent missing c.if-parent-eq-NO_PARENT.false) c.decimal.ensures
