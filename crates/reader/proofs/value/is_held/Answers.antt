-- `is_held` meets its contract, by the tests on the way.
use borrow.Author.Tests.{eq-eqb, ne_eqb}
use Rattle.reader.specs.internal.ParameterValue.{holds_sort}
use Rattle.reader.proofs.value.is_held.Goals as goal

pub returns-then-sort-eq-A_SYMBOL : goal.returns-then-sort-eq-A_SYMBOL
unfolding holds_sort
returns-then-sort-eq-A_SYMBOL c = rw (eq-eqb _ 1 c.if-sort-eq-A_SYMBOL.true)

pub returns-then-class-eq-TYPE_NAME : goal.returns-then-class-eq-TYPE_NAME
unfolding holds_sort
returns-then-class-eq-TYPE_NAME c = rw (ne_eqb _ 1 c.if-sort-eq-A_SYMBOL.false, eq-eqb _ 27 c.if-class-eq-TYPE_NAME.true)

pub returns : goal.returns
unfolding holds_sort
returns c = rw (ne_eqb _ 1 c.if-sort-eq-A_SYMBOL.false, ne_eqb _ 27 c.if-class-eq-TYPE_NAME.false)
