-- `machine::next_child` meets its contract.
use mathlib.Core.Path.{◌∙◌, refl, sym, ap}
use mathlib.Core.Bool.{not}
use native.Mathlib.Omega.{arith}
use borrow.Author.Tests.{eq-eqb, ne_eqb}
use Rattle.inside.proofs.Table.{no_include, empty_but_verbatim}
use Rattle.inside.proofs.Steps.{numbers_of_taken, numbers_of_refused}
use Rattle.inside.proofs.Children.{next_of_one, next_refused, next_other, next_same}
use Rattle.inside.proofs.machine.next_child.Goals as goal

pub returns-then-not-allowed : goal.returns-then-not-allowed
returns-then-not-allowed c = next_refused _ _ _ c.refused.ensures (sym c.allowed.ensures ∙ c.if-not-allowed.true) _ _

pub returns-then-kind : goal.returns-then-kind
returns-then-kind c = let stands = sym c.allowed.ensures ∙ c.if-not-allowed.false in
    numbers_of_refused refl (λ z. omega arith) (next_of_one _ _ _ (no_include _ _ stands) (empty_but_verbatim _ ∙ ap not (eq-eqb _ _ c.if-kind.true)))

pub returns-then-sort-state : goal.returns-then-sort-state
returns-then-sort-state c = let stands = sym c.allowed.ensures ∙ c.if-not-allowed.false in
    numbers_of_refused refl (λ z. omega arith)
    (next_other _ _ (no_include _ _ stands)
    stands
    c.significance-sort.ensures
    (empty_but_verbatim _ ∙ ap not (ne_eqb _ _ c.if-kind.false))
    _
    c.if-sort-state.true)

pub returns : goal.returns
returns c = let stands = sym c.allowed.ensures ∙ c.if-not-allowed.false in
    numbers_of_taken refl
    (next_same _ _ (no_include _ _ stands)
    stands
    c.significance-sort.ensures
    (empty_but_verbatim _ ∙ ap not (ne_eqb _ _ c.if-kind.false))
    _
    c.if-sort-state.false
    c.requires)
