-- `values::take_value` meets its contract: each way out is one law of `ValueSteps`.
use mathlib.Core.Path.{◌∙◌, sym}
use borrow.Author.Tests.{eqb-true, eqb-false}
use Rattle.elements.specs.rules.Characters.{character_of}
use Rattle.characters.specs.Codes.{alphabet_number}
use Rattle.validate.proofs.lemmas.values.ValueSteps.{value_missing, value_fault, value_taken, value_unfit}
use Rattle.validate.proofs.values.take_value.Goals as goal

pub returns-then-is_empty : goal.returns-then-is_empty
returns-then-is_empty c = value_missing _ _ _ _ (eqb-true _ 0 (sym c.is_empty.ensures ∙ c.if-is_empty.true))

pub returns-in_err-next : goal.returns-in_err-next
returns-in_err-next c =
    let (fault, e) = c.in_err-next.ensures in
    rw c.from_residual.ensures (value_fault _ _ _ fault e _ (eqb-false _ 0 (sym c.is_empty.ensures ∙ c.if-is_empty.false)))

pub returns-then-fits : goal.returns-then-fits
returns-then-fits c =
    value_taken _ _ _ _ c.in_ok-next.ensures (character_of (alphabet_number c.sort.result)) _ (eqb-false _ 0 (sym c.is_empty.ensures ∙ c.if-is_empty.false)) (c.sort.ensures _) (sym c.fits.ensures ∙ c.if-fits.true)

pub returns-else-fits : goal.returns-else-fits
returns-else-fits c =
    value_unfit _ _ _ _ c.in_ok-next.ensures (character_of (alphabet_number c.sort.result)) _ (eqb-false _ 0 (sym c.is_empty.ensures ∙ c.if-is_empty.false)) (c.sort.ensures _) (sym c.fits.ensures ∙ c.if-fits.false)
