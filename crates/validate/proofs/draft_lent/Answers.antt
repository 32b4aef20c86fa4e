-- `validate::draft_lent` meets its contract.
use mathlib.Core.Path.{◌∙◌}
use Rattle.validate.proofs.lemmas.check.CheckAnswers.{none_there, tested}
use Rattle.validate.proofs.draft_lent.Goals as goal

pub returns-in_err-table : goal.returns-in_err-table
returns-in_err-table c = rw c.from_residual.ensures (none_there _ _ _ _ c.in_err-table.ensures)

pub returns-then-is_table : goal.returns-then-is_table
returns-then-is_table c =
    let lent = c.in_ok-table.ensures in
    (tested _ _ _ _ _ lent _ c.is_table.ensures ∙ c.if-is_table.true, lent)

pub returns-else-is_table : goal.returns-else-is_table
returns-else-is_table c = tested _ _ _ _ _ c.in_ok-table.ensures _ c.is_table.ensures ∙ c.if-is_table.false
