-- `index::id_of` meets its contract.
use mathlib.Core.Path.{◌∙◌, sym}
use Rattle.validate.proofs.lemmas.index.RowIds.{none_past, none_other, none_empty, key_is, held_one}
use Rattle.validate.proofs.index.id_of.Goals as goal

pub returns-in_err-row : goal.returns-in_err-row
returns-in_err-row c = rw c.from_residual.ensures (none_past c.args.table.now c.args.target c.args.i c.in_err-row.ensures)

pub returns-then-not-takes : goal.returns-then-not-takes
returns-then-not-takes c =
    none_other c.args.table.now c.args.target c.args.i c.in_ok-row.row c.in_ok-row.ensures (sym c.takes.ensures ∙ c.if-not-takes.true)

pub returns-then-is_empty : goal.returns-then-is_empty
returns-then-is_empty c =
    none_empty c.args.table.now c.args.target c.args.i c.in_ok-row.row c.in_ok-row.ensures _ c.key-id.ensures (sym c.is_empty.ensures ∙ c.if-is_empty.true)

pub returns-else-is_empty : goal.returns-else-is_empty
returns-else-is_empty c = (
  held_one c.args.table.now c.args.target c.args.i c.in_ok-row.row c.in_ok-row.ensures _ c.key-id.ensures (sym c.takes.ensures ∙ c.if-not-takes.false)
      (sym c.is_empty.ensures ∙ c.if-is_empty.false),
  key_is c.args.table.now c.args.target c.args.i c.in_ok-row.row c.in_ok-row.ensures _ c.key-id.ensures,
)
