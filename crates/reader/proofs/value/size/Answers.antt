-- `size` meets its contract: each way out is one law of `SizeValues`.
use Rattle.reader.proofs.lemmas.value.TextValues.{not_there}
use Rattle.reader.proofs.lemmas.value.SizeValues.{size_unfit, size_unfit_height, size_unfit_third, size_within, size_good, size_notes}
use Rattle.reader.proofs.value.size.Goals as goal

pub returns-in_err-width-clause-value : goal.returns-in_err-width-clause-value
returns-in_err-width-clause-value c =
    let is = c.in_err-width.ensures in
    rw (not_there c.number_at.result c.from_residual.ensures.1 is.value is.ok_part)
    (size_unfit c.args.at c.args.parent.kind c.args.from.nodes c.args.from.pool (rw is.ok_part at c.number_at.ensures))

pub returns-in_err-height-clause-value : goal.returns-in_err-height-clause-value
returns-in_err-height-clause-value c =
    let is = c.in_err-height.ensures in
    rw (not_there c.number_at-2.result c.from_residual-in_err-height.ensures.1 is.value is.ok_part)
    (size_unfit_height _ _ _ _ (rw c.in_ok-width.ensures.ok_part at c.number_at.ensures) (rw is.ok_part at c.number_at-2.ensures))

pub returns-then-last-ne-THE_END-clause-value : goal.returns-then-last-ne-THE_END-clause-value
returns-then-last-ne-THE_END-clause-value c =
    size_unfit_third _ _ _ _ (rw c.in_ok-width.ensures.ok_part at c.number_at.ensures) (rw c.in_ok-height.ensures.ok_part at c.number_at-2.ensures)
    c.look-last.ensures c.if-last-ne-THE_END.true

pub returns : goal.returns
returns c =
    let width = rw c.in_ok-width.ensures.ok_part at c.number_at.ensures in
    let height = rw c.in_ok-height.ensures.ok_part at c.number_at-2.ensures in
    let last = c.look-last.ensures in
    record {
      bounded = size_within width height last c.requires.1 c.requires.2;
      value = size_good _ _ _ _ width height last c.if-last-ne-THE_END.false;
      notes = size_notes width height last c.if-last-ne-THE_END.false c.note_size.ensures;
    }
