-- `value` meets its contract: each way out is one law of `TextValues`.
use mathlib.Core.Path.{◌≡◌, ◌∙◌}
use mathlib.Core.Bool.{cond}
use lib.Dec.{eqb}
use borrow.Author.Tests.{eq-eqb, ne_eqb}
use Rattle.reader.specs.internal.Tape.{type_noted, key_noted}
use Rattle.reader.proofs.lemmas.value.TextValues.{size_judged, value_nothing, value_bad, value_good, value_noted, not_there}
use Rattle.reader.proofs.value.value.Goals as goal
use Rattle.reader.proofs.value.value.Goals.{then-list-eq-TYPE_NAME, else-list-eq-TYPE_NAME}

pub returns-then-list-eq-SIZE-clause-value : goal.returns-then-list-eq-SIZE-clause-value
returns-then-list-eq-SIZE-clause-value c = size_judged _ _ _ _ c.if-list-eq-SIZE.true c.size.ensures.value

pub returns-in_err-one-clause-value : goal.returns-in_err-one-clause-value
returns-in_err-one-clause-value c =
    let is = c.in_err-one.ensures in
    rw (not_there c.only.result c.from_residual.ensures.1 is.value is.ok_part)
    (value_nothing _ _ _ _ c.if-list-eq-SIZE.false (rw is.ok_part at c.only.ensures))

pub returns-then-not-is_value-clause-value : goal.returns-then-not-is_value-clause-value
returns-then-not-is_value-clause-value c =
    value_bad _ _ _ _ c.if-list-eq-SIZE.false (rw c.in_ok-one.ensures.ok_part at c.only.ensures) c.is_value.ensures c.if-not-is_value.true

pub returns-clause-value : goal.returns-clause-value
returns-clause-value c =
    value_good _ _ _ _ c.if-list-eq-SIZE.false (rw c.in_ok-one.ensures.ok_part at c.only.ensures) c.is_value.ensures c.if-not-is_value.false

pub returns-clause-notes : goal.returns-clause-notes
returns-clause-notes c =
    let a = c.args in
    let o = c.in_ok-one.one in
    let stored : c.if-list-eq-TYPE_NAME.tape ≡ cond (eqb a.list.class 27) (type_noted a.tape.now a.parent.node o.place)
    (key_noted a.tape.now a.parent.node o.place)
    = elim c.if-list-eq-TYPE_NAME.branch [
      | then-list-eq-TYPE_NAME w ↦ rw (eq-eqb _ 27 w.if-list-eq-TYPE_NAME.true) (w.tape-is ∙ w.note_type.ensures)
      | else-list-eq-TYPE_NAME w ↦ rw (ne_eqb _ 27 w.if-list-eq-TYPE_NAME.false) (w.tape-is ∙ w.note_key.ensures)
    ] in
    value_noted c.if-list-eq-SIZE.false (rw c.in_ok-one.ensures.ok_part at c.only.ensures) stored
