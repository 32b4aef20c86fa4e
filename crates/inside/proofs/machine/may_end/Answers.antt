-- `machine::may_end` meets its contract.
use mathlib.Core.Path.{◌∙◌, sym}
use Rattle.inside.proofs.Table.{empty_but_verbatim}
use Rattle.inside.proofs.Steps.{place_state, ended_at, unended_at, ended_child, ended_between}
use Rattle.inside.proofs.machine.may_end.Goals as goal

pub returns-then-state-ge-HOLDING : goal.returns-then-state-ge-HOLDING
returns-then-state-ge-HOLDING c = sym (ended_child _ _ c.if-state-ge-HOLDING.true)

pub returns-then-state-ge-AFTER_ID : goal.returns-then-state-ge-AFTER_ID
returns-then-state-ge-AFTER_ID c = sym (ended_between _ _ c.if-state-ge-AFTER_ID.true c.if-state-ge-HOLDING.false ∙ empty_but_verbatim _)

pub returns-then-not-none_required : goal.returns-then-not-none_required
returns-then-not-none_required c = sym (unended_at _ _ c.if-state-ge-AFTER_ID.false (sym c.none_required.ensures ∙ c.if-not-none_required.true))

pub returns : goal.returns
returns c = sym
    (ended_at _ _ _ (place_state _ _ c.if-state-ge-AFTER_ID.false) (sym c.none_required.ensures ∙ c.if-not-none_required.false)
    ∙ empty_but_verbatim _)
