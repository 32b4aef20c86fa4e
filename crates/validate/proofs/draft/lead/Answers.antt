-- `draft::lead` meets its contract: each way out is one law of `ValueSteps`.
use Prim.Native.Nat.{◌<◌, ◌+◌}
use native.Mathlib.Omega.{arith}
use mathlib.Core.Path.{◌≡◌, ◌∙◌, sym}
use mathlib.Core.Bool.{false}
use Rattle.elements.specs.rules.Rules.{rule_of}
use Rattle.document.specs.rules.Canonical.{node_first}
use Rattle.validate.proofs.lemmas.values.ValueSteps.{lead_none, lead_due, lead_taken, lead_refused}
use Rattle.validate.proofs.draft.lead.Goals as goal
use Rattle.validate.proofs.draft.lead.Goals.{else-row-end-via-then-row-end+else-is_titled, else-row-end-via-else-row-end}

pub returns-then-value_levels-eq0 : goal.returns-then-value_levels-eq0
returns-then-value_levels-eq0 c = lead_none c.args.row.now _ _ (sym c.value_levels.ensures ∙ c.if-value_levels-eq0.true)

pub returns-then-is_titled : goal.returns-then-is_titled
returns-then-is_titled c = lead_due c.args.row.now _ _ (sym c.is_titled.ensures ∙ c.if-is_titled.true) c.if-row-end.true

pub returns-in_err-state : goal.returns-in_err-state
returns-in_err-state c =
    let h : c.args.row.now.number + 1 < c.args.end → node_first (rule_of c.args.kind).parameters ≡ false =
    elim c.else-row-end.branch [
      | else-row-end-via-then-row-end+else-is_titled w ↦ λ l. sym w.is_titled.ensures ∙ w.if-is_titled.false
      | else-row-end-via-else-row-end w ↦ λ l. absurd (omega (arith, w.if-row-end.false))
    ] in
    rw c.from_residual.ensures (lead_refused c.args.row.now _ _ h c.in_err-state.ensures)

pub returns : goal.returns
returns c =
    let h : c.args.row.now.number + 1 < c.args.end → node_first (rule_of c.args.kind).parameters ≡ false =
    elim c.else-row-end.branch [
      | else-row-end-via-then-row-end+else-is_titled w ↦ λ l. sym w.is_titled.ensures ∙ w.if-is_titled.false
      | else-row-end-via-else-row-end w ↦ λ l. absurd (omega (arith, w.if-row-end.false))
    ] in
    lead_taken c.args.row.now _ _ h c.in_ok-state.ensures
