-- `machine::none_required` meets its contract. The loop's invariant: what the specification says from the place on is what it says from the first one on.
use mathlib.Core.Path.{◌∙◌, refl, sym}
use Rattle.elements.specs.rules.Rules.{rule_of}
use Rattle.inside.proofs.Table.{past_four}
use Rattle.inside.proofs.Steps.{no_parameter_left, none_required_end, required_first, not_required}
use Rattle.inside.proofs.machine.none_required.Goals as goal

pub loop-place-init : goal.loop-place-init
loop-place-init c = refl

pub returns-in-None : goal.returns-in-None
returns-in-None c = let end = no_parameter_left (rule_of c.args.kind).parameters c.loop-place.place c.in-None.ensures in
    sym (none_required_end end) ∙ c.loop-place.invariant

pub returns-in-Some : goal.returns-in-Some
returns-in-Some c = let required = sym c.is_required.ensures ∙ c.if-is_required.true in
    sym (required_first (rule_of c.args.kind).parameters c.loop-place.place _ required c.in-Some.ensures) ∙ c.loop-place.invariant

pub loop-place-preserved : goal.loop-place-preserved
loop-place-preserved c = let other = sym c.is_required.ensures ∙ c.if-is_required.false in
    sym (not_required (rule_of c.args.kind).parameters c.loop-place.place _ other c.in-Some.ensures) ∙ c.loop-place.invariant

pub returns : goal.returns
returns c = sym (none_required_end (past_four c.args.kind c.loop-place.place c.loop-place-test.false)) ∙ c.loop-place.invariant
