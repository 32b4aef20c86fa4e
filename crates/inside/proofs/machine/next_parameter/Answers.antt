-- `machine::next_parameter` meets its contract. The loop's invariant: what the specification says from the place on is what it says from the state's on.
use mathlib.Core.Path.{◌∙◌, refl, sym, ap}
use native.Mathlib.Omega.{arith}
use Rattle.elements.specs.rules.Rules.{rule_of}
use Rattle.elements.specs.rules.Inside.{go}
use Rattle.inside.proofs.Table.{past_four}
use Rattle.inside.proofs.Steps.{numbers_of_taken, numbers_of_refused, same_step, led_on, first_child, absent}
use Rattle.inside.proofs.Steps.{required_taken, neither, either_taken, optional_taken, passed, first_child_end, place_state}
use Rattle.inside.proofs.machine.next_parameter.Goals as goal

pub loop-place-init : goal.loop-place-init
loop-place-init c = (refl, refl)

pub returns-in-None : goal.returns-in-None
returns-in-None c = let now = first_child (rule_of c.args.kind).parameters c.loop-place.place _ _ c.in-None.ensures in
    same_step c.first_child.ensures (led_on now c.loop-place.invariant)

pub returns-then-class-required : goal.returns-then-class-required
returns-then-class-required c = let at = rw c.in-Some-Required.field-0-is at c.in-Some-Required.ensures in
    numbers_of_refused refl (λ z. omega arith) (sym (absent (rule_of c.args.kind).parameters c.loop-place.place _ _ _ at c.if-class-required.true) ∙ c.loop-place.invariant.0)

pub returns-in-Some-Required : goal.returns-in-Some-Required
returns-in-Some-Required c = let at = rw c.in-Some-Required.field-0-is at c.in-Some-Required.ensures in
    let (step, number) = led_on (required_taken (rule_of c.args.kind).parameters c.loop-place.place _ _ _ at c.if-class-required.false) c.loop-place.invariant in
    numbers_of_taken number (ap go (place_state _ _ (omega arith)) ∙ step)

pub returns-then-class-optional : goal.returns-then-class-optional
returns-then-class-optional c = let at = rw c.in-Some-Optional.field-0-is at c.in-Some-Optional.ensures in
    let (step, number) = led_on (optional_taken (rule_of c.args.kind).parameters c.loop-place.place _ _ _ at c.if-class-optional.true) c.loop-place.invariant in
    numbers_of_taken number (ap go (place_state _ _ (omega arith)) ∙ step)

pub returns-in-Some : goal.returns-in-Some
returns-in-Some c = let at = rw c.in-Some-IdType.field-0-is at c.in-Some-IdType.ensures in
    let (step, number) = led_on (either_taken (rule_of c.args.kind).parameters c.loop-place.place _ _ c.args.kind _ at c.in-Some.ensures) c.loop-place.invariant in
    numbers_of_taken number step

pub returns-in-None-id_type : goal.returns-in-None-id_type
returns-in-None-id_type c = let at = rw c.in-Some-IdType.field-0-is at c.in-Some-IdType.ensures in
    same_step c.first_child-in-None-id_type.ensures (led_on (neither (rule_of c.args.kind).parameters c.loop-place.place _ _ at c.in-None-id_type.ensures) c.loop-place.invariant)

pub loop-place-preserved : goal.loop-place-preserved
loop-place-preserved c = let at = rw c.in-Some-Optional.field-0-is at c.in-Some-Optional.ensures in
    led_on (passed (rule_of c.args.kind).parameters c.loop-place.place _ _ _ at c.if-class-optional.false) c.loop-place.invariant

pub returns : goal.returns
returns c = let now = first_child_end _ _ _ (past_four c.args.kind c.loop-place.place c.loop-place-test.false) in
    same_step c.first_child-2.ensures (led_on now c.loop-place.invariant)
