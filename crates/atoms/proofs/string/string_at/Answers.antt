-- `string::string_at` meets its contract. The loop's invariant: what follows `i` finishes the string with the answer.
use mathlib.Core.Path.{◌≡◌, ◌∙◌}
use Prim.Native.Nat.{◌+◌, ◌-◌}
use native.Mathlib.Omega.{arith}
use lib.ListN.{get_or}
use Rattle.std.proofs.lemmas.Grind.{common_steps}
use Rattle.atoms.specs.Atom.{ended}
use Rattle.atoms.specs.internal.StringStep.{bad_string_end}
use Rattle.atoms.proofs.string.StringSteps.{walk, at_start, past_end, run_end, escape_inside, run_stopped, run_bad}
use Rattle.atoms.proofs.string.string_at.Goals as goal

pub returns-then-text-place : goal.returns-then-text-place
unfolding ended bad_string_end
returns-then-text-place c = past_end c.args.text.now _ c.if-text-place.true

pub loop-place-init : goal.loop-place-init
loop-place-init c = (omega arith, at_start _ _)

pub returns-then-ne : goal.returns-then-ne
returns-then-ne c =
    let other : get_or c.args.text.now c.plain_end-end.result 0 ≡ 0x5C → ⊥ = λ e. grind (arith, common_steps) in
    c.stopped.ensures
    ∙ run_stopped (run_end c.args.text.now c.args.place c.loop-place.i c.loop-place.length c.plain_end-end.result _ c.plain_end-end.ensures c.loop-place.invariant.1) other

pub returns-in_default : goal.returns-in_default
unfolding ended bad_string_end
returns-in_default c =
    let escape : get_or c.args.text.now c.plain_end-end.result 0 ≡ 0x5C = grind (arith, common_steps) in
    run_bad (run_end c.args.text.now c.args.place c.loop-place.i c.loop-place.length c.plain_end-end.result _ c.plain_end-end.ensures c.loop-place.invariant.1) escape
    (c.in_default.ensures (escape_inside c.args.text.now c.plain_end-end.result escape))

pub overflow_add-length-in-loop-place : goal.overflow_add-length-in-loop-place
overflow_add-length-in-loop-place c =
    let escape : get_or c.args.text.now c.plain_end-end.result 0 ≡ 0x5C = grind (arith, common_steps) in
    let inside = escape_inside c.args.text.now c.plain_end-end.result escape in
    let turned = walk c.args.text.now 0 c.plain_end-end.result 0 c.in-Some.p inside (c.in-Some.ensures inside) in
    omega (arith, turned)

pub loop-place-smaller : goal.loop-place-smaller
loop-place-smaller c =
    let escape : get_or c.args.text.now c.plain_end-end.result 0 ≡ 0x5C = grind (arith, common_steps) in
    let inside = escape_inside c.args.text.now c.plain_end-end.result escape in
    let turned = walk c.args.text.now 0 c.plain_end-end.result 0 c.in-Some.p inside (c.in-Some.ensures inside) in
    omega (arith, turned, inside)

pub loop-place-preserved : goal.loop-place-preserved
loop-place-preserved c =
    let args = c.args in
    let loop = c.loop-place in
    let end = c.plain_end-end.result in
    let escape : get_or args.text.now end 0 ≡ 0x5C = grind (arith, common_steps) in
    let inside = escape_inside args.text.now end escape in
    let turned = walk args.text.now args.place end (loop.length + (end - loop.i)) c.in-Some.p inside (c.in-Some.ensures inside) in
    (omega (arith, turned), turned.3 ∙ (run_end args.text.now args.place loop.i loop.length end _ c.plain_end-end.ensures loop.invariant.1).same)
