-- `fit::string_fits` meets its contract. The loop's invariant is `StringLeft`.
use mathlib.Core.Path.{◌∙◌}
use native.Mathlib.Omega.{arith}
use Rattle.atoms.proofs.fit.CharactersFit.{string_start, string_none, string_past, string_stopped, string_further, string_turn, string_refused}
use Rattle.atoms.proofs.fit.string_fits.Goals as goal

pub returns-then-text-place : goal.returns-then-text-place
returns-then-text-place c = string_none c.args.text.now c.args.place _ c.if-text-place.true

pub loop-i-init : goal.loop-i-init
loop-i-init c = string_start c.args.text.now c.args.place _

pub returns-in_default : goal.returns-in_default
returns-in_default c =
    string_stopped c.args.text.now c.args.place _ c.loop-i.i c.loop-i.invariant c.loop-i-test.true (c.in_default.ensures c.loop-i-test.true)

pub returns-then-not-has : goal.returns-then-not-has
returns-then-not-has c =
    c.is_err.ensures.value
    ∙ string_refused c.args.text.now c.args.place _ c.loop-i.i c.loop-i.invariant c.loop-i-test.true c.in-Some.p (c.in-Some.ensures c.loop-i-test.true)
    _ c.has.ensures c.if-not-has.true c.string_at.result c.string_at.ensures

pub loop-i-smaller : goal.loop-i-smaller
loop-i-smaller c =
    omega (
      arith,
      string_further c.args.text.now c.args.place _ c.loop-i.i c.loop-i.invariant c.loop-i-test.true c.in-Some.p (c.in-Some.ensures c.loop-i-test.true),
    )

pub loop-i-preserved : goal.loop-i-preserved
loop-i-preserved c =
    string_turn c.args.text.now c.args.place _ c.loop-i.i c.loop-i.invariant c.loop-i-test.true c.in-Some.p (c.in-Some.ensures c.loop-i-test.true)
    _ c.has.ensures c.if-not-has.false

pub returns : goal.returns
returns c = string_past c.args.text.now c.args.place _ c.loop-i.i c.loop-i.invariant c.loop-i-test.false
