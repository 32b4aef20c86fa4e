-- `run::plain_end` meets its contract. The loop's invariant: from `i` on the run ends where it ends from `from` on.
use mathlib.Core.Path.{sym, ◌∙◌}
use native.Mathlib.Omega.{arith}
use Rattle.atoms.proofs.run.PlainRuns.{plain_passed, plain_past, plain_one, plain_stop}
use Rattle.atoms.proofs.run.plain_end.Goals as goal

pub loop-i-init : goal.loop-i-init
loop-i-init c = (omega arith, c.block_end-start.ensures ∙ c.blocks_end.ensures)

pub returns-then-not-plain : goal.returns-then-not-plain
returns-then-not-plain c = omega (
  arith,
  plain_stop c.args.text.now c.loop-i.i
      c.loop-i-test.true (sym c.plain.ensures ∙ c.if-not-plain.true),
  c.loop-i.invariant,
)

pub loop-i-preserved : goal.loop-i-preserved
loop-i-preserved c = (
  omega arith,
  plain_passed c.args.text.now c.loop-i.i 1 (sym (plain_one c.args.text.now c.loop-i.i c.loop-i-test.true) ∙ sym c.plain.ensures ∙ c.if-not-plain.false)
      ∙ c.loop-i.invariant.1,
)

pub returns : goal.returns
returns c = omega (arith, plain_past c.args.text.now c.loop-i.i c.loop-i-test.false, c.loop-i.invariant)
