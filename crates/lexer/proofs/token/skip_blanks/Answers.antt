-- `token::skip_blanks` meets its contract.
use mathlib.Core.Path.{◌≡◌, sym, ◌∙◌}
use native.Mathlib.Omega.{arith}
use Prim.Native.Nat.{◌+◌}
use lib.ListN.{get_or}
use Rattle.std.proofs.lemmas.Grind.{common_steps}
use Rattle.lexer.proofs.Blanks.{blanks_end, blank_on, blank_stop, return_on, return_stop, above_stop}
use Rattle.lexer.proofs.token.skip_blanks.Goals as goal
use Rattle.lexer.proofs.token.skip_blanks.Goals.{then-not-is_blank+else-b-ne13+else-ne, else-not-is_blank}

pub returns-then-b-gt32 : goal.returns-then-b-gt32
returns-then-b-gt32 c = omega (arith, (above_stop c.args.text.now c.loop-at.at c.if-b-gt32.true).1, c.loop-at.invariant)

pub returns-then-b-ne13 : goal.returns-then-b-ne13
returns-then-b-ne13 c =
    omega (arith, blank_stop c.args.text.now c.loop-at.at c.loop-at-test.true (sym c.is_blank.ensures ∙ c.if-not-is_blank.true) c.if-b-ne13.true, c.loop-at.invariant)

pub returns-then-ne : goal.returns-then-ne
returns-then-ne c =
    let other : get_or c.args.text.now (c.loop-at.at + 1) 0 ≡ 0x0A → ⊥ = λ e. grind (arith, common_steps) in
    omega (
      arith,
      return_stop c.args.text.now c.loop-at.at c.loop-at-test.true (sym c.is_blank.ensures ∙ c.if-not-is_blank.true) c.if-b-ne13.false other,
      c.loop-at.invariant,
    )

pub loop-at-preserved : goal.loop-at-preserved
loop-at-preserved c =
    let text = c.args.text.now in
    let at = c.loop-at.at in (
      omega arith,
      elim c.if-not-is_blank.branch [
        | then-not-is_blank+else-b-ne13+else-ne w ↦
            let feed : get_or text (at + 1) 0 ≡ 0x0A = grind (arith, common_steps) in
            return_on text at c.loop-at-test.true (sym c.is_blank.ensures ∙ w.if-not-is_blank.true) w.if-b-ne13.false feed ∙ c.loop-at.invariant.1
        | else-not-is_blank w ↦ blank_on text at c.loop-at-test.true (sym c.is_blank.ensures ∙ w.if-not-is_blank.false) ∙ c.loop-at.invariant.1
      ],
    )

pub returns : goal.returns
returns c = omega (arith, blanks_end c.args.text.now c.loop-at.at c.loop-at-test.false, c.loop-at.invariant)
