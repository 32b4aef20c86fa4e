-- `run_end` meets its contract: each way through the loop is one law of `TopExpressions`.
use native.Mathlib.Omega.{arith}
use mathlib.Core.Logic.{⊎_elim}
use Rattle.reader.proofs.lemmas.nested.TopExpressions.{running, run_ends, run_unclosed, run_stuck, run_closes, run_opens, run_passes, run_over, looked_within}
use Rattle.reader.proofs.nested.run_end.Goals as goal

pub loop-i-init : goal.loop-i-init
loop-i-init c = running _ _

pub returns-then-depth-eq0 : goal.returns-then-depth-eq0
returns-then-depth-eq0 c = ⊎_elim (λ e. run_ends c.look-seen.ensures c.loop-i.invariant c.if-seen-eq-THE_END.true e)
    (λ e. run_unclosed c.look-seen.ensures c.loop-i.invariant c.if-seen-eq-THE_END.true e.0 e.1) c.then-depth-eq0.either

pub loop-i-smaller-then-seen-eq-THE_END : goal.loop-i-smaller-then-seen-eq-THE_END
loop-i-smaller-then-seen-eq-THE_END c = omega (
  arith,
  (looked_within c.args.text.now
      c.loop-i.i c.look-seen.ensures (omega arith)).0,
)

pub loop-i-preserved-then-seen-eq-THE_END : goal.loop-i-preserved-then-seen-eq-THE_END
loop-i-preserved-then-seen-eq-THE_END c = run_closes c.look-seen.ensures c.loop-i.invariant (omega arith)
    c.if-seen-eq-THE_END.true c.if-depth-eq0.false

pub returns-then-next-i : goal.returns-then-next-i
returns-then-next-i c = run_stuck c.look-seen.ensures c.loop-i.invariant (omega arith) c.if-seen-eq-THE_END.false c.if-next-i.true

pub overflow_add-i-then-seen-eq-A_LIST : goal.overflow_add-i-then-seen-eq-A_LIST
overflow_add-i-then-seen-eq-A_LIST c = omega (
  arith,
  (looked_within c.args.text.now
      c.loop-i.i c.look-seen.ensures (omega arith)).2
      c.if-seen-eq-THE_END.false c.if-next-i.false,
)

pub loop-i-smaller-then-seen-eq-A_LIST : goal.loop-i-smaller-then-seen-eq-A_LIST
loop-i-smaller-then-seen-eq-A_LIST c = let b = looked_within c.args.text.now
    c.loop-i.i c.look-seen.ensures (omega arith) in omega
    (arith, b.0, b.2 c.if-seen-eq-THE_END.false c.if-next-i.false)

pub loop-i-preserved-then-seen-eq-A_LIST : goal.loop-i-preserved-then-seen-eq-A_LIST
loop-i-preserved-then-seen-eq-A_LIST c = run_opens c.look-seen.ensures c.loop-i.invariant (omega arith) c.if-seen-eq-A_LIST.true

pub loop-i-preserved : goal.loop-i-preserved
loop-i-preserved c = run_passes c.look-seen.ensures c.loop-i.invariant
    c.if-seen-eq-THE_END.false c.if-seen-eq-A_LIST.false c.if-next-i.false

pub returns : goal.returns
returns c = run_over c.loop-i.invariant c.loop-i-test.false
