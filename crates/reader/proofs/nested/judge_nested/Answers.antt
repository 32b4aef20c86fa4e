-- `judge_nested` meets its contract: each way out is one law of `TopExpressions`.
use Rattle.syntax.specs.rules.Expression.{none}
use Rattle.reader.specs.internal.WalkAnswer.{told, walked_to}
use Rattle.reader.proofs.lemmas.nested.TopExpressions.{judge_two, judge_one}
use Rattle.reader.proofs.lemmas.walk.Refusals.{passed_up}
use Rattle.reader.proofs.nested.judge_nested.Goals as goal

pub returns-then-other-text-clause-value : goal.returns-then-other-text-clause-value
unfolding walked_to
returns-then-other-text-clause-value c =
    judge_two (told c.judge_first-w.result) c.judge_first-w.ensures.first_judged c.second_after-other.ensures c.if-other-text.true

pub returns-in_err-end : goal.returns-in_err-end
returns-in_err-end c =
    let one = judge_one (told c.judge_first-w.result) c.judge_first-w.ensures.first_judged c.second_after-other.ensures c.if-other-text.false in
    rw (passed_up c.from_residual.result c.from_residual.ensures.1) (record {
      value = rw c.in_err-end.was at one;
      tape_after = λ e u y. c.in_err-end.ensures.tape_after e none u y;
    })

pub returns : goal.returns
returns c =
    let one = judge_one (told c.judge_first-w.result) c.judge_first-w.ensures.first_judged c.second_after-other.ensures c.if-other-text.false in
    record {
      value = rw c.in_ok-end.was at one;
      tape_after = λ e u y. c.in_ok-end.ensures.tape_after e none u y;
    }
