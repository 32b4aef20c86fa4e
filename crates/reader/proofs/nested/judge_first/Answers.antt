-- `judge_first` meets its contract: each way out is one law of `TopExpressions`.
use mathlib.Core.Path.{sym}
use Rattle.std.specs.Prelude.{length, Err}
use Rattle.reader.specs.internal.WalkAnswer.{told}
use Rattle.reader.proofs.lemmas.nested.TopExpressions.{first_refused, first_root, first_tape, root_starts}
use Rattle.reader.proofs.lemmas.walk.LoopInvariant.{past_fault}
use Rattle.reader.proofs.lemmas.walk.Refusals.{refusal_some, passed_up}
use Rattle.reader.proofs.nested.judge_first.Goals as goal

pub returns-in_err-root-clause-first_judged : goal.returns-in_err-root-clause-first_judged
returns-in_err-root-clause-first_judged c =
    rw (passed_up c.from_residual.result c.from_residual.ensures.1) (first_refused c.in_err-root.ensures)

pub inline-requires : goal.inline-requires
inline-requires c = root_starts c.in_ok-root.ensures c.requires

pub returns-in_err-end-clause-first_judged : goal.returns-in_err-end-clause-first_judged
returns-in_err-end-clause-first_judged c =
    let f = c.in_err-end.field-0.0 in
    rw (passed_up c.from_residual-in_err-end.result c.from_residual-in_err-end.ensures.1)
    (first_root c.in_ok-root.ensures (c.in_err-end.ensures.bounded, c.in_err-end.ensures.answers_from)
    (sym (past_fault (length c.args.text.now) (told (Err f)) (refusal_some f.refusal))))

pub returns-clause-first_judged : goal.returns-clause-first_judged
returns-clause-first_judged c =
    first_root c.in_ok-root.ensures (c.in_ok-end.ensures.bounded, c.in_ok-end.ensures.answers_from) c.past_bracket.ensures

pub returns-clause-tape_after : goal.returns-clause-tape_after
returns-clause-tape_after c =
    first_tape c.in_ok-root.ensures (c.in_ok-end.ensures.bounded, c.in_ok-end.ensures.answers_from) c.past_bracket.ensures (λ y. c.leave.ensures)
