-- `judge_imperative` meets its contract: each way out is one law of `WholeText`.
use mathlib.Core.Path.{refl}
use native.Mathlib.Omega.{arith}
use Rattle.reader.proofs.lemmas.walk.Refusals.{refusal_some}
use Rattle.reader.proofs.lemmas.commands.WholeText.{exit_judged, root_refused, root_starts, document_fault, document_fine}
use Rattle.reader.proofs.commands.judge_imperative.Goals as goal

pub returns-in_err-root : goal.returns-in_err-root
returns-in_err-root c =
    let whole = root_refused _ c.args.tape.now c.in_err-root.ensures in
    rw (exit_judged _ _ c.from_residual.ensures.1) (record { value = whole.0; tape_after = whole.1 })

pub block-requires : goal.block-requires
block-requires c = root_starts _ _ c.in_ok-root.ensures c.requires

pub leave-requires : goal.leave-requires
leave-requires c = omega (arith, c.in_ok-end.ensures.bounded.bounds refl, c.requires)

pub returns-in_err-end : goal.returns-in_err-end
returns-in_err-end c =
    let block = c.in_err-end.ensures in
    let whole = document_fault _ _ c.in_ok-root.ensures block.bounded block.in_command (refusal_some _) in
    rw (exit_judged _ _ c.from_residual-in_err-end.ensures.1) (record { value = whole.0; tape_after = whole.1 })

pub returns : goal.returns
returns c =
    let block = c.in_ok-end.ensures in
    let whole = document_fine _ _ c.in_ok-root.ensures block.bounded block.in_command refl c.leave.ensures in
    record { value = whole.0; tape_after = whole.1 }
