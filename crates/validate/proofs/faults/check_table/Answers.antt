-- `faults::check_table` meets its contract: a rule that is broken is answered, and one that holds leaves the answer to the later ones.
use mathlib.Core.Path.{◌∙◌, sym, ap}
use Rattle.std.proofs.lemmas.Result.{err_from_is_err_and}
use Rattle.validate.specs.declared.faults.Rule.TheVariants.{RepeatedId}
use Rattle.validate.specs.internal.CheckNumbers.{checked}
use Rattle.validate.proofs.lemmas.faults.FirstFault.{holds_nowhere, answer_15, answer_16, answer_17, answer_last}
use Rattle.validate.proofs.faults.check_table.Goals as goal

pub returns-in_err-kept : goal.returns-in_err-kept
returns-in_err-kept c = λ d h.
    let p = err_from_is_err_and c.from_residual.result c.from_residual.ensures.1 in
    rw (p.1, p.2) (answer_15 _ _ _ d h _ c.first_bad_row.ensures _ (sym c.kept.ensures ∙ c.in_err-kept.was))

pub returns-in_err-kept-2 : goal.returns-in_err-kept-2
returns-in_err-kept-2 c = λ d h.
    let p = err_from_is_err_and c.from_residual-in_err-kept-2.result c.from_residual-in_err-kept-2.ensures.1 in
    rw (p.1, p.2)
    (answer_16 _ _ _ d h _ c.first_bad_row.ensures _ (sym c.kept.ensures ∙ c.in_ok-kept.was) _
    (rw c.new-index.ensures.0 at c.first_repeated.ensures.0) _ (sym c.kept-2.ensures ∙ c.in_err-kept-2.was))

pub returns-in_err-kept-3 : goal.returns-in_err-kept-3
returns-in_err-kept-3 c = λ d h.
    let p = err_from_is_err_and c.from_residual-in_err-kept-3.result c.from_residual-in_err-kept-3.ensures.1 in
    let kept-2 = sym c.kept-2.ensures ∙ c.in_ok-kept-2.was in
    let table = c.first_repeated.ensures.1 ∙ c.new-index.ensures.0 in
    let count = rw c.new-index.ensures.0 at (c.first_repeated.ensures.2 (holds_nowhere RepeatedId _ _ kept-2)) in
    rw (p.1, p.2)
    (answer_17 _ _ _ d h _ c.first_bad_row.ensures _ (sym c.kept.ensures ∙ c.in_ok-kept.was) _
    (rw c.new-index.ensures.0 at c.first_repeated.ensures.0) _ kept-2 _
    (rw (table, count) at c.first_unknown.ensures) _ (sym c.kept-3.ensures ∙ c.in_err-kept-3.was))

pub returns : goal.returns
returns c = λ d h.
    let kept-2 = sym c.kept-2.ensures ∙ c.in_ok-kept-2.was in
    let table = c.first_repeated.ensures.1 ∙ c.new-index.ensures.0 in
    let count = rw c.new-index.ensures.0 at (c.first_repeated.ensures.2 (holds_nowhere RepeatedId _ _ kept-2)) in
    ap checked c.kept-4.ensures
    ∙ answer_last _ _ _ d h _ c.first_bad_row.ensures _ (sym c.kept.ensures ∙ c.in_ok-kept.was) _
    (rw c.new-index.ensures.0 at c.first_repeated.ensures.0) _ kept-2 _
    (rw (table, count) at c.first_unknown.ensures) _ (sym c.kept-3.ensures ∙ c.in_ok-kept-3.was) _
    (rw (table, count) at c.first_unknown-2.ensures)
