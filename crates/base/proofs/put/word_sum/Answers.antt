-- `put::word_sum` meets its contract.
use mathlib.Core.Path.{sym, ◌∙◌}
use native.Mathlib.Omega.{arith}
use Rattle.base.proofs.Adding.{sum_past, sum_within}
use Rattle.base.proofs.put.word_sum.Goals as goal

pub returns-in-Some : goal.returns-in-Some
returns-in-Some c = let args = c.args in
    let (fits, same) = c.in-Some.ensures in
    same ∙ sym (sum_within args.a args.n (omega arith))

pub returns-in_default : goal.returns-in_default
returns-in_default c = let args = c.args in
    let (fits, same) = c.in-Some.ensures in
    sym (sum_past args.a args.n (omega arith))

pub returns-in_default-2 : goal.returns-in_default-2
returns-in_default-2 c = let args = c.args in
    sym (sum_past args.a args.n (omega (arith, c.in_default.ensures)))
