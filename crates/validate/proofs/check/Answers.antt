-- `validate::check` meets its contract.
use native.Mathlib.Omega.{arith}
use mathlib.Core.Path.{◌∙◌}
use Rattle.document.specs.reference.Printing.{checked_as}
use Rattle.validate.proofs.lemmas.check.CheckAnswers.{not_there, few_nodes, node_fits, answered}
use Rattle.validate.proofs.check.Goals as goal

pub returns-in_default : goal.returns-in_default
returns-in_default c = rw (not_there _ _ _ _ c.in_default.ensures) (record { number = c.at.ensures.0; node = c.at.ensures.1 })

pub check_table-requires : goal.check_table-requires
check_table-requires c =
    let (there, lent) = c.in-Some.ensures in
    few_nodes _ _ _ _ _ lent there

pub overflow_cast-fault : goal.overflow_cast-fault
overflow_cast-fault c =
    let (there, lent) = c.in-Some.ensures in
    omega (arith, node_fits _ _ _ _ _ lent there _ c.check_table.ensures _ c.in-Err.is)

pub returns-in-Ok : goal.returns-in-Ok
unfolding checked_as
returns-in-Ok c =
    let (there, lent) = c.in-Some.ensures in
    let e = answered _ _ _ _ _ lent there _ c.check_table.ensures in
    rw (e, c.in-Ok.is) (record { number = c.at-in-Ok.ensures.0; node = c.at-in-Ok.ensures.1 })

pub returns-in-Err : goal.returns-in-Err
unfolding checked_as
returns-in-Err c =
    let (there, lent) = c.in-Some.ensures in
    let e = answered _ _ _ _ _ lent there _ c.check_table.ensures in
    rw (e, c.in-Err.is) (record { number = c.at-in-Err.ensures.0 ∙ c.number.ensures; node = c.at-in-Err.ensures.1 })
