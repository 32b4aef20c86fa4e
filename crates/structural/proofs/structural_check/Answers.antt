-- `structural::structural_check` meets its contract.
use Rattle.std.proofs.Common.{rules}
use Rattle.structural.proofs.Calls.{check_short, check_whole}
use Rattle.structural.proofs.structural_check.Goals as goal

pub returns-in_default : goal.returns-in_default
returns-in_default c = check_short _ _ _ _ _ (search rules)

pub returns : goal.returns
returns c = check_whole _ _ _ _ _ (search rules) _ c.check-c.ensures
