-- `structural::structural_print` meets its contract.
use Rattle.std.proofs.Common.{rules}
use Rattle.structural.proofs.Calls.{print_short, print_whole}
use Rattle.structural.proofs.structural_print.Goals as goal

pub returns-in_default : goal.returns-in_default
returns-in_default c = print_short _ _ _ _ _ _ (search rules)

pub returns : goal.returns
returns c = print_whole _ _ _ _ _ _ (search rules) _ _ c.print-p.ensures
