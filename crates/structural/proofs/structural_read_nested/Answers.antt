-- `structural::structural_read_nested` meets its contract.
use Rattle.std.proofs.Common.{rules}
use Rattle.document.specs.rules.Spelling.{nested}
use Rattle.structural.proofs.Calls.{read_short, read_whole}
use Rattle.structural.proofs.structural_read_nested.Goals as goal

pub returns-in_default : goal.returns-in_default
returns-in_default c = read_short nested _ _ _ (search rules)

pub returns : goal.returns
returns c = read_whole nested _ _ _ (search rules) _ _ c.read_nested-a.ensures _ c.put_answer.ensures
