-- `structural::structural_read_imperative` meets its contract.
use Rattle.std.proofs.Common.{rules}
use Rattle.document.specs.rules.Spelling.{imperative}
use Rattle.structural.proofs.Calls.{read_short, read_whole}
use Rattle.structural.proofs.structural_read_imperative.Goals as goal

pub returns-in_default : goal.returns-in_default
returns-in_default c = read_short imperative _ _ _ (search rules)

pub returns : goal.returns
returns c = read_whole imperative _ _ _ (search rules) _ _ c.read_imperative-a.ensures _ c.put_answer.ensures
