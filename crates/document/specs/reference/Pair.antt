-- The pair as a function: a read, and the check of what it left with the counts that it answered. Document 02, change request 1.
use Rattle.std.specs.Prelude.{ℕ, List}
use Rattle.document.specs.rules.Spelling.{Spelling}
use Rattle.document.specs.rules.Memory.{Answer, Memory, Outcome}
use Rattle.document.specs.rules.Draft.{Checked}
use Rattle.document.specs.rules.Pair.{pair_answer}
use Rattle.document.specs.reference.Outcome.{outcome}
use Rattle.document.specs.reference.Printing.{checking}

-- "the check given what reading left"
unfoldable pub check_left : Outcome → Checked
check_left o = checking o.memory.nodes o.answer.nodes o.memory.pool o.answer.pool

unfoldable pub paired : Spelling → List ℕ → Memory → Answer
paired s text m =
    let o = outcome s text m in
    pair_answer text o (check_left o)
