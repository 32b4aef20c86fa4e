-- What the pair of reading and the check answers, told by the rules alone: one case for each number of document 01, "Numbers answered", 0 to 19.
-- That the pair answers so, and in no other way, is proved in `proofs/Pairs.antt`.
use Rattle.std.specs.Prelude.{ℕ, ◌≤◌, ◌≡◌, List, length, get_or}
use Rattle.base.specs.rules.Numbers as Number
use Rattle.document.specs.rules.Document.{Node}
use Rattle.document.specs.rules.Spelling.{Spelling, Spells, WithinLimits, node_places}
use Rattle.document.specs.rules.Table.{count, pool}
use Rattle.document.specs.rules.WellFormed.{FirstFault, WellFormed}
use Rattle.document.specs.rules.Memory.{Answer, Memory, Outcome, answer_at, node_room}
use Rattle.document.specs.rules.Account.{Answers}

-- What the pair answers of a text that is read into the lent memory m.
pub data PairAnswers (s : Spelling) (text : List ℕ) (m : Memory) : Answer → Type 0 where
  -- 1 to 14, 19
  pair_refused : {o : Outcome} → Answers s text m o → (o.answer.number ≡ Number.ok → ⊥) → PairAnswers s text m o.answer
  -- 15 to 18: at the place of the node that has the fault
  pair_fault : {d : Node} {k i : ℕ} (spells : Spells s d text) → WithinLimits s text spells.forest → count d ≤ node_room m → length (pool d) ≤ length m.pool
      → FirstFault d k i → PairAnswers s text m (answer_at text k (get_or (node_places spells) i 0) (count d) (length (pool d)))
  -- 0
  pair_accepted : {d : Node} (spells : Spells s d text) → WithinLimits s text spells.forest → count d ≤ node_room m → length (pool d) ≤ length m.pool
      → WellFormed d → PairAnswers s text m (answer_at text Number.ok 0 (count d) (length (pool d)))
