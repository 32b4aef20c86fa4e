-- What the check of a table answers, told by the rules alone: one case for each number. Document 02, change request 1: "a separate check on a table answers
-- 15 to 18 with the node number", and 20 first. No search is in these cases. That the check answers so, and in no other way, is proved in `proofs/CheckAccount.antt`.
use Rattle.std.specs.Prelude.{ℕ, List}
use Rattle.base.specs.rules.Numbers as Number
use Rattle.document.specs.rules.Document.{Node}
use Rattle.document.specs.rules.WellFormed.{FirstFault, WellFormed}
use Rattle.document.specs.rules.Draft.{Holds, Checked}

-- The answer of the check of n records and m bytes.
pub data CheckAnswers (words : List ℕ) (n : ℕ) (bytes : List ℕ) (m : ℕ) : Checked → Type 0 where
  -- 20: "a table that no draft within the printer's limits has, or a count beyond what is lent"
  no_draft : ((d : Node) → Holds words n bytes m d → ⊥) → CheckAnswers words n bytes m (record { number = Number.not_a_table; node = 0 })
  -- 15 to 18, with the first node that has the fault
  has_fault : {d : Node} {k i : ℕ} → Holds words n bytes m d → FirstFault d k i → CheckAnswers words n bytes m (record { number = k; node = i })
  -- 0
  has_none : {d : Node} → Holds words n bytes m d → WellFormed d → CheckAnswers words n bytes m (record { number = Number.ok; node = 0 })
