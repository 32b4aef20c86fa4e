-- What printing answers and leaves in the output, told by the rules alone: one case for each number of document 01, "Printing returns number and length."
-- No test of a table is in these cases. That printing answers so, and in no other way, is proved in `proofs/PrintAccount.antt`.
use Rattle.std.specs.Prelude.{ℕ, ◌≤◌, ◌<◌, List, length}
use Rattle.base.specs.rules.Numbers as Number
use Rattle.document.specs.rules.Document.{Node}
use Rattle.document.specs.rules.Canonical.{canonical}
use Rattle.document.specs.rules.Memory.{over}
use Rattle.document.specs.rules.Draft.{Holds, Printed}

-- The outcome of printing the table of n records and m bytes into the output.
pub data PrintAnswers (words : List ℕ) (n : ℕ) (bytes : List ℕ) (m : ℕ) (out : List ℕ) : Printed → Type 0 where
  -- 20: not the node table of a draft within the limits, "or a count beyond what is lent; length 0"; the output is as it was.
  no_table : ((d : Node) → Holds words n bytes m d → ⊥)
      → PrintAnswers words n bytes m out (record { number = Number.not_a_table; size = 0; out = out })
  -- 21, "output too short; length needed"; the output is as it was.
  too_short : {d : Node} → Holds words n bytes m d → length out < length (canonical d)
      → PrintAnswers words n bytes m out (record { number = Number.output_short; size = length (canonical d); out = out })
  -- 0, "the spelling, its length, later bytes unaltered".
  spelled : {d : Node} → Holds words n bytes m d → length (canonical d) ≤ length out
      → PrintAnswers words n bytes m out (record { number = Number.ok; size = length (canonical d); out = over (canonical d) out })
