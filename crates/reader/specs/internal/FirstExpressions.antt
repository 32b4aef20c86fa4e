-- The first two expressions of a nested text, which numbers 7 to 12 are about. It serves the contracts of private functions.
use Rattle.std.specs.Prelude.{ℕ, ◌≡◌, List, length}
use Rattle.base.specs.rules.Numbers as Number
use Rattle.syntax.specs.rules.Expression.{Exprs, none, and, place}
use Rattle.document.specs.reference.Meaning.{fault, judge_root}
use Rattle.reader.specs.internal.RunStands.{RunStands}
use Rattle.reader.specs.internal.Counts.{node_count, pool_bytes}
use Rattle.reader.specs.internal.WalkAnswer.{Walked, walked_to}

-- The place of the first of these expressions in a text of n bytes, and n where there is none.
unfoldable pub first_place : ℕ → Exprs → ℕ
first_place n none = n
first_place n (and x es) = place x

-- The place of the second, and n where there is none.
unfoldable pub second_place : ℕ → Exprs → ℕ
second_place n none = n
second_place n (and x es) = first_place n es

-- w is the answer of the first expression of a text, whatever follows it: from w's next place on, where it has no fault.
abbrev pub FirstJudged : List ℕ → Exprs → Walked → Type 0
FirstJudged s none w = w ≡ walked_to 0 0 0 (fault Number.not_one_expression (length s))
FirstJudged s (and x es) w = (w ≡ walked_to w.next (node_count x) (pool_bytes x) (judge_root x)) × (w.number ≡ 0 → RunStands s w.next es (length s))
