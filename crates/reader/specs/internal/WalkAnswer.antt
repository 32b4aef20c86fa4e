-- What a walk over a run of expressions answers. It serves the contracts of private functions.
use Rattle.std.specs.Prelude.{ℕ, ◌≤◌, ◌<◌, ◌≡◌, List, Result, Ok, Err, length}
use Rattle.base.specs.rules.Limits.{most_bytes}
use Rattle.document.specs.reference.Meaning.{Verdict, fine, fault}
use Rattle.document.specs.reference.Outcome.{Reading, refused, read}
use Rattle.base.specs.Refusals.{number}
use Rattle.reader.specs.declared.walk.Reached.{Reached}
use Rattle.reader.specs.declared.walk.Refused.{Refused}
use Rattle.reader.specs.declared.root.Counts.{Counts}
use Rattle.reader.specs.internal.TapeWord.{most_word}
use Rattle.reader.specs.internal.Counts.{node_count, pool_bytes}

-- An answer in numbers: 0, the place where the run ends and the counts so far, or the number and the place of a fault.
pub record Walked : Type 0 where
  pub number : ℕ
  pub place : ℕ
  pub next : ℕ
  pub nodes : ℕ
  pub pool : ℕ

-- The numbers of what a walk answers.
abbrev pub told : Result Reached Refused → Walked
told (Ok r) = record { number = 0; place = 0; next = r.place; nodes = r.nodes; pool = r.pool }
told (Err f) = record { number = number f.refusal; place = f.place; next = 0; nodes = 0; pool = 0 }

-- The numbers of what judging a whole text answers.
abbrev pub judged : Result Counts Refused → Walked
judged (Ok c) = record { number = 0; place = 0; next = 0; nodes = c.nodes; pool = c.pool }
judged (Err f) = record { number = number f.refusal; place = f.place; next = 0; nodes = 0; pool = 0 }

-- With no fault: the place where the run ends, and the counts of nodes and pool bytes so far. With a fault: its number and place.
unfoldable pub walked_to : ℕ → ℕ → ℕ → Verdict → Walked
walked_to e n p fine = record { number = 0; place = 0; next = e; nodes = n; pool = p }
walked_to e n p (fault m q) = record { number = m; place = q; next = 0; nodes = 0; pool = 0 }

-- How many pool bytes a walk may have counted at a place: no more than there are bytes before it. The one place that says so.
abbrev pub PoolBound : ℕ → ℕ → Type 0
PoolBound p i = p ≤ i

-- A walk may go on at place i with n nodes and p pool bytes counted, in the element with number `node`: no more are counted than bytes were passed, the text is
-- within the limit, and the number is a word.
abbrev pub MayStart : List ℕ → ℕ → ℕ → ℕ → ℕ → Type 0
MayStart s i n p node = (i ≤ length s) × (n ≤ i) × PoolBound p i × (length s ≤ most_bytes) × (node ≤ most_word)

-- The same of a list at `at`, which may be one node more.
abbrev pub MayEnter : List ℕ → ℕ → ℕ → ℕ → ℕ → ℕ → Type 0
MayEnter s at i n p node = (i ≤ length s) × (n < i) × PoolBound p i × (length s ≤ most_bytes) × (node ≤ most_word) × (at ≤ length s)

-- Where a walk that started at place i has got to, whatever the text holds: not past the end, and with no more nodes and pool bytes than bytes.
pub record Bounded (s : List ℕ) (i : ℕ) (r : Walked) : Type 0 where
  pub bounds : r.number ≡ 0 → (i ≤ r.next) × (r.next ≤ length s) × (r.nodes ≤ r.next) × PoolBound r.pool r.next

-- The outcome of judging a whole text, as a walk's answer: a refusal, or the counts of the document.
unfoldable pub read_walked : Reading → Walked
read_walked (refused n p) = record { number = n; place = p; next = 0; nodes = 0; pool = 0 }
read_walked (read e) = record { number = 0; place = 0; next = 0; nodes = node_count e; pool = pool_bytes e }
