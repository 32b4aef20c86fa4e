-- What the buyer is promised, of calls of `read_nested`, `read_imperative`, `check` and `print`: what was passed, what was answered and what was left.
-- Every definition that is named here is a rule (specs/rules/ of crate document); no reader, search or test is in them. The theorems are in `proofs/Demands.antt`.
use Rattle.std.specs.Prelude.{ℕ, ◌*◌, ◌≤◌, ◌≡◌, ◌⊎◌, List, length, take}
use Rattle.base.specs.rules.Limits.{most_bytes}
use Rattle.base.specs.rules.Numbers as Number
use Rattle.document.specs.rules.Document.{Node}
use Rattle.document.specs.rules.Record.{record_length}
use Rattle.document.specs.rules.Spelling.{Spelling, nested, Spells, WithinLimits}
use Rattle.document.specs.rules.WellFormed.{WellFormed}
use Rattle.document.specs.rules.Memory as Memory
use Rattle.document.specs.rules.Memory.{Memory, Outcome, over}
use Rattle.document.specs.rules.Readable.{Fits, Readable, Read, Alike}
use Rattle.document.specs.rules.Account.{Answers}
use Rattle.document.specs.rules.Canonical.{canonical}
use Rattle.document.specs.rules.Draft as Defined
use Rattle.document.specs.rules.Draft.{Holds}
use Rattle.document.specs.rules.CheckAccount.{CheckAnswers}
use Rattle.document.specs.rules.Pair.{pair_answer}
use Rattle.document.specs.rules.PrintAccount.{PrintAnswers}
use Rattle.printer.specs.declared.Printed.{Printed}
use Rattle.validate.specs.declared.Checked.{Checked}
use Rattle.reader.specs.declared.Answer.{Answer}
use Rattle.reader.specs.Read.{Reads}
use Rattle.structural.specs.rules.PairAccount.{PairAnswers}

-- The outcome of a call of either reading function: what it answered and what it left in the lent memory.
unfoldable pub called : Answer → Memory → Outcome
called r exit =
    record {
      answer = record { number = r.number; place = r.place; line = r.line; column = r.column; nodes = r.nodes; pool = r.pool };
      memory = exit;
    }

-- Demand 1. "Every text gets an answer": the account tells what the call answered and left, number by number, and nothing else that it tells is so.
abbrev pub Demand1 : Spelling → List ℕ → Memory → Answer → Memory → Type 0
Demand1 s text m r exit = Answers s text m (called r exit) × ((o : Outcome) → Answers s text m o → called r exit ≡ o)

-- In short: the number is at most 14, or 19, and every number but 0 leaves the lent memory as it was.
abbrev pub Unaltered : Memory → Answer → Memory → Type 0
Unaltered m r exit =
    ((r.number ≤ Number.pool_short) ⊎ (r.number ≡ Number.nested_too_deep)) × ((r.number ≡ Number.ok → ⊥) → exit ≡ m)

-- Demand 3 of reading alone. The number is 0 exactly when the text is within the limits and spells a draft ("well-formed but for rows, ids and links")
-- that fits the room; node words, pool and counts are then that draft's; and no text spells two documents.
abbrev pub Demand3 : Spelling → List ℕ → Memory → Answer → Memory → Type 0
Demand3 s text m r exit =
    (r.number ≡ Number.ok → (d : Node) × Readable s text m d × Read m (called r exit) d)
    × ((d : Node) → Readable s text m d → Read m (called r exit) d)
    × ((d d' : Node) → Spells s d text → Spells s d' text → d ≡ d')

-- The answer of a call of the check.
unfoldable pub checked : Checked → Defined.Checked
checked c = record { number = c.number; node = c.node }

-- The account of the check tells what the call answered, number by number, and nothing else that it tells is so.
abbrev pub CheckAccount : List ℕ → ℕ → List ℕ → ℕ → Checked → Type 0
CheckAccount words n bytes m c =
    CheckAnswers words n bytes m (checked c) × ((o : Defined.Checked) → CheckAnswers words n bytes m o → checked c ≡ o)

-- The check passes exactly the tables of well-formed documents within the limits,
abbrev pub PassedExactly : List ℕ → ℕ → List ℕ → ℕ → Checked → Type 0
PassedExactly words n bytes m c =
    (c.number ≡ Number.ok → (d : Node) × Holds words n bytes m d × WellFormed d)
    × ((d : Node) → Holds words n bytes m d → WellFormed d → c.number ≡ Number.ok)

-- and answers 20 exactly where no table of a draft is held, or a count is beyond what is lent.
abbrev pub NoDraftExactly : List ℕ → ℕ → List ℕ → ℕ → ℕ → Type 0
NoDraftExactly words n bytes m number =
    (number ≡ Number.not_a_table → (d : Node) → Holds words n bytes m d → ⊥) × (((d : Node) → Holds words n bytes m d → ⊥) → number ≡ Number.not_a_table)

-- Demand 3 of the pair, the check given what reading left: both answer 0 exactly when the text is within the limits and spells a well-formed document that
-- fits the room; node words, pool and counts are then that document's.
abbrev pub Demand3Pair : Spelling → List ℕ → Memory → Answer → Memory → Checked → Type 0
Demand3Pair s text m r exit c =
    (r.number ≡ Number.ok → c.number ≡ Number.ok → (d : Node) × Readable s text m d × WellFormed d × Read m (called r exit) d)
    × ((d : Node) → Readable s text m d → WellFormed d → Read m (called r exit) d × (c.number ≡ Number.ok))

-- The pair answers all that document 01 answers of a text, 0 to 19, place, line and column too, and nothing else.
abbrev pub PairAccount : Spelling → List ℕ → Memory → Answer → Memory → Checked → Type 0
PairAccount s text m r exit c =
    PairAnswers s text m (pair_answer text (called r exit) (checked c))
    × ((a : Memory.Answer) → PairAnswers s text m a → pair_answer text (called r exit) (checked c) ≡ a)

-- No text spells two documents, in whatever spelling each is taken.
abbrev pub OneDocument : Type 0
OneDocument = (s s' : Spelling) (text : List ℕ) (d d' : Node) → Spells s d text → Spells s' d' text → d ≡ d'

-- Two calls on texts within the limits that spell one document, in either spelling each, are alike but for places.
abbrev pub SameDocument : Spelling → Spelling → Node → List ℕ → List ℕ → Outcome → Outcome → Type 0
SameDocument s s' d text text' o o' =
    (sp : Spells s d text) (sp' : Spells s' d text') → WithinLimits s text sp.forest → WithinLimits s' text' sp'.forest → Alike o o'

-- The outcome of a call of print: what it answered and what it left of the output.
unfoldable pub printed : Printed → List ℕ → Defined.Printed
printed p exit = record { number = p.number; size = p.length; out = exit }

-- The account of printing tells what the call answered and left, number by number, and nothing else that it tells is so.
abbrev pub PrintAccount : List ℕ → ℕ → List ℕ → ℕ → List ℕ → Printed → List ℕ → Type 0
PrintAccount words n bytes m out p exit =
    PrintAnswers words n bytes m out (printed p exit) × ((o : Defined.Printed) → PrintAnswers words n bytes m out o → printed p exit ≡ o)

-- The call wrote the canonical spelling of d to the front of the output, and that is a nested spelling of d.
pub record Wrote (d : Node) (out : List ℕ) (p : Printed) (exit : List ℕ) : Type 0 where
  pub length_is : p.length ≡ length (canonical d)
  pub written : exit ≡ over (canonical d) out
  pub spells : Spells nested d (canonical d)

-- A call of read that was lent `lent` answered 0 with the counts n and m, and left these words and bytes at the front of it.
pub record ReadBack (words : List ℕ) (n : ℕ) (bytes : List ℕ) (m : ℕ) (lent : Memory) (r : Answer) (left : Memory) : Type 0 where
  pub accepted : r.number ≡ Number.ok
  pub nodes : r.nodes ≡ n
  pub bytes_read : r.pool ≡ m
  pub node_words : left.nodes ≡ over (take (record_length * n) words) lent.nodes
  pub pool_bytes : left.pool ≡ over (take m bytes) lent.pool

-- Demand 2. Under 0 the canonical spelling of the draft whose table is held is written, which spells it by the rules alone; and reading it back,
-- where it is within the limits and the room is enough, gives the same node words, pool and counts.
abbrev pub Demand2 : List ℕ → ℕ → List ℕ → ℕ → List ℕ → Printed → List ℕ → Type 0
Demand2 words n bytes m out p exit =
    p.number ≡ Number.ok → (d : Node) × Holds words n bytes m d × Wrote d out p exit
    × ((lent left : Memory) (r : Answer) → Reads nested (canonical d) lent r left → length (canonical d) ≤ most_bytes → Fits d lent
    → ReadBack words n bytes m lent r left)

-- Printing answers 20 exactly where the check does.
abbrev pub RefusedExactly : List ℕ → ℕ → List ℕ → ℕ → Printed → Type 0
RefusedExactly words n bytes m p = NoDraftExactly words n bytes m p.number

-- Printing what a read of the text left under 0 never answers 20, and what it holds is the table of the document that the text spells.
abbrev pub ReadPrinted : Spelling → List ℕ → Answer → Memory → Printed → Type 0
ReadPrinted s text r left p =
    (d : Node) × Spells s d text × Holds left.nodes r.nodes left.pool r.pool d × (p.number ≡ Number.not_a_table → ⊥)
