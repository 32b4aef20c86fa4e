-- What the two public functions promise, in one place: the answer and the lent memory at exit are those of `outcome`.
use Rattle.std.specs.Prelude.{◌≡◌, List, ℕ}
use Rattle.document.specs.rules.Spelling.{Spelling}
use Rattle.document.specs.rules.Memory as Defined
use Rattle.document.specs.reference.Outcome.{outcome}
use Rattle.document.specs.rules.Memory.{Memory}
use Rattle.reader.specs.declared.Answer.{Answer}

-- The answer that a function gives is the definition's.
pub record SameAnswer (a : Defined.Answer) (r : Answer) : Type 0 where
  pub number : r.number ≡ a.number
  pub place : r.place ≡ a.place
  pub line : r.line ≡ a.line
  pub column : r.column ≡ a.column
  pub nodes : r.nodes ≡ a.nodes
  pub pool : r.pool ≡ a.pool

-- Reading a text in a spelling into these lists gives this answer and leaves those lists.
pub record Reads (s : Spelling) (text : List ℕ) (m : Memory) (r : Answer) (exit : Memory) : Type 0 where
  pub answers : SameAnswer (outcome s text m).answer r
  pub leaves : exit ≡ (outcome s text m).memory
