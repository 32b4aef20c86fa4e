-- What a read into the lent memory answers for a program: a draft to go on with, or the line of a text that is too long or refused.
use Rattle.std.specs.Prelude.{ℕ, ◌≡◌, ◌≤◌, List, length}
use Rattle.base.specs.rules.Numbers as Number
use Rattle.document.specs.rules.Spelling.{Spelling}
use Rattle.document.specs.rules.Memory.{Memory, Outcome}
use Rattle.reader.specs.Read.{Reads}
use Rattle.reader.specs.declared.Answer.{Answer}
use Rattle.listing.specs.Listing.{Lists, longest_text, lent_memory, printed_by}

-- An output of so many bytes holds the line of every refusal.
abbrev pub longest_refusal : ℕ
longest_refusal = 41

-- The text is one that the programs read, and the read into the memory m was not refused.
pub record Accepts (s : Spelling) (text : List ℕ) (m : Memory) (a : Answer) (exit : Memory) : Type 0 where
  pub short : length text ≤ longest_text
  pub accepted : a.number ≡ Number.ok
  pub reads : Reads s text m a exit

-- The line of the text stands whole at the output's start, whatever is printed of a document: where that line fits, and the memory is the one of the definition.
abbrev pub Refuses : Spelling → List ℕ → Memory → List ℕ → ℕ → List ℕ → Type 0
Refuses s text m start r out =
    m ≡ lent_memory → longest_refusal ≤ length start → (document : Outcome → List ℕ) → Lists (printed_by document s text) start r out
