-- Bytes written one after another into an output, as far as it reaches.
use Rattle.std.specs.Prelude.{ℕ, ◌+◌, ◌≤◌, ◌≡◌, cond, List, leb, length}
use Rattle.std.proofs.lemmas.List.Edits.{sets}

-- The greatest number of a word of 32 bits.
abbrev pub greatest_word : ℕ
greatest_word = 4294967295

-- The sum of two numbers where it fits a word of 32 bits, and else 0.
unfoldable pub word_sum : ℕ → ℕ → ℕ
word_sum a n = cond (leb (a + n) greatest_word) (a + n) 0

-- The bytes s were written from index `at` on, as far as the output reaches, and r is the index after them.
-- Nothing is said where that passes a word: a run of writes may then have begun anew at 0.
pub record Adds (s : List ℕ) (at : ℕ) (out : List ℕ) (r : ℕ) (later : List ℕ) : Type 0 where
  pub next_index : at + length s ≤ greatest_word → r ≡ at + length s
  pub bytes_stored : at + length s ≤ greatest_word → later ≡ sets out at s
