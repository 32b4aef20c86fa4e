-- The largest number that a word of the tape holds. It serves the contracts of private functions.
use Rattle.std.specs.Prelude.{ℕ}

abbrev pub most_word : ℕ
most_word = 4294967295
