-- What a function leaves that puts bytes into an output as far as that reaches. It serves the contracts of private functions.
use Rattle.std.specs.Prelude.{ℕ, ◌+◌, min, max, ◌≡◌, List, length}
use Rattle.std.proofs.lemmas.List.Edits.{sets}
use Rattle.listing.specs.declared.Output.{Output}

-- The bytes stand in the output from index `at` on; `next` is the place after them, and never past the output's end.
pub record Puts (start : List ℕ) (at : ℕ) (bytes : List ℕ) (out : List ℕ) (next : ℕ) : Type 0 where
  pub next_place : next ≡ min (at + length bytes) (max at (length start))
  pub bytes_stored : out ≡ sets start at bytes

-- The bytes were put into an output after those that stand in it.
pub record Appends (old : Output) (bytes : List ℕ) (new : Output) : Type 0 where
  pub same_output : new.out.ghost_name ≡ old.out.ghost_name
  pub puts : Puts old.out.now old.at bytes new.out.now new.at
