-- What was written of a spelling: it serves the contracts of private functions.
use Rattle.std.specs.Prelude.{ℕ, ◌≡◌, List}
use Rattle.base.specs.Adds.{Adds}
use Rattle.printer.specs.declared.put.Output.{Output}

-- The piece s was written to an output, which is the same one.
pub record Appends (old : Output) (s : List ℕ) (new : Output) : Type 0 where
  pub same_output : new.out.ghost_name ≡ old.out.ghost_name
  pub adds : Adds s old.at old.out.now new.at new.out.now
