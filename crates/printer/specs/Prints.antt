-- What printing promises: number, length and the output at exit are the definition's.
use Rattle.std.specs.Prelude.{ℕ, ◌≡◌, List}
use Rattle.document.specs.rules.Draft as Defined
use Rattle.printer.specs.declared.Printed.{Printed}

pub record Prints (p : Defined.Printed) (r : Printed) (exit : List ℕ) : Type 0 where
  pub number : r.number ≡ p.number
  pub size : r.length ≡ p.size
  pub out : exit ≡ p.out
