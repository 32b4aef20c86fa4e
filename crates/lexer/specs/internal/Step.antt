-- What the functions of the scan's loop answer, one step of it each.
use Rattle.std.specs.Prelude.{ℕ, ◌+◌, cond, List, eqb, get_or, Result, Ok, Err}
use Rattle.base.specs.rules.Numbers as Number
use Rattle.atoms.specs.Atom.{StringEnd}
use Rattle.lexer.specs.declared.scanner.Fault.{Fault}
use Rattle.lexer.specs.Token.{kind_number}

-- What the scan does at a byte that is no bracket: number 0 and the place where it goes on; or the fault and its place.
pub record Passed : Type 0 where
  pub number : ℕ
  pub place : ℕ
  pub next : ℕ

-- The code's answer so.
unfoldable pub passed : Result ℕ Fault → Passed
passed (Ok n) = record { number = Number.ok; place = 0; next = n }
passed (Err f) = record { number = kind_number f.kind; place = f.place; next = 0 }

unfoldable pub step_goes_on : ℕ → Passed
step_goes_on n = record { number = Number.ok; place = 0; next = n + 1 }

unfoldable pub stops : ℕ → Passed
stops n = record { number = Number.forbidden_character; place = n; next = 0 }

unfoldable pub past_string : StringEnd → Passed
past_string e = record { number = e.number; place = e.place; next = e.next }

-- At a carriage return at place n, with which the bytes s begin.
unfoldable pub return_at : ℕ → List ℕ → Passed
return_at n s = cond (eqb (get_or s 1 0) 0x0A) (step_goes_on n) (stops n)
