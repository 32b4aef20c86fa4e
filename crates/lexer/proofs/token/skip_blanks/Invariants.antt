-- `token::skip_blanks` meets its contract. The loop's invariant: what is left of the white space from `at` on ends where the whole does.
use mathlib.Core.Path.{◌≡◌}
use Prim.Native.Nat.{◌+◌, ◌≤◌, max}
use lib.ListN.{length, drop}
use Rattle.lexer.specs.Token.{blanks}
use Rattle.lexer.proofs.token.skip_blanks.Given as goal

abbrev pub invariant-loop-at : goal.invariant-loop-at
invariant-loop-at l = (l.at ≤ max l.place (length l.text)) × (l.at + blanks (drop l.at l.text) ≡ l.place + blanks (drop l.place l.text))
