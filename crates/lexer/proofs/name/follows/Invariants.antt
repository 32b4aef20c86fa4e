-- `name::follows` meets its contract. The loop's invariant: the word stands there if all compared so far were the same and what is left of it stands after them.
use mathlib.Core.Path.{◌≡◌}
use mathlib.Core.Bool.{◌&&◌}
use Prim.Native.Nat.{◌+◌}
use lib.ListN.{drop}
use Rattle.lexer.specs.internal.Name.{stands}
use Rattle.lexer.proofs.name.follows.Given as goal

abbrev pub invariant-loop-k : goal.invariant-loop-k
invariant-loop-k l = l.same && stands l.text (l.i + l.k) (drop l.k l.word) ≡ stands l.text l.i l.word
