-- `symbol::symbol_end` meets its contract. The loop's invariant: what is left of the symbol from `i` on ends where the whole does.
use mathlib.Core.Path.{◌≡◌}
use Prim.Native.Nat.{◌+◌, ◌≤◌, max}
use lib.ListN.{length, drop}
use Rattle.syntax.specs.reference.Scan.{ordinary_run}
use Rattle.characters.proofs.symbol.symbol_end.Given as goal

abbrev pub invariant-loop-i : goal.invariant-loop-i
invariant-loop-i l = (l.i ≤ max l.place (length l.text))
    × (l.i + length (ordinary_run (drop l.i l.text)) ≡ l.place + length (ordinary_run (drop l.place l.text)))
