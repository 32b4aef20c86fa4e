-- `utf8::position` meets its contract. The loop's invariant: line and column, counted on through what is left before the place, are the answer.
use mathlib.Core.Path.{◌≡◌}
use Prim.Native.Nat.{◌+◌, ◌≤◌}
use lib.ListN.{take, drop}
use Rattle.utf8.specs.rules.Position.{line_of, column_of, line_feeds}
use Rattle.utf8.proofs.Column.{column_after}
use Rattle.utf8.proofs.position.Given as goal

abbrev pub invariant-loop-b : goal.invariant-loop-b
invariant-loop-b l = (l.line ≤ l.b-index + 1) × (l.column ≤ l.b-index + 1)
    × (l.line + line_feeds (drop l.b-index (take l.place l.text)) ≡ line_of l.text l.place)
    × (column_after l.column (drop l.b-index (take l.place l.text)) ≡ column_of l.text l.place)
