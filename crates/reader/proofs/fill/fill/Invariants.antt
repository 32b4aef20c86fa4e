-- `fill::fill` meets its contract. The loop's invariant: the rows of the entries passed are written.
use Prim.Native.Nat.{◌≤◌}
use mathlib.Core.Path.{◌≡◌}
use Rattle.reader.specs.internal.Filling.{filling, SameSlices}
use Rattle.reader.proofs.lemmas.fill.Rows.{rows_of}
use Rattle.reader.proofs.fill.fill.Given as goal

abbrev pub invariant-loop-node : goal.invariant-loop-node
invariant-loop-node l = (l.node ≤ l.count)
    × SameSlices l.initial.lent l.lent
    × (filling l.node l.lent ≡ rows_of l.text l.tape l.node (filling 0 l.initial.lent))
