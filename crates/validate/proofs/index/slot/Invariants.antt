-- `index::slot` meets its contract. The loop's invariant: the bytes from the index on make of `h` what all make of the start.
use Prim.Native.Nat.{◌<◌}
use mathlib.Core.Path.{◌≡◌}
use lib.ListN.{drop}
use Rattle.validate.specs.internal.IdIndex.{mixed}
use Rattle.validate.proofs.index.slot.Given as goal

abbrev pub invariant-loop-b : goal.invariant-loop-b
invariant-loop-b l = (l.h < 1048576) × (mixed l.h (drop l.b-index l.id) ≡ mixed 5381 l.id)
