-- `utf8::valid_up_to` meets its contract. The loop's invariant: the answer is `i` and as many bytes more as are well formed from there on.
use mathlib.Core.Path.{◌≡◌}
use Prim.Native.Nat.{◌+◌, ◌-◌, ◌≤◌}
use lib.ListN.{length, drop}
use Rattle.utf8.specs.reference.Sequence.{valid_from, valid_up_to}
use Rattle.utf8.proofs.valid_up_to.Given as goal

abbrev pub invariant-loop-i : goal.invariant-loop-i
invariant-loop-i l = (l.i ≤ length l.text) × (l.i + valid_from 0 (drop l.i l.text) ≡ valid_up_to l.text)

abbrev pub decreases-loop-i : goal.decreases-loop-i
decreases-loop-i l = length l.text - l.i
