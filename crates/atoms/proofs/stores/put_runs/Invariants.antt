-- `stores::put_runs` meets its contract. The loop's invariant is `Content`.
use mathlib.Core.Path.{◌≡◌}
use Prim.Native.Nat.{◌-◌}
use lib.ListN.{length}
use Rattle.atoms.proofs.Contents.{ContentSoFar}
use Rattle.atoms.proofs.stores.put_runs.Given as goal

abbrev pub invariant-loop-place : goal.invariant-loop-place
invariant-loop-place l = (length l.out ≡ length l.initial.out) × ContentSoFar l.text l.place l.initial.out l.at l.out l.i l.k

abbrev pub decreases-loop-place : goal.decreases-loop-place
decreases-loop-place l = length l.text - l.i
