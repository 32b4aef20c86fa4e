-- `string::string_at` meets its contract. The loop's invariant: what follows `i` finishes the string with the answer.
use mathlib.Core.Path.{◌≡◌}
use Prim.Native.Nat.{◌-◌, ◌≤◌}
use lib.ListN.{drop}
use Rattle.syntax.specs.reference.Scan.{quoted_from}
use Rattle.atoms.specs.Atom.{string_at}
use Rattle.atoms.proofs.string.StringSteps.{string_finish}
use Rattle.atoms.proofs.string.string_at.Given as goal

abbrev pub invariant-loop-place : goal.invariant-loop-place
invariant-loop-place l = (l.length ≤ l.i) × (string_finish l.place l.i l.length (quoted_from 0 l.i (drop l.i l.text)) ≡ string_at l.place (drop l.place l.text))

abbrev pub decreases-loop-place : goal.decreases-loop-place
decreases-loop-place l = lib.ListN.length l.text - l.i
