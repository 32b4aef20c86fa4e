-- `fit::string_fits` meets its contract. The loop's invariant is `StringLeft`.
use Prim.Native.Nat.{◌-◌}
use lib.ListN.{length}
use Rattle.characters.specs.Codes.{alphabet_number}
use Rattle.atoms.proofs.fit.CharactersFit.{StringLeft}
use Rattle.atoms.proofs.fit.string_fits.Given as goal

abbrev pub invariant-loop-i : goal.invariant-loop-i
invariant-loop-i l = StringLeft l.text l.place (alphabet_number l.alphabet) l.i

abbrev pub decreases-loop-i : goal.decreases-loop-i
decreases-loop-i l = length l.text - l.i
