-- `fit::word_fits` meets its contract. The loop's invariant: what is left of the symbol from `i` on fits if the whole does.
use mathlib.Core.Path.{◌≡◌}
use lib.ListN.{drop}
use Rattle.syntax.specs.reference.Scan.{ordinary_run}
use Rattle.characters.specs.Codes.{alphabet_number}
use Rattle.atoms.specs.Atom.{fits}
use Rattle.atoms.proofs.fit.word_fits.Given as goal

abbrev pub invariant-loop-i : goal.invariant-loop-i
invariant-loop-i l = fits (alphabet_number l.alphabet) (ordinary_run (drop l.i l.text)) ≡ fits (alphabet_number l.alphabet) (ordinary_run (drop l.place l.text))
