-- `fit::uri_fits` meets its contract. The loop's invariant: what is left of the symbol from `i` on fits if the whole does.
use mathlib.Core.Path.{◌≡◌}
use lib.ListN.{drop}
use Rattle.syntax.specs.reference.Scan.{ordinary_run}
use Rattle.atoms.specs.Atom.{fits}
use Rattle.atoms.proofs.fit.uri_fits.Given as goal

abbrev pub invariant-loop-i : goal.invariant-loop-i
invariant-loop-i l = fits (2) (ordinary_run (drop l.i l.text)) ≡ fits (2) (ordinary_run (drop l.place l.text))
