-- `fit::atom_fits` meets its contract: the alphabet of a number has its characters.
use mathlib.Core.Path.{◌∙◌}
use Rattle.atoms.proofs.fit.CharactersFit.{fits_same}
use Rattle.atoms.proofs.fit.atom_fits.Goals as goal

pub returns : goal.returns
returns c = c.atom_is_in.ensures ∙ fits_same _ _ c.from.ensures _
