-- `values::fits` meets its contract.
use mathlib.Core.Path.{◌∙◌}
use Rattle.std.proofs.Common.{rules, tests}
use Rattle.std.proofs.lemmas.Iterator.{YieldsList-from_slice}
use Rattle.std.proofs.lemmas.Iterator.Search.{all_from_yields_List}
use Rattle.elements.specs.rules.Characters.{character_of}
use Rattle.characters.specs.Codes.{alphabet_number}
use Rattle.validate.proofs.lemmas.values.AllBytes.{all_every}
use Rattle.validate.proofs.values.fits.Goals as goal

pub returns : goal.returns
returns c =
    all_from_yields_List (character_of (alphabet_number c.args.alphabet)) _ _ _ c.all.ensures.ran (YieldsList-from_slice c.args.bytes.now cc) (λ x b q k. search (rules, tests))
    ∙ all_every (character_of (alphabet_number c.args.alphabet)) c.args.bytes.now
