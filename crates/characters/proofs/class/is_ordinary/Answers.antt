-- `class::is_ordinary` meets its contract.
use mathlib.Core.Path.{sym}
use Rattle.characters.proofs.Classes.{ordinary_yes, ordinary_no}
use Rattle.characters.proofs.class.is_ordinary.Goals as goal

pub returns-in-Ordinary : goal.returns-in-Ordinary
returns-in-Ordinary c = sym (ordinary_yes _ _ c.byte_class.ensures c.in-Ordinary.is)

pub returns-in_default : goal.returns-in_default
returns-in_default c = sym (ordinary_no _ _ c.byte_class.ensures c.in_default.not-Ordinary)
