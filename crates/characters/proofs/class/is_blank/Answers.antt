-- `class::is_blank` meets its contract.
use mathlib.Core.Path.{sym}
use Rattle.characters.proofs.Classes.{blank_yes, blank_no}
use Rattle.characters.proofs.class.is_blank.Goals as goal

pub returns-in-Blank : goal.returns-in-Blank
returns-in-Blank c = sym (blank_yes _ _ c.byte_class.ensures c.in-Blank.is)

pub returns-in_default : goal.returns-in_default
returns-in_default c = sym (blank_no _ _ c.byte_class.ensures c.in_default.not-Blank)
