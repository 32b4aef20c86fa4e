-- `words::of_6` meets its contract: the byte leaves one word, or none.
use mathlib.Core.Path.{◌∙◌}
use Rattle.elements.specs.rules.Bytes.{codes}
use Rattle.elements.specs.rules.Class.{names, as_name, class_in}
use Rattle.kind.proofs.Chosen.{pick, only, others, by_byte, no_byte}
use Rattle.kind.proofs.words.of_6.Goals as goal

pub returns-in-116 : goal.returns-in-116
unfolding pick only names as_name codes class_in
returns-in-116 c = c.if_is.ensures ∙ by_byte _ _ c.requires 0 c.in-116.is

pub returns-in-105 : goal.returns-in-105
unfolding pick only names as_name codes class_in
returns-in-105 c = c.if_is-in-105.ensures ∙ by_byte _ _ c.requires 0 c.in-105.is

pub returns-in_default : goal.returns-in_default
unfolding pick only others names as_name codes class_in
returns-in_default c = no_byte _ _ c.requires 0 (codes "ti") c.in_default.in_default-own.rest
