-- `words::of_8` meets its contract: the byte leaves one word, or none.
use mathlib.Core.Path.{◌∙◌}
use Rattle.elements.specs.rules.Bytes.{codes}
use Rattle.elements.specs.rules.Class.{names, as_name, class_in}
use Rattle.kind.proofs.Chosen.{pick, only, others, by_byte, no_byte}
use Rattle.kind.proofs.words.of_8.Goals as goal

pub returns-in-100 : goal.returns-in-100
unfolding pick only names as_name codes class_in
returns-in-100 c = c.if_is.ensures ∙ by_byte _ _ c.requires 0 c.in-100.is

pub returns-in-102 : goal.returns-in-102
unfolding pick only names as_name codes class_in
returns-in-102 c = c.if_is-in-102.ensures ∙ by_byte _ _ c.requires 0 c.in-102.is

pub returns-in-118 : goal.returns-in-118
unfolding pick only names as_name codes class_in
returns-in-118 c = c.if_is-in-118.ensures ∙ by_byte _ _ c.requires 0 c.in-118.is

pub returns-in-108 : goal.returns-in-108
unfolding pick only names as_name codes class_in
returns-in-108 c = c.if_is-in-108.ensures ∙ by_byte _ _ c.requires 0 c.in-108.is

pub returns-in_default : goal.returns-in_default
unfolding pick only others names as_name codes class_in
returns-in_default c = no_byte _ _ c.requires 0 (codes "dfvl") c.in_default.in_default-own.rest
