-- `words::of_7` meets its contract: the byte leaves one word, or none.
use mathlib.Core.Path.{◌∙◌}
use Rattle.elements.specs.rules.Bytes.{codes}
use Rattle.elements.specs.rules.Class.{names, as_name, class_in}
use Rattle.kind.proofs.Chosen.{pick, only, others, by_byte, no_byte}
use Rattle.kind.proofs.words.of_7.Goals as goal

pub returns-in-101 : goal.returns-in-101
unfolding pick only names as_name codes class_in
returns-in-101 c = c.if_is.ensures ∙ by_byte _ _ c.requires 1 c.in-101.is

pub returns-in-117 : goal.returns-in-117
unfolding pick only names as_name codes class_in
returns-in-117 c = c.if_is-in-117.ensures ∙ by_byte _ _ c.requires 1 c.in-117.is

pub returns-in-110 : goal.returns-in-110
unfolding pick only names as_name codes class_in
returns-in-110 c = c.if_is-in-110.ensures ∙ by_byte _ _ c.requires 1 c.in-110.is

pub returns-in_default : goal.returns-in_default
unfolding pick only others names as_name codes class_in
returns-in_default c = no_byte _ _ c.requires 1 (codes "eun") c.in_default.in_default-own.rest
