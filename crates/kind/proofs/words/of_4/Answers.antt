-- `words::of_4` meets its contract: the first byte, and after `t` the second, leaves one word, or none.
use mathlib.Core.Path.{◌∙◌}
use Rattle.elements.specs.rules.Bytes.{codes}
use Rattle.elements.specs.rules.Class.{names, as_name, class_in}
use Rattle.kind.proofs.Chosen.{pick, only, others, by_byte, no_byte, by_bytes, no_second}
use Rattle.kind.proofs.words.of_4.Goals as goal

pub returns-in-112 : goal.returns-in-112
unfolding pick only names as_name codes class_in
returns-in-112 c = c.if_is.ensures ∙ by_byte _ _ c.requires 0 c.in-112.is

pub returns-in-101 : goal.returns-in-101
unfolding pick only names as_name codes class_in
returns-in-101 c = c.if_is-in-101.ensures
    ∙ by_bytes _ _ c.requires
    0 c.in-116.is 1 c.in-101.is

pub returns-in-121 : goal.returns-in-121
unfolding pick only names as_name codes class_in
returns-in-121 c = c.if_is-in-121.ensures
    ∙ by_bytes _ _ c.requires
    0 c.in-116.is 1 c.in-121.is

pub returns-in_default-name : goal.returns-in_default-name
unfolding pick only others names as_name codes class_in
returns-in_default-name c = no_second _ _ c.requires 0 c.in-116.is 1 (codes "ey") c.in_default-name.in_default-name-own.rest

pub returns-in-108 : goal.returns-in-108
unfolding pick only names as_name codes class_in
returns-in-108 c = c.if_is-in-108.ensures ∙ by_byte _ _ c.requires 0 c.in-108.is

pub returns-in-105 : goal.returns-in-105
unfolding pick only names as_name codes class_in
returns-in-105 c = c.if_is-in-105.ensures ∙ by_byte _ _ c.requires 0 c.in-105.is

pub returns-in-104 : goal.returns-in-104
unfolding pick only names as_name codes class_in
returns-in-104 c = c.if_is-in-104.ensures ∙ by_byte _ _ c.requires 0 c.in-104.is

pub returns-in-110 : goal.returns-in-110
unfolding pick only names as_name codes class_in
returns-in-110 c = c.if_is-in-110.ensures ∙ by_byte _ _ c.requires 0 c.in-110.is

pub returns-in-98 : goal.returns-in-98
unfolding pick only names as_name codes class_in
returns-in-98 c = c.if_is-in-98.ensures ∙ by_byte _ _ c.requires 0 c.in-98.is

pub returns-in-99 : goal.returns-in-99
unfolding pick only names as_name codes class_in
returns-in-99 c = c.if_is-in-99.ensures ∙ by_byte _ _ c.requires 0 c.in-99.is

pub returns-in-115 : goal.returns-in-115
unfolding pick only names as_name codes class_in
returns-in-115 c = c.if_is-in-115.ensures ∙ by_byte _ _ c.requires 0 c.in-115.is

pub returns-in_default : goal.returns-in_default
unfolding pick only others names as_name codes class_in
returns-in_default c = no_byte _ _ c.requires 0 (codes "ptlihnbcs") c.in_default.in_default-own.rest
