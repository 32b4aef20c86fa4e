-- `class_of` meets its contract: a name is looked for among the names of its length, and of another length there is none.
use mathlib.Core.Path.{◌∙◌}
use mathlib.Core.List.{[], ◌∷◌}
use Rattle.elements.specs.rules.Bytes.{codes}
use Rattle.elements.specs.rules.Class.{names, as_name, class_in}
use Rattle.kind.proofs.Chosen.{pick, only, others, by_length, no_length}
use Rattle.kind.proofs.class_of.Goals as goal

pub returns-in-2 : goal.returns-in-2
unfolding pick only names as_name codes class_in
returns-in-2 c = c.if_is.ensures ∙ by_length _ _ c.in-2.is

pub returns-in-3 : goal.returns-in-3
unfolding pick only names as_name codes class_in
returns-in-3 c = c.if_is-in-3.ensures ∙ by_length _ _ c.in-3.is

pub returns-in-9 : goal.returns-in-9
unfolding pick only names as_name codes class_in
returns-in-9 c = c.if_is-in-9.ensures ∙ by_length _ _ c.in-9.is

pub returns-in-10 : goal.returns-in-10
unfolding pick only names as_name codes class_in
returns-in-10 c = c.if_is-in-10.ensures ∙ by_length _ _ c.in-10.is

pub returns-in-11 : goal.returns-in-11
unfolding pick only names as_name codes class_in
returns-in-11 c = c.if_is-in-11.ensures ∙ by_length _ _ c.in-11.is

pub returns-in-14 : goal.returns-in-14
unfolding pick only names as_name codes class_in
returns-in-14 c = c.if_is-in-14.ensures ∙ by_length _ _ c.in-14.is

pub returns-in_default : goal.returns-in_default
unfolding pick others names as_name codes class_in
returns-in_default c = no_length _ (2 ∷ 3 ∷ 4 ∷ 5 ∷ 6 ∷ 7 ∷ 8 ∷ 9 ∷ 10 ∷ 11 ∷ 12 ∷ 14 ∷ []) c.in_default.in_default-own.rest
