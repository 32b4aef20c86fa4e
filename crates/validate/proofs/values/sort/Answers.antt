-- `values::sort` meets its contract.
use native.Mathlib.Omega.{arith}
use borrow.Author.Tests.{eq-eqb, ne_eqb}
use Rattle.characters.specs.Codes.{alphabet_number}
use Rattle.document.specs.rules.Value.{names_block}
use Rattle.validate.proofs.lemmas.values.ValueSteps.{type_characters, id_characters, link_characters, uri_characters}
use Rattle.validate.proofs.values.sort.Goals as goal

pub returns-then-class : goal.returns-then-class
unfolding alphabet_number
returns-then-class c = λ s. type_characters _ _ s c.if-class.true

pub returns-then-class-2 : goal.returns-then-class-2
unfolding alphabet_number
returns-then-class-2 c = λ s. id_characters _ _ s c.if-class-2.true

pub returns-then-kind : goal.returns-then-kind
unfolding names_block alphabet_number
returns-then-kind c = let pre = c.requires in
    let if1 = c.if-class in
    let if2 = c.if-class-2 in
    λ s. link_characters _ _ s (omega (arith, pre, if1.false, if2.false)) (rw (eq-eqb _ _ c.if-kind.true))

pub returns-then-kind-2 : goal.returns-then-kind-2
unfolding names_block alphabet_number
returns-then-kind-2 c = let pre = c.requires in
    let if1 = c.if-class in
    let if2 = c.if-class-2 in
    let if3 = c.if-kind in
    λ s. link_characters _ _ s (omega (arith, pre, if1.false, if2.false)) (rw (ne_eqb _ _ if3.false, eq-eqb _ _ c.if-kind-2.true))

pub returns : goal.returns
unfolding names_block alphabet_number
returns c = let pre = c.requires in
    let if1 = c.if-class in
    let if2 = c.if-class-2 in
    let if3 = c.if-kind in
    λ s. uri_characters _ _ s (omega (arith, pre, if1.false, if2.false)) (rw (ne_eqb _ _ if3.false, ne_eqb _ _ c.if-kind-2.false))
