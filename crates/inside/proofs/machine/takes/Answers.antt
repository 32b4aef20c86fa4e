-- `machine::takes` meets its contract: a class that no parameter has, which may stand and has no significance, is a child that is taken.
use mathlib.Core.Path.{◌∙◌, sym}
use mathlib.Core.Bool.{not}
use borrow.Author.Tests.{not-true}
use Rattle.base.proofs.Booleans.{both, true_T, T_true}
use Rattle.elements.specs.rules.Rules.{rule_of}
use Rattle.elements.specs.rules.Inside.{allows}
use Rattle.inside.specs.internal.Table.{begins_required}
use Rattle.inside.proofs.Taken.{taken}
use Rattle.inside.proofs.machine.takes.Goals as goal

pub returns-then-class : goal.returns-then-class
returns-then-class c e = absurd (true_T e)

pub returns-then-class-ge-ID : goal.returns-then-class-ge-ID
returns-then-class-ge-ID c e = absurd (true_T e)

pub returns-then-state-gt-HOLDING : goal.returns-then-state-gt-HOLDING
returns-then-state-gt-HOLDING c e = absurd (true_T e)

pub returns-then-kind : goal.returns-then-kind
returns-then-kind c e = absurd (true_T e)

pub returns-then-state-eq0 : goal.returns-then-state-eq0
returns-then-state-eq0 c e = let args = c.args in
    let row = rule_of args.kind in
    let (first, stands) = both (not (begins_required row.parameters)) (allows row.content args.class) (true_T (sym c.takes_first.ensures ∙ e)) in
    taken _ _ c.if-class.false c.if-class-ge-ID.false (T_true _ stands) _ c.if-state-gt-HOLDING.false
    c.if-kind.false (λ z. not-true _ (T_true _ first))

pub returns : goal.returns
returns c e = taken _ _ c.if-class.false c.if-class-ge-ID.false (sym c.allowed.ensures ∙ e) _
    c.if-state-gt-HOLDING.false c.if-kind.false (λ z. absurd (c.if-state-eq0.false z))
