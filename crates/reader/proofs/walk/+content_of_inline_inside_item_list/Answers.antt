-- The walks over an element's content meet their contracts. The invariant of a loop is `Walking`; each way through a loop's body is one law of `LoopInvariant`.
use mathlib.Core.Path.{refl, sym, ◌∙◌}
use native.Mathlib.Omega.{arith}
use Rattle.reader.proofs.lemmas.walk.Refusals.{refusal_some, passed_up}
use Rattle.reader.proofs.lemmas.walk.LoopInvariant.{begun, may_turn, end_answered, refusal_answered, passed}
use Rattle.reader.proofs.lemmas.walk.LoopInvariant.{list_taken, child_refused, list_answered, list_forward, list_gone_on}
use Rattle.reader.proofs.lemmas.walk.LoopInvariant.{to_start, element_judges, item_judges, value_judges}
use Rattle.reader.proofs.lemmas.walk.ListItems.{bare_start, item_taken}
use Rattle.reader.proofs.lemmas.walk.OneTurn.{ended_here}
use Rattle.reader.proofs.walk.+content_of_inline_inside_item_list.Goals as goal

pub content_of-returns-in-16-clause-finishes : goal.content_of-returns-in-16-clause-finishes
content_of-returns-in-16-clause-finishes t c = (to_start (c.list.ensures.bounded, c.list.ensures.answers_from)).1

pub content_of-returns-in_default-clause-finishes : goal.content_of-returns-in_default-clause-finishes
content_of-returns-in_default-clause-finishes t c = (to_start (c.inline.ensures.bounded, c.inline.ensures.answers_from)).1

pub inline-returns-then-closes : goal.inline-returns-then-closes
inline-returns-then-closes t c =
    let whole = end_answered c.loop-element.invariant (ended_here _ _ (c.closes.ensures c.if-closes.true)) refl c.at_end.ensures in
    record { bounded = whole.0; answers_from = whole.1 }

pub inline-returns-then-seen-eq-THE_END : goal.inline-returns-then-seen-eq-THE_END
inline-returns-then-seen-eq-THE_END t c =
    let whole = end_answered c.loop-element.invariant c.look-seen.ensures c.if-seen-eq-THE_END.true c.at_end-then-seen-eq-THE_END.ensures in
    record { bounded = whole.0; answers_from = whole.1 }

pub inline-take_turn-requires : goal.inline-take_turn-requires
inline-take_turn-requires t c =
    let may = may_turn c.loop-element.invariant c.look-seen.ensures c.if-seen-eq-THE_END.false c.requires.3 in
    (may.0, may.1, may.2, may.3, c.requires.4)

pub inline-returns-in_err-passed-clause-answers_from : goal.inline-returns-in_err-passed-clause-answers_from
inline-returns-in_err-passed-clause-answers_from t c =
    rw (passed_up c.from_residual.result c.from_residual.ensures.1)
    (refusal_answered c.loop-element.invariant c.look-seen.ensures c.if-seen-eq-THE_END.false c.in_err-passed.ensures).1

pub inline-loop-element-smaller-in-Atom : goal.inline-loop-element-smaller-in-Atom
inline-loop-element-smaller-in-Atom t c =
    let turn = rw c.in-Atom.is at c.in_ok-passed.ensures in
    let walking = passed c.loop-element.invariant c.look-seen.ensures c.if-seen-eq-THE_END.false turn in
    omega (arith, turn.0, walking)

pub inline-loop-element-preserved-in-Atom : goal.inline-loop-element-preserved-in-Atom
inline-loop-element-preserved-in-Atom t c =
    passed c.loop-element.invariant c.look-seen.ensures c.if-seen-eq-THE_END.false (rw c.in-Atom.is at c.in_ok-passed.ensures)

pub inline-inside-requires : goal.inline-inside-requires
inline-inside-requires t c =
    let o = list_taken c.loop-element.invariant c.look-seen.ensures c.if-seen-eq-THE_END.false (rw c.in-List.is at c.in_ok-passed.ensures) in
    let pre = c.requires in
    (omega (arith, o, c.decreases), (omega (arith, o), omega (arith, o), omega (arith, o), pre.3, pre.4, omega (arith, o)))

pub inline-returns-in_err-end-in-List-clause-answers_from : goal.inline-returns-in_err-end-in-List-clause-answers_from
inline-returns-in_err-end-in-List-clause-answers_from t c =
    let o = list_taken c.loop-element.invariant c.look-seen.ensures c.if-seen-eq-THE_END.false (rw c.in-List.is at c.in_ok-passed.ensures) in
    let w = c.in_err-end-in-List.ensures in
    rw (passed_up c.from_residual-in_err-end-in-List.result c.from_residual-in_err-end-in-List.ensures.1)
    (child_refused o (w.bounded, w.judges_list) (refusal_some _)).1

pub inline-returns-in_err-reached-in-List-clause-answers_from : goal.inline-returns-in_err-reached-in-List-clause-answers_from
inline-returns-in_err-reached-in-List-clause-answers_from t c =
    let o = list_taken c.loop-element.invariant c.look-seen.ensures c.if-seen-eq-THE_END.false (rw c.in-List.is at c.in_ok-passed.ensures) in
    let w = c.in_ok-end-in-List.ensures in
    rw (passed_up c.from_residual-in_err-reached-in-List.result c.from_residual-in_err-reached-in-List.ensures.1)
    (list_answered o (w.bounded, w.judges_list) c.in_err-reached-in-List.ensures (refusal_some _)).1

pub inline-loop-element-smaller : goal.inline-loop-element-smaller
inline-loop-element-smaller t c =
    let o = list_taken c.loop-element.invariant c.look-seen.ensures c.if-seen-eq-THE_END.false (rw c.in-List.is at c.in_ok-passed.ensures) in
    let w = c.in_ok-end-in-List.ensures in
    omega (arith, list_forward o (w.bounded, w.judges_list) c.in_ok-reached-in-List.ensures refl)

pub inline-loop-element-preserved : goal.inline-loop-element-preserved
inline-loop-element-preserved t c =
    let o = list_taken c.loop-element.invariant c.look-seen.ensures c.if-seen-eq-THE_END.false (rw c.in-List.is at c.in_ok-passed.ensures) in
    let w = c.in_ok-end-in-List.ensures in
    list_gone_on o (w.bounded, w.judges_list) c.in_ok-reached-in-List.ensures refl

pub inside-returns-then-not-is_element-clause-judges_list : goal.inside-returns-then-not-is_element-clause-judges_list
inside-returns-then-not-is_element-clause-judges_list t c =
    (value_judges (sym c.is_element.ensures ∙ c.if-not-is_element.true)
    (c.value.ensures.bounded, (c.value.ensures.value, c.value.ensures.notes))).1

pub inside-returns-in_err-end-clause-judges_list : goal.inside-returns-in_err-end-clause-judges_list
inside-returns-in_err-end-clause-judges_list t c =
    let e = c.opened.ensures in
    rw (passed_up c.from_residual.result c.from_residual.ensures.1)
    (element_judges _ _ e.element e.inner (sym c.is_element.ensures ∙ c.if-not-is_element.false) (omega (arith, c.requires))
    (c.in_err-end.ensures.bounded, c.in_err-end.ensures.finishes) e.tape_after (λ y. absurd (refusal_some _ y))).1

pub inside-returns-clause-judges_list : goal.inside-returns-clause-judges_list
inside-returns-clause-judges_list t c =
    let e = c.opened.ensures in
    (element_judges _ _ e.element e.inner (sym c.is_element.ensures ∙ c.if-not-is_element.false) (omega (arith, c.requires))
    (c.in_ok-end.ensures.bounded, c.in_ok-end.ensures.finishes) e.tape_after (λ y. c.leave.ensures)).1

pub item-returns-in_err-end-clause-judges_list : goal.item-returns-in_err-end-clause-judges_list
item-returns-in_err-end-clause-judges_list t c = λ k.
    let e = c.opened.ensures in
    rw (passed_up c.from_residual.result c.from_residual.ensures.1)
    (item_judges _ _ e.element e.inner c.requires.1 (omega (arith, c.requires))
    (c.in_err-end.ensures.bounded, c.in_err-end.ensures.answers_from) e.tape_after (λ y. absurd (refusal_some _ y))).1

pub item-returns-clause-judges_list : goal.item-returns-clause-judges_list
item-returns-clause-judges_list t c = λ k.
    let e = c.opened.ensures in
    (item_judges _ _ e.element e.inner c.requires.1 (omega (arith, c.requires))
    (c.in_ok-end.ensures.bounded, c.in_ok-end.ensures.answers_from) e.tape_after (λ y. c.leave.ensures)).1

pub list-loop-reached-init : goal.list-loop-reached-init
list-loop-reached-init t c = let pre = c.requires in
    (begun pre.0.0 pre.0.1 pre.0.2, bare_start c.args.element.kind pre.1)

pub list-returns-then-seen-eq-THE_END : goal.list-returns-then-seen-eq-THE_END
list-returns-then-seen-eq-THE_END t c =
    let whole = end_answered c.loop-reached.invariant.0 c.look-seen.ensures c.if-seen-eq-THE_END.true c.at_end.ensures in
    record { bounded = whole.0; answers_from = whole.1 }

pub list-take_turn-requires : goal.list-take_turn-requires
list-take_turn-requires t c =
    let may = may_turn c.loop-reached.invariant.0 c.look-seen.ensures c.if-seen-eq-THE_END.false c.requires.0.3 in
    (may.0, may.1, may.2, may.3, c.requires.0.4)

pub list-returns-in_err-passed-clause-answers_from : goal.list-returns-in_err-passed-clause-answers_from
list-returns-in_err-passed-clause-answers_from t c =
    rw (passed_up c.from_residual.result c.from_residual.ensures.1)
    (refusal_answered c.loop-reached.invariant.0 c.look-seen.ensures c.if-seen-eq-THE_END.false c.in_err-passed.ensures).1

pub list-loop-reached-smaller-in-Atom : goal.list-loop-reached-smaller-in-Atom
list-loop-reached-smaller-in-Atom t c =
    let turn = rw c.in-Atom.is at c.in_ok-passed.ensures in
    let walking = passed c.loop-reached.invariant.0 c.look-seen.ensures c.if-seen-eq-THE_END.false turn in
    omega (arith, turn.0, walking)

pub list-loop-reached-preserved-in-Atom : goal.list-loop-reached-preserved-in-Atom
list-loop-reached-preserved-in-Atom t c =
    let turn = rw c.in-Atom.is at c.in_ok-passed.ensures in
    let l = c.loop-reached.invariant in
    (passed l.0 c.look-seen.ensures c.if-seen-eq-THE_END.false turn, (item_taken _ _ _ _ c.requires.1 l.1 turn.0.taken).1)

pub list-item-requires : goal.list-item-requires
list-item-requires t c =
    let turn = rw c.in-List.is at c.in_ok-passed.ensures in
    let l = c.loop-reached.invariant in
    let o = list_taken l.0 c.look-seen.ensures c.if-seen-eq-THE_END.false turn in
    let pre = c.requires in (
      omega (arith, o, c.decreases),
      ((omega (arith, o), omega (arith, o), omega (arith, o), pre.0.3, pre.0.4, omega (arith, o)), (item_taken _ _ _ _ pre.1 l.1 o.takes.taken).0),
    )

pub list-returns-in_err-end-in-List-clause-answers_from : goal.list-returns-in_err-end-in-List-clause-answers_from
list-returns-in_err-end-in-List-clause-answers_from t c =
    let o = list_taken c.loop-reached.invariant.0 c.look-seen.ensures c.if-seen-eq-THE_END.false (rw c.in-List.is at c.in_ok-passed.ensures) in
    let w = c.in_err-end-in-List.ensures in
    rw (passed_up c.from_residual-in_err-end-in-List.result c.from_residual-in_err-end-in-List.ensures.1)
    (child_refused o (w.bounded, w.judges_list _) (refusal_some _)).1

pub list-returns-in_err-reached-in-List-clause-answers_from : goal.list-returns-in_err-reached-in-List-clause-answers_from
list-returns-in_err-reached-in-List-clause-answers_from t c =
    let o = list_taken c.loop-reached.invariant.0 c.look-seen.ensures c.if-seen-eq-THE_END.false (rw c.in-List.is at c.in_ok-passed.ensures) in
    let w = c.in_ok-end-in-List.ensures in
    rw (passed_up c.from_residual-in_err-reached-in-List.result c.from_residual-in_err-reached-in-List.ensures.1)
    (list_answered o (w.bounded, w.judges_list _) c.in_err-reached-in-List.ensures (refusal_some _)).1

pub list-loop-reached-smaller : goal.list-loop-reached-smaller
list-loop-reached-smaller t c =
    let o = list_taken c.loop-reached.invariant.0 c.look-seen.ensures c.if-seen-eq-THE_END.false (rw c.in-List.is at c.in_ok-passed.ensures) in
    let w = c.in_ok-end-in-List.ensures in
    omega (arith, list_forward o (w.bounded, w.judges_list _) c.in_ok-reached-in-List.ensures refl)

pub list-loop-reached-preserved : goal.list-loop-reached-preserved
list-loop-reached-preserved t c =
    let l = c.loop-reached.invariant in
    let o = list_taken l.0 c.look-seen.ensures c.if-seen-eq-THE_END.false (rw c.in-List.is at c.in_ok-passed.ensures) in
    let w = c.in_ok-end-in-List.ensures in (
      list_gone_on o (w.bounded, w.judges_list _) c.in_ok-reached-in-List.ensures refl,
      (item_taken _ _ _ _ c.requires.1 l.1 o.takes.taken).1,
    )
