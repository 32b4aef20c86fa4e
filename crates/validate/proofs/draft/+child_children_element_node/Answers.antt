-- The walks over a node, an element, its children and a child meet their contracts: each way out is one law of `LawfulNodes` or `ChildWalk`.
use native.Mathlib.Omega.{arith}
use mathlib.Core.Path.{refl, sym, ◌∙◌}
use mathlib.Core.Bool.{true≢false}
use lib.ListN.{get_or}
use Rattle.base.proofs.Booleans.{T_true, not_T_false}
use Rattle.document.specs.rules.Canonical.{layout_all}
use Rattle.validate.proofs.lemmas.records.Decided.{not_held, no_end, the_end, decides_none, refused_none, through, decides_same, none_same}
use Rattle.validate.proofs.lemmas.records.RecordTests.{row_word}
use Rattle.validate.proofs.lemmas.records.NodeRecords.{stored_node}
use Rattle.validate.proofs.lemmas.draft.LawfulNodes.{element_same, element_record}
use Rattle.validate.proofs.lemmas.draft.ChildWalk.{node_forward, node_within, kind_word, end_taken, end_refused, end_passed, child_same, child_none, behind_child, values_same, values_none}
use Rattle.validate.proofs.lemmas.draft.ChildWalk.{of_node, word_of_node, child_missing, child_stopped, child_stepped}
use Rattle.validate.proofs.draft.+child_children_element_node.Goals as goal

pub child-returns-in_err-own : goal.child-returns-in_err-own
child-returns-in_err-own t c =
    let table = c.args.row.now.table.now in
    rw c.from_residual.ensures
    (child_missing c.args.row.now _ (λ e q a. omega (arith, (stored_node a.made _ _ _ _ _ a.stored c.requires.1).recorded.whole, c.in_err-own.ensures, table.whole)))

pub child-returns-in_err-w : goal.child-returns-in_err-w
child-returns-in_err-w t c =
    let (table, number) = c.in_ok-own.ensures in
    rw c.from_residual-in_err-w.ensures (child_missing c.args.row.now _ (refused_none (of_node c.in_ok-own.own table number c.in_err-w.ensures)))

pub child-overflow_cast-own : goal.child-overflow_cast-own
child-overflow_cast-own t c =
    let own = c.in_ok-own.own in
    omega (arith, row_word own 0 (omega arith), kind_word (c.in_ok-w.ensures.sound _ refl))

pub child-returns-in_err-state : goal.child-returns-in_err-state
child-returns-in_err-state t c =
    let (table, number) = c.in_ok-own.ensures in
    let (fault, e) = c.in_err-state.ensures in
    rw c.from_residual-in_err-state.ensures (child_stopped c.args.row.now _ fault (rw (word_of_node c.in_ok-own.own table number 0 (omega arith)) at e))

pub child-returns : goal.child-returns
child-returns t c =
    let (table, number) = c.in_ok-own.ensures in
    child_stepped c.args.row.now _ (of_node c.in_ok-own.own table number c.in_ok-w.ensures) (rw (word_of_node c.in_ok-own.own table number 0 (omega arith)) at c.in_ok-state.ensures)

pub children-returns-in_err-c : goal.children-returns-in_err-c
children-returns-in_err-c t c =
    let loop = c.loop-j in
    rw c.from_residual-in_err-c.ensures
    (decides_none (none_same loop.invariant.3 (child_none c.args.row.now _ _ _ (behind_child loop.due _) c.loop-j-test.true c.in_err-c.ensures)))

pub children-returns-in_err-state : goal.children-returns-in_err-state
children-returns-in_err-state t c =
    let loop = c.loop-j in
    rw c.from_residual-in_err-state.ensures
    (decides_none (none_same loop.invariant.3
    (none_same (child_same c.args.row.now _ _ _ (behind_child loop.due _) c.loop-j-test.true c.in_ok-c.ensures)
    (values_none c.args.row.now _ (λ ns e. rw c.if-due.true (c.in_err-state.ensures.taken (layout_all ns)))))))

pub children-loop-j-smaller-then-due : goal.children-loop-j-smaller-then-due
children-loop-j-smaller-then-due t c = omega (arith, node_forward (c.in_ok-c.ensures.sound _ refl).0)

pub children-loop-j-preserved-then-due : goal.children-loop-j-preserved-then-due
children-loop-j-preserved-then-due t c =
    let loop = c.loop-j in
    let here = (c.in_ok-c.ensures.sound _ refl).0 in (
      omega (arith, node_forward here, loop.invariant.0),
      node_within here loop.invariant.1,
      λ d. absurd (true≢false (sym d)),
      through (values_same c.args.row.now _ (λ ns e. rw c.if-due.true (c.in_ok-state.ensures.taken (layout_all ns))))
          (through (child_same c.args.row.now _ _ _ (behind_child loop.due _) c.loop-j-test.true c.in_ok-c.ensures) loop.invariant.3),
    )

pub children-loop-j-smaller : goal.children-loop-j-smaller
children-loop-j-smaller t c = omega (arith, node_forward (c.in_ok-c.ensures.sound _ refl).0)

pub children-loop-j-preserved : goal.children-loop-j-preserved
children-loop-j-preserved t c =
    let loop = c.loop-j in
    let here = (c.in_ok-c.ensures.sound _ refl).0 in (
      omega (arith, node_forward here, loop.invariant.0),
      node_within here loop.invariant.1,
      λ d. absurd (true≢false (sym d ∙ c.if-due.false)),
      through (values_same c.args.row.now _ (λ ns e. rw c.if-due.false))
          (through (child_same c.args.row.now _ _ _ (behind_child loop.due _) c.loop-j-test.true c.in_ok-c.ensures) loop.invariant.3),
    )

pub children-returns-then-j-end : goal.children-returns-then-j-end
children-returns-then-j-end t c = decides_none (none_same c.loop-j.invariant.3 (λ e q. end_passed c.args.row.now _ c.loop-j-test.false c.if-j-end.true))

pub children-returns-then-not-may_end : goal.children-returns-then-not-may_end
children-returns-then-not-may_end t c =
    let loop = c.loop-j in
    let taken = not_T_false loop.due (λ d. omega (arith, loop.invariant.2 (T_true _ d))) in
    decides_none (none_same (rw taken at loop.invariant.3) (λ e q. end_refused c.args.row.now _ c.if-j-end.false (sym c.may_end.ensures ∙ c.if-not-may_end.true)))

pub children-returns : goal.children-returns
children-returns t c =
    let loop = c.loop-j in
    let taken = not_T_false loop.due (λ d. omega (arith, loop.invariant.2 (T_true _ d))) in
    decides_same (rw taken at loop.invariant.3) (end_taken c.args.row.now _ c.if-j-end.false (sym c.may_end.ensures ∙ c.if-not-may_end.false))

pub element-returns-in_err-after : goal.element-returns-in_err-after
element-returns-in_err-after t c =
    rw c.from_residual.ensures
    (decides_none (λ e q a. no_end c.in_err-after.ensures (stored_node a.made _ _ _ _ _ a.stored c.requires.0).recorded))

pub element-returns-then-not-element_fits : goal.element-returns-then-not-element_fits
element-returns-then-not-element_fits t c =
    let there = (the_end c.in_ok-after.ensures).0 in
    decides_none
    (λ e q a. not_held c.element_fits.ensures c.if-not-element_fits.true (element_record _ _ _ _ _ there _ refl c.requires.1 a))

pub element-overflow_cast-r : goal.element-overflow_cast-r
element-overflow_cast-r t c =
    omega (arith, row_word c.args.row.now 0 (omega arith), (c.element_fits.ensures.sound c.if-not-element_fits.false).kind_high)

pub element-returns : goal.element-returns
element-returns t c =
    let row = c.args.row.now in
    let (there, after) = the_end c.in_ok-after.ensures in
    let fits = c.element_fits.ensures.sound c.if-not-element_fits.false in
    let kind = row_word row 0 (omega arith) in
    decides_same (element_same _ _ _ _ _ there (get_or row.words.now 0 0) (sym kind) (λ t. c.requires.1 (sym kind ∙ t)) fits)
    (rw (after, row_word row 2 (omega arith)) at c.children.ensures)

pub node-text_node-requires : goal.node-text_node-requires
node-text_node-requires t c = (c.requires, sym (row_word c.args.row.now 0 (omega arith)) ∙ c.if-row.true)

pub node-element-requires : goal.node-element-requires
node-element-requires t c =
    (omega (arith, c.decreases), (c.requires, λ t. c.if-row.false (row_word c.args.row.now 0 (omega arith) ∙ t)))
