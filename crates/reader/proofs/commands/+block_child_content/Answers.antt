-- The walks over blocks meet their contracts. The invariant of each loop is `Gone`; each way through a loop's body is one law of `BlockTurns`.
use mathlib.Core.Path.{refl, sym, ◌∙◌}
use native.Mathlib.Omega.{arith}
use Rattle.reader.proofs.lemmas.walk.LoopInvariant.{past_fault}
use Rattle.reader.proofs.lemmas.walk.Refusals.{refusal_some}
use Rattle.reader.proofs.lemmas.commands.CommandClasses.{not_ended}
use Rattle.reader.proofs.lemmas.commands.BlockLoops.{exit, past_bounded, not_closed, command_cut, command_child, inside_child}
use Rattle.reader.proofs.lemmas.commands.BlockTurns.{may_turn, list_starts, content_starts, content_answers, parameter_refused, past_atom, in_parameter, past_parameter}
use Rattle.reader.proofs.lemmas.commands.BlockTurns.{content_ended, child_refused, past_atom_child, child_belongs, in_child, past_child}
use Rattle.reader.proofs.commands.+block_child_content.Goals as goal

pub block-returns-in_err-first-clause-in_command : goal.block-returns-in_err-first-clause-in_command
block-returns-in_err-first-clause-in_command t c =
    rw (exit _ _ c.from_residual.ensures.1)
    (c.loop-reached.invariant.goes _ _ (command_cut c.look-seen.ensures c.if-seen-eq-THE_END.true (not_closed _ _ _ c.in_err-first.ensures)))

pub block-content-requires : goal.block-content-requires
block-content-requires t c =
    let starts = content_starts c.loop-reached.invariant c.look-seen.ensures c.in_ok-first.ensures c.requires.3 c.requires.4 in
    (omega (arith, starts, c.decreases), starts.1)

pub block-returns-then-seen-eq-THE_END : goal.block-returns-then-seen-eq-THE_END
block-returns-then-seen-eq-THE_END t c =
    let content = c.content.ensures in
    let whole = content_answers c.loop-reached.invariant c.look-seen.ensures c.if-seen-eq-THE_END.true c.in_ok-first.ensures content.bounded content.in_content in
    record { bounded = whole.0; in_command = whole.1 }

pub block-take_turn-requires : goal.block-take_turn-requires
block-take_turn-requires t c =
    let may = may_turn c.loop-reached.invariant c.look-seen.ensures c.if-seen-eq-THE_END.false c.requires.3 in
    (may.0, may.1, may.2, may.3, c.requires.4)

pub block-returns-in_err-passed-clause-in_command : goal.block-returns-in_err-passed-clause-in_command
block-returns-in_err-passed-clause-in_command t c =
    rw (exit _ _ c.from_residual-in_err-passed.ensures.1)
    (parameter_refused c.loop-reached.invariant c.look-seen.ensures c.if-seen-eq-THE_END.false c.in_command.ensures c.in_err-passed.ensures)

pub block-loop-reached-smaller-in-Atom : goal.block-loop-reached-smaller-in-Atom
block-loop-reached-smaller-in-Atom t c =
    let turn = rw c.in-Atom.is at c.in_ok-passed.ensures in
    omega (arith, past_atom c.loop-reached.invariant c.look-seen.ensures c.if-seen-eq-THE_END.false c.in_command.ensures turn)

pub block-loop-reached-preserved-in-Atom : goal.block-loop-reached-preserved-in-Atom
block-loop-reached-preserved-in-Atom t c =
    let turn = rw c.in-Atom.is at c.in_ok-passed.ensures in
    (past_atom c.loop-reached.invariant c.look-seen.ensures c.if-seen-eq-THE_END.false c.in_command.ensures turn).1

pub block-inside-requires : goal.block-inside-requires
block-inside-requires t c =
    let turn = rw c.in-List.is at c.in_ok-passed.ensures in
    (list_starts c.loop-reached.invariant c.look-seen.ensures c.if-seen-eq-THE_END.false turn c.requires.3 c.requires.4).1

pub block-returns-in_err-end-in-List-clause-in_command : goal.block-returns-in_err-end-in-List-clause-in_command
block-returns-in_err-end-in-List-clause-in_command t c =
    let turn = rw c.in-List.is at c.in_ok-passed.ensures in
    let inside = c.in_err-end-in-List.ensures in
    let stopped = refusal_some _ in
    rw (exit _ _ c.from_residual-in_err-end-in-List.ensures.1)
    (in_parameter c.loop-reached.invariant c.look-seen.ensures c.if-seen-eq-THE_END.false c.in_command.ensures turn inside.bounded inside.judges_list
    (sym (past_fault _ _ stopped)) stopped)

pub block-returns-in_err-reached-in-List-clause-in_command : goal.block-returns-in_err-reached-in-List-clause-in_command
block-returns-in_err-reached-in-List-clause-in_command t c =
    let turn = rw c.in-List.is at c.in_ok-passed.ensures in
    let inside = c.in_ok-end-in-List.ensures in
    rw (exit _ _ c.from_residual-in_err-reached-in-List.ensures.1)
    (in_parameter c.loop-reached.invariant c.look-seen.ensures c.if-seen-eq-THE_END.false c.in_command.ensures turn inside.bounded inside.judges_list
    c.in_err-reached-in-List.ensures (refusal_some _))

pub block-loop-reached-smaller : goal.block-loop-reached-smaller
block-loop-reached-smaller t c =
    let turn = rw c.in-List.is at c.in_ok-passed.ensures in
    let inside = c.in_ok-end-in-List.ensures in
    omega (
      arith,
      past_parameter c.loop-reached.invariant c.look-seen.ensures c.if-seen-eq-THE_END.false c.in_command.ensures turn inside.bounded
          inside.judges_list c.in_ok-reached-in-List.ensures refl,
    )

pub block-loop-reached-preserved : goal.block-loop-reached-preserved
block-loop-reached-preserved t c =
    let turn = rw c.in-List.is at c.in_ok-passed.ensures in
    let inside = c.in_ok-end-in-List.ensures in
    (past_parameter c.loop-reached.invariant c.look-seen.ensures c.if-seen-eq-THE_END.false c.in_command.ensures turn inside.bounded
    inside.judges_list c.in_ok-reached-in-List.ensures refl).1

pub child-returns-in_err-end-clause-judges_child : goal.child-returns-in_err-end-clause-judges_child
child-returns-in_err-end-clause-judges_child t c =
    let inside = c.in_err-end.ensures in
    rw (exit _ _ c.from_residual.ensures.1)
    (inside_child (sym c.is_command.ensures ∙ c.if-not-is_command.true) c.requires.1 inside.bounded inside.judges_list
    (sym (past_fault _ _ (refusal_some _))) (omega (arith, c.requires.0)))

pub child-returns-then-not-is_command : goal.child-returns-then-not-is_command
child-returns-then-not-is_command t c =
    let inside = c.in_ok-end.ensures in record {
      bounded = past_bounded inside.bounded c.past_bracket.ensures;
      judges_child = inside_child (sym c.is_command.ensures ∙ c.if-not-is_command.true)
          c.requires.1 inside.bounded inside.judges_list c.past_bracket.ensures (omega (arith, c.requires.0));
    }

pub child-returns-in_err-end-2-clause-judges_child : goal.child-returns-in_err-end-2-clause-judges_child
child-returns-in_err-end-2-clause-judges_child t c =
    let opened = c.opened.ensures in
    let block = c.in_err-end-2.ensures in
    rw (exit _ _ c.from_residual-in_err-end-2.ensures.1)
    (command_child (sym c.is_command.ensures ∙ c.if-not-is_command.false) c.requires.1 (omega (arith, c.requires.0))
    (rw opened.inner at block.bounded) (rw (opened.element, opened.inner) at block.in_command) opened.tape_after
    (λ y. absurd (refusal_some _ y)))

pub child-returns-clause-judges_child : goal.child-returns-clause-judges_child
child-returns-clause-judges_child t c =
    let opened = c.opened.ensures in
    let block = c.in_ok-end-2.ensures in
    command_child (sym c.is_command.ensures ∙ c.if-not-is_command.false) c.requires.1 (omega (arith, c.requires.0))
    (rw opened.inner at block.bounded) (rw (opened.element, opened.inner) at block.in_command) opened.tape_after
    (λ y. rw opened.element at c.leave.ensures)

pub content-returns-then-ends : goal.content-returns-then-ends
content-returns-then-ends t c =
    let whole = content_ended c.loop-seen.invariant c.look-seen.ensures (sym c.ends.ensures ∙ c.if-ends.true) c.at_end.ensures in
    record { bounded = whole.0; in_content = whole.1 }

pub content-take_turn-requires : goal.content-take_turn-requires
content-take_turn-requires t c =
    let goes_on = not_ended _ _ _ (sym c.ends.ensures ∙ c.if-ends.false) in
    let may = may_turn c.loop-seen.invariant c.look-seen.ensures goes_on.0 c.requires.3 in
    (may.0, may.1, may.2, may.3, c.requires.4)

pub content-returns-in_err-passed-clause-in_content : goal.content-returns-in_err-passed-clause-in_content
content-returns-in_err-passed-clause-in_content t c =
    rw (exit _ _ c.from_residual.ensures.1)
    (child_refused c.loop-seen.invariant c.look-seen.ensures (sym c.ends.ensures ∙ c.if-ends.false) c.loose.ensures c.in_err-passed.ensures)

pub content-loop-seen-smaller-in-Atom : goal.content-loop-seen-smaller-in-Atom
content-loop-seen-smaller-in-Atom t c =
    let turn = rw c.in-Atom.is at c.in_ok-passed.ensures in
    omega (arith, past_atom_child c.loop-seen.invariant c.look-seen.ensures (sym c.ends.ensures ∙ c.if-ends.false) c.loose.ensures turn)

pub content-loop-seen-preserved-in-Atom : goal.content-loop-seen-preserved-in-Atom
content-loop-seen-preserved-in-Atom t c =
    let turn = rw c.in-Atom.is at c.in_ok-passed.ensures in
    (past_atom_child c.loop-seen.invariant c.look-seen.ensures (sym c.ends.ensures ∙ c.if-ends.false) c.loose.ensures turn).1

pub content-child-requires : goal.content-child-requires
content-child-requires t c =
    let goes_on = sym c.ends.ensures ∙ c.if-ends.false in
    let turn = rw c.in-List.is at c.in_ok-passed.ensures in
    let starts = list_starts c.loop-seen.invariant c.look-seen.ensures (not_ended _ _ _ goes_on).0 turn c.requires.3 c.requires.4 in
    (omega (arith, starts, c.decreases), (starts.1, child_belongs c.loop-seen.invariant c.look-seen.ensures goes_on c.loose.ensures turn))

pub content-returns-in_err-reached-in-List-clause-in_content : goal.content-returns-in_err-reached-in-List-clause-in_content
content-returns-in_err-reached-in-List-clause-in_content t c =
    let turn = rw c.in-List.is at c.in_ok-passed.ensures in
    let child = c.in_err-reached-in-List.ensures in
    rw (exit _ _ c.from_residual-in_err-reached-in-List.ensures.1)
    (in_child c.loop-seen.invariant c.look-seen.ensures (sym c.ends.ensures ∙ c.if-ends.false) c.loose.ensures turn child.bounded child.judges_child
    (refusal_some _))

pub content-loop-seen-preserved : goal.content-loop-seen-preserved
content-loop-seen-preserved t c =
    let turn = rw c.in-List.is at c.in_ok-passed.ensures in
    let child = c.in_ok-reached-in-List.ensures in
    (past_child c.loop-seen.invariant c.look-seen.ensures (sym c.ends.ensures ∙ c.if-ends.false) c.loose.ensures turn child.bounded child.judges_child refl).1
