-- `utf8::position` meets its contract. The loop's invariant: line and column, counted on through what is left before the place, are the answer.
use mathlib.Core.Path.{◌≡◌, refl, sym, ◌∙◌}
use Prim.Native.Nat.{ℕ, ◌<◌, ◌≤◌, min}
use native.Mathlib.Omega.{arith}
use borrow.Author.Tests.{eq-eqb, ne_eqb}
use lib.ListN.{length, get_or, length-take}
use lib.Seq.{get_or-take}
use Rattle.utf8.specs.rules.Position.{line_of, column_of, line_feeds}
use Rattle.utf8.proofs.Column.{next_line, next_column, column_start, column_end, column_step, line_step, next_line_bound, next_column_bound, left_step, left_end}
use Rattle.utf8.proofs.position.Goals as goal
use Rattle.utf8.proofs.position.Goals.{then-b-eq10, else-b-eq10+then-not-is_continuation, else-b-eq10+else-not-is_continuation}

pub loop-b-init : goal.loop-b-init
unfolding line_of column_of
loop-b-init c = (omega arith, omega arith, refl, column_start _)

pub loop-b-preserved : goal.loop-b-preserved
loop-b-preserved c = let args = c.args in
    let loop = c.loop-b in
    let h : loop.b-index < min args.place (length args.text.now) = omega (arith, length-take {A = ℕ}) in
    let e = left_step args.text.now args.place loop.b-index h in
    let b = get_or args.text.now loop.b-index 0 in
    let item = get_or-take c.min.result args.text.now loop.b-index 0 (omega arith) in
    let next : (c.if-b-eq10.line ≡ next_line b loop.line) × (c.if-b-eq10.column ≡ next_column b loop.column) =
    elim c.if-b-eq10.branch [
      | then-b-eq10 w ↦ (let feed = eq-eqb _ _ (rw item at w.if-b-eq10.true) in (rw feed w.line-is, rw feed w.column-is))
      | else-b-eq10+then-not-is_continuation w ↦
          (let start = ne_eqb _ _ (rw item at w.if-b-eq10.false) in
          (rw start w.line-is, rw (start, ← (rw item at w.is_continuation.ensures), w.if-not-is_continuation.true) w.column-is))
      | else-b-eq10+else-not-is_continuation w ↦
          (let inside = ne_eqb _ _ (rw item at w.if-b-eq10.false) in
          (rw inside w.line-is, rw (inside, ← (rw item at w.is_continuation.ensures), w.if-not-is_continuation.false) w.column-is))
    ] in (
      omega (arith, next, next_line_bound b loop.line),
      omega (arith, next, next_column_bound b loop.column),
      rw (next.0, ← line_step, ← e) loop.invariant.2,
      rw (next.1, ← column_step, ← e) loop.invariant.3,
    )

pub returns : goal.returns
unfolding line_feeds
returns c = let args = c.args in
    let loop = c.loop-b in
    let h : min args.place (length args.text.now) ≤ loop.b-index = omega (arith, length-take {A = ℕ}) in
    let done = left_end args.text.now args.place loop.b-index h in
    (omega (arith, rw done at loop.invariant.2), sym (column_end loop.column) ∙ (rw done at loop.invariant.3))
