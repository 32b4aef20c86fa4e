-- `rows::parameter_at` meets its contract: the bytes of a row's number stand for its parameters, and no row has more than four.
use Prim.Native.Nat.{ℕ, ◌/◌, ◌%◌, ◌*◌, ◌^◌}
use native.Mathlib.Omega.{arith}
use borrow.Author.Tests.{ne_eqb, lt-ltb, le-ltb}
use Rattle.inside.specs.internal.Table.{led, coded}
use Rattle.inside.proofs.Table.{past_four, slot_at}
use Rattle.inside.proofs.rows.parameter_at.Goals as goal

pub returns-then-place-ge-MOST_PARAMETERS : goal.returns-then-place-ge-MOST_PARAMETERS
unfolding led
returns-then-place-ge-MOST_PARAMETERS c = past_four _ _ c.if-place-ge-MOST_PARAMETERS.true

pub returns-in-0 : goal.returns-in-0
unfolding coded
returns-in-0 c = let at = rw (← c.row_of-row.ensures.0) at (slot_at c.args.kind c.args.place c.if-place-ge-MOST_PARAMETERS.false) in
    rw c.in-0.is at at

pub returns-in-1-to-63 : goal.returns-in-1-to-63
unfolding coded
returns-in-1-to-63 c = let at = rw (← c.row_of-row.ensures.0) at (slot_at c.args.kind c.args.place c.if-place-ge-MOST_PARAMETERS.false) in
    let code : ℕ = c.row_of-row.result.0 / 2 ^ (8 * c.args.place) % 256 in
    rw (ne_eqb code 0 (λ e. omega arith), lt-ltb code 64 (omega arith)) at at

pub returns-in-64-to-254 : goal.returns-in-64-to-254
unfolding coded
returns-in-64-to-254 c = let at = rw (← c.row_of-row.ensures.0) at (slot_at c.args.kind c.args.place c.if-place-ge-MOST_PARAMETERS.false) in
    let code : ℕ = c.row_of-row.result.0 / 2 ^ (8 * c.args.place) % 256 in
    rw (ne_eqb code 0 (λ e. omega arith), le-ltb code 64 (omega arith), ne_eqb code 255 (λ e. omega arith)) at at

pub returns-in-255 : goal.returns-in-255
unfolding coded
returns-in-255 c = let at = rw (← c.row_of-row.ensures.0) at (slot_at c.args.kind c.args.place c.if-place-ge-MOST_PARAMETERS.false) in
    rw c.in-255.is at at
