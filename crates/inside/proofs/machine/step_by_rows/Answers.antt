-- `machine::step_by_rows` meets its contract: the state's number says which function goes on.
use Prim.Native.Nat.{ℕ, ◌<◌, ◌≤◌}
use mathlib.Core.Path.{◌≡◌}
use native.Mathlib.Omega.{arith}
use borrow.Author.Tests.{lt-ltb}
use Rattle.elements.specs.rules.Inside.{step}
use Rattle.inside.specs.Machine.{state_of, next_state}
use Rattle.inside.proofs.Steps.{place_state, child_state, child_stays}
use Rattle.inside.proofs.machine.step_by_rows.Goals as goal

six : (n : ℕ) → 5 ≤ n → n < 7 → (n ≡ 5 → ⊥) → n ≡ 6
six n low high other = omega arith

pub returns-then-state-lt-AFTER_ID : goal.returns-then-state-lt-AFTER_ID
unfolding step next_state
returns-then-state-lt-AFTER_ID c = rw (place_state _ _ c.if-state-lt-AFTER_ID.true, lt-ltb _ 5 c.if-state-lt-AFTER_ID.true) c.next_parameter.ensures

pub returns-then-state-ge-HOLDING : goal.returns-then-state-ge-HOLDING
unfolding step
returns-then-state-ge-HOLDING c = rw (child_state _ _ c.if-state-ge-HOLDING.true, child_stays _ _ _ c.if-state-ge-HOLDING.true) c.next_child.ensures

pub returns-then-state-eq-AFTER_ID : goal.returns-then-state-eq-AFTER_ID
unfolding step state_of next_state
returns-then-state-eq-AFTER_ID c = rw c.if-state-eq-AFTER_ID.true c.last_parameter.ensures

pub returns : goal.returns
unfolding step state_of next_state
returns c = rw (six _ c.if-state-lt-AFTER_ID.false c.if-state-ge-HOLDING.false c.if-state-eq-AFTER_ID.false) c.last_parameter-2.ensures
