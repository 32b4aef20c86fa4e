-- `utf8::valid_up_to` meets its contract. The loop's invariant: the answer is `i` and as many bytes more as are well formed from there on.
use mathlib.Core.Path.{◌≡◌, sym, ◌∙◌}
use native.Mathlib.Omega.{arith}
use borrow.Author.Tests.{lt-ltb}
use lib.ListN.{drop, drop_of_length-le}
use Rattle.utf8.specs.reference.Sequence.{sequence_length, valid_from, valid_up_to}
use Rattle.utf8.proofs.Ascii.{ascii_byte, block_fits, block_last, block_turn}
use Rattle.utf8.proofs.Walk.{stop, turn, turn_fits}
use Rattle.utf8.proofs.valid_up_to.Goals as goal

pub loop-i-init : goal.loop-i-init
unfolding valid_up_to
loop-i-init c = (omega arith, omega arith)

pub loop-i-preserved-then-ascii_at : goal.loop-i-preserved-then-ascii_at
loop-i-preserved-then-ascii_at c = let inv = c.loop-i.invariant in
    let ascii = c.ascii_at.ensures in
    (block_fits _ _ 16 inv.0 ascii c.if-ascii_at.true, block_turn _ _ 16 inv.0 ascii c.if-ascii_at.true ∙ inv.1)

pub returns-then-ascii_end : goal.returns-then-ascii_end
returns-then-ascii_end c = let inv = c.loop-i.invariant in
    block_last _ _ inv.0 (c.ascii_end.ensures c.if-ascii_end.true) ∙ inv.1

pub loop-i-preserved-then-ascii_at-2 : goal.loop-i-preserved-then-ascii_at-2
loop-i-preserved-then-ascii_at-2 c = let inv = c.loop-i.invariant in
    let ascii = c.ascii_at-in-loop-i.ensures in
    (block_fits _ _ 8 inv.0 ascii c.if-ascii_at-2.true, block_turn _ _ 8 inv.0 ascii c.if-ascii_at-2.true ∙ inv.1)

pub loop-i-preserved-then-text-i-lt128 : goal.loop-i-preserved-then-text-i-lt128
loop-i-preserved-then-text-i-lt128 c = let inv = c.loop-i.invariant in
    let ascii = sym (ascii_byte _ _ c.loop-i-test.true) in
    (omega arith, block_turn _ _ 1 inv.0 ascii (lt-ltb _ _ c.if-text-i-lt128.true) ∙ inv.1)

pub returns-in_default : goal.returns-in_default
returns-in_default c = let inv = c.loop-i.invariant in
    let none : sequence_length (drop c.loop-i.i c.args.text.now) ≡ 0 = omega (arith, c.in_default.ensures) in
    omega (arith, stop _ none)

pub overflow_add-i-in-loop-i : goal.overflow_add-i-in-loop-i
overflow_add-i-in-loop-i c = let (some, size) = c.in-Some.ensures in
    let good = c.well_formed in
    omega (arith, turn_fits _ _ _ c.loop-i.invariant.0 size)

pub loop-i-preserved : goal.loop-i-preserved
loop-i-preserved c = let inv = c.loop-i.invariant in
    let (some, size) = c.in-Some.ensures in
    (turn_fits _ _ _ inv.0 size, turn _ _ _ size ∙ inv.1)

pub returns : goal.returns
unfolding valid_from
returns c = omega (arith, rw (drop_of_length-le _ c.loop-i-test.false) at c.loop-i.invariant.1)
