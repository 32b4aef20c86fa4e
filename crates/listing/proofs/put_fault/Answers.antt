-- `put_fault` meets its contract.
use native.Mathlib.Omega.{arith}
use Rattle.utf8.proofs.PositionBounds.{position_within}
use Rattle.listing.proofs.Faults.{fault_too_long, fault_refused}
use Rattle.listing.proofs.put_fault.Goals as goal

pub returns-then-text-gt-LONGEST_TEXT : goal.returns-then-text-gt-LONGEST_TEXT
returns-then-text-gt-LONGEST_TEXT c =
    record { value = rw (fault_too_long _ _ _ _ c.if-text-gt-LONGEST_TEXT.true) c.put_too_long.ensures.value; out_after = rw (fault_too_long _ _ _ _ c.if-text-gt-LONGEST_TEXT.true) c.put_too_long.ensures.out_after }

pub overflow_cast-p : goal.overflow_cast-p
overflow_cast-p c = let if1 = c.if-text-gt-LONGEST_TEXT in
    let args = c.args in
    omega (arith, if1.false, c.position-p.ensures.0, (position_within args.text.now c.word.result).line_within)

pub overflow_cast-p-2 : goal.overflow_cast-p-2
overflow_cast-p-2 c = let if1 = c.if-text-gt-LONGEST_TEXT in
    let args = c.args in
    omega (arith, if1.false, c.position-p.ensures.1, (position_within args.text.now c.word.result).column_within)

pub returns : goal.returns
returns c = let position = c.position-p in
    let word = c.word in
    let if1 = c.if-text-gt-LONGEST_TEXT in
    record { value = rw (fault_refused _ _ _ _ if1.false, ← word.ensures, ← position.ensures.0, ← position.ensures.1) c.put_refusal.ensures.value; out_after = rw (fault_refused _ _ _ _ if1.false, ← word.ensures, ← position.ensures.0, ← position.ensures.1) c.put_refusal.ensures.out_after }
