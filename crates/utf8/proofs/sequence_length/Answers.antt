-- `utf8::sequence_length` meets its contract: each answer is the one that `steps` of `proofs/Rows.antt` has for the tests that led to it.
use mathlib.Core.Path.{◌≡◌, refl, sym}
use mathlib.Core.Bool.{Bool, cond, true}
use mathlib.Core.Logic.{⊎_elim}
use mathlib.Core.List.{List}
use Prim.Native.Nat.{ℕ, suc, ◌+◌, ◌<◌, ◌≤◌}
use native.Mathlib.Omega.{arith}
use borrow.Author.Tests.{eq-eqb, ne_eqb, lt-ltb, le-ltb}
use lib.Dec.{eqb}
use lib.ListN.{length, drop, get_or, drop_of_length-le}
use Rattle.utf8.specs.reference.Sequence.{begins, first_form, forms, leading_ones, sequence_length, to}
use Rattle.utf8.proofs.Rows.{low, high, continuation, steps, stands_in, steps_at}
use Rattle.utf8.proofs.sequence_length.Goals as goal

found : (n : ℕ) {m : ℕ} → m ≡ suc n → (0 < m) × (suc n ≡ m)
found n e = (omega arith, sym e)

none : {m : ℕ} → m ≡ 0 → 0 < m → ⊥
none e h = omega arith

-- What is known of the answer once the leading ones of the first byte a are counted, then once the second byte is read, and then once the third is.
module _ (text : List ℕ) (i a ones : ℕ) (inside : i < length text) (at : a ≡ get_or text i 0) (e : ones ≡ leading_ones a) where
  -- whether the second byte is in its range
  abbrev second : Bool
  second = stands_in (to (low a) (high a)) (i + 1) text

  -- whether the byte k places on continues a character
  abbrev continues : ℕ → Bool
  continues k = stands_in continuation (i + k) text

  first_read : sequence_length (drop i text) ≡ steps ones a second (continues 2) (continues 3)
  first_read = rw (steps_at text i a inside (sym at), ← e)

  module _ (two : Bool) (some : ones ≡ 0 → ⊥) (above : 0xC2 ≤ a) (below : a ≤ 0xF4) (same : two ≡ second) where
    second_read : sequence_length (drop i text) ≡ cond two (cond (eqb ones 2) 2 (cond (continues 2) (cond (eqb ones 3) 3 (cond (continues 3) 4 0)) 0)) 0
    second_read = rw (first_read, ne_eqb ones 0 some, le-ltb _ _ above, le-ltb _ _ below, ← same)

    third_read : (three : Bool) → two ≡ true → (ones ≡ 2 → ⊥) → three ≡ continues 2
        → sequence_length (drop i text) ≡ cond three (cond (eqb ones 3) 3 (cond (continues 3) 4 0)) 0
    third_read three in_range more next = rw (second_read, in_range, ne_eqb ones 2 more, ← next)

pub returns-in_err-first : goal.returns-in_err-first
unfolding sequence_length first_form forms begins
returns-in_err-first c = rw (c.from_residual.ensures, drop_of_length-le _ c.in_err-first.ensures.lookup.3) (none refl)

pub returns-then-ones-eq0 : goal.returns-then-ones-eq0
returns-then-ones-eq0 c = let (inside, at) = c.in_ok-first.ensures.lookup.3 in
    found 0 (rw (first_read c.args.text.now c.args.place c.in_ok-first.field-0.now _ inside (at 0) c.leading_ones-ones.ensures, eq-eqb _ 0 c.if-ones-eq0.true))

pub returns-then-first-lt194 : goal.returns-then-first-lt194
returns-then-first-lt194 c = let (inside, at) = c.in_ok-first.ensures.lookup.3 in
    let read = first_read c.args.text.now c.args.place c.in_ok-first.field-0.now _ inside (at 0) c.leading_ones-ones.ensures in
    let some = ne_eqb _ 0 c.if-ones-eq0.false in
    ⊎_elim (λ low. none (rw (read, some, lt-ltb c.in_ok-first.field-0.now 0xC2 (omega arith))))
    (λ high. none (rw (read, some, le-ltb c.in_ok-first.field-0.now 0xC2 (omega arith), lt-ltb _ _ high.1))) c.then-first-lt194.either

pub returns-then-not-byte_within : goal.returns-then-not-byte_within
returns-then-not-byte_within c = let (inside, at) = c.in_ok-first.ensures.lookup.3 in
    let read = second_read c.args.text.now c.args.place c.in_ok-first.field-0.now _ inside (at 0) c.leading_ones-ones.ensures c.byte_within.result
    c.if-ones-eq0.false (omega arith) (omega arith) (rw (← c.second_low.ensures, ← c.second_high.ensures) c.byte_within.ensures) in
    none (rw (read, c.if-not-byte_within.true))

pub returns-then-ones-eq2 : goal.returns-then-ones-eq2
returns-then-ones-eq2 c = let (inside, at) = c.in_ok-first.ensures.lookup.3 in
    let read = second_read c.args.text.now c.args.place c.in_ok-first.field-0.now _ inside (at 0) c.leading_ones-ones.ensures c.byte_within.result
    c.if-ones-eq0.false (omega arith) (omega arith) (rw (← c.second_low.ensures, ← c.second_high.ensures) c.byte_within.ensures) in
    found 1 (rw (read, c.if-not-byte_within.false, eq-eqb _ 2 c.if-ones-eq2.true))

pub returns-then-not-byte_within-2 : goal.returns-then-not-byte_within-2
returns-then-not-byte_within-2 c = let (inside, at) = c.in_ok-first.ensures.lookup.3 in
    let read = third_read c.args.text.now c.args.place c.in_ok-first.field-0.now _ inside (at 0) c.leading_ones-ones.ensures c.byte_within.result
    c.if-ones-eq0.false (omega arith) (omega arith) (rw (← c.second_low.ensures, ← c.second_high.ensures) c.byte_within.ensures) c.byte_within-2.result
    c.if-not-byte_within.false c.if-ones-eq2.false c.byte_within-2.ensures in
    none (rw (read, c.if-not-byte_within-2.true))

pub returns-then-ones-eq3 : goal.returns-then-ones-eq3
returns-then-ones-eq3 c = let (inside, at) = c.in_ok-first.ensures.lookup.3 in
    let read = third_read c.args.text.now c.args.place c.in_ok-first.field-0.now _ inside (at 0) c.leading_ones-ones.ensures c.byte_within.result
    c.if-ones-eq0.false (omega arith) (omega arith) (rw (← c.second_low.ensures, ← c.second_high.ensures) c.byte_within.ensures) c.byte_within-2.result
    c.if-not-byte_within.false c.if-ones-eq2.false c.byte_within-2.ensures in
    found 2 (rw (read, c.if-not-byte_within-2.false, eq-eqb _ 3 c.if-ones-eq3.true))

pub returns-then-not-byte_within-3 : goal.returns-then-not-byte_within-3
returns-then-not-byte_within-3 c = let (inside, at) = c.in_ok-first.ensures.lookup.3 in
    let read = third_read c.args.text.now c.args.place c.in_ok-first.field-0.now _ inside (at 0) c.leading_ones-ones.ensures c.byte_within.result
    c.if-ones-eq0.false (omega arith) (omega arith) (rw (← c.second_low.ensures, ← c.second_high.ensures) c.byte_within.ensures) c.byte_within-2.result
    c.if-not-byte_within.false c.if-ones-eq2.false c.byte_within-2.ensures in
    none (rw (read, c.if-not-byte_within-2.false, ne_eqb _ 3 c.if-ones-eq3.false, ← c.byte_within-3.ensures, c.if-not-byte_within-3.true))

pub returns : goal.returns
returns c = let (inside, at) = c.in_ok-first.ensures.lookup.3 in
    let read = third_read c.args.text.now c.args.place c.in_ok-first.field-0.now _ inside (at 0) c.leading_ones-ones.ensures c.byte_within.result
    c.if-ones-eq0.false (omega arith) (omega arith) (rw (← c.second_low.ensures, ← c.second_high.ensures) c.byte_within.ensures) c.byte_within-2.result
    c.if-not-byte_within.false c.if-ones-eq2.false c.byte_within-2.ensures in
    found 3 (rw (read, c.if-not-byte_within-2.false, ne_eqb _ 3 c.if-ones-eq3.false, ← c.byte_within-3.ensures, c.if-not-byte_within-3.false))
