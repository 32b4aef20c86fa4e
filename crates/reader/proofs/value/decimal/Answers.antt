-- `decimal` meets its contract: the invariant is `Counting`, and each way is one law of `Decimals`.
use native.Mathlib.Omega.{arith}
use Prim.Native.Nat.{ℕ, ◌+◌, ◌-◌, ◌≤◌}
use mathlib.Core.Path.{◌≡◌, sym, ap, ◌∙◌}
use mathlib.Core.List.{List}
use mathlib.Core.Logic.{⊎_elim}
use lib.ListN.{length, take, drop, length-drop}
use lib.Seq.{length-take-le}
use Rattle.elements.specs.rules.Characters.{is_digit}
use Rattle.reader.proofs.lemmas.value.Decimals.{number_empty, number_long, counting, decimal_small, decimal_next, decimal_other, decimal_end}
use Rattle.reader.proofs.value.decimal.Goals as goal

-- The bytes that are read.
bytes_long : (s : List ℕ) (p l : ℕ) → p + l ≤ length s → length (take l (drop p s)) ≡ l
bytes_long s p l h = length-take-le l (drop p s) (omega (arith, length-drop p s))

same_bytes : (s : List ℕ) (p l : ℕ) → take (p + l - p) (drop p s) ≡ take l (drop p s)
same_bytes s p l = let e : p + l - p ≡ l = omega arith in rw e

same_long : (s : List ℕ) (p l : ℕ) → p + l ≤ length s → length (take (p + l - p) (drop p s)) ≡ l
same_long s p l h = ap length (same_bytes s p l) ∙ bytes_long s p l h

pub returns-then-length-eq0 : goal.returns-then-length-eq0
returns-then-length-eq0 c =
    let long = bytes_long c.args.text.now c.args.place c.args.length c.requires in
    ⊎_elim (λ e. number_empty _ _ (long ∙ e)) (λ e. number_long _ _ (omega (arith, long, e.1))) c.then-length-eq0.either

pub loop-b-init : goal.loop-b-init
loop-b-init c = counting _

pub returns-then-not-is_ascii_digit : goal.returns-then-not-is_ascii_digit
unfolding is_digit
returns-then-not-is_ascii_digit c =
    let a = c.args in
    let long = same_long a.text.now a.place a.length c.requires in
    rw (← (same_bytes a.text.now a.place a.length))
    (decimal_other a.place c.loop-b.invariant c.loop-b-test.true (omega (arith, long, c.if-length-gt-MOST_DIGITS.false))
    (sym c.is_ascii_digit.ensures.value ∙ c.if-not-is_ascii_digit.true))

pub overflow_mul-number : goal.overflow_mul-number
overflow_mul-number c =
    let a = c.args in
    let long = same_long a.text.now a.place a.length c.requires in
    omega (arith, decimal_small c.loop-b.invariant c.loop-b-test.true (omega (arith, long, c.if-length-gt-MOST_DIGITS.false)))

pub overflow_add-number : goal.overflow_add-number
overflow_add-number c =
    let a = c.args in
    let long = same_long a.text.now a.place a.length c.requires in
    omega (arith, decimal_small c.loop-b.invariant c.loop-b-test.true (omega (arith, long, c.if-length-gt-MOST_DIGITS.false)))

pub loop-b-preserved : goal.loop-b-preserved
unfolding is_digit
loop-b-preserved c = decimal_next c.loop-b.invariant c.loop-b-test.true (sym c.is_ascii_digit.ensures.value ∙ c.if-not-is_ascii_digit.false)

pub returns : goal.returns
returns c =
    let a = c.args in
    let long = same_long a.text.now a.place a.length c.requires in
    rw (← (same_bytes a.text.now a.place a.length))
    (decimal_end a.place c.loop-b.invariant c.loop-b-test.false (λ e. c.if-length-eq0.false (sym long ∙ e)) (omega (arith, long, c.if-length-gt-MOST_DIGITS.false)))
