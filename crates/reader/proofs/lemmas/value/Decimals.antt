-- The number of a size, read digit by digit.
use Prim.Native.Nat.{ℕ, zero, suc, ◌+◌, ◌*◌, ◌-◌, ◌≤◌, ◌<◌}
use mathlib.Core.Path.{◌≡◌, refl, sym, ◌∙◌}
use mathlib.Core.Bool.{true, false, cond}
use mathlib.Core.List.{List, [], ◌∷◌}
use native.Mathlib.Numerals.{add-one}
use native.Mathlib.Omega.{arith}
use lib.Dec.{leb, leb→le}
use lib.ListN.{length, get_or, drop, drop_of_length-le}
use lib.Seq.{drop-cons}
use borrow.Author.Tests.{le-leb, lt-leb}
use Rattle.base.proofs.Booleans.{both, true_T}
use Rattle.syntax.specs.rules.Expression.{symbol}
use Rattle.elements.specs.rules.Characters.{is_digit}
use Rattle.document.specs.rules.Value.{every, is_decimal, decimal_after, non_empty}
use Rattle.document.specs.reference.Meaning.{number_of, symbol_bytes}

-- The number of bytes that are decimal digits, after the number n of those before; or 65,536.
pub number_after : ℕ → List ℕ → ℕ
number_after n ds = cond (every is_digit ds) (decimal_after n ds) 65536

pub number_empty : (p : ℕ) (v : List ℕ) → length v ≡ 0 → 65536 ≡ number_of (symbol p v)
unfolding number_of symbol_bytes is_decimal non_empty
number_empty p [] e = refl
number_empty p (b ∷ v) e = absurd (omega arith)

pub number_long : (p : ℕ) (v : List ℕ) → 5 < length v → 65536 ≡ number_of (symbol p v)
unfolding number_of symbol_bytes is_decimal non_empty
number_long p [] h = refl
number_long p (b ∷ v) h = rw (lt-leb (length (b ∷ v)) 5 h)

number_some : (p : ℕ) (v : List ℕ) → 0 < length v → length v ≤ 5 → number_after 0 v ≡ number_of (symbol p v)
unfolding number_after number_of symbol_bytes is_decimal non_empty
number_some p [] h f = absurd (omega arith)
number_some p (b ∷ v) h f = rw (le-leb (length (b ∷ v)) 5 f)

after_digit : (n b : ℕ) (v : List ℕ) → is_digit b ≡ true → number_after n (b ∷ v) ≡ number_after (n * 10 + (b - 48)) v
unfolding number_after every decimal_after
after_digit n b v e = rw e

after_other : (n b : ℕ) (v : List ℕ) → is_digit b ≡ false → number_after n (b ∷ v) ≡ 65536
unfolding number_after every
after_other n b v e = rw e

after_all : (n : ℕ) → number_after n [] ≡ n
unfolding number_after every decimal_after
after_all n = refl

-- More than any number of k digits.
pub tens : ℕ → ℕ
tens zero = 1
tens (suc k) = tens k * 10

tens_small : (k : ℕ) → k ≤ 5 → tens k ≤ 100000
unfolding tens
tens_small zero h = omega arith
tens_small (suc zero) h = omega arith
tens_small (suc (suc zero)) h = omega arith
tens_small (suc (suc (suc zero))) h = omega arith
tens_small (suc (suc (suc (suc zero)))) h = omega arith
tens_small (suc (suc (suc (suc (suc zero))))) h = omega arith
tens_small (suc (suc (suc (suc (suc (suc k)))))) h = absurd (omega arith)

tens_next : (k n d : ℕ) → n < tens k → d ≤ 9 → n * 10 + d < tens (suc k)
unfolding tens
tens_next k n d h f = omega arith

digit_small : (b : ℕ) → is_digit b ≡ true → (48 ≤ b) × (b ≤ 57)
unfolding is_digit
digit_small b d = let (low, high) = both (leb 48 b) (leb b 57) (true_T d) in (leb→le 48 b low, leb→le b 57 high)

-- Of the bytes v those before index i are digits and make n.
pub record Counting (v : List ℕ) (i n : ℕ) : Type 0 where
  pub few : n < tens i
  pub same : number_after n (drop i v) ≡ number_after 0 v

pub counting : (v : List ℕ) → Counting v 0 0
unfolding tens
counting v = record { few = omega arith; same = refl }

module _ {v : List ℕ} {i n : ℕ} (c : Counting v i n) where
  pub decimal_small : i < length v → length v ≤ 5 → n < 100000
  decimal_small h f = omega (arith, tens_small i (omega arith), c.few)

  pub decimal_next : i < length v → is_digit (get_or v i 0) ≡ true → Counting v (i + 1) (n * 10 + (get_or v i 0 - 48))
  decimal_next h d =
      record {
        few = rw (add-one i) (tens_next i n (get_or v i 0 - 48) c.few (omega (arith, digit_small (get_or v i 0) d)));
        same = rw (add-one i) (sym (after_digit n (get_or v i 0) (drop (suc i) v) d) ∙ rw (← (drop-cons v i 0 h)) c.same);
      }

module _ (p : ℕ) {v : List ℕ} where
  pub decimal_other : {i n : ℕ} → Counting v i n → i < length v → length v ≤ 5 → is_digit (get_or v i 0) ≡ false → 65536 ≡ number_of (symbol p v)
  decimal_other {i} {n} c h f d =
      sym (after_other n (get_or v i 0) (drop (suc i) v) d) ∙ rw (← (drop-cons v i 0 h)) c.same ∙ number_some p v (omega arith) f

  pub decimal_end : {i n : ℕ} → Counting v i n → length v ≤ i → (length v ≡ 0 → ⊥) → length v ≤ 5 → n ≡ number_of (symbol p v)
  decimal_end {i} {n} c h some f =
      sym (after_all n) ∙ rw (← (drop_of_length-le v h)) c.same ∙ number_some p v (omega arith) f
