-- A number's decimal digits are those of its tenth and the last one.
use mathlib.Core.Path.{◌≡◌, refl, sym, ap, ◌∙◌}
use mathlib.Core.List.{List, [], ◌∷◌, ◌++◌}
use Prim.Native.Nat.{ℕ, zero, suc, ◌+◌, ◌/◌, ◌%◌, ◌≤◌, ◌<◌}
use native.Mathlib.Nat.{mod-eq_of_lt}
use native.Mathlib.Omega.{arith}
use lib.Dec.{ltb}
use borrow.Author.Tests.{ltb-true, ltb-false, lt-ltb, le-ltb}
use Rattle.base.proofs.Booleans.{bool_case}
use Rattle.document.specs.rules.Canonical.{digit}
use Rattle.listing.specs.Listing.{numeral_within, numeral}
use Rattle.listing.specs.declared.Output.{Output}
use Rattle.listing.specs.internal.Puts.{Appends}
use Rattle.listing.proofs.Puts.{appends_on}

within_one : (k n : ℕ) → n < 10 → numeral_within k n ≡ digit n ∷ []
unfolding numeral_within
within_one zero n h = refl
within_one (suc k) n h = rw (lt-ltb n 10 h)

within_more : (k n : ℕ) → 10 ≤ n → numeral_within (suc k) n ≡ numeral_within k (n / 10) ++ (digit n ∷ [])
unfolding numeral_within
within_more k n h = rw (le-ltb n 10 h)

-- As many divisions as the number itself are enough.
enough : (j k n : ℕ) → n ≤ j → n ≤ k → numeral_within j n ≡ numeral_within k n
enough zero k n h g = within_one 0 n (omega arith) ∙ sym (within_one k n (omega arith))
enough (suc j) zero n h g = within_one (suc j) n (omega arith) ∙ sym (within_one 0 n (omega arith))
enough (suc j) (suc k) n h g =
    bool_case
    (ltb n 10)
    (λ e. let l = ltb-true n 10 e in within_one (suc j) n l ∙ sym (within_one (suc k) n l))
    (λ e.
    let l = ltb-false n 10 e in
    within_more j n l ∙ ap (λ (ds : List ℕ). ds ++ (digit n ∷ [])) (enough j k (n / 10) (omega arith) (omega arith)) ∙ sym (within_more k n l))

pub decimal_one : (n : ℕ) → n < 10 → numeral n ≡ digit n ∷ []
unfolding numeral
decimal_one n h = within_one n n h

pub decimal_more : (n : ℕ) → 10 ≤ n → numeral n ≡ numeral (n / 10) ++ (digit n ∷ [])
unfolding numeral
decimal_more zero h = absurd (omega arith)
decimal_more (suc n) h =
    within_more n (suc n) h ∙ ap (λ (ds : List ℕ). ds ++ (digit (suc n) ∷ [])) (enough n (suc n / 10) (suc n / 10) (omega arith) (omega arith))

-- A number of one digit, and the last digit of a longer one.
pub digit_alone : {a b : Output} (n : ℕ) → n < 10 → Appends a ((48 + n) ∷ []) b → Appends a (numeral n) b
unfolding digit
digit_alone n h p = rw (decimal_one n h, mod-eq_of_lt h) p

pub digit_after : {a b c : Output} (n : ℕ) → 10 ≤ n → Appends a (numeral (n / 10)) b → Appends b ((48 + n % 10) ∷ []) c → Appends a (numeral n) c
unfolding digit
digit_after n h p q = rw (decimal_more n h) (appends_on p q)
