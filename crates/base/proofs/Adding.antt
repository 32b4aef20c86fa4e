-- Pieces written one after another.
use Prim.Native.Nat.{ℕ, ◌+◌, ◌<◌, ◌≤◌, min}
use mathlib.Core.Path.{◌≡◌, refl, sym, ◌∙◌}
use mathlib.Core.List.{List, [], ◌∷◌, ◌++◌}
use native.Mathlib.Nat.{add-zero}
use native.Mathlib.Omega.{arith}
use lib.Dec.{leb}
use lib.ListN.{length, take, drop, set, length-append}
use lib.Seq.{sets}
use borrow.Author.Tests.{leb-true, le-leb, lt-leb}
use Rattle.base.specs.Adds.{greatest_word, word_sum, Adds}
use Rattle.base.proofs.Booleans.{cond_case}
use Rattle.base.proofs.Stores.{sets_append, sets_lesser}

-- A sum that fits a word, and one that does not.
pub sum_within : (a n : ℕ) → a + n ≤ greatest_word → word_sum a n ≡ a + n
unfolding word_sum
sum_within a n h = rw (le-leb (a + n) greatest_word h)

pub sum_past : (a n : ℕ) → greatest_word < a + n → word_sum a n ≡ 0
unfolding word_sum
sum_past a n h = rw (lt-leb (a + n) greatest_word h)

pub sum_most : (a n : ℕ) {r : ℕ} → r ≡ word_sum a n → r ≤ greatest_word
unfolding word_sum
sum_most a n e =
    rw e (cond_case (λ (r : ℕ). r ≤ greatest_word) (leb (a + n) greatest_word) (λ t. leb-true (a + n) greatest_word t) (λ t. omega arith))

-- What `put_bytes` and `put_byte` promise.
pub adds_put : {s : List ℕ} {at : ℕ} {out : List ℕ} {r : ℕ} {later : List ℕ} → (r ≡ word_sum at (length s)) × (later ≡ sets out at s) → Adds s at out r later
adds_put {s} {at} p = record { next_index = λ h. p.0 ∙ sum_within at (length s) h; bytes_stored = λ h. p.1 }

pub adds_byte : {b at : ℕ} {out : List ℕ} {r : ℕ} {later : List ℕ} → (r ≡ word_sum at 1) × (later ≡ set out at b) → Adds (b ∷ []) at out r later
adds_byte {at = at} p = record { next_index = λ h. p.0 ∙ sum_within at 1 h; bytes_stored = λ h. p.1 }

-- The same piece under another name.
pub adds_as : {s t : List ℕ} {at : ℕ} {out : List ℕ} {r : ℕ} {later : List ℕ} → s ≡ t → Adds s at out r later → Adds t at out r later
adds_as e a = rw e at a

pub adds_none : (at : ℕ) (out : List ℕ) → Adds [] at out at out
adds_none at out = record { next_index = λ h. sym (add-zero at); bytes_stored = λ h. refl }

pub adds_join : {s t : List ℕ} {at m r : ℕ} {out mid later : List ℕ} → Adds s at out m mid → Adds t m mid r later → Adds (s ++ t) at out r later
adds_join {s} {t} {at} {m} {r} {out} {mid} {later} a b = record {
  next_index = λ h.
      let l = length-append s t in
      let e : m ≡ at + length s = a.next_index (omega arith) in
      b.next_index (omega arith) ∙ omega arith;
  bytes_stored = λ h.
      let l = length-append s t in
      let e : m ≡ at + length s = a.next_index (omega arith) in
      b.bytes_stored (omega arith) ∙ (rw (e, a.bytes_stored (omega arith)) (sym (sets_append out s t at)));
}

-- A piece that is written into the tail of the output, which begins at `at` or, where that lies past the end, is empty.
pub adds_tail : {s out part : List ℕ} {at k n r : ℕ} → k ≡ min at (length out) → Adds s 0 (drop k out) n part
    → (at + n ≤ greatest_word → r ≡ at + n) → Adds s at out r (take k out ++ part)
adds_tail {s} {out} {part} {at} {k} {n} {r} e a f = record {
  next_index = λ h. let m : n ≡ 0 + length s = a.next_index (omega arith) in f (omega arith) ∙ omega arith;
  bytes_stored = λ h. rw (a.bytes_stored (omega arith)) (sym (sets_lesser out s at k e));
}
