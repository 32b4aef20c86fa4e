-- Stores one after another. A store past the end writes nothing, so no bound is asked.
use mathlib.Core.Path.{◌≡◌, refl, sym, ap, ◌∙◌}
use mathlib.Core.List.{List, [], ◌∷◌, ◌++◌}
use Prim.Native.Nat.{ℕ, zero, suc, ◌+◌, ◌-◌, ◌<◌, ◌≤◌, min}
use native.Mathlib.Nat.{add-zero, zero-add}
use native.Mathlib.Omega.{arith}
use lib.ListN.{length, get_or, take, drop, set, length-set, take-append-drop, drop_of_length-le}
use lib.Seq.{sets, sets-eq, set_out, get_or-set_same, get_or-set_other, drop-set-add, take-set-le}

pub sets_append : (out vs ws : List ℕ) (i : ℕ) → sets out i (vs ++ ws) ≡ sets (sets out i vs) (i + length vs) ws
sets_append out [] ws i = rw (add-zero i)
sets_append out (v ∷ vs) ws i =
    let place : suc i + length vs ≡ i + suc (length vs) = omega arith in
    rw (← place) (sets_append (set out i v) vs ws (suc i))

-- Two runs of stores that meet are one.
pub sets_on : (l m z : List ℕ) (i j : ℕ) (xs ys zs : List ℕ) → m ≡ sets l i xs → z ≡ sets m j ys → j ≡ i + length xs → zs ≡ xs ++ ys → z ≡ sets l i zs
sets_on l m z i j xs ys zs p q r s =
    q ∙ ap (λ (n : List ℕ). sets n j ys) p ∙ ap (λ (k : ℕ). sets (sets l i xs) k ys) r ∙ sym (sets_append l xs ys i) ∙ ap (sets l i) (sym s)

-- Past the end nothing is written.
pub sets_past : (vs out : List ℕ) (i : ℕ) → length out ≤ i → sets out i vs ≡ out
sets_past [] out i h = refl
sets_past (v ∷ vs) out i h = rw (set_out out i v h) (sets_past vs out (suc i) (omega arith))

-- A run of stores that begins in the tail of a list is one in the tail alone.
sets_tail : (out s : List ℕ) (k n : ℕ) → sets out (k + n) s ≡ take k out ++ sets (drop k out) n s
sets_tail out [] k n = sym (take-append-drop k out)
sets_tail out (b ∷ s) k n =
    let e : suc (k + n) ≡ k + suc n = omega arith in
    let h : k ≤ k + n = omega arith in
    rw e (sets_tail (set out (k + n) b) s k (suc n) ∙ (rw (take-set-le k out (k + n) b, drop-set-add k out n b)))

sets_nothing : (s : List ℕ) (n : ℕ) → ◌≡◌ {A = List ℕ} (sets [] n s) []
sets_nothing [] n = refl
sets_nothing (b ∷ s) n = sets_nothing s (suc n)

-- Where a list ends, a run of stores from its end on or from any later index on is none.
pub sets_lesser : (out s : List ℕ) (at k : ℕ) → k ≡ min at (length out) → sets out at s ≡ take k out ++ sets (drop k out) 0 s
sets_lesser out s at k e = go (at - k) refl
  where
    go : (n : ℕ) → at - k ≡ n → sets out at s ≡ take k out ++ sets (drop k out) 0 s
    go zero d =
        let same : at ≡ k + 0 = omega arith in
        rw same (sets_tail out s k 0)
    go (suc n) d =
        let same : at ≡ k + suc n = omega arith in
        let past : length out ≤ k = omega arith in
        rw same (sets_tail out s k (suc n) ∙ (rw (drop_of_length-le out past, sets_nothing s (suc n), sets_nothing s 0)))

-- What is whole within the output stands before the bytes that keep their values.
pub sets_front : (out s : List ℕ) → length s ≤ length out → sets out 0 s ≡ s ++ drop (length s) out
sets_front out s h = sets-eq s out 0 (omega arith) ∙ rw (zero-add (length s))

-- A run of stores changes no word before or after it.
pub sets_other : (l : List ℕ) (j : ℕ) (vs : List ℕ) (i : ℕ) → (j ≤ i → i < j + length vs → ⊥) → get_or (sets l j vs) i 0 ≡ get_or l i 0
sets_other l j [] i out = refl
sets_other l j (v ∷ vs) i out =
    sets_other (set l j v) (suc j) vs i (λ h h'. out (omega arith) (omega arith)) ∙ get_or-set_other l j i v 0 (λ e. out (omega arith) (omega arith))

-- The word k of a run of stores.
pub sets_word : (l : List ℕ) (j : ℕ) (vs : List ℕ) (k : ℕ) → j + length vs ≤ length l → k < length vs → get_or (sets l j vs) (j + k) 0 ≡ get_or vs k 0
sets_word l j [] k h i = absurd (omega arith)
sets_word l j (v ∷ vs) zero h i =
    ap (λ (n : ℕ). get_or (sets (set l j v) (suc j) vs) n 0) (add-zero j)
    ∙ sets_other (set l j v) (suc j) vs j (λ g g'. omega arith)
    ∙ get_or-set_same l j v 0 (omega arith)
sets_word l j (v ∷ vs) (suc k) h i =
    let e : j + suc k ≡ suc j + k = omega arith in
    ap (λ (n : ℕ). get_or (sets (set l j v) (suc j) vs) n 0) e
    ∙ sets_word (set l j v) (suc j) vs k (rw length-set (omega arith)) (omega arith)
