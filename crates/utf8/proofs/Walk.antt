-- How `valid_from` goes through a text: by whole sequences, none of which passes the end.
use mathlib.Core.Path.{◌≡◌, refl, ap, sym, ◌∙◌}
use mathlib.Core.List.{List, [], ◌∷◌}
use Prim.Native.Nat.{ℕ, zero, suc, ◌+◌, ◌≤◌, zero-le, suc-le-suc}
use native.Mathlib.Nat.{zero-add, suc-add, le_of_suc-le-suc, not-suc-le-zero}
use native.Mathlib.Omega.{arith}
use lib.Dec.{T}
use lib.ListN.{length, drop, length-drop}
use lib.Seq.{drop-drop}
use Rattle.utf8.specs.reference.Sequence.{Range, within, begins, forms, first_form, sequence_length, valid_from}
use Rattle.base.proofs.Booleans.{cond_case, both, true_T}

pub begins_fits : (f : List Range) (s : List ℕ) → T (begins f s) → length f ≤ length s
unfolding begins
begins_fits [] s t = zero-le
begins_fits (r ∷ rs) [] t = absurd t
begins_fits (r ∷ rs) (b ∷ s) t = suc-le-suc (begins_fits rs s (both (within r b) (begins rs s) t).1)

first_fits : (fs : List (List Range)) (s : List ℕ) → first_form fs s ≤ length s
unfolding first_form
first_fits [] s = zero-le
first_fits (f ∷ fs) s =
    cond_case (λ (n : ℕ). n ≤ length s) (begins f s) (λ e. begins_fits f s (true_T e)) (λ e. first_fits fs s)

pub sequence_fits : (s : List ℕ) → sequence_length s ≤ length s
unfolding sequence_length
sequence_fits s = first_fits forms s

skipped : (k : ℕ) (s : List ℕ) → k ≤ length s → valid_from k s ≡ k + valid_from 0 (drop k s)
unfolding valid_from
skipped zero s h = sym (zero-add (valid_from 0 s))
skipped (suc k) [] h = absurd (not-suc-le-zero h)
skipped (suc k) (b ∷ s) h = ap suc (skipped k s (le_of_suc-le-suc h)) ∙ sym (suc-add k (valid_from 0 (drop k s)))

pub stop : (s : List ℕ) → sequence_length s ≡ 0 → valid_from 0 s ≡ 0
unfolding valid_from
stop [] e = refl
stop (b ∷ s) e = rw (e, valid_from)

pub step : (k : ℕ) (s : List ℕ) → sequence_length s ≡ suc k → valid_from 0 s ≡ suc k + valid_from 0 (drop (suc k) s)
unfolding valid_from
step k [] e = absurd (not-suc-le-zero (rw e at (sequence_fits [])))
step k (b ∷ s) e =
    let h : k ≤ length s = omega (arith, e, sequence_fits (b ∷ s)) in
    rw (e, valid_from) (ap suc (skipped k s h) ∙ sym (suc-add k (valid_from 0 (drop k s))))

pub walk : (n : ℕ) (s : List ℕ) → sequence_length s ≡ n → n + valid_from 0 (drop n s) ≡ valid_from 0 s
walk zero s e = zero-add (valid_from 0 s)
walk (suc k) s e = sym (step k s e)

-- A turn of a loop that goes through a text by its sequences.
pub turn_fits : (text : List ℕ) (i n : ℕ) → i ≤ length text → n ≡ sequence_length (drop i text) → i + n ≤ length text
turn_fits text i n h e = omega (arith, sequence_fits (drop i text), length-drop i text)

pub turn : (text : List ℕ) (i n : ℕ) → n ≡ sequence_length (drop i text) → i + n + valid_from 0 (drop (i + n) text) ≡ i + valid_from 0 (drop i text)
turn text i n e = rw (← drop-drop n i text) (omega (arith, walk n (drop i text) (sym e)))

-- What is well formed is within the text.
pub valid_within : (skip : ℕ) (text : List ℕ) → valid_from skip text ≤ length text
unfolding valid_from
valid_within skip [] = omega arith
valid_within zero (b ∷ text) = go (sequence_length (b ∷ text)) (λ k. valid_within k text)
  where
    go : (n : ℕ) → ((k : ℕ) → valid_from k text ≤ length text) → elim n [ zero ↦ 0 | suc k ↦ suc (valid_from k text) ] ≤ suc (length text)
    go zero h = omega arith
    go (suc k) h = omega (arith, h k)
valid_within (suc k) (b ∷ text) = omega (arith, valid_within k text)
