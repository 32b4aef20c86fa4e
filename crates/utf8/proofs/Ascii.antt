-- ASCII bytes, several at once: each is a sequence by itself, so the walk passes them all.
use mathlib.Core.Path.{◌≡◌, refl, ap, sym, ◌∙◌}
use mathlib.Core.Bool.{Bool, true, false, ◌&&◌}
use mathlib.Core.List.{List, [], ◌∷◌}
use Prim.Native.Nat.{ℕ, zero, suc, ◌+◌, ◌-◌, ◌≤◌, ◌<◌}
use native.Mathlib.Nat.{zero-add, suc-add}
use native.Mathlib.Omega.{arith}
use lib.Dec.{T, ltb}
use lib.ListN.{length, drop, get_or, replicate, length-drop, length-replicate, drop_of_length-le}
use lib.Seq.{drop-cons, drop-drop}
use borrow.Author.Tests.{le-leb, lt-leb, ltb-true, ltb-false}
use Rattle.base.proofs.Booleans.{bool_case, both, and_true, true_T, T_true, not_T_false}
use Rattle.utf8.specs.reference.Sequence.{to, within, forms, begins, begins_ascii, first_form, sequence_length, valid_from}
use Rattle.utf8.proofs.Walk.{begins_fits, walk}

-- ---- the code's tests

ascii_test : (b : ℕ) → within (to 0x00 0x7F) b ≡ ltb b 0x80
unfolding within
ascii_test b =
    rw (le-leb 0 b (omega arith))
    (bool_case (ltb b 0x80)
    (λ e. le-leb b 0x7F (omega (arith, ltb-true b 0x80 e)) ∙ sym e)
    (λ e. lt-leb b 0x7F (omega (arith, ltb-false b 0x80 e)) ∙ sym e))

pub ascii_byte : (text : List ℕ) (i : ℕ) → i < length text → begins_ascii 1 (drop i text) ≡ ltb (get_or text i 0) 0x80
unfolding begins_ascii begins
ascii_byte text i h = rw (drop-cons text i 0 h, and_true) (ascii_test (get_or text i 0))

and_assoc : (a b c : Bool) → a && (b && c) ≡ ((a && b) && c)
and_assoc true b c = refl
and_assoc false b c = refl

ascii_parts : (n m : ℕ) (s : List ℕ) → begins_ascii (n + m) s ≡ (begins_ascii n s && begins_ascii m (drop n s))
unfolding begins_ascii begins
ascii_parts zero m s = rw (zero-add m)
ascii_parts (suc n) m [] = rw (suc-add n m)
ascii_parts (suc n) m (b ∷ s) = rw (suc-add n m) (ap (λ (t : Bool). within (to 0x00 0x7F) b && t) (ascii_parts n m s) ∙ and_assoc (within (to 0x00 0x7F) b) _ _)

-- Blocks that follow one another are one block.
pub ascii_join : (text : List ℕ) (i n m : ℕ) → (begins_ascii n (drop i text) && begins_ascii m (drop (i + n) text)) ≡ begins_ascii (n + m) (drop i text)
ascii_join text i n m = rw (← drop-drop n i text) (sym (ascii_parts n m (drop i text)))

-- One byte more.
pub ascii_next : (text : List ℕ) (i n : ℕ) {t : Bool} → i + n < length text → t ≡ begins_ascii n (drop i text)
    → (t && ltb (get_or text (i + n) 0) 0x80) ≡ begins_ascii (n + 1) (drop i text)
ascii_next text i n h e = rw (e, ← ascii_byte text (i + n) h) (ascii_join text i n 1)

ascii_fits : (n : ℕ) (s : List ℕ) → T (begins_ascii n s) → n ≤ length s
unfolding begins_ascii
ascii_fits n s t = rw (length-replicate n (to 0x00 0x7F)) at (begins_fits (replicate n (to 0x00 0x7F)) s t)

-- No block passes the end.
pub ascii_short : (text : List ℕ) (i n : ℕ) → length text - i < n → begins_ascii n (drop i text) ≡ false
ascii_short text i n h = not_T_false _ (λ t. omega (arith, ascii_fits n (drop i text) t, length-drop i text))

-- ---- the end of a text

ascii_later : (text : List ℕ) (i n m : ℕ) → begins_ascii (n + m) (drop i text) ≡ true → begins_ascii m (drop (i + n) text) ≡ true
ascii_later text i n m e =
    T_true _ (both (begins_ascii n (drop i text)) (begins_ascii m (drop (i + n) text)) (true_T (ascii_join text i n m ∙ e))).1

-- What is left is part of the text's last eight bytes.
pub ascii_rest : (text : List ℕ) (i : ℕ) → i ≤ length text → 8 ≤ length text → length text - i ≤ 8
    → begins_ascii 8 (drop (length text - 8) text) ≡ true → begins_ascii (length text - i) (drop i text) ≡ true
ascii_rest text i inside fits h e =
    let n : ℕ = i - (length text - 8) in
    let all : n + (length text - i) ≡ 8 = omega arith in
    let from : length text - 8 + n ≡ i = omega arith in
    rw from at (ascii_later text (length text - 8) n (length text - i) (rw all e))

-- Or it is eight bytes, and past them part of the last eight.
pub ascii_both : (text : List ℕ) (i : ℕ) → 8 < length text - i → length text - i ≤ 16
    → (begins_ascii 8 (drop i text) && begins_ascii 8 (drop (length text - 8) text)) ≡ true → begins_ascii (length text - i) (drop i text) ≡ true
ascii_both text i h k e =
    let (p, q) = both (begins_ascii 8 (drop i text)) (begins_ascii 8 (drop (length text - 8) text)) (true_T e) in
    let m : ℕ = length text - (i + 8) in
    let rest : begins_ascii m (drop (i + 8) text) ≡ true =
    ascii_rest text (i + 8) (omega arith) (omega arith) (omega arith) (T_true _ q) in
    let first : begins_ascii 8 (drop i text) ≡ true = T_true _ p in
    let whole : begins_ascii (8 + m) (drop i text) ≡ true = sym (ascii_join text i 8 m) ∙ rw (first, rest) in
    let size : 8 + m ≡ length text - i = omega arith in
    rw size at whole

-- ---- the walk

ascii_length : (b : ℕ) (s : List ℕ) → T (within (to 0x00 0x7F) b) → sequence_length (b ∷ s) ≡ 1
unfolding sequence_length first_form forms begins
ascii_length b s t = rw (T_true (within (to 0x00 0x7F) b) t)

ascii_walk : (n : ℕ) (s : List ℕ) → T (begins_ascii n s) → n + valid_from 0 (drop n s) ≡ valid_from 0 s
unfolding begins_ascii begins
ascii_walk zero s t = zero-add (valid_from 0 s)
ascii_walk (suc n) [] t = absurd t
ascii_walk (suc n) (b ∷ s) t =
    let (p, q) = both (within (to 0x00 0x7F) b) (begins (replicate n (to 0x00 0x7F)) s) t in
    omega (arith, ascii_walk n s q, walk 1 (b ∷ s) (ascii_length b s p))

-- A turn of the loop that passes a block.
module _ (text : List ℕ) (i n : ℕ) (inside : i ≤ length text) {t : Bool} (e : t ≡ begins_ascii n (drop i text)) (yes : t ≡ true) where
  block : T (begins_ascii n (drop i text))
  block = true_T (sym e ∙ yes)

  pub block_fits : i + n ≤ length text
  block_fits = omega (arith, ascii_fits n (drop i text) block, length-drop i text)

  pub block_turn : i + n + valid_from 0 (drop (i + n) text) ≡ i + valid_from 0 (drop i text)
  block_turn = rw (← drop-drop n i text) (omega (arith, ascii_walk n (drop i text) block))

-- The walk is over where all that is left is ASCII.
pub block_last : (text : List ℕ) (i : ℕ) → i ≤ length text → begins_ascii (length text - i) (drop i text) ≡ true
    → length text ≡ i + valid_from 0 (drop i text)
unfolding valid_from
block_last text i inside e =
    let end : i + (length text - i) ≡ length text = omega arith in
    let none : drop (length text) text ≡ [] = drop_of_length-le text {i = length text} (omega arith) in
    omega (arith, rw (end, none) at (block_turn text i (length text - i) inside (sym e) refl))
