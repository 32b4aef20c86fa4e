-- A sequence that the table of `specs/reference/Sequence.antt` has is the encoding of a scalar value, and each encoding is such a sequence.
use mathlib.Core.Path.{◌≡◌, refl, ap, sym, ◌∙◌}
use mathlib.Core.Bool.{◌&&◌}
use mathlib.Core.Logic.{◌⊎◌, inl, inr, ⊎_elim}
use mathlib.Core.List.{List, [], ◌∷◌, ◌++◌}
use Prim.Native.Nat.{ℕ, suc, ◌+◌, ◌-◌, ◌*◌, ◌/◌, ◌≤◌, ◌<◌}
use native.Mathlib.Omega.{arith}
use lib.Dec.{T, leb, ltb, eqb, leb→le, le→leb, lt→ltb, ltb→lt}
use lib.ListN.{length, drop}
use lib.Seq.{drop-append_seam}
use borrow.Author.Tests.{le-leb, lt-leb, leb-true, leb-false, eqb-true, eqb-false}
use Rattle.utf8.specs.rules.Scalar.{is_scalar, further, encode}
use Rattle.utf8.specs.reference.Sequence.{Range, to, within, begins, forms, first_form, sequence_length}
use Rattle.base.proofs.Booleans.{cond_case, bool_case, both, both_true, or_true, or_left, or_right, T_true, true_T}
use Rattle.utf8.proofs.Rows.{low, high, continuation, choose, by_range, sequence_by_range}

-- ---- the second byte's range, by the first byte

low_cases : {P : Type 0} (a b : ℕ) → low a ≤ b → (a ≡ 0xE0 → 0xA0 ≤ b → P) → (a ≡ 0xF0 → 0x90 ≤ b → P)
    → ((a ≡ 0xE0 → ⊥) → (a ≡ 0xF0 → ⊥) → 0x80 ≤ b → P) → P
low_cases {P} a b h e0 f0 else =
    (cond_case (λ (l : ℕ). l ≤ b → P) (eqb a 0xE0) (λ e. e0 (eqb-true a 0xE0 e))
    (λ e. cond_case (λ (l : ℕ). l ≤ b → P) (eqb a 0xF0) (λ f. f0 (eqb-true a 0xF0 f)) (λ f. else (eqb-false a 0xE0 e) (eqb-false a 0xF0 f)))) h

high_cases : {P : Type 0} (a b : ℕ) → b ≤ high a → (a ≡ 0xED → b ≤ 0x9F → P) → (a ≡ 0xF4 → b ≤ 0x8F → P)
    → ((a ≡ 0xED → ⊥) → (a ≡ 0xF4 → ⊥) → b ≤ 0xBF → P) → P
high_cases {P} a b h ed f4 else =
    (cond_case (λ (l : ℕ). b ≤ l → P) (eqb a 0xED) (λ e. ed (eqb-true a 0xED e))
    (λ e. cond_case (λ (l : ℕ). b ≤ l → P) (eqb a 0xF4) (λ f. f4 (eqb-true a 0xF4 f)) (λ f. else (eqb-false a 0xED e) (eqb-false a 0xF4 f)))) h

second_bounds : (a b : ℕ) → low a ≤ b → b ≤ high a → (0x80 ≤ b) × (b ≤ 0xBF)
second_bounds a b h k =
    (low_cases a b h (λ x y. omega arith) (λ x y. omega arith) (λ x y z. z), high_cases a b k (λ x y. omega arith) (λ x y. omega arith) (λ x y z. z))

-- ---- bytes in their ranges

within_both : (r : Range) (b : ℕ) → T (within r b) → (r.low ≤ b) × (b ≤ r.high)
unfolding within
within_both r b t =
    let (p, q) = both (leb r.low b) (leb b r.high) t in
    (leb→le r.low b p, leb→le b r.high q)

begun : (r : Range) (rs : List Range) (b : ℕ) (s : List ℕ) → r.low ≤ b → b ≤ r.high → T (begins rs s) → T (begins (r ∷ rs) (b ∷ s))
unfolding begins within
begun r rs b s h k t =
    both_true (within r b) (begins rs s) (both_true (leb r.low b) (leb b r.high) (le→leb r.low b h) (le→leb b r.high k)) t

-- a second byte that is in the range that the first one leaves it
second_begun : (a b : ℕ) (rs : List Range) (s : List ℕ) → (a ≡ 0xE0 → 0xA0 ≤ b) → (a ≡ 0xF0 → 0x90 ≤ b) → (a ≡ 0xED → b ≤ 0x9F) → (a ≡ 0xF4 → b ≤ 0x8F)
    → 0x80 ≤ b → b ≤ 0xBF → T (begins rs s) → T (begins (to (low a) (high a) ∷ rs) (b ∷ s))
second_begun a b rs s e0 f0 ed f4 l h =
    let from : low a ≤ b =
    cond_case (λ (m : ℕ). m ≤ b) (eqb a 0xE0) (λ e. e0 (eqb-true a 0xE0 e))
    (λ e. cond_case (λ (m : ℕ). m ≤ b) (eqb a 0xF0) (λ f. f0 (eqb-true a 0xF0 f)) (λ f. l)) in
    let up_to : b ≤ high a =
    cond_case (λ (m : ℕ). b ≤ m) (eqb a 0xED) (λ e. ed (eqb-true a 0xED e))
    (λ e. cond_case (λ (m : ℕ). b ≤ m) (eqb a 0xF4) (λ f. f4 (eqb-true a 0xF4 f)) (λ f. h)) in
    begun (to (low a) (high a)) rs b s from up_to

further_begun : (n : ℕ) (rs : List Range) (s : List ℕ) → T (begins rs s) → T (begins (continuation ∷ rs) (further n ∷ s))
further_begun n rs s = begun continuation rs (further n) s (omega arith) (omega arith)

record SequenceBegun (r : Range) (rs : List Range) (s : List ℕ) : Type 0 where
  byte : ℕ
  rest : List ℕ
  is_text_lem : byte ∷ rest ≡ s
  from : r.low ≤ byte
  up_to : byte ≤ r.high
  further : T (begins rs rest)

begun_of_lem : (r : Range) (rs : List Range) (s : List ℕ) → T (begins (r ∷ rs) s) → SequenceBegun r rs s
unfolding begins
begun_of_lem r rs [] t = absurd t
begun_of_lem r rs (b ∷ s) t =
    let (w, f) = both (within r b) (begins rs s) t in
    let (l, h) = within_both r b w in
    record { byte = b; rest = s; is_text_lem = refl; from = l; up_to = h; further = f }

-- ---- each encoding is a sequence of the table

sequence_of : (a : ℕ) (f : List Range) (s : List ℕ) → by_range a ≡ f ∷ [] → T (begins f s) → sequence_length (a ∷ s) ≡ suc (length f)
unfolding choose
sequence_of a f s e t = sequence_by_range a s ∙ rw (e, T_true (begins f s) t)

module _ (a : ℕ) where
  one_row : a ≤ 0x7F → by_range a ≡ [] ∷ []
  unfolding by_range
  one_row h = rw (le-leb a 0x7F h)

  two_row : 0xC2 ≤ a → a ≤ 0xDF → by_range a ≡ (to (low a) (high a) ∷ []) ∷ []
  unfolding by_range
  two_row h k = rw (lt-leb a 0x7F (omega arith), lt-leb a 0xC1 (omega arith), le-leb a 0xDF k)

  three_row : 0xE0 ≤ a → a ≤ 0xEF → by_range a ≡ (to (low a) (high a) ∷ continuation ∷ []) ∷ []
  unfolding by_range
  three_row h k = rw (lt-leb a 0x7F (omega arith), lt-leb a 0xC1 (omega arith), lt-leb a 0xDF (omega arith), le-leb a 0xEF k)

  four_row : 0xF0 ≤ a → a ≤ 0xF4 → by_range a ≡ (to (low a) (high a) ∷ continuation ∷ continuation ∷ []) ∷ []
  unfolding by_range
  four_row h k =
      rw (lt-leb a 0x7F (omega arith), lt-leb a 0xC1 (omega arith), lt-leb a 0xDF (omega arith), lt-leb a 0xEF (omega arith), le-leb a 0xF4 k)

pub scalar_below : (n : ℕ) → n < 0xD800 → T (is_scalar n)
unfolding is_scalar
scalar_below n h = or_left (ltb n 0xD800) (leb 0xE000 n && leb n 0x10FFFF) (lt→ltb n 0xD800 h)

scalar_above : (n : ℕ) → 0xE000 ≤ n → n ≤ 0x10FFFF → T (is_scalar n)
unfolding is_scalar
scalar_above n h k =
    or_right (ltb n 0xD800) (leb 0xE000 n && leb n 0x10FFFF) (both_true (leb 0xE000 n) (leb n 0x10FFFF) (le→leb 0xE000 n h) (le→leb n 0x10FFFF k))

scalar_cases : (n : ℕ) → T (is_scalar n) → (n < 0xD800) ⊎ ((0xE000 ≤ n) × (n ≤ 0x10FFFF))
unfolding is_scalar
scalar_cases n t =
    ⊎_elim (λ b. inl (ltb→lt n 0xD800 b))
    (λ b. let (p, q) = both (leb 0xE000 n) (leb n 0x10FFFF) b in inr (leb→le 0xE000 n p, leb→le n 0x10FFFF q))
    (or_true (ltb n 0xD800) (leb 0xE000 n && leb n 0x10FFFF) t)

scalar_bound : (n : ℕ) → T (is_scalar n) → n ≤ 0x10FFFF
scalar_bound n t = ⊎_elim (λ c. omega arith) (λ c. c.1) (scalar_cases n t)

module _ (n : ℕ) (rest : List ℕ) where
  two_long : 0x7F < n → n ≤ 0x7FF → sequence_length ((0xC0 + n / 64) ∷ further n ∷ rest) ≡ 2
  unfolding begins
  two_long h k =
      let a = 0xC0 + n / 64 in
      sequence_of a (to (low a) (high a) ∷ []) (further n ∷ rest) (two_row a (omega arith) (omega arith))
      (second_begun a (further n) [] rest (λ e. omega arith) (λ e. omega arith) (λ e. omega arith) (λ e. omega arith) (omega arith) (omega arith) tt)

  three_long : T (is_scalar n) → 0x7FF < n → n ≤ 0xFFFF → sequence_length ((0xE0 + n / 4096) ∷ further (n / 64) ∷ further n ∷ rest) ≡ 3
  unfolding begins
  three_long t h k =
      let a = 0xE0 + n / 4096 in
      sequence_of a (to (low a) (high a) ∷ continuation ∷ []) (further (n / 64) ∷ further n ∷ rest) (three_row a (omega arith) (omega arith))
      (second_begun a (further (n / 64)) (continuation ∷ []) (further n ∷ rest) (λ e. omega arith) (λ e. omega arith)
      (λ e. ⊎_elim (λ c. omega arith) (λ c. omega arith) (scalar_cases n t))
      (λ e. omega arith) (omega arith) (omega arith) (further_begun n [] rest tt))

  four_long : n ≤ 0x10FFFF → 0xFFFF < n → sequence_length ((0xF0 + n / 262144) ∷ further (n / 4096) ∷ further (n / 64) ∷ further n ∷ rest) ≡ 4
  unfolding begins
  four_long k h =
      let a = 0xF0 + n / 262144 in
      sequence_of a (to (low a) (high a) ∷ continuation ∷ continuation ∷ []) (further (n / 4096) ∷ further (n / 64) ∷ further n ∷ rest)
      (four_row a (omega arith) (omega arith))
      (second_begun a (further (n / 4096)) (continuation ∷ continuation ∷ []) (further (n / 64) ∷ further n ∷ rest)
      (λ e. omega arith) (λ e. omega arith) (λ e. omega arith) (λ e. omega arith) (omega arith) (omega arith)
      (further_begun (n / 64) (continuation ∷ []) (further n ∷ rest) (further_begun n [] rest tt)))

pub encode_length : (n : ℕ) (rest : List ℕ) → T (is_scalar n) → sequence_length (encode n ++ rest) ≡ length (encode n)
unfolding encode begins
encode_length n rest t =
    let P : List ℕ → Type 0 = λ l. sequence_length (l ++ rest) ≡ length l in
    cond_case P (leb n 0x7F) (λ e. sequence_of n [] rest (one_row n (leb-true n 0x7F e)) tt)
    (λ e. cond_case P (leb n 0x7FF) (λ f. two_long n rest (leb-false n 0x7F e) (leb-true n 0x7FF f))
    (λ f. cond_case P (leb n 0xFFFF) (λ g. three_long n rest t (leb-false n 0x7FF f) (leb-true n 0xFFFF g))
    (λ g. four_long n rest (scalar_bound n t) (leb-false n 0xFFFF g))))

-- ---- a sequence of the table is an encoding

pub record Starts (s : List ℕ) (k : ℕ) : Type 0 where
  pub number : ℕ
  pub is_scalar_lem : T (is_scalar number)
  pub size : length (encode number) ≡ k
  pub encoded : encode number ++ drop k s ≡ s

-- The bytes l, of which a number's encoding is made, and what follows them.
starts : (n : ℕ) (l t : List ℕ) → T (is_scalar n) → encode n ≡ l → Starts (l ++ t) (length l)
starts n l t c e = record { number = n; is_scalar_lem = c; size = ap length e; encoded = rw (e, drop-append_seam l t) }

-- The number that two, three or four bytes stand for.
two_bytes : (a b n : ℕ) (t : List ℕ) → 0xC2 ≤ a → a ≤ 0xDF → low a ≤ b → b ≤ high a → n + 0xC0 * 64 + 0x80 ≡ a * 64 + b
    → Starts (a ∷ b ∷ t) 2
unfolding encode
two_bytes a b n t h₁ h₂ h₃ h₄ e =
    let bounds = second_bounds a b h₃ h₄ in
    let p : 0xC0 + n / 64 ≡ a = omega arith in
    let q : further n ≡ b = omega arith in
    starts n (a ∷ b ∷ []) t (scalar_below n (omega arith)) (rw (lt-leb n 0x7F (omega arith), le-leb n 0x7FF (omega arith), p, q))

three_bytes : (a b c n : ℕ) (t : List ℕ) → 0xE0 ≤ a → a ≤ 0xEF → low a ≤ b → b ≤ high a → 0x80 ≤ c → c ≤ 0xBF
    → n + 0xE0 * 4096 + 0x80 * 64 + 0x80 ≡ a * 4096 + b * 64 + c → Starts (a ∷ b ∷ c ∷ t) 3
unfolding encode
three_bytes a b c n t h₁ h₂ h₃ h₄ h₅ h₆ e =
    let bounds = second_bounds a b h₃ h₄ in
    let from : 0x800 ≤ n = low_cases a b h₃ (λ x y. omega arith) (λ x y. omega arith) (λ x y z. omega arith) in
    let scalar : T (is_scalar n) =
    high_cases a b h₄ (λ x y. scalar_below n (omega arith)) (λ x y. absurd (omega arith))
    (λ x y z. bool_case (leb a 0xED) (λ l. scalar_below n (omega (arith, leb-true a 0xED l))) (λ l. scalar_above n (omega (arith, leb-false a 0xED l)) (omega arith))) in
    let p : 0xE0 + n / 4096 ≡ a = omega arith in
    let q : further (n / 64) ≡ b = omega arith in
    let r : further n ≡ c = omega arith in
    starts n (a ∷ b ∷ c ∷ []) t scalar (rw (lt-leb n 0x7F (omega arith), lt-leb n 0x7FF (omega arith), le-leb n 0xFFFF (omega arith), p, q, r))

four_bytes : (a b c d n : ℕ) (t : List ℕ) → 0xF0 ≤ a → a ≤ 0xF4 → low a ≤ b → b ≤ high a → 0x80 ≤ c → c ≤ 0xBF → 0x80 ≤ d → d ≤ 0xBF
    → n + 0xF0 * 262144 + 0x80 * 4096 + 0x80 * 64 + 0x80 ≡ a * 262144 + b * 4096 + c * 64 + d
    → Starts (a ∷ b ∷ c ∷ d ∷ t) 4
unfolding encode
four_bytes a b c d n t h₁ h₂ h₃ h₄ h₅ h₆ h₇ h₈ e =
    let bounds = second_bounds a b h₃ h₄ in
    let from : 0x10000 ≤ n = low_cases a b h₃ (λ x y. omega arith) (λ x y. omega arith) (λ x y z. omega arith) in
    let up_to : n ≤ 0x10FFFF = high_cases a b h₄ (λ x y. omega arith) (λ x y. omega arith) (λ x y z. omega arith) in
    let p : 0xF0 + n / 262144 ≡ a = omega arith in
    let q : further (n / 4096) ≡ b = omega arith in
    let r : further (n / 64) ≡ c = omega arith in
    let s : further n ≡ d = omega arith in
    starts n (a ∷ b ∷ c ∷ d ∷ []) t (scalar_above n (omega arith) up_to) (rw (lt-leb n 0x7F (omega arith), lt-leb n 0x7FF (omega arith), lt-leb n 0xFFFF (omega arith), p, q, r, s))

one_row_only : (f : List Range) (s : List ℕ) (k : ℕ) → choose (f ∷ []) s ≡ suc k → T (begins f s) × (length f ≡ k)
unfolding choose
one_row_only f s k =
    cond_case (λ (n : ℕ). n ≡ suc k → T (begins f s) × (length f ≡ k)) (begins f s) (λ b e. (true_T b, omega arith)) (λ b e. absurd (omega arith))

module _ (a : ℕ) (s : List ℕ) where
  one_starts : a ≤ 0x7F → Starts (a ∷ s) 1
  unfolding encode
  one_starts h = starts a (a ∷ []) s (scalar_below a (omega arith)) (rw (le-leb a 0x7F h))

  two_starts : 0xC1 < a → a ≤ 0xDF → T (begins (to (low a) (high a) ∷ []) s) → Starts (a ∷ s) 2
  two_starts h k t =
      let u = begun_of_lem (to (low a) (high a)) [] s t in
      rw (← u.is_text_lem)
      (two_bytes a u.byte ((a - 0xC0) * 64 + (u.byte - 0x80)) u.rest h k u.from u.up_to
      (omega (arith, second_bounds a u.byte u.from u.up_to)))

  three_starts : 0xDF < a → a ≤ 0xEF → T (begins (to (low a) (high a) ∷ continuation ∷ []) s) → Starts (a ∷ s) 3
  three_starts h k t =
      let u = begun_of_lem (to (low a) (high a)) (continuation ∷ []) s t in
      let v = begun_of_lem continuation [] u.rest u.further in
      rw (← u.is_text_lem, ← v.is_text_lem)
      (three_bytes a u.byte v.byte ((a - 0xE0) * 4096 + (u.byte - 0x80) * 64 + (v.byte - 0x80)) v.rest h k u.from u.up_to v.from v.up_to
      (omega (arith, second_bounds a u.byte u.from u.up_to, v.from)))

  four_starts : 0xEF < a → a ≤ 0xF4 → T (begins (to (low a) (high a) ∷ continuation ∷ continuation ∷ []) s) → Starts (a ∷ s) 4
  four_starts h k t =
      let u = begun_of_lem (to (low a) (high a)) (continuation ∷ continuation ∷ []) s t in
      let v = begun_of_lem continuation (continuation ∷ []) u.rest u.further in
      let w = begun_of_lem continuation [] v.rest v.further in
      rw (← u.is_text_lem, ← v.is_text_lem, ← w.is_text_lem)
      (four_bytes a u.byte v.byte w.byte ((a - 0xF0) * 262144 + (u.byte - 0x80) * 4096 + (v.byte - 0x80) * 64 + (w.byte - 0x80)) w.rest h k
      u.from u.up_to v.from v.up_to w.from w.up_to
      (omega (arith, second_bounds a u.byte u.from u.up_to, v.from, w.from)))

  by_first : (k : ℕ) → choose (by_range a) s ≡ suc k → Starts (a ∷ s) (suc k)
  unfolding by_range choose
  by_first k =
      let P : List (List Range) → Type 0 = λ rows. choose rows s ≡ suc k → Starts (a ∷ s) (suc k) in
      let none : 0 ≡ suc k → Starts (a ∷ s) (suc k) = λ e. absurd (omega arith) in
      let one : (f : List Range) → (T (begins f s) → Starts (a ∷ s) (suc (length f))) → P (f ∷ []) = λ f g e.
      let (t, z) = one_row_only f s k e in rw z at (g t) in
      cond_case P (leb a 0x7F) (λ h. one [] (λ t. one_starts (leb-true a 0x7F h)))
      (λ h₁. cond_case P (leb a 0xC1) (λ h. none)
      (λ h₂. cond_case P (leb a 0xDF) (λ h. one (to (low a) (high a) ∷ []) (two_starts (leb-false a 0xC1 h₂) (leb-true a 0xDF h)))
      (λ h₃. cond_case P (leb a 0xEF) (λ h. one (to (low a) (high a) ∷ continuation ∷ []) (three_starts (leb-false a 0xDF h₃) (leb-true a 0xEF h)))
      (λ h₄. cond_case P (leb a 0xF4) (λ h. one (to (low a) (high a) ∷ continuation ∷ continuation ∷ []) (four_starts (leb-false a 0xEF h₄) (leb-true a 0xF4 h)))
      (λ h₅. none)))))

pub nothing_starts : sequence_length [] ≡ 0
unfolding sequence_length first_form forms begins
nothing_starts = refl

pub starts_of : (s : List ℕ) (k : ℕ) → sequence_length s ≡ suc k → Starts s (suc k)
starts_of [] k e = absurd (omega (arith, nothing_starts))
starts_of (a ∷ s) k e = by_first a s k (sym (sequence_by_range a s) ∙ e)
