-- What the table of `specs/reference/Sequence.antt` says of each first byte: by the byte's range, and by its leading one bits, as the code goes.
-- The 256 bytes are compared by one test that antt computes; a number that is no byte begins no row.
use mathlib.Core.Path.{◌≡◌, refl, ap, ap₂, sym, ◌∙◌}
use mathlib.Core.Bool.{Bool, true, false, cond, ◌&&◌}
use mathlib.Core.List.{List, [], ◌∷◌}
use Prim.Native.Nat.{ℕ, suc, ◌+◌, ◌-◌, ◌<◌}
use native.Mathlib.Omega.{arith}
use lib.Count.{count_leading_zeros}
use lib.Dec.{T, leb, ltb, eqb, leb→le, eqb→eq}
use lib.ListN.{length, drop, get_or}
use lib.Seq.{drop-cons, drop-drop}
use borrow.Author.Tests.{lt-leb, leb-true, leb-false, lt-ltb, le-ltb}
use Rattle.base.proofs.Booleans.{bool_case, cond_under, both, and_true, and_false}
use Rattle.base.proofs.Tables.{below, each_below}
use Rattle.utf8.specs.reference.Sequence.{Range, to, within, forms, begins, first_form, sequence_length, leading_ones}

-- Two lists are equal where a test says so of their elements.
same : {A : Type 0} → (A → A → Bool) → List A → List A → Bool
same e [] [] = true
same e [] (y ∷ ys) = false
same e (x ∷ xs) [] = false
same e (x ∷ xs) (y ∷ ys) = e x y && same e xs ys

same_eq : {A : Type 0} (e : A → A → Bool) → ((x y : A) → T (e x y) → x ≡ y) → (xs ys : List A) → T (same e xs ys) → xs ≡ ys
unfolding same
same_eq e h [] [] t = refl
same_eq e h [] (y ∷ ys) t = absurd t
same_eq e h (x ∷ xs) [] t = absurd t
same_eq e h (x ∷ xs) (y ∷ ys) t =
    let (p, q) = both (e x y) (same e xs ys) t in
    ap₂ (λ a l. a ∷ l) (h x y p) (same_eq e h xs ys q)

same_range : Range → Range → Bool
same_range r q = eqb r.low q.low && eqb r.high q.high

same_range_lem : (r q : Range) → T (same_range r q) → r ≡ q
unfolding same_range
same_range_lem r q t =
    let (l, h) = both (eqb r.low q.low) (eqb r.high q.high) t in
    λ i. record { low = eqb→eq r.low q.low l i; high = eqb→eq r.high q.high h i }

-- The rows whose first range holds a, without that range.
tails : ℕ → List (List Range) → List (List Range)
tails a [] = []
tails a ([] ∷ fs) = []
tails a ((r ∷ rs) ∷ fs) = cond (within r a) (rs ∷ tails a fs) (tails a fs)

-- The length of a sequence by what stands after its first byte.
unfoldable pub choose : List (List Range) → List ℕ → ℕ
choose [] s = 0
choose (f ∷ fs) s = cond (begins f s) (suc (length f)) (choose fs s)

row_tail : (a : ℕ) (s : List ℕ) (b : Bool) (rs : List Range) (fs : List (List Range)) → first_form fs (a ∷ s) ≡ choose (tails a fs) s
    → cond (b && begins rs s) (suc (length rs)) (first_form fs (a ∷ s)) ≡ choose (cond b (rs ∷ tails a fs) (tails a fs)) s
unfolding choose
row_tail a s true rs fs e = ap (cond (begins rs s) (suc (length rs))) e
row_tail a s false rs fs e = e

first_tail : (fs : List (List Range)) (a : ℕ) (s : List ℕ) → first_form fs (a ∷ s) ≡ choose (tails a fs) s
unfolding first_form begins tails choose
first_tail [] a s = refl
first_tail ([] ∷ fs) a s = refl
first_tail ((r ∷ rs) ∷ fs) a s = row_tail a s (within r a) rs fs (first_tail fs a s)

-- No row begins with a number past the rows' first ranges.
firsts_up_to : ℕ → List (List Range) → Bool
firsts_up_to m [] = true
firsts_up_to m ([] ∷ fs) = true
firsts_up_to m ((r ∷ rs) ∷ fs) = leb r.high m && firsts_up_to m fs

past_range : (r : Range) (a : ℕ) → r.high < a → within r a ≡ false
unfolding within
past_range r a h = rw (lt-leb a r.high h) (and_false (leb r.low a))

past : (m a : ℕ) (fs : List (List Range)) → T (firsts_up_to m fs) → m < a → tails a fs ≡ []
unfolding firsts_up_to tails
past m a [] t h = refl
past m a ([] ∷ fs) t h = refl
past m a ((r ∷ rs) ∷ fs) t h =
    let (p, q) = both (leb r.high m) (firsts_up_to m fs) t in
    rw (past_range r a (omega (arith, leb→le r.high m p))) (past m a fs q h)

forms_up_to : T (firsts_up_to 0xF4 forms)
unfolding firsts_up_to forms
forms_up_to = tt

-- A rule for what may follow a first byte gives a sequence's length, if it has the table's rows at each byte and none past the bytes.
agrees : (ℕ → List (List Range)) → ℕ → Bool
agrees rule a = same (same same_range) (tails a forms) (rule a)

tails_rule : (rule : ℕ → List (List Range)) → T (below (agrees rule) 256) → ((a : ℕ) → 0xFF < a → rule a ≡ []) → (a : ℕ) → tails a forms ≡ rule a
unfolding agrees
tails_rule rule t past_bytes a =
    bool_case (leb a 0xFF)
    (λ e. same_eq (same same_range) (same_eq same_range same_range_lem) (tails a forms) (rule a) (each_below (agrees rule) 256 a (omega (arith, leb-true a 0xFF e)) t))
    (λ e. past 0xF4 a forms forms_up_to (omega (arith, leb-false a 0xFF e)) ∙ sym (past_bytes a (leb-false a 0xFF e)))

by_rule : (rule : ℕ → List (List Range)) → T (below (agrees rule) 256) → ((a : ℕ) → 0xFF < a → rule a ≡ [])
    → (a : ℕ) (s : List ℕ) → sequence_length (a ∷ s) ≡ choose (rule a) s
unfolding sequence_length
by_rule rule t past_bytes a s =
    first_tail forms a s ∙ ap (λ (fs : List (List Range)). choose fs s) (tails_rule rule t past_bytes a)

-- The second byte's range.
abbrev pub low : ℕ → ℕ
low a = cond (eqb a 0xE0) 0xA0 (cond (eqb a 0xF0) 0x90 0x80)

abbrev pub high : ℕ → ℕ
high a = cond (eqb a 0xED) 0x9F (cond (eqb a 0xF4) 0x8F 0xBF)

abbrev pub continuation : Range
continuation = to 0x80 0xBF

-- What may follow the first byte a, by a itself: nothing more, the bytes of its one row, or no row at all.
unfoldable pub by_range : ℕ → List (List Range)
by_range a =
    cond (leb a 0x7F) ([] ∷ [])
    (cond (leb a 0xC1) []
    (cond (leb a 0xDF) ((to (low a) (high a) ∷ []) ∷ [])
    (cond (leb a 0xEF) ((to (low a) (high a) ∷ continuation ∷ []) ∷ [])
    (cond (leb a 0xF4) ((to (low a) (high a) ∷ continuation ∷ continuation ∷ []) ∷ []) []))))

by_range_all : T (below (agrees by_range) 256)
unfolding agrees same same_range tails forms within by_range
by_range_all = tt

by_range_past : (a : ℕ) → 0xFF < a → by_range a ≡ []
unfolding by_range
by_range_past a h =
    rw (lt-leb a 0x7F (omega arith), lt-leb a 0xC1 (omega arith), lt-leb a 0xDF (omega arith), lt-leb a 0xEF (omega arith), lt-leb a 0xF4 (omega arith))

pub sequence_by_range : (a : ℕ) (s : List ℕ) → sequence_length (a ∷ s) ≡ choose (by_range a) s
sequence_by_range = by_rule by_range by_range_all by_range_past

-- The same by the leading one bits, as the code has it.
by_ones : ℕ → List (List Range)
by_ones a =
    cond (eqb (leading_ones a) 0) ([] ∷ [])
    (cond (ltb a 0xC2) []
    (cond (ltb 0xF4 a) []
    (cond (eqb (leading_ones a) 2) ((to (low a) (high a) ∷ []) ∷ [])
    (cond (eqb (leading_ones a) 3) ((to (low a) (high a) ∷ continuation ∷ []) ∷ [])
    ((to (low a) (high a) ∷ continuation ∷ continuation ∷ []) ∷ [])))))

by_ones_all : T (below (agrees by_ones) 256)
unfolding agrees same same_range tails forms within by_ones leading_ones count_leading_zeros
by_ones_all = tt

-- the complement of a number that is no byte is 0, which has 8 leading zeros
by_ones_past : (a : ℕ) → 0xFF < a → by_ones a ≡ []
unfolding by_ones leading_ones count_leading_zeros
by_ones_past a h =
    let z : 255 - a ≡ 0 = omega arith in
    rw (z, lt-ltb 0xF4 a (omega arith), le-ltb a 0xC2 (omega arith))

-- The bytes of a row one at a time, as the code reads them.
begins_cons : (r : Range) (rs : List Range) (s : List ℕ) → begins (r ∷ rs) s ≡ begins (r ∷ []) s && begins rs (drop 1 s)
unfolding begins
begins_cons r rs [] = refl
begins_cons r rs (b ∷ s) = rw and_true

in_turn_lem : (two three first second third : Bool)
    → ◌≡◌ {A = ℕ} (cond two (cond first 2 0) (cond three (cond (first && second) 3 0) (cond (first && (second && third)) 4 0)))
    (cond first (cond two 2 (cond second (cond three 3 (cond third 4 0)) 0)) 0)
in_turn_lem true three first second third = refl
in_turn_lem false true true second third = refl
in_turn_lem false true false second third = refl
in_turn_lem false false true true third = refl
in_turn_lem false false true false third = refl
in_turn_lem false false false second third = refl

-- What the code answers, from the leading one bits of the first byte, that byte, and whether the second, third and fourth byte are in range.
abbrev pub steps : ℕ → ℕ → Bool → Bool → Bool → ℕ
steps ones a second third fourth =
    cond (eqb ones 0) 1
    (cond (ltb a 0xC2) 0
    (cond (ltb 0xF4 a) 0 (cond second (cond (eqb ones 2) 2 (cond third (cond (eqb ones 3) 3 (cond fourth 4 0)) 0)) 0)))

abbrev pub stands_in : Range → ℕ → List ℕ → Bool
stands_in r place text = begins (r ∷ []) (drop place text)

sequence_steps : (a : ℕ) (s : List ℕ)
    → sequence_length (a ∷ s) ≡ steps (leading_ones a) a (stands_in (to (low a) (high a)) 0 s) (stands_in continuation 1 s) (stands_in continuation 2 s)
unfolding begins choose by_ones
sequence_steps a s =
    by_rule by_ones by_ones_all by_ones_past a s
    ∙ simp (
      cond_under (λ (fs : List (List Range)). choose fs s),
      begins_cons (to (low a) (high a)) (continuation ∷ []),
      begins_cons (to (low a) (high a)) (continuation ∷ continuation ∷ []),
      begins_cons continuation (continuation ∷ []),
      drop-drop {A = ℕ} 1 1,
      in_turn_lem,
    )

pub steps_at : (text : List ℕ) (place a : ℕ) → place < length text → get_or text place 0 ≡ a
    → sequence_length (drop place text)
    ≡ steps (leading_ones a) a (stands_in (to (low a) (high a)) (place + 1) text) (stands_in continuation (place + 2) text) (stands_in continuation (place + 3) text)
steps_at text place a inside e =
    rw (drop-cons text place 0, e, sequence_steps, on 2, on 1, on 0)
  where
    on : (k : ℕ) → drop k (drop (suc place) text) ≡ drop (place + (k + 1)) text
    on k = drop-drop k (suc place) text ∙ (let e : suc place + k ≡ place + (k + 1) = omega arith in ap (λ (n : ℕ). drop n text) e)
