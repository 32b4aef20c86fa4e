-- Children by their significance: in a row it tells the alternatives apart, so that code compares it where the rules compare alternatives.
use Prim.Native.Nat.{ℕ, ◌+◌, ◌-◌, ◌≤◌}
use mathlib.Core.Path.{◌≡◌, ◌∙◌, refl, sym, ap}
use mathlib.Core.Logic.{⊎_elim}
use mathlib.Core.Bool.{Bool, true, false, cond, true≢false}
use mathlib.Core.List.Memᴰ
use mathlib.Core.List.{List, [], ◌∷◌, Memᴰ}
use native.Mathlib.Omega.{arith}
use lib.Dec.{T, eqb, eqb→eq}
use borrow.Author.Tests.{eq-eqb, ne_eqb, eqb-true, eqb-false}
use Rattle.base.proofs.Booleans.{cond_case, bool_case, or_true, or_left, or_right, true_T, T_true, not_T_false, false_not_T}
use Rattle.elements.specs.rules.Bytes.{among}
use Rattle.elements.specs.rules.Class.{significance}
use Rattle.elements.specs.rules.Rules.{Content, alternatives, exactly_one, alternatives_of, rule_of}
use Rattle.elements.specs.rules.Inside.{holding, Step, go, bad, is_include, allows, first_child_step, next_child_step, may_be_empty}
use Rattle.elements.proofs.Alternatives.{chosen_case, one_has, some_has_lem}
use Rattle.elements.proofs.Significance.{one_alternative, one_significance}
use Rattle.inside.specs.Machine.{has_significance, alternative_of, state_of, with_child, InNumbers}
use Rattle.inside.proofs.Steps.{child_state, numbers_of_refused}

some_kind : (n : ℕ) (ks : List ℕ) → T (has_significance n ks) → (d : ℕ) × T (among d ks) × (significance d ≡ n)
unfolding has_significance among
some_kind n [] t = absurd t
some_kind n (k ∷ ks) t =
    ⊎_elim
    (λ e. (k, or_left (eqb k k) (among k ks) (true_T (eq-eqb k k refl)), eqb→eq _ n e))
    (λ b. let (d, a, e) = some_kind n ks b in (d, or_right (eqb d k) (among d ks) a, e))
    (or_true (eqb (significance k) n) (has_significance n ks) t)

its_significance : (c : ℕ) (ks : List ℕ) → T (among c ks) → T (has_significance (significance c) ks)
unfolding has_significance among
its_significance c [] a = absurd a
its_significance c (k ∷ ks) a =
    ⊎_elim
    (λ e. or_left (eqb (significance k) (significance c)) (has_significance (significance c) ks) (true_T (eq-eqb _ _ (ap significance (sym (eqb→eq c k e))))))
    (λ b. or_right (eqb (significance k) (significance c)) (has_significance (significance c) ks) (its_significance c ks b))
    (or_true (eqb c k) (among c ks) a)

module _ (k : ℕ) where
  abbrev row : List (List ℕ)
  row = alternatives_of (rule_of k).content

  -- Alternatives of the row, or of a part of it.
  abbrev Part : List (List ℕ) → Type 0
  Part kss = (ks : List ℕ) → Memᴰ ks kss → Memᴰ ks row

  module _ (c : ℕ) where
    -- The significance of a child finds its alternative.
    found_in : {ks : List ℕ} → Memᴰ ks row → T (among c ks) → (kss : List (List ℕ)) → Part kss → Memᴰ ks kss → alternative_of (significance c) kss ≡ ks
    unfolding alternative_of
    found_in m a [] part n = absurd (Memᴰ.not-nil n)
    found_in {ks} m a (hs ∷ kss) part n =
        cond_case (λ (r : List ℕ). r ≡ ks) (has_significance (significance c) hs)
        (λ e. let (d, b, q) = some_kind _ hs (true_T e) in one_alternative k m c d a (part hs (Memᴰ.head refl)) b q)
        (λ e. later e n (λ w. found_in m a kss (λ xs x. part xs (Memᴰ.tail x)) w))
      where
        later : has_significance (significance c) hs ≡ false → Memᴰ ks (hs ∷ kss) → (Memᴰ ks kss → alternative_of (significance c) kss ≡ ks)
            → alternative_of (significance c) kss ≡ ks
        later e (Memᴰ.head f) on = absurd (false_not_T e (its_significance c hs (rw f at a)))
        later e (Memᴰ.tail w) on = on w

    -- What belongs to the alternative of a significance has it.
    held_in : (n : ℕ) (kss : List (List ℕ)) → Part kss → T (among c (alternative_of n kss)) → significance c ≡ n
    unfolding alternative_of among
    held_in n [] part a = absurd a
    held_in n (hs ∷ kss) part a =
        cond_case (λ (r : List ℕ). T (among c r) → significance c ≡ n) (has_significance n hs)
        (λ e b. let (d, w, q) = some_kind n hs (true_T e) in one_significance k (part hs (Memᴰ.head refl)) d c w b ∙ q)
        (λ e. held_in n kss (λ xs x. part xs (Memᴰ.tail x)))
        a

    found : {ks : List ℕ} → Memᴰ ks row → T (among c ks) → alternative_of (significance c) row ≡ ks
    found m a = found_in m a row (λ xs x. x) m

    -- A child that may stand belongs to the alternative of a significance if it has that significance, and only then.
    held : (n : ℕ) → allows (rule_of k).content c ≡ true → among c (alternative_of n row) ≡ eqb (significance c) n
    unfolding allows
    held n s =
        bool_case (eqb (significance c) n)
        (λ e.
        let (ks, m, a) = one_has c row (true_T s) in
        rw e (ap (λ x. among c (alternative_of x row)) (sym (eqb-true _ n e)) ∙ rw (found m a) (T_true (among c ks) a)))
        (λ e. rw e (not_T_false _ (λ b. eqb-false _ n e (held_in n row (λ xs x. x) b))))

some_fault : (i : Bool) {f : ℕ} → f ≡ cond i 12 8 → f ≡ 0 → ⊥
some_fault true e z = omega arith
some_fault false e z = omega arith

refusal : (i : Bool) {f : ℕ} → f ≡ cond i 12 8 → bad f ≡ cond i (bad 12) (bad 8)
refusal true e = ap bad e
refusal false e = ap bad e

-- A child that may not stand.
module _ (k : ℕ) (t : Content) (c : ℕ) {f : ℕ} (e : f ≡ cond (is_include c) 12 8) (a : allows t c ≡ false) where
  pub first_refused : InNumbers k (first_child_step t c) (with_child c) f 0
  unfolding first_child_step allows
  first_refused =
      numbers_of_refused refl (some_fault (is_include c) e)
      (chosen_case c (λ (r : Step). bad f ≡ cond (is_include c) (bad 12) r) (alternatives_of t)
      (λ ks m b. absurd (false_not_T a (some_has_lem c m b)))
      (λ n. refusal (is_include c) e))

  pub next_refused : (ks : List ℕ) (n : ℕ) → InNumbers k (next_child_step t ks c) n f 0
  next_refused ks n = numbers_of_refused refl (some_fault (is_include c) e) (by t a)
    where
      by : (t : Content) → allows t c ≡ false → bad f ≡ next_child_step t ks c
      by (alternatives kss) a = unfold next_child_step allows alternatives_of in rw a (refusal (is_include c) e)
      by (exactly_one m) a = unfold next_child_step in refusal (is_include c) e

pub next_of_one : (t : Content) (ks : List ℕ) (c : ℕ) → is_include c ≡ false → may_be_empty t ≡ false → bad 8 ≡ next_child_step t ks c
unfolding next_child_step may_be_empty
next_of_one (alternatives kss) ks c i e = absurd (true≢false e)
next_of_one (exactly_one n) ks c i e = rw i

next_allowed : (t : Content) (ks : List ℕ) (c : ℕ) → is_include c ≡ false → may_be_empty t ≡ true → allows t c ≡ true
    → next_child_step t ks c ≡ cond (among c ks) (go (holding ks)) (bad 11)
unfolding next_child_step allows alternatives_of may_be_empty
next_allowed (alternatives kss) ks c i e a = rw (i, a)
next_allowed (exactly_one n) ks c i e a = absurd (true≢false (sym e))

-- A child of class c that may stand in an element of kind k, and has the significance r.
module _ (k c : ℕ) {r : ℕ} (i : is_include c ≡ false) (a : allows (rule_of k).content c ≡ true) (q : r ≡ significance c) where
  pub first_child_taken : go (state_of k (7 + r)) ≡ first_child_step (rule_of k).content c
  unfolding first_child_step allows
  first_child_taken =
      let off : 7 + r - 7 ≡ r = omega arith in
      rw (i, child_state k (7 + r) (omega arith), off, q)
      (chosen_case c (λ (s : Step). go (holding (alternative_of (significance c) (row k))) ≡ s) (row k)
      (λ ks m b. ap (λ hs. go (holding hs)) (found k c m b))
      (λ n. absurd (true≢false (sym a ∙ n))))

  module _ (e : may_be_empty (rule_of k).content ≡ true) where
    next_stepped : (n : ℕ) → next_child_step (rule_of k).content (alternative_of n (row k)) c ≡ cond (eqb r n) (go (holding (alternative_of n (row k)))) (bad 11)
    next_stepped n = rw (next_allowed (rule_of k).content (alternative_of n (row k)) c i e a, held k c n a, q)

    pub next_other : (n : ℕ) → (r ≡ n → ⊥) → bad 11 ≡ next_child_step (rule_of k).content (alternative_of n (row k)) c
    next_other n h = rw (next_stepped n, ne_eqb r n h)

    pub next_same : (n : ℕ) → r ≡ n - 7 → 7 ≤ n → go (state_of k n) ≡ next_child_step (rule_of k).content (alternative_of (n - 7) (row k)) c
    next_same n same h = rw (next_stepped (n - 7), eq-eqb r (n - 7) same, child_state k n h)
