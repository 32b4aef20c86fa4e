-- A child without significance that is taken at once: no parameter that may still come is required, or has its class.
use Prim.Native.Nat.{ℕ, zero, suc, ◌+◌, ◌<◌, ◌≤◌}
use mathlib.Core.Path.{◌≡◌, ◌∙◌, refl, sym, ap}
use mathlib.Core.Bool.{Bool, true, false, not, ◌&&◌, ◌||◌}
use mathlib.Core.List.{List, [], ◌∷◌}
use mathlib.Core.Logic.{⊎_elim}
use native.Mathlib.Nat.{eq-or-lt_of_le}
use native.Mathlib.Omega.{arith}
use lib.Dec.{T, eqb, leb}
use lib.ListN.{drop}
use lib.Seq.{drop-drop}
use borrow.Author.Tests.{lt-ltb, ne_eqb, not-true, leb-true, leb-false}
use Rattle.base.proofs.Booleans.{bool_case, both, T_true, true_T}
use Rattle.base.proofs.Tables.{below, each_below}
use Rattle.elements.specs.rules.Bytes.{among}
use Rattle.elements.specs.rules.Class as Class
use Rattle.elements.specs.rules.Rules.{Slot, must, may, id_type, Content, alternatives_of, Rule, rules, rule_of}
use Rattle.elements.specs.rules.Inside.{step, some_has, allows, first_child_step, next_parameter}
use Rattle.elements.proofs.EachRow.{each_kind}
use Rattle.inside.specs.Machine.{state_of, with_child, after_place, after_last, next_state, InNumbers}
use Rattle.inside.specs.internal.Table.{begins_required}
use Rattle.inside.proofs.Table.{no_include, empty_but_verbatim}
use Rattle.inside.proofs.Steps.{StepsTo, place_state, child_state, child_stays, numbers_of_taken, same_step}
use Rattle.inside.proofs.Children.{first_child_taken, next_same}

-- Each of these parameters is optional and of another class than c.
passes : ℕ → List Slot → Bool
passes c [] = true
passes c (must n ∷ ps) = false
passes c (may n ∷ ps) = not (eqb c n) && passes c ps
passes c (id_type ∷ ps) = not (eqb c Class.id) && (not (eqb c Class.type) && passes c ps)

other : (c n : ℕ) → T (not (eqb c n)) → eqb c n ≡ false
other c n t = not-true (eqb c n) (T_true _ t)

passed_over : (t : Content) (c : ℕ) (ps : List Slot) (i : ℕ) → T (passes c ps) → StepsTo t c ps i (first_child_step t c) (with_child c)
unfolding next_parameter after_place passes
passed_over t c [] i p = (refl, refl)
passed_over t c (must n ∷ ps) i p = absurd p
passed_over t c (may n ∷ ps) i p =
    let (now, later) = both (not (eqb c n)) (passes c ps) p in
    rw (other c n now) (passed_over t c ps (i + 1) later)
passed_over t c (id_type ∷ ps) i p =
    let (now, later) = both (not (eqb c Class.id)) (not (eqb c Class.type) && passes c ps) p in
    let (type, rest) = both (not (eqb c Class.type)) (passes c ps) later in
    rw (other c Class.id now, other c Class.type type) (passed_over t c ps (i + 1) rest)

passes_drop : (c n : ℕ) (ps : List Slot) → T (passes c ps) → T (passes c (drop n ps))
unfolding passes
passes_drop c zero ps p = p
passes_drop c (suc n) [] p = tt
passes_drop c (suc n) (must m ∷ ps) p = absurd p
passes_drop c (suc n) (may m ∷ ps) p = passes_drop c n ps (both (not (eqb c m)) (passes c ps) p).1
passes_drop c (suc n) (id_type ∷ ps) p =
    passes_drop c n ps (both (not (eqb c Class.type)) (passes c ps) (both (not (eqb c Class.id)) (not (eqb c Class.type) && passes c ps) p).1).1

-- Of a row: a child that may stand is of another class than each parameter, and only the first is required.
abbrev passed_by : Rule → ℕ → Bool
passed_by r c = not (allows r.content c) || (passes c (drop 1 r.parameters) && (begins_required r.parameters || passes c r.parameters))

abbrev passed_in : Rule → Bool
passed_in r = below (passed_by r) 26

or_known : (a b : Bool) → T (not a || b) → a ≡ true → T b
or_known true b t e = t
or_known false b t e = absurd (true_T e)

or_left_out : (a b : Bool) → T (a || b) → a ≡ false → T b
or_left_out true b t e = absurd (true_T (sym e))
or_left_out false b t e = t

module _ (k c : ℕ) (small : c < 26) (a : allows (rule_of k).content c ≡ true) where
  tested : T (passes c (drop 1 (rule_of k).parameters) && (begins_required (rule_of k).parameters || passes c (rule_of k).parameters))
  unfolding rules allows some_has alternatives_of among passes begins_required
  tested = or_known (allows (rule_of k).content c) _ (each_below (passed_by (rule_of k)) 26 c small (each_kind passed_in tt k tt)) a

  -- From the first place on where it is not required, and from each further place on.
  passes_from : (n : ℕ) → (n ≡ 0 → begins_required (rule_of k).parameters ≡ false) → T (passes c (drop n (rule_of k).parameters))
  passes_from zero h =
      let (later, first) = both (passes c (drop 1 (rule_of k).parameters)) _ tested in
      or_left_out (begins_required (rule_of k).parameters) _ first (h refl)
  passes_from (suc n) h =
      let (later, first) = both (passes c (drop 1 (rule_of k).parameters)) _ tested in
      let next : 1 + n ≡ suc n = omega arith in
      rw (drop-drop n 1 (rule_of k).parameters, next) at (passes_drop c n (drop 1 (rule_of k).parameters) later)

none_significant : (c : ℕ) → 5 ≤ c → 0 ≡ Class.significance c
unfolding Class.significance
none_significant c h = rw (ne_eqb c 1 (λ e. omega arith), ne_eqb c 2 (λ e. omega arith), ne_eqb c 3 (λ e. omega arith), ne_eqb c 4 (λ e. omega arith))

-- The step by the state.
module _ (k c : ℕ) (large : 5 ≤ c) (small : c < 26) (a : allows (rule_of k).content c ≡ true) where
  first_taken : InNumbers k (first_child_step (rule_of k).content c) (with_child c) 0 7
  unfolding with_child
  first_taken =
      numbers_of_taken (ap (λ (n : ℕ). 7 + n) (none_significant c large)) (first_child_taken k c {r = 0} (no_include k c a) a (none_significant c large))

  taken_early : (n : ℕ) → n < 5 → (n ≡ 0 → begins_required (rule_of k).parameters ≡ false) → InNumbers k (step k (state_of k n) c) (next_state k n c) 0 7
  unfolding step next_state
  taken_early n h f =
      let over = passed_over (rule_of k).content c (drop n (rule_of k).parameters) n (passes_from k c small a n f) in
      rw (place_state k n h, lt-ltb n 5 h) (same_step first_taken (sym over.0, sym over.1))

  taken_after_id : InNumbers k (step k (state_of k 5) c) (next_state k 5 c) 0 7
  unfolding step state_of next_state next_parameter after_last
  taken_after_id = rw (ne_eqb c Class.type (λ e. omega arith)) first_taken

  taken_after_type : InNumbers k (step k (state_of k 6) c) (next_state k 6 c) 0 7
  unfolding step state_of next_state next_parameter after_last
  taken_after_type = rw (ne_eqb c Class.id (λ e. omega arith)) first_taken

  taken_further : (k ≡ Class.verbatim → ⊥) → InNumbers k (step k (state_of k 7) c) (next_state k 7 c) 0 7
  unfolding step
  taken_further v =
      rw (child_state k 7 (omega arith), child_stays k 7 c (omega arith))
      (numbers_of_taken refl
      (next_same k c {r = 0} (no_include k c a) a (none_significant c large) (empty_but_verbatim k ∙ ap not (ne_eqb k Class.verbatim v)) 7 refl (omega arith)))

  pub taken : (n : ℕ) → n ≤ 7 → (k ≡ Class.verbatim → ⊥) → (n ≡ 0 → begins_required (rule_of k).parameters ≡ false)
      → InNumbers k (step k (state_of k n) c) (next_state k n c) 0 7
  taken n h v f =
      bool_case (leb 5 n)
      (λ late. let low : 5 ≤ n = leb-true 5 n late in
      ⊎_elim (λ e. rw (← e) taken_after_id)
      (λ l. let next : 6 ≤ n = omega arith in
      ⊎_elim (λ e. rw (← e) taken_after_type)
      (λ m. let seven : n ≡ 7 = omega arith in rw seven (taken_further v))
      (eq-or-lt_of_le next))
      (eq-or-lt_of_le low))
      (λ early. taken_early n (leb-false 5 n early) f)
