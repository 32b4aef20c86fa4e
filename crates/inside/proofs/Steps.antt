-- The steps of `Inside` by what the code tests on each way, with the states as numbers.
use Rattle.std.specs.Prelude.{Option, Some, None}
use Prim.Native.Nat.{ℕ, ◌+◌, ◌-◌, ◌<◌, ◌≤◌}
use mathlib.Core.Path.{◌≡◌, ◌∙◌, refl, sym, ap}
use mathlib.Core.Logic.{⊎_elim}
use mathlib.Core.Bool.{Bool, true, false, cond, true≢false}
use mathlib.Core.List.{List, [], ◌∷◌}
use native.Mathlib.Nat.{eq-or-lt_of_le}
use native.Mathlib.Omega.{arith}
use lib.Dec.{eqb}
use lib.ListN.{drop}
use lib.Seq.{drop-drop}
use borrow.Author.Tests.{lt-ltb, le-ltb, eq-eqb, ne_eqb}
use Rattle.elements.specs.rules.Class as Class
use Rattle.elements.specs.rules.Rules.{Slot, may, id_type, Content, alternatives_of, rule_of}
use Rattle.elements.specs.rules.Inside.{expecting, holding, Step, go, bad, first_child_step, next_parameter, start, none_required, may_be_empty, ended}
use Rattle.inside.specs.Machine.{alternative_of, state_of, step_of, fault_of, with_child, after_place, next_state, InNumbers}
use Rattle.inside.specs.declared.rows.Parameter.{Parameter}
use Rattle.inside.specs.declared.rows.Parameter.TheVariants.{Required, Optional, IdType}
use Rattle.inside.specs.internal.Table.{led, is_required, begins_required}
use Rattle.inside.proofs.Table.{past_four}

-- An element begins in the state 0.
pub start_state : (k : ℕ) → state_of k 0 ≡ start k
unfolding state_of start
start_state k = refl

pub place_state : (k n : ℕ) → n < 5 → state_of k n ≡ expecting (drop n (rule_of k).parameters)
unfolding state_of
place_state k n h = rw (lt-ltb n 5 h)

-- No parameter is left at the fourth place.
pub last_state : (k : ℕ) → state_of k 4 ≡ expecting []
unfolding state_of
last_state k = ap expecting (past_four k 4 (omega arith))

pub child_state : (k n : ℕ) → 7 ≤ n → state_of k n ≡ holding (alternative_of (n - 7) (alternatives_of (rule_of k).content))
unfolding state_of
child_state k n h = rw (le-ltb n 5 (omega arith), ne_eqb n 5 (λ e. omega arith), ne_eqb n 6 (λ e. omega arith))

pub child_stays : (k n c : ℕ) → 7 ≤ n → next_state k n c ≡ n
unfolding next_state
child_stays k n c h = rw (le-ltb n 5 (omega arith), ne_eqb n 5 (λ e. omega arith), ne_eqb n 6 (λ e. omega arith))

-- The numbers of a step that is taken, and of one that is refused.
module _ {k m : ℕ} {s : Step} where
  pub numbers_of_taken : {n : ℕ} → n ≡ m → go (state_of k n) ≡ s → InNumbers k s m 0 n
  unfolding step_of fault_of
  numbers_of_taken h e = record { fault_is = ap fault_of e; state_is = h; stands = e }

  pub numbers_of_refused : {f n : ℕ} → n ≡ 0 → (f ≡ 0 → ⊥) → bad f ≡ s → InNumbers k s m f n
  unfolding step_of fault_of
  numbers_of_refused {f} z h e = record { fault_is = ap fault_of e; state_is = rw (ne_eqb f 0 h) z; stands = rw (ne_eqb f 0 h) e }

  -- The same numbers, of the same step said otherwise.
  pub same_step : {m' f n : ℕ} {s' : Step} → InNumbers k s m f n → (s ≡ s') × (m ≡ m') → InNumbers k s' m' f n
  same_step i e = rw (e.0, e.1) at i

-- An expression of class c leads to this step and to the state of this number, with the parameters from a place on still to come.
abbrev pub StepsTo : Content → ℕ → List Slot → ℕ → Step → ℕ → Type 0
StepsTo t c ps i s n = (next_parameter ps t c ≡ s) × (after_place i ps c ≡ n)

-- Two ways to say what it leads to.
pub led_on : {r s s' : Step} {m n n' : ℕ} → (r ≡ s) × (m ≡ n) → (r ≡ s') × (m ≡ n') → (s ≡ s') × (n ≡ n')
led_on here there = (sym here.0 ∙ there.0, sym here.1 ∙ there.1)

-- The parameter at a place.
module _ (ps : List Slot) (place : ℕ) where
  abbrev Led : Option Parameter → Type 0
  Led x = drop place ps ≡ led x (drop (place + 1) ps)

  pub no_parameter_left : Led None → drop place ps ≡ []
  unfolding led
  no_parameter_left e = e

  pub required_first : (x : Parameter) → is_required x ≡ true → Led (Some x) → none_required (drop place ps) ≡ false
  unfolding led none_required
  required_first (Required n) r e = rw e
  required_first (Optional n) r e = absurd (true≢false (sym r))
  required_first IdType r e = absurd (true≢false (sym r))

  pub not_required : (x : Parameter) → is_required x ≡ false → Led (Some x) → none_required (drop place ps) ≡ none_required (drop (place + 1) ps)
  unfolding led none_required
  not_required (Required n) r e = absurd (true≢false r)
  not_required (Optional n) r e = rw e
  not_required IdType r e = let here : drop place ps ≡ id_type ∷ [] = e in rw (← drop-drop 1 place ps, here)

  pub begins_with : (x : Parameter) → Led (Some x) → is_required x ≡ begins_required (drop place ps)
  unfolding led begins_required
  begins_with (Required n) e = rw e
  begins_with (Optional n) e = rw e
  begins_with IdType e = rw e

  module _ (t : Content) (c : ℕ) where
    pub first_child : Led None → StepsTo t c (drop place ps) place (first_child_step t c) (with_child c)
    unfolding led next_parameter after_place
    first_child e = rw e (refl, refl)

    module _ (n : ℕ) where
      pub absent : Led (Some (Required n)) → (c ≡ n → ⊥) → next_parameter (drop place ps) t c ≡ bad 9
      unfolding led next_parameter
      absent e other = rw (e, ne_eqb c n other)

      pub required_taken : Led (Some (Required n)) → c ≡ n → StepsTo t c (drop place ps) place (go (expecting (drop (place + 1) ps))) (place + 1)
      unfolding led next_parameter after_place
      required_taken e same = rw (e, eq-eqb c n same) (refl, refl)

      pub optional_taken : Led (Some (Optional n)) → c ≡ n → StepsTo t c (drop place ps) place (go (expecting (drop (place + 1) ps))) (place + 1)
      unfolding led next_parameter after_place
      optional_taken e same = rw (e, eq-eqb c n same) (refl, refl)

      pub passed : Led (Some (Optional n)) → (c ≡ n → ⊥)
          → StepsTo t c (drop place ps) place (next_parameter (drop (place + 1) ps) t c) (after_place (place + 1) (drop (place + 1) ps) c)
      unfolding led next_parameter after_place
      passed e other = rw (e, ne_eqb c n other) (refl, refl)

    -- of `id?/type?`, by the state that the class leads to
    abbrev led_to : Bool → Bool → Option ℕ
    led_to i y = cond i (Some 5) (cond y (Some 6) None)

    either_step : (k n : ℕ) (i y : Bool) → Some n ≡ led_to i y
        → (go (state_of k n) ≡ cond i (go (expecting (may Class.type ∷ []))) (cond y (go (expecting (may Class.id ∷ []))) (first_child_step t c)))
        × (cond i 5 (cond y 6 (with_child c)) ≡ n)
    unfolding state_of
    either_step k n true y h = let five : n ≡ 5 = cc in (rw five, sym five)
    either_step k n false true h = let six : n ≡ 6 = cc in (rw six, sym six)
    either_step k n false false h = cc

    neither_step : (i y : Bool) → None ≡ led_to i y
        → (cond i (go (expecting (may Class.type ∷ []))) (cond y (go (expecting (may Class.id ∷ []))) (first_child_step t c)) ≡ first_child_step t c)
        × (cond i 5 (cond y 6 (with_child c)) ≡ with_child c)
    neither_step true y h = cc
    neither_step false true h = cc
    neither_step false false h = (refl, refl)

    pub either_taken : (k n : ℕ) → Led (Some IdType) → Some n ≡ led_to (eqb c Class.id) (eqb c Class.type)
        → StepsTo t c (drop place ps) place (go (state_of k n)) n
    unfolding led next_parameter after_place
    either_taken k n e h =
        let (step, number) = either_step k n (eqb c Class.id) (eqb c Class.type) h in
        rw e (sym step, number)

    pub neither : Led (Some IdType) → None ≡ led_to (eqb c Class.id) (eqb c Class.type)
        → StepsTo t c (drop place ps) place (first_child_step t c) (with_child c)
    unfolding led next_parameter after_place
    neither e h = rw e (neither_step (eqb c Class.id) (eqb c Class.type) h)

pub none_required_end : {ps : List Slot} → ps ≡ [] → none_required ps ≡ true
unfolding none_required
none_required_end e = rw e

pub first_child_end : (t : Content) (c : ℕ) {ps : List Slot} (i : ℕ) → ps ≡ [] → StepsTo t c ps i (first_child_step t c) (with_child c)
unfolding next_parameter after_place
first_child_end t c i e = rw e (refl, refl)

four_at_most : (a b d e : Bool) → cond a 4 (cond b 3 (cond d 2 (cond e 1 0))) ≤ 4
four_at_most true b d e = omega arith
four_at_most false true d e = omega arith
four_at_most false false true e = omega arith
four_at_most false false false true = omega arith
four_at_most false false false false = omega arith

pub significance_small : (c : ℕ) → Class.significance c ≤ 4
unfolding Class.significance
significance_small c = four_at_most (eqb c Class.document) (eqb c Class.part) (eqb c Class.section) (eqb c Class.subsection)

-- Where only one of `id?/type?` is left, or nothing required, the element may end unless it is a verbatim.
pub ended_at : (k n : ℕ) (ps : List Slot) → state_of k n ≡ expecting ps → none_required ps ≡ true → ended k (state_of k n) ≡ may_be_empty (rule_of k).content
unfolding ended
ended_at k n ps e none = rw (e, none)

pub unended_at : (k n : ℕ) → n < 5 → none_required (drop n (rule_of k).parameters) ≡ false → ended k (state_of k n) ≡ false
unfolding ended
unended_at k n h some = rw (place_state k n h, some)

pub ended_child : (k n : ℕ) → 7 ≤ n → ended k (state_of k n) ≡ true
unfolding ended
ended_child k n h = rw (child_state k n h)

pub ended_between : (k n : ℕ) → 5 ≤ n → n < 7 → ended k (state_of k n) ≡ may_be_empty (rule_of k).content
unfolding ended state_of none_required
ended_between k n low high = ⊎_elim (λ e. rw (← e)) (λ l. let six : n ≡ 6 = omega arith in rw six) (eq-or-lt_of_le low)
