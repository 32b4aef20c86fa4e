-- A list holds items and nothing else.
use Prim.Native.Nat.{ℕ}
use mathlib.Core.Path.{◌≡◌, refl, ap}
use mathlib.Core.Bool.{false, ◌||◌}
use native.Mathlib.Omega.{arith}
use lib.ListN.{length}
use mathlib.Core.List.Memᴰ
use mathlib.Core.List.{List, [], ◌∷◌}
use mathlib.Core.Logic.{◌⊎◌, ⊎_elim}
use lib.Dec.{T, eqb, eqb→eq}
use Rattle.base.proofs.Booleans.{or_true}
use Rattle.elements.specs.rules.Bytes.{among}
use Rattle.elements.specs.rules.Class as Class
use Rattle.elements.specs.rules.Rules.{Slot, Content, alternatives, rules, rule_in, rule_of}
use Rattle.elements.specs.rules.Inside.{State, expecting, holding}
use Rattle.inside.specs.Machine.{state_of}
use Rattle.document.specs.rules.Faults.{Begun, Next, Taken, Allowed}
use Rattle.document.proofs.RuleClasses.{chosen_allowed}
use Rattle.document.proofs.ElementSteps.{begun_of, stepped as step-says}
use Rattle.reader.specs.internal.Walk.{StepTakes}

-- No parameter may come.
abbrev pub Bare : State → Type 0
Bare (expecting ps) = ps ≡ []
Bare (holding ks) = Unit {0}

abbrev pub IsList : ℕ → Type 0
IsList k = (k ≡ 16) ⊎ (k ≡ 17)

list_content : (k : ℕ) → IsList k → (rule_of k).content ≡ alternatives ((Class.item ∷ []) ∷ [])
unfolding rule_of rule_in rules
list_content k h = ⊎_elim (λ e. rw e) (λ e. rw e) h

pub bare_start : (k : ℕ) → IsList k → Bare (state_of k 0)
unfolding state_of rule_of rule_in rules
bare_start k h = ⊎_elim (λ e. rw e refl) (λ e. rw e refl) h

only : {c : ℕ} → T (eqb c 18 || false) → c ≡ 18
only {c} t = ⊎_elim (eqb→eq c 18) (λ f. absurd f) (or_true (eqb c 18) false t)

an_item : {c : ℕ} {t : Content} {b : Begun} → t ≡ alternatives ((Class.item ∷ []) ∷ []) → Allowed c t b → c ≡ 18
unfolding among
an_item {c} e (Allowed.one_of {kss} {ks} m a) =
    let h : kss ≡ (Class.item ∷ []) ∷ [] = cc in
    let i : ks ≡ Class.item ∷ [] = Memᴰ.eq_of_singleton (rw h at m) in
    only (rw i at a)
an_item e Allowed.the_one = cc

none_next : {c : ℕ} {ps qs : List Slot} → ps ≡ [] → Next ps c qs → ⊥
none_next e Next.required = omega (arith, ap length e)
none_next e Next.optional = omega (arith, ap length e)
none_next e Next.id_first = omega (arith, ap length e)
none_next e Next.type_first = omega (arith, ap length e)
none_next e (Next.passed_over f r) = omega (arith, ap length e)
none_next e (Next.both_passed_over f g r) = omega (arith, ap length e)

-- What a list takes is an item, and after it no parameter may come.
pub item_taken : (k st c st' : ℕ) → IsList k → Bare (state_of k st) → StepTakes k st c st' → (c ≡ 18) × Bare (state_of k st')
item_taken k st c st' l b e = by (state_of k st) (state_of k st') b (rw e at (step-says k (state_of k st) c))
  where
    by : (s s' : State) → Bare s → Taken k c (begun_of s) (begun_of s') → (c ≡ 18) × Bare s'
    by (expecting ps) (expecting qs) b (Taken.parameter r) = absurd (none_next b r)
    by (expecting ps) (holding ks) b (Taken.first_child d i a) = (an_item (list_content k l) (chosen_allowed {ps = ps} a), tt)
    by (holding ks) (expecting qs) b x3 = elim x3 [ ]
    by (holding ks) (holding ks') b (Taken.next_child i a f) = (an_item (list_content k l) a, tt)
