-- Answers that tell whether something holds.
use Prim.Native.Nat.{ℕ, ◌≤◌, ◌<◌}
use native.Mathlib.Omega.{arith}
use mathlib.Core.Path.{◌≡◌, refl, sym, ap, subst, ◌∙◌}
use mathlib.Core.Bool.{Bool, true, false, not, ◌&&◌, ◌||◌, true≢false}
use lib.Dec.{eqb, leb, ltb, leb→le}
use borrow.Author.Tests.{ne_eqb, le-leb, eqb-true, eqb-false, ltb-true, ltb-false, not-true}
use Rattle.std.specs.Prelude.{Option, Some, None}
use Rattle.std.proofs.lemmas.Option.{same_Some}
use Rattle.base.proofs.Booleans.{both, T_true, true_T}
use Rattle.validate.specs.declared.draft.Walked.{Walked}
use Rattle.validate.specs.internal.DraftWalk.{Decided, DecidesEnd, DecidesNext}

pub decided_by : {P : Type 0} (b : Bool) → (b ≡ true → P) → (b ≡ false → P → ⊥) → Decided P b
decided_by true f g = record { sound = f; complete = λ p. refl }
decided_by false f g = record { sound = f; complete = λ p. absurd (g refl p) }

-- What does not hold is denied.
pub denied : {P : Type 0} → (P → ⊥) → Decided P false
denied f = record { sound = λ e. absurd (true≢false (sym e)); complete = λ p. absurd (f p) }

-- What is denied does not hold.
pub not_held : {P : Type 0} {b : Bool} → Decided P b → b ≡ false → P → ⊥
not_held d e p = true≢false (sym (d.complete p) ∙ e)

-- The answers of tests.
pub equal_decided : (a b : ℕ) → Decided (a ≡ b) (eqb a b)
equal_decided a b = decided_by (eqb a b) (eqb-true a b) (eqb-false a b)

pub unequal_decided : (a b : ℕ) → Decided (a ≡ b → ⊥) (not (eqb a b))
unequal_decided a b = record { sound = λ e. eqb-false a b (not-true (eqb a b) e); complete = λ f. rw (ne_eqb a b f) }

pub at_most_decided : (a b : ℕ) → Decided (a ≤ b) (leb a b)
at_most_decided a b = decided_by (leb a b) (λ e. leb→le a b (true_T e)) (λ e h. true≢false (sym (le-leb a b h) ∙ e))

pub below_decided : (a b : ℕ) → Decided (a < b) (ltb a b)
below_decided a b = decided_by (ltb a b) (ltb-true a b) (λ e h. omega (arith, ltb-false a b e))

-- One test is passed only together with another.
pub implied_decided : {P Q : Type 0} {a b : Bool} → Decided P a → Decided Q b → Decided (P → Q) (not a || b)
implied_decided {a = true} d e = record { sound = λ t p. e.sound t; complete = λ f. e.complete (f (d.sound refl)) }
implied_decided {a = false} d e = record { sound = λ t p. absurd (not_held d refl p); complete = λ f. refl }

pub both_decided : {P Q : Type 0} {a b : Bool} → Decided P a → Decided Q b → Decided (P × Q) (a && b)
both_decided {P} {Q} {a} {b} d e =
    record {
      sound = λ t. let (s, u) = both a b (true_T t) in (d.sound (T_true a s), e.sound (T_true b u));
      complete = λ h. rw (d.complete h.0, e.complete h.1);
    }

-- An answer tells of the same in other words.
pub reworded : {P Q : Type 0} {b : Bool} → (P → Q) → (Q → P) → Decided P b → Decided Q b
reworded f g d = record { sound = λ e. f (d.sound e); complete = λ q. d.complete (g q) }

-- Answers by a place.
pub ends_at : {P : Type 0} {end e : ℕ} → P → e ≡ end → DecidesEnd P end (Some e)
ends_at p q = record { sound = λ e f. (p, cc); complete = λ h. rw q }

pub ends_nowhere : {P : Type 0} {end : ℕ} → (P → ⊥) → DecidesEnd P end None
ends_nowhere f = record { sound = λ e q. cc; complete = λ p. absurd (f p) }

pub no_end : {P : Type 0} {end : ℕ} → DecidesEnd P end None → P → ⊥
no_end d p = let e = d.complete p in cc

pub the_end : {P : Type 0} {end e : ℕ} → DecidesEnd P end (Some e) → P × (e ≡ end)
the_end d = d.sound _ refl

pub same_end : {P Q : Type 0} {end : ℕ} {answer : Option ℕ} → (P → Q) → (Q → P) → DecidesEnd P end answer → DecidesEnd Q end answer
same_end f g d = record { sound = λ e q. let (p, a) = d.sound e q in (f p, a); complete = λ q. d.complete (g q) }

-- What holds of no numbers is refused.
pub decides_none : {P : ℕ → ℕ → Type 0} → ((e q : ℕ) → P e q → ⊥) → DecidesNext P None
decides_none h = record { sound = λ w e. cc; complete = λ e q p. absurd (h e q p) }

-- What is refused holds of no numbers.
pub refused_none : {P : ℕ → ℕ → Type 0} → DecidesNext P None → (e q : ℕ) → P e q → ⊥
refused_none d e q p = let f = d.complete e q p in cc

-- What holds of these numbers and of no others is answered.
pub decides_the : {P : ℕ → ℕ → Type 0} (w : Walked) → P w.next w.pool → ((e q : ℕ) → P e q → (w.next ≡ e) × (w.pool ≡ q)) → DecidesNext P (Some w)
decides_the {P} w p f =
    record {
      sound = λ v e. subst (λ (x : Walked). P x.next x.pool) (same_Some w v e) p;
      complete = λ e q h. let (n, m) = f e q h in rw (← n, ← m);
    }

-- An answer's numbers are those that it holds of.
pub the_numbers : {P : ℕ → ℕ → Type 0} {w : Walked} {e q : ℕ} → DecidesNext P (Some w) → P e q → (w.next ≡ e) × (w.pool ≡ q)
the_numbers {w = w} {e = e} {q = q} d p =
    let same = same_Some w (record { next = e; pool = q }) (d.complete e q p) in
    (ap (λ (v : Walked). v.next) same, ap (λ (v : Walked). v.pool) same)

-- Two statements hold of the same numbers.
pub record Same (P Q : ℕ → ℕ → Type 0) : Type 0 where
  pub to : (e q : ℕ) → P e q → Q e q
  pub from : (e q : ℕ) → Q e q → P e q

pub through : {P Q R : ℕ → ℕ → Type 0} → Same P Q → Same Q R → Same P R
through s t = record { to = λ e q p. t.to e q (s.to e q p); from = λ e q r. s.from e q (t.from e q r) }

pub decides_same : {P Q : ℕ → ℕ → Type 0} {answer : Option Walked} → Same P Q → DecidesNext P answer → DecidesNext Q answer
decides_same s d = record { sound = λ w e. s.to w.next w.pool (d.sound w e); complete = λ e q h. d.complete e q (s.from e q h) }

-- What holds of no numbers does not hold in other words.
pub none_same : {P Q : ℕ → ℕ → Type 0} → Same P Q → ((e q : ℕ) → P e q → ⊥) → (e q : ℕ) → Q e q → ⊥
none_same s h e q p = h e q (s.from e q p)
