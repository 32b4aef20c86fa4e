-- A search through a numbered list finds the first that passes a test, by its number; and a fault that the test tells is decided by it.
use Prim.Native.Nat.{ℕ, suc, ◌<◌}
use mathlib.Core.Path.{◌≡◌, ◌∙◌, refl, ap}
use mathlib.Core.Bool.{Bool, true, false, cond}
use mathlib.Core.Logic.{◌⊎◌, inl, inr}
use mathlib.Core.List.Memᴰ
use mathlib.Core.List.{List, [], ◌∷◌, ◌++◌, Memᴰ}
use native.Mathlib.Omega.{arith}
use Rattle.base.proofs.Booleans.{cond_case}
use Rattle.document.specs.rules.WellFormed.{None, FirstSuch}
use Rattle.document.specs.reference.Check.{First, nowhere, at_node, or_else}
use Rattle.document.proofs.NumberedLists.{NumberedFrom, at_least}

-- What an answer of a search says of a fault.
abbrev pub Finds : (ℕ → Type 0) → First → Type 0
Finds Has nowhere = None Has
Finds Has (at_node i) = FirstSuch Has i

-- So the answer is the fault's, both ways.
pub finds_none : (Has : ℕ → Type 0) (f : First) → Finds Has f → None Has → f ≡ nowhere
finds_none Has nowhere a none = refl
finds_none Has (at_node i) a none = absurd (none i a.has)

pub finds_first : (Has : ℕ → Type 0) (f : First) (i : ℕ) → Finds Has f → FirstSuch Has i → f ≡ at_node i
finds_first Has nowhere i a s = absurd (a i s.has)
finds_first Has (at_node j) i a s =
    let l : j < i → ⊥ = (λ x. s.none_before j (omega (arith, x)) a.has) in
    let g : i < j → ⊥ = (λ x. a.none_before i (omega (arith, x)) s.has) in
    let e : j ≡ i = omega arith in
    ap at_node e

-- Two names of one fault.
pub finds_same : (Has Also : ℕ → Type 0) → ((i : ℕ) → Has i → Also i) → ((i : ℕ) → Also i → Has i) → (f : First) → Finds Has f → Finds Also f
finds_same Has Also to from nowhere a = λ i h. a i (from i h)
finds_same Has Also to from (at_node i) a = record { has = to i a.has; none_before = λ j l h. a.none_before j l (from j h) }

module _ {A : Type 0} (number : A → ℕ) (test : A → Bool) where
  -- The first of a list that passes the test, by its number.
  unfoldable pub first_of : List A → First
  first_of [] = nowhere
  first_of (e ∷ es) = cond (test e) (at_node (number e)) (first_of es)

  pub record FirstIn (es : List A) (i : ℕ) : Type 0 where
    pub found : A
    pub stands : Memᴰ found es
    pub number_is : number found ≡ i
    pub passes : test found ≡ true
    pub none_before : (e : A) → Memᴰ e es → number e < i → test e ≡ false

  abbrev pub FirstAnswer : List A → First → Type 0
  FirstAnswer es nowhere = (e : A) → Memᴰ e es → test e ≡ false
  FirstAnswer es (at_node i) = FirstIn es i

  pub first_append : (s t : List A) → first_of (s ++ t) ≡ or_else (first_of s) (first_of t)
  unfolding first_of or_else
  first_append [] t = refl
  first_append (e ∷ s) t =
      let rest : first_of (s ++ t) ≡ or_else (first_of s) (first_of t) = first_append s t in
      pick (test e) rest
    where
      pick : (b : Bool) → first_of (s ++ t) ≡ or_else (first_of s) (first_of t)
          → cond b (at_node (number e)) (first_of (s ++ t)) ≡ or_else (cond b (at_node (number e)) (first_of s)) (first_of t)
      pick true rest = refl
      pick false rest = rest

  -- One more in front that does not pass.
  answer_later : (e : A) (es : List A) → test e ≡ false → (f : First) → FirstAnswer es f → FirstAnswer (e ∷ es) f
  answer_later e es q nowhere a = λ x m. go x (Memᴰ.cases_cons m)
    where
      go : (x : A) → (x ≡ e) ⊎ Memᴰ x es → test x ≡ false
      go x (inl p) = ap test p ∙ q
      go x (inr m) = a x m
  answer_later e es q (at_node i) a =
      record {
        found = a.found;
        stands = Memᴰ.tail a.stands;
        number_is = a.number_is;
        passes = a.passes;
        none_before = λ x m l. go x l (Memᴰ.cases_cons m);
      }
    where
      go : (x : A) → number x < i → (x ≡ e) ⊎ Memᴰ x es → test x ≡ false
      go x l (inl p) = ap test p ∙ q
      go x l (inr m) = a.none_before x m l

  pub first_answer : (es : List A) (i : ℕ) → NumberedFrom number i es → FirstAnswer es (first_of es)
  unfolding first_of
  first_answer [] i c = λ e m. absurd (Memᴰ.not-nil m)
  first_answer (e ∷ es) i (q, c) =
      cond_case (FirstAnswer (e ∷ es)) (test e)
      (λ t. record {
        found = e;
        stands = Memᴰ.head refl;
        number_is = refl;
        passes = t;
        none_before = λ x m l. absurd (omega (arith, at_least number (e ∷ es) i x (q, c) m));
      })
      (λ f. answer_later e es f (first_of es) (first_answer es (suc i) c))

  -- A fault of nodes, which the test tells of the elements by number, is decided by the search.
  pub test_finds : (es : List A) (Has : ℕ → Type 0) → ((e : A) → Memᴰ e es → test e ≡ true → Has (number e))
      → ((i : ℕ) → Has i → (e : A) × Memᴰ e es × (number e ≡ i) × (test e ≡ true)) → (f : First) → FirstAnswer es f → Finds Has f
  test_finds es Has to from nowhere a = λ i h.
      let (e, m, q, t) = from i h in
      absurd (let z : ◌≡◌ {A = ℕ} 0 1 = cc (a e m) in omega arith)
  test_finds es Has to from (at_node i) a =
      record {
        has = rw a.number_is at (to a.found a.stands a.passes);
        none_before = λ j l h.
            let (e, m, q, t) = from j h in
            absurd (let z : ◌≡◌ {A = ℕ} 0 1 = cc (a.none_before e m (omega arith)) in omega arith);
      }
