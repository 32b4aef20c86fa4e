-- Lists that are numbered one by one: a number names one element, and the smaller number stands before.
use Prim.Native.Nat.{ℕ, zero, suc, ◌≤◌, ◌<◌}
use mathlib.Core.Path.{◌≡◌, ◌∙◌, refl, ap}
use mathlib.Core.Logic.{◌⊎◌, inl, inr}
use mathlib.Core.List.Memᴰ
use mathlib.Core.List.{List, [], ◌∷◌, ◌++◌, map, Memᴰ}
use native.Mathlib.Omega.{arith}
use Rattle.document.specs.rules.Visits.{up_from}

module _ {A : Type 0} (number : A → ℕ) where
  -- From i on.
  abbrev pub NumberedFrom : ℕ → List A → Type 0
  NumberedFrom i [] = Unit {0}
  NumberedFrom i (e ∷ es) = (number e ≡ i) × NumberedFrom (suc i) es

  pub counted : (es : List A) (i n : ℕ) → map number es ≡ up_from i n → NumberedFrom i es
  unfolding up_from
  counted [] i n q = tt
  counted (e ∷ es) i zero q = absurd (let z : ◌≡◌ {A = ℕ} 0 1 = cc in omega arith)
  counted (e ∷ es) i (suc n) q = (cc, counted es (suc i) n (cc))

  pub at_least : (es : List A) (i : ℕ) (f : A) → NumberedFrom i es → Memᴰ f es → i ≤ number f
  at_least [] i f c m = absurd (Memᴰ.not-nil m)
  at_least (e ∷ es) i f (q, c) m = go (at_least es (suc i) f c) (Memᴰ.cases_cons m)
    where
      go : (Memᴰ f es → suc i ≤ number f) → (f ≡ e) ⊎ Memᴰ f es → i ≤ number f
      go below (inl x) = rw x (omega arith)
      go below (inr x) = omega (arith, below x)

  -- Two elements of one number are one.
  pub one_number : (es : List A) (i : ℕ) (e f : A) → NumberedFrom i es → Memᴰ e es → Memᴰ f es → number e ≡ number f → e ≡ f
  one_number [] i e f c m m' h = absurd (Memᴰ.not-nil m)
  one_number (a ∷ es) i e f (q, c) m m' h = go (one_number es (suc i) e f c) (Memᴰ.cases_cons m) (Memᴰ.cases_cons m')
    where
      later : (x y : A) → x ≡ a → Memᴰ y es → number x ≡ number y → ⊥
      later x y p n r = omega (arith, at_least es (suc i) y c n, ap number p ∙ q)

      go : (Memᴰ e es → Memᴰ f es → number e ≡ number f → e ≡ f) → (e ≡ a) ⊎ Memᴰ e es → (f ≡ a) ⊎ Memᴰ f es → e ≡ f
      go below (inl x) (inl y) = cc
      go below (inl x) (inr y) = absurd (later e f x y h)
      go below (inr x) (inl y) = absurd (omega (arith, at_least es (suc i) e c x, ap number y ∙ q))
      go below (inr x) (inr y) = below x y h

  -- An earlier element has a smaller number.
  pub earlier_less : (before : List A) (i : ℕ) (e f : A) (after : List A) → NumberedFrom i (before ++ e ∷ after) → Memᴰ f before → number f < number e
  earlier_less [] i e f after c m = absurd (Memᴰ.not-nil m)
  earlier_less (a ∷ before) i e f after (q, c) m = go (earlier_less before (suc i) e f after c) (Memᴰ.cases_cons m)
    where
      go : (Memᴰ f before → number f < number e) → (f ≡ a) ⊎ Memᴰ f before → number f < number e
      go below (inl x) =
          omega (arith, at_least (before ++ e ∷ after) (suc i) e c (Memᴰ.append_right before (Memᴰ.head refl)), ap number x ∙ q)
      go below (inr x) = below x

  -- And what has a smaller number is earlier.
  pub less_earlier : (before : List A) (i : ℕ) (e f : A) (after : List A) → NumberedFrom i (before ++ e ∷ after) → Memᴰ f (before ++ e ∷ after)
      → number f < number e → Memᴰ f before
  less_earlier [] i e f after c m l = absurd (omega (arith, at_least (e ∷ after) i f c m, c.0))
  less_earlier (a ∷ before) i e f after (q, c) m l = go (λ x. less_earlier before (suc i) e f after c x l) (Memᴰ.cases_cons m)
    where
      go : (Memᴰ f (before ++ e ∷ after) → Memᴰ f before) → (f ≡ a) ⊎ Memᴰ f (before ++ e ∷ after) → Memᴰ f (a ∷ before)
      go below (inl x) = Memᴰ.head x
      go below (inr x) = Memᴰ.tail (below x)
