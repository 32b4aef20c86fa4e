-- Laws of conditions, of `&&`, `||` and `not`, and of tests as types.
use mathlib.Core.Path.{◌≡◌, refl}
use mathlib.Core.Bool.{Bool, true, false, not, cond, ◌&&◌, ◌||◌}
use mathlib.Core.Logic.{◌⊎◌, inl, inr}
use lib.Dec.{T}

-- A goal over a condition is proved with either value of it.
pub cond_case : {A : Type 0} (P : A → Type 0) (b : Bool) {x y : A} → (b ≡ true → P x) → (b ≡ false → P y) → P (cond b x y)
cond_case P true f g = f refl
cond_case P false f g = g refl

-- A goal that does not name the condition is proved in the same way.
pub bool_case : {P : Type 0} (b : Bool) → (b ≡ true → P) → (b ≡ false → P) → P
bool_case true f g = f refl
bool_case false f g = g refl

pub cond_under : {A B : Type 0} (f : A → B) (b : Bool) (x y : A) → f (cond b x y) ≡ cond b (f x) (f y)
cond_under f true x y = refl
cond_under f false x y = refl

pub both : (a b : Bool) → T (a && b) → T a × T b
both true b t = (tt, t)
both false b t = absurd t

pub both_true : (a b : Bool) → T a → T b → T (a && b)
both_true true b t u = u
both_true false b t u = absurd t

pub and_true : (b : Bool) → b && true ≡ b
and_true true = refl
and_true false = refl

pub and_false : (b : Bool) → b && false ≡ false
and_false true = refl
and_false false = refl

pub or_none : (b : Bool) → b || false ≡ b
or_none true = refl
or_none false = refl

pub or_false : (a b : Bool) → a || b ≡ false → (a ≡ false) × (b ≡ false)
or_false true b e = (e, cc)
or_false false b e = (refl, e)

pub or_true : (a b : Bool) → T (a || b) → T a ⊎ T b
or_true true b t = inl tt
or_true false b t = inr t

pub true_T : {b : Bool} → b ≡ true → T b
true_T {b} e = rw e tt

pub T_true : (b : Bool) → T b → b ≡ true
T_true true t = refl
T_true false t = absurd t

pub not-true : (b : Bool) → not b ≡ true → b ≡ false
not-true true e = cc
not-true false e = refl

pub not_T_false : (b : Bool) → (T b → ⊥) → b ≡ false
not_T_false true f = absurd (f tt)
not_T_false false f = refl

pub false_not_T : {b : Bool} → b ≡ false → T b → ⊥
false_not_T {b} e t = rw e at t

pub or_left : (a b : Bool) → T a → T (a || b)
or_left true b t = tt
or_left false b t = absurd t

pub or_right : (a b : Bool) → T b → T (a || b)
or_right true b t = tt
or_right false b t = t
