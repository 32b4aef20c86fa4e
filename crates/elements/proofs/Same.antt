-- What the tests `same` of two byte strings and `among` of a number tell.
use Prim.Native.Nat.{ℕ}
use mathlib.Core.Path.{◌≡◌, refl, sym}
use mathlib.Core.Bool.{Bool, true, false, true≢false}
use mathlib.Core.List.{List, [], ◌∷◌}
use mathlib.Core.Logic.{⊎_elim}
use lib.Dec.{T, eqb, eqb→eq}
use borrow.Author.Tests.{eq-eqb}
use Rattle.base.proofs.Booleans.{both, or_true, not_T_false}
use Rattle.base.proofs.Tables.{every}
use Rattle.elements.specs.rules.Bytes.{same, among}

-- Strings that pass the test are equal.
pub same_equal : (xs ys : List ℕ) → T (same xs ys) → xs ≡ ys
unfolding same
same_equal [] [] t = refl
same_equal [] (y ∷ ys) t = absurd t
same_equal (x ∷ xs) [] t = absurd t
same_equal (x ∷ xs) (y ∷ ys) t =
    let (now, later) = both (eqb x y) (same xs ys) t in
    cc (eqb→eq x y now, same_equal xs ys later)

pub same_itself : (xs : List ℕ) → same xs xs ≡ true
unfolding same
same_itself [] = refl
same_itself (x ∷ xs) = rw (eq-eqb x x refl) (same_itself xs)

-- An answer that tells whether two strings are equal is the test's.
pub same_told : (xs ys : List ℕ) (answer : Bool) → (answer ≡ true → xs ≡ ys) × (xs ≡ ys → answer ≡ true) → answer ≡ same xs ys
same_told xs ys true (f, g) = rw (f refl) (sym (same_itself ys))
same_told xs ys false (f, g) = sym (not_T_false (same xs ys) (λ t. true≢false (sym (g (same_equal xs ys t)))))

-- A test that passes at every number of a list passes at each that stands there.
pub each_among : (test : ℕ → Bool) (c : ℕ) (ks : List ℕ) → T (among c ks) → T (every test ks) → T (test c)
unfolding among
each_among test c [] a t = absurd a
each_among test c (k ∷ ks) a t =
    let (now, later) = both (test k) (every test ks) t in
    ⊎_elim (λ e. rw (eqb→eq c k e) now) (λ b. each_among test c ks b later) (or_true (eqb c k) (among c ks) a)
