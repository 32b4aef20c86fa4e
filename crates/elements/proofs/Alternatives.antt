-- Which alternative of a content has a class, and which one a first child chooses.
use Prim.Native.Nat.{ℕ}
use mathlib.Core.Path.{◌≡◌, refl, subst}
use mathlib.Core.Logic.{⊎_elim}
use mathlib.Core.Bool.{Bool, true, false, not, ◌&&◌}
use mathlib.Core.List.{List, [], ◌∷◌, Memᴰ}
use lib.Dec.{T, T_not}
use Rattle.base.proofs.Booleans.{cond_case, both, or_true, or_left, or_right, true_T, T_true, not_T_false}
use Rattle.base.proofs.Tables.{every}
use Rattle.elements.specs.rules.Bytes.{among}
use Rattle.elements.specs.rules.Inside.{holding, Step, go, bad, some_has, chosen}
use Rattle.elements.proofs.Same.{each_among}

module _ (c : ℕ) where
  -- The first child chooses an alternative that has it, or none has it.
  pub chosen_case : (P : Step → Type 0) (kss : List (List ℕ)) → ((ks : List ℕ) → Memᴰ ks kss → T (among c ks) → P (go (holding ks)))
      → (some_has kss c ≡ false → P (bad 8)) → P (chosen kss c)
  unfolding chosen some_has
  chosen_case P [] f g = g refl
  chosen_case P (ks ∷ kss) f g =
      cond_case P (among c ks)
      (λ e. f ks (Memᴰ.head refl) (true_T e))
      (λ e. chosen_case P kss (λ hs m. f hs (Memᴰ.tail m)) (λ n. g (rw (e, n))))

  pub one_has : (kss : List (List ℕ)) → T (some_has kss c) → (ks : List ℕ) × Memᴰ ks kss × T (among c ks)
  unfolding some_has
  one_has [] t = absurd t
  one_has (ks ∷ kss) t =
      ⊎_elim
      (λ a. (ks, Memᴰ.head refl, a))
      (λ b. let (hs, m, a) = one_has kss b in (hs, Memᴰ.tail m, a))
      (or_true (among c ks) (some_has kss c) t)

  pub some_has_lem : {ks : List ℕ} {kss : List (List ℕ)} → Memᴰ ks kss → T (among c ks) → T (some_has kss c)
  unfolding some_has
  some_has_lem (Memᴰ.head {x = hs} {xs = kss} e) a = or_left (among c hs) (some_has kss c) (subst (λ (xs : List ℕ). T (among c xs)) e a)
  some_has_lem (Memᴰ.tail {x = hs} {xs = kss} m) a = or_right (among c hs) (some_has kss c) (some_has_lem m a)

-- No class is in two of these alternatives.
abbrev pub apart : List (List ℕ) → Bool
apart [] = true
apart (ks ∷ kss) = every (λ c. not (some_has kss c)) ks && apart kss

-- Then the one that has a class is chosen by it.
pub chosen_one : (c : ℕ) {ks : List ℕ} {kss : List (List ℕ)} → T (apart kss) → Memᴰ ks kss → T (among c ks) → chosen kss c ≡ go (holding ks)
unfolding chosen
chosen_one c t (Memᴰ.head {x = hs} {xs = kss} e) a = rw (e, T_true (among c hs) (rw e at a))
chosen_one c t (Memᴰ.tail {x = hs} {xs = kss} m) a =
    let (now, later) = both (every (λ c. not (some_has kss c)) hs) (apart kss) t in
    let other : among c hs ≡ false =
    not_T_false (among c hs) (λ b. T_not (some_has kss c) (each_among (λ c. not (some_has kss c)) c hs b now) (some_has_lem c m a)) in
    rw other (chosen_one c later m a)
