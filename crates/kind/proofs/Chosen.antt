-- A name's class is found among the names that share a key with it: its length, or the byte at a place.
use Prim.Native.Nat.{ℕ}
use mathlib.Core.Path.{◌≡◌, ◌∙◌, refl, sym, ap}
use mathlib.Core.Bool.{Bool, true, false, not, cond, true≢false}
use mathlib.Core.List.{List, [], ◌∷◌}
use lib.Dec.{eqb}
use lib.ListN.{length, get_or}
use borrow.Author.Tests.{eq-eqb, ne_eqb}
use Rattle.base.proofs.Booleans.{not_T_false}
use Rattle.elements.specs.rules.Bytes.{same}
use Rattle.elements.specs.rules.Class.{Named, names, class_in, class_of}
use Rattle.elements.proofs.Same.{same_equal}
use Rattle.kind.proofs.Arms.{Missed}

unfoldable pub pick : (List ℕ → Bool) → List Named → List Named
pick passes [] = []
pick passes (n ∷ ns) = cond (passes n.spelled) (n ∷ pick passes ns) (pick passes ns)

-- A name that passes a test is looked for among the names that do.
module _ (passes : List ℕ → Bool) (bytes : List ℕ) (h : passes bytes ≡ true) where
  left_out : (n : Named) → passes n.spelled ≡ false → same bytes n.spelled ≡ false
  left_out n out =
      not_T_false (same bytes n.spelled) (λ t. true≢false (sym h ∙ ap passes (same_equal bytes n.spelled t) ∙ out))

  in_pick : (ns : List Named) → class_in (pick passes ns) bytes ≡ class_in ns bytes
  unfolding class_in pick
  in_pick [] = refl
  in_pick (n ∷ ns) = go (passes n.spelled) refl (in_pick ns)
    where
      go : (b : Bool) → passes n.spelled ≡ b → class_in (pick passes ns) bytes ≡ class_in ns bytes
          → class_in (cond b (n ∷ pick passes ns) (pick passes ns)) bytes ≡ class_in (n ∷ ns) bytes
      go true e ih = ap (cond (same bytes n.spelled) n.class) ih
      go false e ih = rw (left_out n e) ih

abbrev pub byte : ℕ → List ℕ → ℕ
byte i bytes = get_or bytes i 0

module _ (key : List ℕ → ℕ) where
  -- The names of a key, and those of none of some keys.
  unfoldable pub only : ℕ → List Named → List Named
  only k ns = pick (λ w. eqb (key w) k) ns

  unfoldable pub others : List ℕ → List Named → List Named
  others [] ns = ns
  others (k ∷ ks) ns = others ks (pick (λ w. not (eqb (key w) k)) ns)

  module _ (bytes : List ℕ) where
    pub in_only : (k : ℕ) (ns : List Named) → key bytes ≡ k → class_in (only k ns) bytes ≡ class_in ns bytes
    unfolding only
    in_only k ns e = in_pick (λ w. eqb (key w) k) bytes (eq-eqb _ k e) ns

    pub in_others : (N : Type 0) (ks : List ℕ) (ns : List Named) → Missed (key bytes) N ks → N × (class_in (others ks ns) bytes ≡ class_in ns bytes)
    unfolding others
    in_others N [] ns n = (n, refl)
    in_others N (k ∷ ks) ns m =
        let ((n, other), e) = in_others (N × (key bytes ≡ k → ⊥)) ks (pick (λ w. not (eqb (key w) k)) ns) m in
        (n, e ∙ in_pick (λ w. not (eqb (key w) k)) bytes (rw (ne_eqb _ k other)) ns)

-- The name's length, and then the byte at a place.
module _ (n : ℕ) (bytes : List ℕ) (l : length bytes ≡ n) where
  pub by_length : class_in (only length n names) bytes ≡ class_of bytes
  unfolding class_of
  by_length = in_only length bytes n names l

  pub by_byte : (i : ℕ) {b : ℕ} → byte i bytes ≡ b → class_in (only (byte i) b (only length n names)) bytes ≡ class_of bytes
  by_byte i e = in_only (byte i) bytes _ (only length n names) e ∙ by_length

  pub no_byte : (i : ℕ) (bs : List ℕ) → Missed (byte i bytes) (Unit {0}) bs → class_in (others (byte i) bs (only length n names)) bytes ≡ class_of bytes
  no_byte i bs m = (in_others (byte i) bytes (Unit {0}) bs (only length n names) m).1 ∙ by_length

  -- And the byte at another place.
  module _ (i : ℕ) {b : ℕ} (e : byte i bytes ≡ b) (j : ℕ) where
    pub by_bytes : {d : ℕ} → byte j bytes ≡ d → class_in (only (byte j) d (only (byte i) b (only length n names))) bytes ≡ class_of bytes
    by_bytes f = in_only (byte j) bytes _ (only (byte i) b (only length n names)) f ∙ by_byte i e

    pub no_second : (ds : List ℕ) → Missed (byte j bytes) (Unit {0}) ds
        → class_in (others (byte j) ds (only (byte i) b (only length n names))) bytes ≡ class_of bytes
    no_second ds m = (in_others (byte j) bytes (Unit {0}) ds (only (byte i) b (only length n names)) m).1 ∙ by_byte i e

pub no_length : (bytes ns : List ℕ) → Missed (length bytes) (Unit {0}) ns → class_in (others length ns names) bytes ≡ class_of bytes
unfolding class_of
no_length bytes ns m = (in_others length bytes (Unit {0}) ns names m).1
