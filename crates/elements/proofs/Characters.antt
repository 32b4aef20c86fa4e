-- The characters of values, found by comparisons of a byte.
use mathlib.Core.Path.{◌≡◌, sym, ◌∙◌}
use mathlib.Core.Bool.{Bool, true, false}
use Prim.Native.Nat.{ℕ, ◌≤◌, ◌<◌}
use native.Mathlib.Omega.{arith}
use lib.Dec.{eqb, leb}
use borrow.Author.Tests.{le-leb, lt-leb, ne_eqb}
use Rattle.base.proofs.Booleans.{cond_case, and_true, and_false, or_none}
use Rattle.elements.specs.rules.Characters.{is_letter, is_digit, type_character, id_character, uri_character, character_of}

module _ (b : ℕ) where
  pub type_digit : b ≤ 0x39 → leb 0x30 b ≡ type_character b
  unfolding type_character is_letter is_digit
  type_digit h =
      simp (lt-leb 0x41 b (omega arith), lt-leb 0x61 b (omega arith), le-leb b 0x39 h, ne_eqb b 0x5F (λ e. omega arith), and_true, or_none)

  pub type_upper : 0x39 < b → b ≤ 0x5A → leb 0x41 b ≡ type_character b
  unfolding type_character is_letter is_digit
  type_upper h g =
      simp (lt-leb 0x61 b (omega arith), le-leb b 0x5A g, lt-leb b 0x39 h, ne_eqb b 0x5F (λ e. omega arith), and_true, and_false, or_none)

  pub type_between : 0x5A < b → b < 0x61 → eqb b 0x5F ≡ type_character b
  unfolding type_character is_letter is_digit
  type_between h g = simp (lt-leb b 0x5A h, lt-leb 0x61 b g, lt-leb b 0x39 (omega arith), and_false)

  pub type_lower : 0x61 ≤ b → leb b 0x7A ≡ type_character b
  unfolding type_character is_letter is_digit
  type_lower h =
      simp (lt-leb b 0x5A (omega arith), le-leb 0x61 b h, lt-leb b 0x39 (omega arith), ne_eqb b 0x5F (λ e. omega arith), and_false, or_none)

  pub id_dash : b ≡ 0x2D → true ≡ id_character b
  unfolding id_character type_character is_letter is_digit
  id_dash e = rw e

  pub id_point : b ≡ 0x2E → true ≡ id_character b
  unfolding id_character type_character is_letter is_digit
  id_point e = rw e

  pub id_type : (b ≡ 0x2D → ⊥) → (b ≡ 0x2E → ⊥) → type_character b ≡ id_character b
  unfolding id_character
  id_type h g = simp (ne_eqb b 0x2D h, ne_eqb b 0x2E g, or_none)

  -- No byte from 0x80 on is a character of any sort.
  pub none_high : (n : ℕ) → 0x80 ≤ b → character_of n b ≡ false
  unfolding character_of uri_character
  none_high n h =
      let low : type_character b ≡ false = sym (type_lower (omega arith)) ∙ lt-leb b 0x7A (omega arith) in
      cond_case (λ (t : Bool). t ≡ false) (eqb n 0) (λ e. low)
      (λ e. cond_case (λ (t : Bool). t ≡ false) (eqb n 1)
      (λ f. sym (id_type (λ x. omega arith) (λ x. omega arith)) ∙ low)
      (λ f. rw (lt-leb b 0x7E (omega arith), and_false)))
