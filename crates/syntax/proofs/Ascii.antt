-- Which bytes of a text are below 0x80.
use Prim.Native.Nat.{ℕ, ◌≤◌, ◌<◌}
use mathlib.Core.Path.{◌≡◌}
use mathlib.Core.Bool.{Bool, true, false}
use native.Mathlib.Omega.{arith}
use lib.Dec.{T, ltb}
use borrow.Author.Tests.{ltb-true, ltb-false, le-ltb, le-leb, lt-leb, ne_eqb}
use Rattle.base.proofs.Booleans.{bool_case}
use Rattle.syntax.specs.rules.Byte.{byte_class, blank_class, ordinary_class, is_blank, is_ordinary, ordinary, Bracket, round, square, open_byte, close_byte}
use Rattle.syntax.specs.rules.Syntax.{is_hex, is_piece, letter}

-- A byte that passes a test that no byte from 0x80 on passes.
below : (b : ℕ) (t : Bool) → T t → (0x80 ≤ b → t ≡ false) → b < 0x80
below b t u h =
    bool_case (ltb b 0x80) (ltb-true b 0x80)
    (λ e. let f : t ≡ false = h (ltb-false b 0x80 e) in absurd (rw f at u))

high_class : (b : ℕ) → 0x80 ≤ b → byte_class b ≡ ordinary
unfolding byte_class
high_class b h =
    rw (
      ne_eqb b 0x09 (omega arith),
      ne_eqb b 0x0A (omega arith),
      ne_eqb b 0x20 (omega arith),
      ne_eqb b 0x0D (omega arith),
      le-ltb b 0x20 (omega arith),
      ne_eqb b 0x22 (omega arith),
      ne_eqb b 0x28 (omega arith),
      ne_eqb b 0x29 (omega arith),
      ne_eqb b 0x5B (omega arith),
      ne_eqb b 0x5D (omega arith),
    )

pub blank_below : (b : ℕ) → T (is_blank b) → b < 0x80
unfolding is_blank blank_class
blank_below b t = below b (is_blank b) t (λ h. rw (high_class b h))

pub not_ordinary_below : (b : ℕ) → is_ordinary b ≡ false → b < 0x80
unfolding is_ordinary ordinary_class
not_ordinary_below b e =
    bool_case (ltb b 0x80) (ltb-true b 0x80)
    (λ f. let g : byte_class b ≡ ordinary = high_class b (ltb-false b 0x80 f) in
    let z : true ≡ false = rw g at e in
    let y : ◌≡◌ {A = ℕ} 0 1 = cc in
    absurd (omega arith))

pub letter_below : (c : ℕ) → T (is_piece (letter c)) → c < 0x80
unfolding is_piece
letter_below c t =
    below c (is_piece (letter c)) t
    (λ h. rw (ne_eqb c 0x72 (omega arith), ne_eqb c 0x6E (omega arith), ne_eqb c 0x74 (omega arith), ne_eqb c 0x22 (omega arith)))

pub hex_below : (d : ℕ) → T (is_hex d) → d < 0x80
unfolding is_hex
hex_below d t =
    below d (is_hex d) t
    (λ h. rw (
      le-leb 0x30 d (omega arith),
      lt-leb d 0x39 (omega arith),
      le-leb 0x41 d (omega arith),
      lt-leb d 0x46 (omega arith),
      le-leb 0x61 d (omega arith),
      lt-leb d 0x66 (omega arith),
    ))

pub open_below : (b : Bracket) → open_byte b < 0x80
unfolding open_byte
open_below round = omega arith
open_below square = omega arith

pub close_below : (b : Bracket) → close_byte b < 0x80
unfolding close_byte
close_below round = omega arith
close_below square = omega arith
