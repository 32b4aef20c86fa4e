-- What the code's tests tell of the escape by number at a place.
use Prim.Native.Nat.{ℕ, ◌+◌, ◌-◌, ◌≤◌, ◌<◌}
use mathlib.Core.Path.{◌≡◌, ap, sym, ◌∙◌}
use mathlib.Core.Bool.{true, false, cond, ◌&&◌, ◌||◌}
use mathlib.Core.List.{List}
use mathlib.Core.Logic.{⊎_elim}
use native.Mathlib.Nat.{add-zero}
use native.Mathlib.Omega.{arith}
use lib.Dec.{T, leb}
use lib.ListN.{drop, get_or}
use lib.Seq.{get_or-drop}
use borrow.Author.Tests.{leb-true, lt-ltb, le-ltb, le-leb, lt-leb}
use Rattle.base.proofs.Booleans.{cond_case, or_true, both, T_true}
use Rattle.utf8.specs.rules.Scalar.{is_scalar}
use Rattle.syntax.specs.rules.Syntax.{is_hex, hex_digit}

-- ---- hexadecimal digits

-- The value of a digit is below 16.
pub hex_small : (b : ℕ) → T (is_hex b) → hex_digit b < 16
unfolding is_hex hex_digit
hex_small b t =
    ⊎_elim
    (λ u. ⊎_elim (λ v. low (both (leb 0x30 b) (leb b 0x39) v)) (λ v. mid (both (leb 0x41 b) (leb b 0x46) v)) (or_true (leb 0x30 b && leb b 0x39) (leb 0x41 b && leb b 0x46) u))
    (λ u. high (both (leb 0x61 b) (leb b 0x66) u))
    (or_true ((leb 0x30 b && leb b 0x39) || (leb 0x41 b && leb b 0x46)) (leb 0x61 b && leb b 0x66) t)
  where
    value : ℕ
    value = cond (leb b 0x39) (b - 0x30) (cond (leb b 0x46) (b - 0x37) (b - 0x57))

    three : (b ≤ 0x66) → value < 16
    three h =
        cond_case (λ (v : ℕ). v < 16) (leb b 0x39) (λ e. omega (arith, leb-true b 0x39 e))
        (λ e. cond_case (λ (v : ℕ). v < 16) (leb b 0x46) (λ f. omega (arith, leb-true b 0x46 f)) (λ f. omega arith))

    low : T (leb 0x30 b) × T (leb b 0x39) → value < 16
    low u = three (omega (arith, leb-true b 0x39 (T_true _ u.1)))

    mid : T (leb 0x41 b) × T (leb b 0x46) → value < 16
    mid u = three (omega (arith, leb-true b 0x46 (T_true _ u.1)))

    high : T (leb 0x61 b) × T (leb b 0x66) → value < 16
    high u = three (omega (arith, leb-true b 0x66 (T_true _ u.1)))

-- ---- escapes by number

pub below_surrogates : (n : ℕ) → n < 0xD800 → is_scalar n ≡ true
unfolding is_scalar
below_surrogates n h = rw (lt-ltb n 0xD800 h)

pub surrogate : (n : ℕ) → 0xD800 ≤ n → n < 0xE000 → is_scalar n ≡ false
unfolding is_scalar
surrogate n h k = rw (le-ltb n 0xD800 h, lt-leb 0xE000 n k)

pub above_surrogates : (n : ℕ) → 0xE000 ≤ n → n ≤ 65535 → is_scalar n ≡ true
unfolding is_scalar
above_surrogates n h k = rw (le-ltb n 0xD800 (omega arith), le-leb 0xE000 n h, le-leb n 0x10FFFF (omega arith))

-- ---- places

-- A byte of what stands from a place on, or from the next one.
pub later : (text : List ℕ) (place k : ℕ) → get_or (drop place text) (k + 1) 0 ≡ get_or (drop (place + 1) text) k 0
later text place k =
    let e : place + (k + 1) ≡ place + 1 + k = omega arith in
    get_or-drop place text (k + 1) 0 ∙ ap (λ (n : ℕ). get_or text n 0) e ∙ sym (get_or-drop (place + 1) text k 0)

pub first_of : (text : List ℕ) (place : ℕ) → get_or (drop place text) 0 0 ≡ get_or text place 0
first_of text place = get_or-drop place text 0 0 ∙ rw (add-zero place)
