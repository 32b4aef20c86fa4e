-- The values of hexadecimal digits, by pairs and by escapes.
use mathlib.Core.Path.{◌≡◌, refl}
use mathlib.Core.Bool.{Bool, true, false, cond, ◌&&◌}
use mathlib.Core.List.{List}
use Prim.Native.Nat.{ℕ, ◌+◌, ◌*◌, ◌≤◌}
use native.Mathlib.Omega.{arith}
use lib.ListN.{length, drop, get_or, get_or-eq_default}
use lib.Seq.{get_or-drop}
use Rattle.std.specs.Prelude.{Some, None}
use Rattle.base.proofs.Booleans.{and_false}
use Rattle.utf8.specs.rules.Scalar.{is_scalar}
use Rattle.syntax.specs.rules.Syntax.{is_hex, hex_digit, hex_value, is_piece}
use Rattle.atoms.specs.internal.Escape.{pair_value, escape_value}

-- Past the end of the text there is no digit.
module _ (text : List ℕ) (place other : ℕ) (h : length text ≤ place) where
  pub no_high : None ≡ pair_value (get_or text place 0) other
  unfolding pair_value is_hex
  no_high = rw (get_or-eq_default {A = ℕ} text 0 h)

  pub no_low : None ≡ pair_value other (get_or text place 0)
  unfolding pair_value is_hex
  no_low = rw (get_or-eq_default {A = ℕ} text 0 h, and_false)

-- Two pairs are an escape where their value is no surrogate.
module _ (a b c d : ℕ) where
  pub high_bad : None ≡ pair_value a b → None ≡ escape_value a b c d
  unfolding pair_value escape_value is_piece
  high_bad e = go (is_hex a && is_hex b) e
    where
      go : (t : Bool) → None ≡ cond t (Some (hex_digit a * 16 + hex_digit b)) None
          → None ≡ cond (t && is_hex c && is_hex d && is_scalar (hex_value a b c d)) (Some (hex_value a b c d)) None
      go true e = cc
      go false e = refl

  pub low_bad : None ≡ pair_value c d → None ≡ escape_value a b c d
  unfolding pair_value escape_value is_piece
  low_bad e = go (is_hex a && is_hex b) (is_hex c) (is_hex d) e
    where
      go : (t u v : Bool) → None ≡ cond (u && v) (Some (hex_digit c * 16 + hex_digit d)) None
          → None ≡ cond (t && u && v && is_scalar (hex_value a b c d)) (Some (hex_value a b c d)) None
      go false u v e = refl
      go true false v e = refl
      go true true true e = cc
      go true true false e = refl

  pub both_good : (high low : ℕ) → Some high ≡ pair_value a b → Some low ≡ pair_value c d
      → escape_value a b c d ≡ cond (is_scalar (high * 256 + low)) (Some (high * 256 + low)) None
  unfolding pair_value escape_value is_piece hex_value
  both_good high low e f = go (is_hex a && is_hex b) (is_hex c) (is_hex d) e f
    where
      go : (t u v : Bool) → Some high ≡ cond t (Some (hex_digit a * 16 + hex_digit b)) None → Some low ≡ cond (u && v) (Some (hex_digit c * 16 + hex_digit d)) None
          → let n = hex_digit a * 4096 + hex_digit b * 256 + hex_digit c * 16 + hex_digit d in
          cond (t && u && v && is_scalar n) (Some n) None ≡ cond (is_scalar (high * 256 + low)) (Some (high * 256 + low)) None
      go true true true e f =
          let x : high ≡ hex_digit a * 16 + hex_digit b = cc in
          let y : low ≡ hex_digit c * 16 + hex_digit d = cc in
          let n : high * 256 + low ≡ hex_digit a * 4096 + hex_digit b * 256 + hex_digit c * 16 + hex_digit d = omega arith in
          rw n
      go false u v e f = cc
      go true false v e f = cc
      go true true false e f = cc

-- The pair whose first digit stands k bytes after a place.
pub pair_at : (text : List ℕ) (place k : ℕ)
    → pair_value (get_or text (place + k) 0) (get_or text (place + k + 1) 0) ≡ pair_value (get_or (drop place text) k 0) (get_or (drop place text) (k + 1) 0)
pair_at text place k =
    let e : place + k + 1 ≡ place + (k + 1) = omega arith in
    rw (get_or-drop place text k 0, get_or-drop place text (k + 1) 0, e)
