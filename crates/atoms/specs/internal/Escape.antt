-- Escapes by number, a digit or two at a time.
use Rattle.std.specs.Prelude.{ℕ, ◌+◌, ◌*◌, cond, ◌&&◌, Option, Some, None}
use Rattle.syntax.specs.rules.Syntax.{number, is_hex, hex_digit, hex_value, is_piece}

-- The value of a digit, of two, and of an escape; nothing for what is none.
unfoldable pub digit_value : ℕ → Option ℕ
digit_value b = cond (is_hex b) (Some (hex_digit b)) None

unfoldable pub pair_value : ℕ → ℕ → Option ℕ
pair_value a b = cond (is_hex a && is_hex b) (Some (hex_digit a * 16 + hex_digit b)) None

unfoldable pub escape_value : ℕ → ℕ → ℕ → ℕ → Option ℕ
escape_value a b c d = cond (is_piece (number a b c d)) (Some (hex_value a b c d)) None
