-- The classes of bytes. Document 01, "Characters and brackets". Bytes from 0x80 are ordinary: that the text is UTF-8 is a condition of its own.
use Rattle.std.specs.Prelude.{ℕ, Bool, true, false, not, cond, ◌||◌, eqb, ltb}

-- "`(` closes with `)`, `[` with `]`."
pub data Bracket : Type 0 where
  round square : Bracket

pub data ByteClass : Type 0 where
  blank return quote forbidden ordinary : ByteClass
  opening closing : Bracket → ByteClass

-- White space is U+0009, U+000A and U+0020, and U+000D directly before U+000A. "Other code points below U+0020 ... are refused outside quoted strings".
unfoldable pub byte_class : ℕ → ByteClass
byte_class b =
    cond (eqb b 0x09 || eqb b 0x0A || eqb b 0x20) blank
    (cond (eqb b 0x0D) return
    (cond (ltb b 0x20) forbidden
    (cond (eqb b 0x22) quote
    (cond (eqb b 0x28) (opening round)
    (cond (eqb b 0x29) (closing round)
    (cond (eqb b 0x5B) (opening square)
    (cond (eqb b 0x5D) (closing square) ordinary)))))))

unfoldable pub open_byte : Bracket → ℕ
open_byte round = 0x28
open_byte square = 0x5B

unfoldable pub close_byte : Bracket → ℕ
close_byte round = 0x29
close_byte square = 0x5D

unfoldable pub same_bracket : Bracket → Bracket → Bool
same_bracket round round = true
same_bracket round square = false
same_bracket square round = false
same_bracket square square = true

unfoldable pub blank_class : ByteClass → Bool
blank_class blank = true
blank_class return = false
blank_class quote = false
blank_class forbidden = false
blank_class ordinary = false
blank_class (opening x) = false
blank_class (closing x) = false

unfoldable pub ordinary_class : ByteClass → Bool
ordinary_class blank = false
ordinary_class return = false
ordinary_class quote = false
ordinary_class forbidden = false
ordinary_class ordinary = true
ordinary_class (opening x) = false
ordinary_class (closing x) = false

unfoldable pub is_blank : ℕ → Bool
is_blank b = blank_class (byte_class b)

-- A byte of a symbol.
unfoldable pub is_ordinary : ℕ → Bool
is_ordinary b = ordinary_class (byte_class b)

-- Inside a string "all are allowed raw except `"` and the backslash".
unfoldable pub is_raw : ℕ → Bool
is_raw b = not (eqb b 0x22 || eqb b 0x5C)
