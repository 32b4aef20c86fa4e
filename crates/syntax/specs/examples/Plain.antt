-- The classes of bytes, the escapes and the hexadecimal digits once more, as plain tables: a mark for each of the 256 bytes, and digits in the order of their values.
-- `Byte` and `Syntax` say it by comparisons; that both agree is computed in `proofs/Plain.antt`.
-- A rule that is misread has to be misread twice, in two shapes. Document 01, "Characters and brackets".
use Rattle.std.specs.Prelude.{ℕ, ◌+◌, Bool, true, false, cond, List, [] as []ᴸ, ◌∷◌ as ◌∷ᴸ◌, ◌++◌, eqb, length}
use Prim.Native.String.{String, [], ◌∷◌}
use Prim.Native.Char.{Char, code}
use Rattle.syntax.specs.rules.Byte.{ByteClass, blank, return, quote, forbidden, ordinary, opening, closing, round, square, byte_class, is_blank, is_ordinary, is_raw}
use Rattle.syntax.specs.rules.Syntax.{letter, is_hex, hex_digit, is_piece, piece_before, piece_value}
use Rattle.syntax.specs.reference.Scan.{escape_at}

abbrev is : Char → Char → Bool
is c d = eqb (code c) (code d)

-- What a byte is: its class, and whether it is white space, a byte of a symbol, a raw byte of a string.
pub record ByteIs : Type 0 where
  pub class : ByteClass
  pub white : Bool
  pub symbol : Bool
  pub raw : Bool

unfoldable pub byte_is : ℕ → ByteIs
byte_is b = record { class = byte_class b; white = is_blank b; symbol = is_ordinary b; raw = is_raw b }

-- `_` white space, `r` U+000D, `x` refused outside strings, `q` the quote, `b` the backslash, `s` any other byte of a symbol; brackets are themselves.
unfoldable pub byte_as : Char → ByteIs
byte_as c =
    cond (is c "_") (record { class = blank; white = true; symbol = false; raw = true })
    (cond (is c "r") (record { class = return; white = false; symbol = false; raw = true })
    (cond (is c "x") (record { class = forbidden; white = false; symbol = false; raw = true })
    (cond (is c "q") (record { class = quote; white = false; symbol = false; raw = false })
    (cond (is c "b") (record { class = ordinary; white = false; symbol = true; raw = false })
    (cond (is c "(") (record { class = opening round; white = false; symbol = false; raw = true })
    (cond (is c ")") (record { class = closing round; white = false; symbol = false; raw = true })
    (cond (is c "[") (record { class = opening square; white = false; symbol = false; raw = true })
    (cond (is c "]") (record { class = closing square; white = false; symbol = false; raw = true })
    (record { class = ordinary; white = false; symbol = true; raw = true })))))))))

-- "White space is U+0009, U+000A, U+0020, and U+000D directly before U+000A. Other code points below U+0020, and any other U+000D, are refused outside quoted
-- strings; inside, all are allowed raw except `"` and the backslash."
unfoldable pub bytes : List String
bytes =
    "xxxxxxxxx__xxrxx" ∷ᴸ
    "xxxxxxxxxxxxxxxx" ∷ᴸ
    "_sqsssss()ssssss" ∷ᴸ
    "ssssssssssssssss" ∷ᴸ
    "ssssssssssssssss" ∷ᴸ
    "sssssssssss[b]ss" ∷ᴸ
    "ssssssssssssssss" ∷ᴸ
    "ssssssssssssssss" ∷ᴸ
    "ssssssssssssssss" ∷ᴸ
    "ssssssssssssssss" ∷ᴸ
    "ssssssssssssssss" ∷ᴸ
    "ssssssssssssssss" ∷ᴸ
    "ssssssssssssssss" ∷ᴸ
    "ssssssssssssssss" ∷ᴸ
    "ssssssssssssssss" ∷ᴸ
    "ssssssssssssssss" ∷ᴸ
    []ᴸ

-- What a backslash, a byte and the digits 0041 are: whether the byte is an escape by letter, how many bytes the escape has, what it stands for; 0 and nothing where it is bad.
pub record EscapeIs : Type 0 where
  pub by_letter : Bool
  pub taken : ℕ
  pub value : List ℕ

unfoldable pub escape_is : ℕ → EscapeIs
escape_is c =
    let p = escape_at (c ∷ᴸ 0x30 ∷ᴸ 0x30 ∷ᴸ 0x34 ∷ᴸ 0x31 ∷ᴸ []ᴸ) in
    record { by_letter = is_piece (letter c); taken = cond (is_piece p) (length (piece_before p []ᴸ)) 0; value = cond (is_piece p) (piece_value p) []ᴸ }

-- `q` stands for a quote, `n r t` for what they name, `u` begins four digits, `.` is no escape.
unfoldable pub escape_as : Char → EscapeIs
escape_as c =
    cond (is c "q") (record { by_letter = true; taken = 2; value = 0x22 ∷ᴸ []ᴸ })
    (cond (is c "n") (record { by_letter = true; taken = 2; value = 0x0A ∷ᴸ []ᴸ })
    (cond (is c "r") (record { by_letter = true; taken = 2; value = 0x0D ∷ᴸ []ᴸ })
    (cond (is c "t") (record { by_letter = true; taken = 2; value = 0x09 ∷ᴸ []ᴸ })
    (cond (is c "u") (record { by_letter = false; taken = 6; value = 0x41 ∷ᴸ []ᴸ })
    (record { by_letter = false; taken = 0; value = []ᴸ })))))

-- "Escapes: `\r \n \t \"` and `\u` with four hex digits of either case".
unfoldable pub escapes : List String
escapes =
    "................" ∷ᴸ
    "................" ∷ᴸ
    "..q............." ∷ᴸ
    "................" ∷ᴸ
    "................" ∷ᴸ
    "................" ∷ᴸ
    "..............n." ∷ᴸ
    "..r.tu.........." ∷ᴸ
    "................" ∷ᴸ
    "................" ∷ᴸ
    "................" ∷ᴸ
    "................" ∷ᴸ
    "................" ∷ᴸ
    "................" ∷ᴸ
    "................" ∷ᴸ
    "................" ∷ᴸ
    []ᴸ

-- The value of a byte as a hexadecimal digit, and nothing where it is none.
unfoldable pub digit_is : ℕ → List ℕ
digit_is b = cond (is_hex b) (hex_digit b ∷ᴸ []ᴸ) []ᴸ

-- The places, from n on, at which the byte stands in a text.
unfoldable pub places_of : ℕ → String → ℕ → List ℕ
places_of n [] b = []ᴸ
places_of n (c ∷ s) b = let later = places_of (n + 1) s b in cond (eqb b (code c)) (n ∷ᴸ later) later

-- "four hex digits of either case": a digit's value is its place, and capitals go on from ten.
unfoldable pub digit_as : ℕ → List ℕ
unfolding places_of
digit_as b = places_of 0 "0123456789abcdef" b ++ places_of 10 "ABCDEF" b
