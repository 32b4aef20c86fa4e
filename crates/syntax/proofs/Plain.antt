-- The definitions of `Byte` and `Syntax` agree with the plain tables of `specs/examples/Plain.antt`, by computation over all 256 bytes.
use mathlib.Core.Path.{◌≡◌, refl}
use Rattle.utf8.specs.rules.Scalar.{is_scalar, encode}
use Rattle.utf8.specs.examples.Quoted.{of_bytes, of_marks}
use Rattle.syntax.specs.rules.Byte.{byte_class, blank_class, ordinary_class, is_blank, is_ordinary, is_raw}
use Rattle.syntax.specs.rules.Syntax.{is_hex, hex_digit, hex_value, is_piece, piece_before, letter_value, piece_value}
use Rattle.syntax.specs.reference.Scan.{escape_at}
use Rattle.syntax.specs.examples.Plain.{byte_is, byte_as, bytes, escape_is, escape_as, escapes, digit_is, digit_as}

-- White space, refused characters, brackets, the quote, and what may stand raw in a string.
pub byte_classes : of_bytes byte_is ≡ of_marks byte_as bytes
unfolding of_bytes of_marks byte_is byte_as bytes byte_class blank_class ordinary_class is_blank is_ordinary is_raw
byte_classes = refl

-- Which byte may follow a backslash, and what the escape stands for.
pub escapes_read : of_bytes escape_is ≡ of_marks escape_as escapes
unfolding of_bytes of_marks escape_is escape_as escapes is_scalar encode is_hex hex_digit hex_value is_piece piece_before letter_value piece_value is_raw escape_at
escapes_read = refl

-- The hexadecimal digits and their values.
pub digits_read : of_bytes digit_is ≡ of_bytes digit_as
unfolding of_bytes digit_is digit_as is_hex hex_digit
digits_read = refl
