-- Each example of `specs/examples/Scanned.antt` is as it says there, by computation.
use mathlib.Core.Path.{◌≡◌, refl}
use mathlib.Core.List.{map}
use Rattle.utf8.specs.rules.Scalar.{is_scalar, encode}
use Rattle.utf8.specs.examples.Quoted.{utf8_of}
use Rattle.syntax.specs.rules.Byte.{byte_class, open_byte, close_byte, same_bracket, blank_class, ordinary_class, is_blank, is_ordinary, is_raw}
use Rattle.syntax.specs.rules.Syntax.{piece_before, pieces_before, leaf_before, bytes_before, bytes_of, is_hex, hex_digit, hex_value}
use Rattle.syntax.specs.rules.Syntax.{is_piece, are_pieces, are_ordinary, is_leaf, letter_value, piece_value, pieces_value}
use Rattle.syntax.specs.rules.Expression.{locate_leaf, locate}
use Rattle.syntax.specs.reference.Scan.{ordinary_run, escape_at, piece, quoted_from, quoted_item, item_at, items_from, add_leaf, wrap, end_level, at_end, one_more, one_less, build, outermost, scan}
use Rattle.syntax.specs.examples.Scanned.{ScanExample, examples, found, located_in, run, Judged, leaves}

pub texts_scanned : map found examples ≡ map (λ (e : ScanExample). e.expected) examples
unfolding is_scalar encode utf8_of byte_class open_byte close_byte same_bracket ordinary_class is_ordinary piece_before pieces_before
    leaf_before bytes_before bytes_of is_hex hex_digit hex_value is_piece letter_value piece_value pieces_value locate_leaf locate
    ordinary_run escape_at piece quoted_from quoted_item item_at items_from add_leaf wrap end_level at_end one_more one_less build outermost
    scan examples found located_in run
texts_scanned = refl

pub leaves_judged : map (λ (j : Judged). is_leaf j.leaf) leaves ≡ map (λ (j : Judged). j.allowed) leaves
unfolding is_scalar byte_class blank_class ordinary_class is_blank is_ordinary is_raw is_hex hex_digit hex_value is_piece are_pieces are_ordinary is_leaf leaves
leaves_judged = refl
