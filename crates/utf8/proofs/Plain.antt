-- The definitions of `Position` agree with the plain tables of `specs/examples/Plain.antt`, by computation.
use mathlib.Core.Path.{◌≡◌, refl}
use mathlib.Core.List.{map}
use Rattle.utf8.specs.rules.Scalar.{encode}
use Rattle.utf8.specs.rules.Position.{has_line_feed, line_feeds, line_of, last_line, is_continuation, characters, column_of}
use Rattle.utf8.specs.examples.Quoted.{utf8_of, numbers_from, of_bytes, of_marks}
use Rattle.utf8.specs.examples.Plain.{counted_of, counted_as, counted, position_of, sample, positions}

-- "1 plus the U+000A bytes", "1 plus the bytes outside 0x80 to 0xBF": which of the 256 bytes is which.
pub bytes_counted : of_bytes counted_of ≡ of_marks counted_as counted
unfolding of_bytes of_marks counted_of counted_as counted has_line_feed line_feeds is_continuation characters
bytes_counted = refl

-- "Line of a place: 1 plus the U+000A bytes before it. Column: 1 plus the bytes ... between the last such U+000A (or the start) and the place."
pub places_counted : map (position_of (utf8_of sample)) (numbers_from 0 16) ≡ positions
unfolding encode utf8_of numbers_from position_of sample positions has_line_feed line_feeds line_of last_line is_continuation characters column_of
places_counted = refl
