-- What counts for the line and the column of a place, once more as a plain table: a mark for each of the 256 bytes, and a text with the line and column of
-- each of its places. `Position` says it by comparisons and counts; that both agree is computed in `proofs/Plain.antt`.
-- A rule that is misread has to be misread twice, in two shapes. Document 01, "Characters and brackets", last paragraph.
use Rattle.std.specs.Prelude.{ℕ, Bool, true, false, cond, List, [], ◌∷◌, eqb}
use Prim.Native.String.{String}
use Prim.Native.Char.{Char, code}
use Rattle.utf8.specs.rules.Position.{has_line_feed, line_feeds, line_of, is_continuation, characters, column_of}

-- What a byte before a place adds to the line and to the column, and whether it is a sequence's second or later byte or begins a new line.
pub record Counted : Type 0 where
  pub lines : ℕ
  pub columns : ℕ
  pub continues : Bool
  pub breaks : Bool

unfoldable pub counted_of : ℕ → Counted
counted_of b =
    record { lines = line_feeds (b ∷ []); columns = characters (b ∷ []); continues = is_continuation b; breaks = has_line_feed (b ∷ []) }

-- `-` is a byte 0x80 to 0xBF, `n` is U+000A, `.` is any other.
unfoldable pub counted_as : Char → Counted
counted_as c =
    cond (eqb (code c) (code "-")) (record { lines = 0; columns = 0; continues = true; breaks = false })
    (cond (eqb (code c) (code "n")) (record { lines = 1; columns = 1; continues = false; breaks = true })
    (record { lines = 0; columns = 1; continues = false; breaks = false }))

unfoldable pub counted : List String
counted =
    "..........n....." ∷
    "................" ∷
    "................" ∷
    "................" ∷
    "................" ∷
    "................" ∷
    "................" ∷
    "................" ∷
    "----------------" ∷
    "----------------" ∷
    "----------------" ∷
    "----------------" ∷
    "................" ∷
    "................" ∷
    "................" ∷
    "................" ∷
    []

-- The line and column of a place.
pub record Position : Type 0 where
  pub line : ℕ
  pub column : ℕ

abbrev at : ℕ → ℕ → Position
at l c = record { line = l; column = c }

unfoldable pub position_of : List ℕ → ℕ → Position
position_of text place = at (line_of text place) (column_of text place)

-- A text of 15 bytes: é has two, € has three and 😀 four. U+000D is a character of its line like any other.
unfoldable pub sample : String
sample = "aé\r\n\n€b\n😀"

-- The positions of its places, the end too.
unfoldable pub positions : List Position
positions =
    -- a
    at 1 1
    -- é: its first byte is one column, its second byte none
    ∷ at 1 2
    ∷ at 1 3
    -- U+000D, U+000A
    ∷ at 1 3
    ∷ at 1 4
    -- an empty line
    ∷ at 2 1
    -- €
    ∷ at 3 1
    ∷ at 3 2
    ∷ at 3 2
    -- b, U+000A
    ∷ at 3 2
    ∷ at 3 3
    -- 😀
    ∷ at 4 1
    ∷ at 4 2
    ∷ at 4 2
    ∷ at 4 2
    -- the end
    ∷ at 4 2
    ∷ []
