-- Line and column of a place. Document 01, "Characters and brackets", last paragraph.
use Rattle.std.specs.Prelude.{ℕ, suc, ◌+◌, Bool, false, cond, ◌&&◌, ◌||◌, List, [], ◌∷◌, leb, eqb, take}

abbrev pub line_feed : ℕ
line_feed = 0x0A

unfoldable pub has_line_feed : List ℕ → Bool
has_line_feed [] = false
has_line_feed (b ∷ bs) = eqb b line_feed || has_line_feed bs

unfoldable pub line_feeds : List ℕ → ℕ
line_feeds [] = 0
line_feeds (b ∷ bs) = cond (eqb b line_feed) (suc (line_feeds bs)) (line_feeds bs)

-- "1 plus the U+000A bytes before it"
unfoldable pub line_of : List ℕ → ℕ → ℕ
line_of text place = 1 + line_feeds (take place text)

-- What follows the last U+000A, and all of it where there is none.
unfoldable pub last_line : List ℕ → List ℕ
last_line [] = []
last_line (b ∷ bs) = cond (has_line_feed bs) (last_line bs) (cond (eqb b line_feed) bs (b ∷ bs))

unfoldable pub is_continuation : ℕ → Bool
is_continuation b = leb 0x80 b && leb b 0xBF

-- The bytes outside 0x80 to 0xBF.
unfoldable pub characters : List ℕ → ℕ
characters [] = 0
characters (b ∷ bs) = cond (is_continuation b) (characters bs) (suc (characters bs))

-- "1 plus the bytes outside 0x80 to 0xBF between the last such U+000A (or the start) and the place"
unfoldable pub column_of : List ℕ → ℕ → ℕ
column_of text place = 1 + characters (last_line (take place text))
