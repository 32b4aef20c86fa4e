-- The characters of ids, types and targets. Document 01, "Elements" and its settlements.
use Rattle.std.specs.Prelude.{ℕ, Bool, cond, ◌&&◌, ◌||◌, eqb, leb}

-- "Letters and numbers in ids and types are ASCII only."
unfoldable pub is_digit : ℕ → Bool
is_digit b = leb 0x30 b && leb b 0x39

unfoldable pub is_letter : ℕ → Bool
is_letter b = (leb 0x41 b && leb b 0x5A) || (leb 0x61 b && leb b 0x7A)

-- "Type characters: letters, digits, `_`"
unfoldable pub type_character : ℕ → Bool
type_character b = is_letter b || is_digit b || eqb b 0x5F

-- "ids and the targets of link and footnote-ref add `-` and `.`"
unfoldable pub id_character : ℕ → Bool
id_character b = type_character b || eqb b 0x2D || eqb b 0x2E

-- "A URI target is one or more bytes 0x21 to 0x7E."
unfoldable pub uri_character : ℕ → Bool
uri_character b = leb 0x21 b && leb b 0x7E

-- The characters of a value by number: 0 of a type, 1 of an id, any other of a URI.
unfoldable pub character_of : ℕ → ℕ → Bool
character_of n b = cond (eqb n 0) (type_character b) (cond (eqb n 1) (id_character b) (uri_character b))
