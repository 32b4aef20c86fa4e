-- The words of a record, each named once. Document 01, "The table".
use Rattle.std.specs.Prelude.{ℕ}

-- "Eleven u32 words a node"
abbrev pub record_length : ℕ
record_length = 11

-- "kind"
abbrev pub kind : ℕ
kind = 0

-- "parent (4,294,967,295 at the root)"
abbrev pub parent : ℕ
parent = 1

-- "end, one past the last descendant"
abbrev pub end : ℕ
end = 2

-- "offset and length in the pool of id or target"
abbrev pub key_offset : ℕ
key_offset = 3

abbrev pub key_length : ℕ
key_length = 4

-- "of type"
abbrev pub type_offset : ℕ
type_offset = 5

abbrev pub type_length : ℕ
type_length = 6

-- "of text"
abbrev pub text_offset : ℕ
text_offset = 7

abbrev pub text_length : ℕ
text_length = 8

-- "image width; height"
abbrev pub width : ℕ
width = 9

abbrev pub height : ℕ
height = 10
