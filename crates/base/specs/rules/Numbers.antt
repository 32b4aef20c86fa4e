-- The numbers answered, each named once, with the words of document 01, "Numbers answered".
use Rattle.std.specs.Prelude.{ℕ}

-- A well-formed document was read, or its spelling was written.
abbrev pub ok : ℕ
ok = 0

-- "text over 65,536 bytes"
abbrev pub text_too_long : ℕ
text_too_long = 1

-- "ill-formed UTF-8"
abbrev pub not_utf8 : ℕ
not_utf8 = 2

-- "forbidden character outside a string"
abbrev pub forbidden_character : ℕ
forbidden_character = 3

-- "bad escape; string empty or unclosed"
abbrev pub bad_string : ℕ
bad_string = 4

-- "closing bracket without its partner; list open at the end"
abbrev pub unpaired_bracket : ℕ
unpaired_bracket = 5

-- "65th level (imperative: 60th)"
abbrev pub too_deep : ℕ
too_deep = 6

-- "no expression; nested text with a second one"
abbrev pub not_one_expression : ℕ
not_one_expression = 7

-- "expression not allowed as content here"
abbrev pub not_allowed : ℕ
not_allowed = 8

-- "required parameter absent, or verbatim with no content"
abbrev pub absent : ℕ
absent = 9

-- "id, type, target or size malformed"
abbrev pub malformed : ℕ
malformed = 10

-- "child of the other sort than the first child"
abbrev pub other_sort : ℕ
other_sort = 11

-- "at a content place, a list led by include or import"
abbrev pub include : ℕ
include = 12

-- "more nodes than 4,096, the node words over 11, or the place list"
abbrev pub nodes_short : ℕ
nodes_short = 13

-- "pool lent too short"
abbrev pub pool_short : ℕ
pool_short = 14

-- "row of a table with head, count of cells differs"
abbrev pub row_length : ℕ
row_length = 15

-- "id already on an earlier block"
abbrev pub repeated_id : ℕ
repeated_id = 16

-- "link target on no block"
abbrev pub unknown_target : ℕ
unknown_target = 17

-- "footnote-ref target on no footnote"
abbrev pub unknown_footnote : ℕ
unknown_footnote = 18

-- "imperative: the nested form would pass 64 levels"
abbrev pub nested_too_deep : ℕ
nested_too_deep = 19

-- "not the node table of a well-formed document within the limits .., or a count beyond what is lent"
abbrev pub not_a_table : ℕ
not_a_table = 20

-- "output too short"
abbrev pub output_short : ℕ
output_short = 21
