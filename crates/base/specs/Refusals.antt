-- The refusals of the code (src/refusal.rt) and their numbers.
use Rattle.std.specs.Prelude.{ℕ}
use Rattle.base.specs.rules.Numbers as Number
use Rattle.base.specs.declared.refusal.Refusal.{Refusal}
use Rattle.base.specs.declared.refusal.Refusal.TheVariants.{TextTooLong, NotUtf8, ForbiddenCharacter, BadString, UnpairedBracket, TooDeep, NotOneExpression, NotAllowed, Absent, Malformed, OtherSort, Include, NodesShort, PoolShort, RowLength, RepeatedId, UnknownTarget, UnknownFootnote, NestedTooDeep, NotATable, OutputShort}

abbrev pub number : Refusal → ℕ
number TextTooLong = Number.text_too_long
number NotUtf8 = Number.not_utf8
number ForbiddenCharacter = Number.forbidden_character
number BadString = Number.bad_string
number UnpairedBracket = Number.unpaired_bracket
number TooDeep = Number.too_deep
number NotOneExpression = Number.not_one_expression
number NotAllowed = Number.not_allowed
number Absent = Number.absent
number Malformed = Number.malformed
number OtherSort = Number.other_sort
number Include = Number.include
number NodesShort = Number.nodes_short
number PoolShort = Number.pool_short
number RowLength = Number.row_length
number RepeatedId = Number.repeated_id
number UnknownTarget = Number.unknown_target
number UnknownFootnote = Number.unknown_footnote
number NestedTooDeep = Number.nested_too_deep
number NotATable = Number.not_a_table
number OutputShort = Number.output_short
