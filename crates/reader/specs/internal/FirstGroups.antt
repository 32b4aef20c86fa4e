-- The first groups of a read's answer in numbers. It serves the contracts of private functions.
use Rattle.std.specs.Prelude.{ℕ, ◌/◌, min, cond, List, Result, Ok, Err, ltb, length}
use Rattle.base.specs.rules.Limits.{most_bytes, most_nodes}
use Rattle.base.specs.rules.Numbers as Number
use Rattle.base.specs.declared.refusal.Refusal.{Refusal}
use Rattle.base.specs.Refusals.{number}
use Rattle.utf8.specs.reference.Sequence.{valid_up_to}
use Rattle.syntax.specs.reference.Scan.{scan}
use Rattle.lexer.specs.Token.{scan_number, scan_place, kind_number}
use Rattle.reader.specs.declared.GroupFault.{GroupFault}
use Rattle.reader.specs.declared.GroupFault.TheVariants.{TooLong, NotUtf8, Scan}
use Rattle.document.specs.rules.Record.{record_length}

-- 1 to 6, or 0: the number, and its place.
unfoldable pub group_number : ℕ → List ℕ → ℕ
group_number levels text =
    cond (ltb most_bytes (length text)) Number.text_too_long
    (cond (ltb (valid_up_to text) (length text)) Number.not_utf8 (scan_number (scan levels text)))

unfoldable pub group_place : ℕ → List ℕ → ℕ
group_place levels text =
    cond (ltb most_bytes (length text)) most_bytes (cond (ltb (valid_up_to text) (length text)) (valid_up_to text) (scan_place (scan levels text)))

-- The same of the code's answer (src/lib.rt).
unfoldable pub fault_number : GroupFault → ℕ
fault_number TooLong = Number.text_too_long
fault_number (NotUtf8 p) = Number.not_utf8
fault_number (Scan f) = kind_number f.kind

unfoldable pub fault_place : GroupFault → ℕ
fault_place TooLong = most_bytes
fault_place (NotUtf8 p) = p
fault_place (Scan f) = f.place

unfoldable pub told_number : Result (Unit {0}) GroupFault → ℕ
told_number (Ok x) = Number.ok
told_number (Err f) = fault_number f

unfoldable pub told_place : Result (Unit {0}) GroupFault → ℕ
told_place (Ok x) = 0
told_place (Err f) = fault_place f

-- 13, 14 or 0, from the lengths of the lent node words, place list and pool, and the counts of nodes and pool bytes.
unfoldable pub room_number : ℕ → ℕ → ℕ → ℕ → ℕ → ℕ
room_number words places bytes n p =
    cond (ltb (min most_nodes (min (words / record_length) places)) n) Number.nodes_short (cond (ltb bytes p) Number.pool_short Number.ok)

-- The number of what the code answers for the room.
abbrev pub room_told : Result (Unit {0}) Refusal → ℕ
room_told (Ok _) = Number.ok
room_told (Err r) = number r
