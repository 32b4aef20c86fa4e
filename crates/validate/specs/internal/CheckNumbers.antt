-- The answer of the check of a table, as the definition of the check has it.
use Rattle.std.specs.Prelude.{ℕ, Option, Some, None, Result, Ok, Err}
use Rattle.base.specs.rules.Numbers as Number
use Rattle.document.specs.reference.Check.{Check, sound, unsound}
use Rattle.validate.specs.declared.faults.Rule.{Rule}
use Rattle.validate.specs.declared.faults.Rule.TheVariants.{RowLength, RepeatedId, UnknownTarget, UnknownFootnote}
use Rattle.validate.specs.declared.faults.Fault.{Fault}

-- The number of the fault that breaks a rule.
abbrev pub number_of : Rule → ℕ
number_of RowLength = Number.row_length
number_of RepeatedId = Number.repeated_id
number_of UnknownTarget = Number.unknown_target
number_of UnknownFootnote = Number.unknown_footnote

-- A rule holds, or a node breaks it.
abbrev pub kept : Rule → Option ℕ → Result Unit Fault
kept rule None = Ok tt
kept rule (Some i) = Err (record { rule = rule; node = i })

abbrev pub checked : Result Unit Fault → Check
checked (Ok u) = sound
checked (Err f) = unsound (number_of f.rule) f.node
