-- The first i bytes are written.
use Rattle.std.proofs.Common.{◌-◌, ◌≤◌, [], length, take}
use Rattle.document.specs.rules.Canonical.{bytes_before}
use Rattle.printer.specs.internal.Appends.{Appends}
use Rattle.printer.proofs.put.Output.escaped.Given as goal

abbrev pub invariant-loop-i : goal.invariant-loop-i
invariant-loop-i l = (l.i ≤ length l.bytes) × Appends l.initial.self (bytes_before (take l.i l.bytes) []) l.self

abbrev pub decreases-loop-i : goal.decreases-loop-i
decreases-loop-i l = length l.bytes - l.i
