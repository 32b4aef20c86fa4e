-- The bytes before i stand for themselves.
use Rattle.printer.specs.internal.Raw.{RawTo}
use Rattle.printer.proofs.put.raw_end.Given as goal

abbrev pub invariant-loop-i : goal.invariant-loop-i
invariant-loop-i l = RawTo l.bytes l.from l.i
