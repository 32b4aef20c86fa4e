-- The blocks before k stand for themselves.
use Rattle.std.proofs.Common.{◌+◌, ◌*◌}
use Rattle.printer.specs.internal.Raw.{RawTo}
use Rattle.printer.proofs.put.raw_blocks.Given as goal

abbrev pub invariant-loop-k : goal.invariant-loop-k
invariant-loop-k l = RawTo l.bytes l.from (l.from + 16 * l.k)
