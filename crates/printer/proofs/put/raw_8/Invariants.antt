-- The bytes before k stand for themselves.
use Rattle.std.proofs.Common.{◌≡◌, true, take, drop}
use Rattle.printer.specs.internal.Raw.{Raw}
use Rattle.printer.proofs.put.raw_8.Given as goal

abbrev pub invariant-loop-k : goal.invariant-loop-k
invariant-loop-k l = l.all ≡ true → Raw (take l.k (drop l.i l.bytes))
