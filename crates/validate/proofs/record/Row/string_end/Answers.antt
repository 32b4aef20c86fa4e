-- `Row::string_end` meets its contract.
use native.Mathlib.Omega.{arith}
use mathlib.Core.Path.{refl}
use Prim.Native.Nat.{◌+◌}
use Rattle.validate.proofs.lemmas.records.Decided.{ends_at, ends_nowhere}
use Rattle.validate.proofs.lemmas.records.RecordTests.{row_word, string_missing, string_no_offset, string_elsewhere, string_there, string_long}
use Rattle.validate.proofs.record.Row.string_end.Goals as goal

pub returns-then-offset-eq0 : goal.returns-then-offset-eq0
returns-then-offset-eq0 c =
    let row = c.args.self.now in
    ends_at (string_missing row _ _ c.requires.0 c.if-length-eq0.true c.requires.1 c.if-offset-eq0.true)
    (omega (arith, row_word row (c.args.j + 1) (omega arith), c.if-length-eq0.true))

pub returns-else-offset-eq0 : goal.returns-else-offset-eq0
returns-else-offset-eq0 c = ends_nowhere (string_no_offset c.args.self.now _ _ c.requires.0 c.if-length-eq0.true c.if-offset-eq0.false)

pub returns-then-offset-p : goal.returns-then-offset-p
returns-then-offset-p c = ends_nowhere (string_elsewhere c.args.self.now _ _ c.requires.0 c.if-length-eq0.false c.if-offset-p.true)

pub returns-then-self-p : goal.returns-then-self-p
returns-then-self-p c = ends_nowhere (string_long c.args.self.now _ _ c.requires.0 c.requires.1 c.if-self-p.true)

pub returns : goal.returns
returns c =
    let row = c.args.self.now in
    rw (row_word row (c.args.j + 1) (omega arith))
    (ends_at (string_there row _ _ c.requires.0 c.if-length-eq0.false c.requires.1 c.if-offset-p.false c.if-self-p.false) refl)
