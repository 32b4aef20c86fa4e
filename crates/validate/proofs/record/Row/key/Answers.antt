-- `Row::key` meets its contract.
use native.Mathlib.Omega.{arith}
use Rattle.table.specs.Stored.{string_at}
use Rattle.validate.proofs.lemmas.records.RecordTests.{row_word}
use Rattle.validate.proofs.record.Row.key.Goals as goal

pub returns : goal.returns
unfolding string_at
returns c = let row = c.args.self.now in
    rw (row_word row 3 (omega arith), row_word row 4 (omega arith)) at c.part.ensures
