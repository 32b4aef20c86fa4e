-- `Row::text_alone` meets its contract.
use Prim.Native.Nat.{ℕ, ◌<◌}
use native.Mathlib.Omega.{arith}
use Rattle.document.specs.rules.Record.{record_length}
use Rattle.validate.proofs.lemmas.records.RecordTests.{row_word, alone_tests}
use Rattle.validate.proofs.record.Row.text_alone.Goals as goal

pub returns : goal.returns
returns c =
    let row = c.args.self.now in
    let at : (j : ℕ) → j < record_length → _ = λ j h. row_word row j h in
    rw (
      at 1 (omega arith),
      at 2 (omega arith),
      at 3 (omega arith),
      at 4 (omega arith),
      at 5 (omega arith),
      at 6 (omega arith),
      at 8 (omega arith),
      at 9 (omega arith),
      at 10 (omega arith),
    )
    (alone_tests row.table.now.nodes.now row.number _ _)
