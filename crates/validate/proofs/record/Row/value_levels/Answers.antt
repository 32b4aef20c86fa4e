-- `Row::value_levels` meets its contract.
use native.Mathlib.Omega.{arith}
use mathlib.Core.Path.{sym}
use Rattle.validate.proofs.lemmas.records.RecordTests.{row_word, levels_test}
use Rattle.validate.proofs.record.Row.value_levels.Goals as goal

pub returns-then-none : goal.returns-then-none
returns-then-none c =
    let row = c.args.self.now in
    levels_test row.table.now.nodes.now row.number _
    (rw (row_word row 4 (omega arith), row_word row 6 (omega arith), row_word row 9 (omega arith)) at (sym c.if-none.true))

pub returns-else-none : goal.returns-else-none
returns-else-none c =
    let row = c.args.self.now in
    levels_test row.table.now.nodes.now row.number _
    (rw (row_word row 4 (omega arith), row_word row 6 (omega arith), row_word row 9 (omega arith)) at (sym c.if-none.false))
