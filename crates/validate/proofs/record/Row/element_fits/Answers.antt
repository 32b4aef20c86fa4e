-- `Row::element_fits` meets its contract.
use native.Mathlib.Omega.{arith}
use Rattle.validate.proofs.lemmas.records.RecordTests.{row_word, element_tests}
use Rattle.validate.proofs.record.Row.element_fits.Goals as goal

pub returns : goal.returns
returns c =
    let row = c.args.self.now in
    rw (
      row_word row 0 (omega arith),
      row_word row 8 (omega arith),
      row_word row 9 (omega arith),
      row_word row 10 (omega arith),
      c.value_levels.ensures,
    )
    (element_tests row.table.now.nodes.now row.number c.args.left)
