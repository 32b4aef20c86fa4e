-- `put::Output::digits` meets its contract.
use Rattle.std.proofs.Common.{arith}
use Rattle.printer.proofs.put.Appending.{appends_as}
use Rattle.printer.proofs.put.Pieces.{leading_most, last_digits}
use Rattle.printer.proofs.put.Output.digits.Goals as goal

pub slice_bounds-bytes-count : goal.slice_bounds-bytes-count
slice_bounds-bytes-count c = omega (arith, leading_most c.args.n, c.leading.ensures)

pub slice_bounds-bytes-start : goal.slice_bounds-bytes-start
slice_bounds-bytes-start c = omega (arith, leading_most c.args.n, c.leading.ensures)

pub returns : goal.returns
returns c =
    appends_as (last_digits c.args.n _ _ _ _ _ _ c.leading.ensures c.digit.ensures c.digit-2.ensures c.digit-3.ensures c.digit-4.ensures c.digit-5.ensures)
    c.bytes.ensures
