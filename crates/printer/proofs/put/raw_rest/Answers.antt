-- `put::raw_rest` meets its contract.
use Rattle.std.proofs.Common.{rules, arith, ◌+◌, ◌-◌, ◌≤◌, ◌≡◌, length}
use Rattle.printer.proofs.put.RawLast.{raw_over}
use Rattle.printer.proofs.put.raw_rest.Goals as goal

pub returns : goal.returns
returns c = let bytes = c.args.bytes.now in
    let from = c.args.from in
    let near : length bytes ≤ from + 16 = omega arith in
    let last : length bytes - 8 + 8 ≡ length bytes = omega arith in
    raw_over bytes from c.min.result (length bytes - 8) c.requires near last (search rules) c.raw_8.ensures c.raw_8-2.ensures
