-- `copy::copy_block` meets its contract.
use native.Mathlib.Omega.{arith}
use Rattle.base.proofs.Copied.{block_copied}
use Rattle.base.proofs.copy.copy_block.Goals as goal

pub returns : goal.returns
returns g c = let a = c.args in
    block_copied a.out.now a.bytes.now c.copy_from_slice.new.self a.at a.from g.row.N (omega arith) (omega arith) c.copy_from_slice.ensures.after
