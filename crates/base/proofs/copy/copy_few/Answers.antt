-- `copy::copy_few` meets its contract: two blocks that may overlap, or one, or none.
use native.Mathlib.Omega.{arith}
use Rattle.base.proofs.Blocks.{two_copies}
use Rattle.base.proofs.copy.copy_few.Goals as goal

pub returns-then-count-ge4 : goal.returns-then-count-ge4
returns-then-count-ge4 c = let a = c.args in
    two_copies a.out.now c.copy_block.new.out c.copy_block-then-count-ge4.new.out a.bytes.now a.at a.from 4 a.count
    (omega arith) (omega arith) (omega arith) c.copy_block.ensures c.copy_block-then-count-ge4.ensures

pub returns-then-count-ge2 : goal.returns-then-count-ge2
returns-then-count-ge2 c = let a = c.args in
    two_copies a.out.now c.copy_block-then-count-ge2.new.out c.copy_block-then-count-ge2-2.new.out a.bytes.now a.at a.from 2 a.count
    (omega arith) (omega arith) (omega arith) c.copy_block-then-count-ge2.ensures c.copy_block-then-count-ge2-2.ensures
