-- `copy::copy_within` meets its contract.
use native.Mathlib.Omega.{arith}
use Rattle.base.proofs.Blocks.{two_copies}
use Rattle.base.proofs.copy.copy_within.Goals as goal

pub returns-then-count-le16 : goal.returns-then-count-le16
returns-then-count-le16 c = let a = c.args in
    two_copies a.out.now c.copy_block.new.out c.copy_block-then-count-le16.new.out a.bytes.now a.at a.from 8 a.count
    (omega arith) (omega arith) (omega arith) c.copy_block.ensures c.copy_block-then-count-le16.ensures

pub returns-then-count-le32 : goal.returns-then-count-le32
returns-then-count-le32 c = let a = c.args in
    two_copies a.out.now c.copy_block-then-count-le32.new.out c.copy_block-then-count-le32-2.new.out a.bytes.now a.at a.from 16 a.count
    (omega arith) (omega arith) (omega arith) c.copy_block-then-count-le32.ensures c.copy_block-then-count-le32-2.ensures
