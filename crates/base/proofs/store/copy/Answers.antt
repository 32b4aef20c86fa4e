-- `store::copy` meets its contract. The loop's invariant: the first i bytes are copied.
use Prim.Native.Nat.{◌<◌}
use mathlib.Core.Path.{◌≡◌, ◌∙◌}
use native.Mathlib.Omega.{arith}
use lib.ListN.{length, length-set}
use Rattle.base.proofs.Copied.{copied_more, copied_all}
use Rattle.base.proofs.store.copy.Goals as goal

pub loop-i-preserved : goal.loop-i-preserved
loop-i-preserved c = let loop = c.loop-i in
    let args = c.args in
    let inside : loop.i < length args.bytes.now = omega arith in
    let same : length loop.out ≡ length args.bytes.now = loop.invariant.1 in
    (omega arith, length-set loop.out _ _ ∙ same, copied_more args.bytes.now loop.out loop.i inside (omega arith) loop.invariant.2)

pub returns : goal.returns
returns c = let loop = c.loop-i in
    copied_all c.args.bytes.now loop.out loop.i (omega arith) loop.invariant.1 loop.invariant.2
