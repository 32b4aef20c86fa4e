-- `store::store_all` meets its contract.
use mathlib.Core.Path.{sym}
use native.Mathlib.Omega.{arith}
use Prim.Native.Nat.{◌≤◌}
use lib.ListN.{length, length-take, length-drop}
use Rattle.base.proofs.Stores.{sets_past}
use Rattle.base.proofs.Copied.{room_copied}
use Rattle.base.proofs.store.store_all.Goals as goal

pub returns-then-out-at : goal.returns-then-out-at
returns-then-out-at c = let args = c.args in
    sym (sets_past args.bytes.now args.out.now args.at c.if-out-at.true)

pub copy-requires : goal.copy-requires
copy-requires c = simp (length-take, length-drop) (omega arith)

pub returns : goal.returns
returns c = let args = c.args in
    let count = c.lesser-count in
    let room : args.at ≤ length args.out.now = omega arith in
    let copy = c.copy in
    room_copied args.out.now args.bytes.now args.at count.result room count.ensures copy.new.out copy.ensures
