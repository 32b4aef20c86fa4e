-- `run::put_run` meets its contract.
use mathlib.Core.Path.{sym}
use Prim.Native.Nat.{◌+◌}
use native.Mathlib.Omega.{arith}
use Rattle.base.proofs.Stores.{sets_past}
use Rattle.atoms.proofs.run.put_run.Goals as goal

pub returns-then-out-at : goal.returns-then-out-at
returns-then-out-at c = sym (sets_past c.args.bytes.now c.args.out.now
    (c.args.at + c.args.k) (omega arith))

pub returns-then-out-at-2 : goal.returns-then-out-at-2
returns-then-out-at-2 c = sym (sets_past c.args.bytes.now c.args.out.now
    (c.args.at + c.args.k) (omega arith))
