-- `stores::store` meets its contract: a store past the end changes nothing.
use mathlib.Core.Path.{sym}
use Prim.Native.Nat.{◌+◌}
use native.Mathlib.Omega.{arith}
use lib.Seq.{set_out}
use Rattle.atoms.proofs.stores.store.Goals as goal

pub returns-then-out-at : goal.returns-then-out-at
returns-then-out-at c = sym (set_out c.args.out.now (c.args.at + c.args.k) c.args.b (omega arith))

pub returns-else-k-out : goal.returns-else-k-out
returns-else-k-out c = sym (set_out c.args.out.now (c.args.at + c.args.k) c.args.b (omega arith))
