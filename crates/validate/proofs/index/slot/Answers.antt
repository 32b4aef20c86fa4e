-- `index::slot` meets its contract.
use Prim.Native.Nat.{◌%◌}
use mathlib.Core.Path.{◌∙◌, sym, ap}
use native.Mathlib.Nat.{mod-lt}
use native.Mathlib.Omega.{arith}
use Rattle.validate.specs.internal.IdIndex.{slot_of}
use Rattle.validate.proofs.lemmas.index.SlotChains.{mixed_on, mixed_end}
use Rattle.validate.proofs.index.slot.Goals as goal

pub loop-b-preserved : goal.loop-b-preserved
loop-b-preserved c =
    let loop = c.loop-b in
    (mod-lt _ (omega arith), mixed_on loop.h c.args.id.now loop.b-index (omega arith) ∙ loop.invariant.1)

pub returns : goal.returns
unfolding slot_of
returns c =
    let loop = c.loop-b in
    (ap (λ h. h % 4096) (sym (mixed_end loop.h c.args.id.now loop.b-index (omega arith)) ∙ loop.invariant.1), omega arith)
