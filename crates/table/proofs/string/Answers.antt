-- `table::string` meets its contract.
use mathlib.Core.Path.{◌∙◌}
use native.Mathlib.Omega.{arith}
use Rattle.table.specs.Stored.{string_at}
use Rattle.table.proofs.Parts.{word_saturated}
use Rattle.table.proofs.string.Goals as goal

pub returns : goal.returns
unfolding string_at
returns c = let good = c.well_formed in
    let size = c.word-size.ensures ∙ word_saturated c.args.nodes.now c.args.i c.args.j _ _ c.saturating_add.ensures (omega arith) in
    rw (c.word-at.ensures, size) at c.part.ensures
