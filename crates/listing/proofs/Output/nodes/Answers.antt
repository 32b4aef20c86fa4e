-- `Output::nodes` meets its contract.
use Rattle.listing.proofs.Lines.{lines_none, lines_next}
use Rattle.listing.proofs.Output.nodes.Goals as goal

pub loop-k-init : goal.loop-k-init
loop-k-init c = lines_none _ _

pub loop-k-preserved : goal.loop-k-preserved
loop-k-preserved c = lines_next _ _ c.word.ensures c.word-in-loop-k.ensures c.word-in-loop-k-2.ensures c.loop-k.invariant c.node.ensures
