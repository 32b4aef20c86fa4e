-- `IdIndex::known` meets its contract. The loop's invariant: what is known among the first `j` nodes is what is known at all.
use Rattle.validate.proofs.lemmas.index.SlotChains.{LeftInSlot}
use Rattle.validate.proofs.index.IdIndex.known.Given as goal

abbrev pub invariant-loop-j : goal.invariant-loop-j
invariant-loop-j l = LeftInSlot l.self.table.nodes.now l.self.table.pool.now l.fn.target l.id l.self.count l.j

abbrev pub decreases-loop-j : goal.decreases-loop-j
decreases-loop-j l = l.j
