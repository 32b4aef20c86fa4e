-- `IdIndex::new` meets its contract.
use Rattle.validate.proofs.lemmas.index.SlotChains.{none_entered}
use Rattle.validate.proofs.index.IdIndex.new.Goals as goal

pub invariant_of-result-clause-indexed : goal.invariant_of-result-clause-indexed
invariant_of-result-clause-indexed c = none_entered c.args.table.nodes.now c.args.table.pool.now
