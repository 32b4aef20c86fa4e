-- `table::part` meets its contract.
use Rattle.table.proofs.Parts.{part_is}
use Rattle.table.proofs.part.Goals as goal

pub returns : goal.returns
returns c = part_is _ _ c.args.size _ _ c.min.ensures c.min-2.ensures
