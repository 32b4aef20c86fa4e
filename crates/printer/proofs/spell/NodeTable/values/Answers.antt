-- `spell::NodeTable::values` meets its contract.
use Rattle.std.proofs.Common.{refl}
use Rattle.printer.proofs.put.Appending.{appends_as, appends_none, appends_join}
use Rattle.printer.proofs.put.Pieces.{shown_inside}
use Rattle.printer.proofs.spell.ElementParts.{values_as}
use Rattle.printer.proofs.spell.Valueless.{valueless_inside}
use Rattle.printer.proofs.spell.NodeTable.values.Goals as goal

pub returns-then-lacks_values : goal.returns-then-lacks_values
returns-then-lacks_values c =
    appends_as (valueless_inside c.args.self.now.nodes.now c.args.i c.args.self.now.pool.now _ _ (c.lacks_values.ensures c.if-lacks_values.true))
    (appends_none _)

pub returns : goal.returns
returns c =
    let size = rw (c.size.ensures, shown_inside) at c.size-2.ensures in
    appends_as (values_as _ _ _ _ _ _ _ _ _ _ _ c.key_class-class.ensures c.word.ensures c.string.ensures refl refl c.string-2.ensures)
    (appends_join c.value.ensures (appends_join size c.value-2.ensures))
