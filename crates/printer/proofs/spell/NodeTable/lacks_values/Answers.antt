-- `spell::NodeTable::lacks_values` meets its contract.
use Rattle.printer.proofs.spell.Valueless.{valueless_tested}
use Rattle.printer.proofs.spell.NodeTable.lacks_values.Goals as goal

pub returns : goal.returns
returns c = let args = c.args in
    let key = c.word in
    let type = c.word-2 in
    valueless_tested args.self.now.nodes.now args.i key.result type.result c.word-3.result key.ensures type.ensures c.word-3.ensures
