-- `record::put_record` meets its contract: the row assigned is one run of stores.
use Prim.Native.Nat.{◌*◌}
use mathlib.Core.Path.{refl}
use native.Mathlib.Omega.{arith}
use Rattle.document.specs.rules.Record.{record_length}
use Rattle.table.specs.Stored.{words_of}
use Rattle.table.proofs.Stores.{row_stored}
use Rattle.table.proofs.record.put_record.Goals as goal

pub returns : goal.returns
returns c = row_stored c.args.nodes.now (words_of c.args.r) _ (record_length * c.args.i) 11 refl (omega arith) c.put_words.ensures
