-- Definitions that serve the contracts of private functions: the ids that an index knows.
use Rattle.std.specs.Prelude.{ℕ, List}
use Rattle.validate.specs.declared.index.Target.{Target}
use Rattle.validate.specs.declared.index.IdIndex.{IdIndex}
use Rattle.validate.specs.internal.TableWords.{ids_before}

-- The ids of such blocks among the nodes that have entered.
abbrev pub entered_ids : IdIndex → Target → List (List ℕ)
entered_ids index target = ids_before index.table.nodes.now index.table.pool.now target index.count
