-- `faults::first_repeated` meets its contract. The loop's invariant: the first repeated id from node `i` on is the first of all,
-- and the nodes before it have entered.
use mathlib.Core.Path.{◌≡◌}
use mathlib.Core.List.{[]}
use Rattle.document.specs.reference.Check.{found_repeated_id}
use Rattle.validate.specs.declared.index.Target.TheVariants.{Block}
use Rattle.validate.specs.internal.TableWords.{entries_from, ids_before}
use Rattle.validate.proofs.lemmas.index.BlockIds.{rest}
use Rattle.validate.proofs.faults.first_repeated.Given as goal

abbrev pub invariant-loop-i : goal.invariant-loop-i
invariant-loop-i l =
    let words = l.fn.index.table.nodes.now in
    let bytes = l.fn.index.table.pool.now in
    let count = l.fn.index.table.count in
    (l.index.table ≡ l.fn.index.table) × (l.index.count ≡ l.i)
    × (found_repeated_id (ids_before words bytes Block l.i) (rest words bytes count l.i) ≡ found_repeated_id [] (entries_from words bytes count 0))
