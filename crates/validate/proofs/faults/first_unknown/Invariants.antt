-- `faults::first_unknown` meets its contract. The loop's invariant: the first unknown target from node `i` on is the first of all.
use mathlib.Core.Path.{◌≡◌}
use Rattle.document.specs.reference.Check.{found_unknown_target}
use Rattle.validate.specs.internal.TableWords.{entries_from, ids_before}
use Rattle.validate.proofs.lemmas.index.BlockIds.{rest}
use Rattle.validate.proofs.faults.first_unknown.Given as goal

abbrev pub invariant-loop-i : goal.invariant-loop-i
invariant-loop-i l =
    let words = l.index.table.nodes.now in
    let bytes = l.index.table.pool.now in
    let count = l.index.count in
    let ids = ids_before words bytes l.target count in
    found_unknown_target l.kind ids (rest words bytes count l.i) ≡ found_unknown_target l.kind ids (entries_from words bytes count 0)
