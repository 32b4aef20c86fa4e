-- `faults::first_bad_row` meets its contract.
use mathlib.Core.Path.{◌∙◌, sym, ap}
use Rattle.validate.specs.internal.TableWords.{found}
use Rattle.validate.proofs.lemmas.index.BlockIds.{kind_read}
use Rattle.validate.proofs.lemmas.faults.BadRows.{spot_other, search_step, search_end}
use Rattle.validate.proofs.faults.first_bad_row.Goals as goal
use Rattle.validate.proofs.faults.first_bad_row.Goals.{else-nodes-i-eq-ROW-via-then-nodes-i-eq-ROW+else-row_differs, else-nodes-i-eq-ROW-via-else-nodes-i-eq-ROW}

pub row_differs-requires : goal.row_differs-requires
row_differs-requires c = sym (kind_read _ _) ∙ c.if-nodes-i-eq-ROW.true

pub returns-then-row_differs : goal.returns-then-row_differs
unfolding found
returns-then-row_differs c = λ f s.
    let loop = c.loop-i in
    let t = search_step c.args.table.now.nodes.now c.args.table.now.count loop.i f c.loop-i-test.true (loop.invariant f s) in
    ap found (sym (t.here (sym (c.row_differs.ensures t.test t.spot) ∙ c.if-row_differs.true)))

pub loop-i-preserved : goal.loop-i-preserved
loop-i-preserved c = λ f s.
    let loop = c.loop-i in
    let t = search_step c.args.table.now.nodes.now c.args.table.now.count loop.i f c.loop-i-test.true (loop.invariant f s) in
    t.on (elim c.else-nodes-i-eq-ROW.branch [
      | else-nodes-i-eq-ROW-via-then-nodes-i-eq-ROW+else-row_differs w ↦ sym (w.row_differs.ensures t.test t.spot) ∙ w.if-row_differs.false
      | else-nodes-i-eq-ROW-via-else-nodes-i-eq-ROW w ↦ sym (spot_other _ _ _ t.spot (λ k. w.if-nodes-i-eq-ROW.false (kind_read _ _ ∙ k)))
    ])

pub returns : goal.returns
unfolding found
returns c = λ f s. ap found (sym (search_end c.args.table.now.nodes.now c.args.table.now.count c.loop-i.i f c.loop-i-test.false (c.loop-i.invariant f s)))
