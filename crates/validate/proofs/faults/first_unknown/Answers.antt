-- `faults::first_unknown` meets its contract.
use mathlib.Core.Path.{◌≡◌, ◌∙◌, sym, ap}
use mathlib.Core.Bool.{true, false, not, ◌&&◌}
use lib.Dec.{eqb}
use borrow.Author.Tests.{eq-eqb, ne_eqb}
use Rattle.document.specs.reference.Check.{is_among}
use Rattle.table.specs.Stored.{word_at}
use Rattle.validate.specs.internal.TableWords.{found, key_at, ids_before}
use Rattle.validate.proofs.lemmas.index.BlockIds.{kind_read, unknown_here, unknown_on, unknown_end}
use Rattle.validate.proofs.faults.first_unknown.Goals as goal
use Rattle.validate.proofs.faults.first_unknown.Goals.{else-nodes-i-via-then-nodes-i+else-not-knows, else-nodes-i-via-else-nodes-i}

pub returns-then-not-knows : goal.returns-then-not-knows
unfolding found
returns-then-not-knows c =
    let table = c.args.index.now.table in
    let ids = ids_before table.nodes.now table.pool.now c.args.target c.args.index.now.count in
    let i = c.loop-i.i in
    let e : eqb (word_at table.nodes.now i 0) c.args.kind && not (is_among (key_at table.nodes.now table.pool.now i) ids) ≡ true =
    rw (eq-eqb _ c.args.kind (sym (kind_read table.nodes.now i) ∙ c.if-nodes-i.true), ← c.key.ensures, ← c.knows.ensures, c.if-not-knows.true) in
    ap found (sym (unknown_here _ _ _ _ _ _ c.loop-i-test.true e) ∙ c.loop-i.invariant)

pub loop-i-preserved : goal.loop-i-preserved
loop-i-preserved c =
    let table = c.args.index.now.table in
    let ids = ids_before table.nodes.now table.pool.now c.args.target c.args.index.now.count in
    let i = c.loop-i.i in
    let e : eqb (word_at table.nodes.now i 0) c.args.kind && not (is_among (key_at table.nodes.now table.pool.now i) ids) ≡ false =
    elim c.else-nodes-i.branch [
      | else-nodes-i-via-then-nodes-i+else-not-knows w ↦
          rw (eq-eqb _ c.args.kind (sym (kind_read table.nodes.now i) ∙ w.if-nodes-i.true), ← w.key.ensures, ← w.knows.ensures, w.if-not-knows.false)
      | else-nodes-i-via-else-nodes-i w ↦ rw (ne_eqb _ c.args.kind (λ e. w.if-nodes-i.false (kind_read table.nodes.now i ∙ e)))
    ] in
    unknown_on _ _ _ _ _ _ c.loop-i-test.true e ∙ c.loop-i.invariant

pub returns : goal.returns
unfolding found
returns c = ap found (sym (unknown_end _ _ _ _ _ _ c.loop-i-test.false) ∙ c.loop-i.invariant)
