-- `values::values` meets its contract.
use native.Mathlib.Omega.{arith}
use mathlib.Core.Path.{sym, ap, ◌∙◌}
use Rattle.base.proofs.Booleans.{cond_case}
use Prim.Native.Nat.{ℕ, ◌≤◌}
use lib.ListN.{length}
use Rattle.document.specs.rules.Canonical.{key_class}
use Rattle.elements.specs.rules.Class.{is_block}
use Rattle.table.specs.Stored.{string_at}
use Rattle.validate.specs.internal.DraftWalk.{node_values}
use Rattle.validate.proofs.lemmas.records.NodeRecords.{missing_string}
use Rattle.validate.proofs.lemmas.records.RecordTests.{row_word}
use Rattle.validate.proofs.lemmas.values.ValueSteps.{value_missing, takes_then, takes_not}
use Rattle.validate.proofs.values.values.Goals as goal

pub take_value-requires : goal.take_value-requires
unfolding key_class
take_value-requires c =
    rw c.key_class.ensures (cond_case (λ (n : ℕ). (26 ≤ n) × (n ≤ 28)) (is_block c.args.kind) (λ e. omega arith) (λ e. omega arith))

pub returns-in_err-after_key : goal.returns-in_err-after_key
unfolding node_values string_at
returns-in_err-after_key c =
    let row = c.args.row.now in
    let key = rw (c.key_class.ensures, c.part-key.ensures, row_word row 3 (omega arith), row_word row 4 (omega arith)) at c.in_err-after_key.ensures in
    rw c.from_residual.ensures (takes_not key)

pub returns-in_err-after_size : goal.returns-in_err-after_size
unfolding node_values string_at
returns-in_err-after_size c =
    let row = c.args.row.now in
    let key = rw (c.key_class.ensures, c.part-key.ensures, row_word row 3 (omega arith), row_word row 4 (omega arith)) at c.in_ok-after_key.ensures in
    let size = rw (row_word row 9 (omega arith), row_word row 10 (omega arith)) at c.in_err-after_size.ensures in
    rw c.from_residual-in_err-after_size.ensures (takes_then key (takes_not size))

pub returns-then-r-eq0 : goal.returns-then-r-eq0
unfolding node_values string_at
returns-then-r-eq0 c =
    let row = c.args.row.now in
    let key = rw (c.key_class.ensures, c.part-key.ensures, row_word row 3 (omega arith), row_word row 4 (omega arith)) at c.in_ok-after_key.ensures in
    let size = rw (row_word row 9 (omega arith), row_word row 10 (omega arith)) at c.in_ok-after_size.ensures in
    let none = missing_string row.table.now.nodes.now row.table.now.pool.now row.number 5 (sym (row_word row 6 (omega arith)) ∙ c.if-r-eq0.true) in
    takes_then key (takes_then size (value_missing _ _ _ _ (ap length none)))

pub returns : goal.returns
unfolding node_values string_at
returns c =
    let row = c.args.row.now in
    let key = rw (c.key_class.ensures, c.part-key.ensures, row_word row 3 (omega arith), row_word row 4 (omega arith)) at c.in_ok-after_key.ensures in
    let size = rw (row_word row 9 (omega arith), row_word row 10 (omega arith)) at c.in_ok-after_size.ensures in
    let type = rw (c.part-typename.ensures, row_word row 5 (omega arith), row_word row 6 (omega arith)) at c.take_value-2.ensures in
    takes_then key (takes_then size type)
