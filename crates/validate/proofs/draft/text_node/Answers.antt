-- `draft::text_node` meets its contract.
use native.Mathlib.Omega.{arith}
use Prim.Native.Nat.{◌-◌}
use mathlib.Core.Path.{◌≡◌, ◌∙◌, sym}
use borrow.Author.Tests.{eq-eqb, ne_eqb}
use Rattle.document.specs.reference.Printing.{part}
use Rattle.table.specs.Stored.{word_at}
use Rattle.validate.proofs.lemmas.records.Decided.{not_held, no_end, the_end}
use Rattle.validate.proofs.lemmas.records.RecordTests.{row_word, row_whole}
use Rattle.validate.proofs.lemmas.draft.LawfulNodes.{text_valid, text_taken, text_refused}
use Rattle.validate.proofs.draft.text_node.Goals as goal

pub returns-then-not-text_alone : goal.returns-then-not-text_alone
returns-then-not-text_alone c = λ left. text_refused _ _ _ _ _ c.requires.1 c.requires.0 (λ t. not_held c.text_alone.ensures c.if-not-text_alone.true t.alone)

pub returns-in_err-end : goal.returns-in_err-end
returns-in_err-end c = λ left.
    rw c.from_residual.ensures (text_refused _ _ _ _ _ c.requires.1 c.requires.0 (λ t. no_end c.in_err-end.ensures t.text_at))

pub returns-then-valid_up_to-row : goal.returns-then-valid_up_to-row
unfolding part
returns-then-valid_up_to-row c = λ left.
    let row = c.args.row.now in
    let size = row_word row 8 (omega arith) in
    let alone = c.text_alone.ensures.sound c.if-not-text_alone.false in
    let (text, end) = the_end c.in_ok-end.ensures in
    let same : c.in_ok-end.end - c.args.at ≡ word_at row.table.now.nodes.now row.number 8 = omega arith in
    let valid = text_valid _ _ _ _ _ alone text (rw same at c.valid_up_to.ensures) in
    text_refused _ _ _ _ _ c.requires.1 c.requires.0 (not_held valid (ne_eqb _ _ (λ e. c.if-valid_up_to-row.true (e ∙ sym size))))

pub returns : goal.returns
unfolding part
returns c = λ left.
    let row = c.args.row.now in
    let size = row_word row 8 (omega arith) in
    let alone = c.text_alone.ensures.sound c.if-not-text_alone.false in
    let (text, end) = the_end c.in_ok-end.ensures in
    let same : c.in_ok-end.end - c.args.at ≡ word_at row.table.now.nodes.now row.number 8 = omega arith in
    let valid = text_valid _ _ _ _ _ alone text (rw same at c.valid_up_to.ensures) in
    text_taken _ _ _ _ _ c.requires.1 c.requires.0 (row_whole row) (valid.sound (eq-eqb _ _ (c.if-valid_up_to-row.false ∙ size))) end
