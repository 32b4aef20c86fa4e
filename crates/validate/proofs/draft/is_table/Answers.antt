-- `draft::is_table` meets its contract.
use native.Mathlib.Omega.{arith}
use mathlib.Core.Path.{refl, sym, ◌∙◌}
use lib.Dec.{eqb}
use borrow.Author.Tests.{eqb-true, eqb-false, ne_eqb}
use Rattle.validate.proofs.lemmas.records.Decided.{refused_none, the_numbers}
use Rattle.validate.proofs.lemmas.records.RecordTests.{row_word}
use Rattle.validate.proofs.lemmas.draft.ChildWalk.{node_forward, of_node, word_of_node}
use Rattle.validate.proofs.lemmas.draft.DraftRoot.{draft_told, no_draft}
use Rattle.validate.proofs.draft.is_table.Goals as goal

pub returns-then-table-gt-MOST_NODES : goal.returns-then-table-gt-MOST_NODES
returns-then-table-gt-MOST_NODES c =
    let table = c.args.table.now in
    no_draft (λ e q r. omega (arith, c.if-table-gt-MOST_NODES.true, r.few_words, r.all_words, table.whole))

pub returns-in_default : goal.returns-in_default
returns-in_default c =
    let table = c.args.table.now in
    no_draft (λ e q r. omega (arith, c.in_default.ensures, r.all_words, table.whole, node_forward r.root))

pub returns-then-root : goal.returns-then-root
returns-then-root c =
    let (table, number) = c.in-Some.ensures in
    no_draft (λ e q r. c.if-root.true (word_of_node c.in-Some.root table number 0 (omega arith) ∙ r.of_kind))

pub element-requires : goal.element-requires
element-requires c = (omega arith, λ t. omega (arith, row_word c.in-Some.root 0 (omega arith), c.if-root.false))

pub returns-then-w-table : goal.returns-then-w-table
returns-then-w-table c =
    let lent = c.args.table.now in
    let (table, number) = c.in-Some.ensures in
    let w = c.in-Some-element.w in
    let d = of_node c.in-Some.root table number c.in-Some-element.ensures in
    draft_told (eqb w.next lent.count)
    (λ t. record {
      root = d.sound w refl;
      of_kind = sym (word_of_node c.in-Some.root table number 0 (omega arith)) ∙ c.if-root.false;
      all_words = omega (arith, eqb-true w.next lent.count t, lent.whole);
      all_bytes = sym c.if-w-table.true;
      few_words = omega (arith, c.if-table-gt-MOST_NODES.false, lent.whole);
      few_bytes = c.if-table-gt-MOST_BYTES.false;
    })
    (λ t e q r. eqb-false w.next lent.count t ((the_numbers d r.root).0 ∙ omega (arith, r.all_words, lent.whole)))

pub returns-else-w-table : goal.returns-else-w-table
returns-else-w-table c =
    let (table, number) = c.in-Some.ensures in
    let d = of_node c.in-Some.root table number c.in-Some-element.ensures in
    rw (ne_eqb _ _ c.if-w-table.false) (no_draft (λ e q r. c.if-w-table.false ((the_numbers d r.root).1 ∙ sym r.all_bytes)))

pub returns-in-None : goal.returns-in-None
returns-in-None c =
    let (table, number) = c.in-Some.ensures in
    no_draft (λ e q r. refused_none (of_node c.in-Some.root table number c.in-None.ensures) e q r.root)
