-- `printer::print` meets its contract.
use mathlib.Core.Path.{sym}
use lib.Seq.{length-take-le}
use Rattle.printer.proofs.Answers.{refused, words_within, bytes_within, short, whole}
use Rattle.printer.proofs.print.Goals as goal

pub returns-then-not-is_draft : goal.returns-then-not-is_draft
returns-then-not-is_draft c = refused _ _ _ _ _ _ c.is_draft.ensures (rw c.if-not-is_draft.true)

pub slice_bounds-table-end : goal.slice_bounds-table-end
slice_bounds-table-end c = sym (length-take-le _ _
    (words_within _ _ _ _ c.args.out.now _ c.is_draft.ensures (c.if-not-is_draft.false)))

pub slice_bounds-strings-end : goal.slice_bounds-strings-end
slice_bounds-strings-end c = sym (length-take-le _ _
    (bytes_within _ _ _ _ c.args.out.now _ c.is_draft.ensures (c.if-not-is_draft.false)))

pub returns-then-out-length : goal.returns-then-out-length
returns-then-out-length c = short _ _ _ _ _ _ c.is_draft.ensures (c.if-not-is_draft.false) _ _ _
    c.spelled-length.ensures c.if-out-length.true

pub returns : goal.returns
returns c = whole _ _ _ _ _ _ c.is_draft.ensures (c.if-not-is_draft.false) _ _ _ c.spelled-length.ensures
    c.if-out-length.false _ _ c.spelled.ensures
