-- `faults::row_differs` meets its contract.
use mathlib.Core.Path.{◌∙◌, sym}
use Rattle.validate.proofs.lemmas.faults.BadRows.{spot_free, spot_no_head, spot_head}
use Rattle.validate.proofs.faults.row_differs.Goals as goal

pub returns-then-word-ne-TABLE : goal.returns-then-word-ne-TABLE
returns-then-word-ne-TABLE c = λ b s.
    spot_free _ _ b s c.requires _
    c.binder-t.ensures (λ t. c.if-word-ne-TABLE.true (c.word.ensures ∙ t))

pub returns-in-None : goal.returns-in-None
returns-in-None c = λ b s.
    spot_no_head _ _ b s c.requires _
    c.binder-t.ensures (sym c.word.ensures ∙ c.if-word-ne-TABLE.false) _
    c.head_names.ensures c.in-None.is

pub returns-in-Some : goal.returns-in-Some
returns-in-Some c = λ b s.
    spot_head _ _ b s c.requires _
    c.binder-t.ensures (sym c.word.ensures ∙ c.if-word-ne-TABLE.false) _
    c.head_names.ensures _ _
    c.in-Some.is c.child_count.ensures
