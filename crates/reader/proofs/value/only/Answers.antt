-- `only` meets its contract: each way out is one law of `TextValues`.
use mathlib.Core.Path.{refl, sym, ◌∙◌}
use Rattle.reader.proofs.lemmas.walk.OneTurn.{ended_here}
use Rattle.reader.proofs.lemmas.value.TextValues.{only_nothing, only_stuck, only_two, only_one_lem}
use Rattle.reader.proofs.value.only.Goals as goal

pub returns-then-not-is_held : goal.returns-then-not-is_held
returns-then-not-is_held c = only_nothing _ c.look-first.ensures c.requires (sym c.is_held.ensures ∙ c.if-not-is_held.true)

pub returns-then-next-from : goal.returns-then-next-from
returns-then-next-from c = only_stuck _ c.look-first.ensures c.requires
    (sym c.is_held.ensures ∙ c.if-not-is_held.false) c.if-next-from.true

pub returns-then-closes : goal.returns-then-closes
returns-then-closes c = only_one_lem _ c.look-first.ensures c.requires
    (sym c.is_held.ensures ∙ c.if-not-is_held.false) c.if-next-from.false
    (ended_here _ _ (c.closes.ensures c.if-closes.true)) refl

pub returns-then-last-ne-THE_END : goal.returns-then-last-ne-THE_END
returns-then-last-ne-THE_END c = only_two _ c.look-first.ensures
    c.requires
    (sym c.is_held.ensures ∙ c.if-not-is_held.false)
    c.if-next-from.false c.look-last.ensures c.if-last-ne-THE_END.true

pub returns : goal.returns
returns c = only_one_lem _ c.look-first.ensures
    c.requires
    (sym c.is_held.ensures ∙ c.if-not-is_held.false)
    c.if-next-from.false c.look-last.ensures c.if-last-ne-THE_END.false
