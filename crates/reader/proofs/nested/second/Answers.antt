-- `second` meets its contract: each way out is one law of `TopExpressions`.
use Rattle.reader.proofs.lemmas.nested.TopExpressions.{second_none, second_some}
use Rattle.reader.proofs.nested.second.Goals as goal

pub returns-then-first-eq-THE_END : goal.returns-then-first-eq-THE_END
returns-then-first-eq-THE_END c = second_none c.look-first.ensures c.if-first-eq-THE_END.true

pub returns : goal.returns
returns c = second_some c.look-first.ensures c.if-first-eq-THE_END.false c.past_first.ensures
    c.first_place.ensures
