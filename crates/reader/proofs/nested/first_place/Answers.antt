-- `first_place` meets its contract: each way out is one law of `TopExpressions`.
use Rattle.reader.proofs.lemmas.nested.TopExpressions.{first_missing, first_there}
use Rattle.reader.proofs.nested.first_place.Goals as goal

pub returns-then-seen-eq-THE_END : goal.returns-then-seen-eq-THE_END
returns-then-seen-eq-THE_END c = first_missing c.look-seen.ensures c.if-seen-eq-THE_END.true

pub returns : goal.returns
returns c = first_there c.look-seen.ensures c.if-seen-eq-THE_END.false
