-- `take_turn` meets its contract: what the step refuses is refused.
use Rattle.reader.specs.internal.Walks.{by_step}
use Rattle.reader.proofs.lemmas.walk.Refusals.{refusal_some}
use Rattle.reader.proofs.lemmas.walk.OneTurn.{step_bad}
use Rattle.reader.proofs.walk.take_turn.Goals as goal

pub returns-in-Err : goal.returns-in-Err
returns-in-Err c =
    let some = refusal_some c.in-Err.refusal in
    by_step _ some (step_bad _ _ _ _ some c.in-Err.ensures.stands) c.fault_at.ensures
