-- `second_after` meets its contract: each way out is one law of `TopExpressions`.
use mathlib.Core.Path.{refl}
use Rattle.std.specs.Prelude.{Ok}
use Rattle.reader.specs.internal.WalkAnswer.{told}
use Rattle.reader.proofs.lemmas.nested.TopExpressions.{second_after}
use Rattle.reader.proofs.nested.second_after.Goals as goal

pub returns-in-Ok : goal.returns-in-Ok
returns-in-Ok c = λ es t f. second_after (told (Ok c.in-Ok.end)) refl c.first_place.ensures es (rw c.in-Ok.is at f)
