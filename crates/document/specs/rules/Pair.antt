-- The pair of reading and the check. Document 02, change request 1: "The place list turns a node into a place, so the listing programs and the judged examples
-- answer as before, by the pair."
use Rattle.std.specs.Prelude.{ℕ, cond, List, eqb, get_or}
use Rattle.base.specs.rules.Numbers as Number
use Rattle.document.specs.rules.Memory.{Answer, Outcome, answer_at}
use Rattle.document.specs.rules.Draft.{Checked}

-- The place of the node that the check names, from the place list; 0 where it names none.
unfoldable pub place_of : List ℕ → Checked → ℕ
place_of places c = cond (eqb c.number Number.ok) 0 (get_or places c.node 0)

-- What the pair answers of a text, from the outcome of the read and the answer of the check of what it left: the read's own answer where that refuses, and
-- else the check's number at the place of its node, with the read's counts.
unfoldable pub pair_answer : List ℕ → Outcome → Checked → Answer
pair_answer text o c =
    let checked = answer_at text c.number (place_of o.memory.places c) o.answer.nodes o.answer.pool in
    cond (eqb o.answer.number Number.ok) checked o.answer
