-- `past_first` meets its contract, by what was seen first.
use native.Mathlib.Omega.{arith}
use Rattle.reader.proofs.lemmas.nested.TopExpressions.{past_atom, past_cut, past_list}
use Rattle.reader.proofs.nested.past_first.Goals as goal

pub returns-then-seen-ne-A_LIST : goal.returns-then-seen-ne-A_LIST
returns-then-seen-ne-A_LIST c = past_atom c.look-seen.ensures c.if-seen-ne-A_LIST.true

pub returns-then-text-place : goal.returns-then-text-place
returns-then-text-place c = λ x es e t. absurd (past_cut c.look-seen.ensures c.if-seen-ne-A_LIST.false c.if-text-place.true x es e t)

pub returns-then-text-end : goal.returns-then-text-end
returns-then-text-end c = λ x es e t. absurd (omega (
  arith,
  (past_list c.look-seen.ensures c.if-seen-ne-A_LIST.false
      c.run_end-end.ensures x es e t).0,
  c.if-text-end.true,
))

pub returns : goal.returns
returns c = λ x es e t. (past_list c.look-seen.ensures c.if-seen-ne-A_LIST.false c.run_end-end.ensures x es e t).1
