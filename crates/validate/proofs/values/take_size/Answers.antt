-- `values::take_size` meets its contract: each way out is one law of `ValueSteps`.
use Rattle.validate.proofs.lemmas.values.ValueSteps.{size_missing, size_wide, size_high, size_taken}
use Rattle.validate.proofs.values.take_size.Goals as goal
use Rattle.validate.proofs.values.take_size.Goals.{then-width-gt-MOST_SIZE-via-then-width-gt-MOST_SIZE, then-width-gt-MOST_SIZE-via-else-width-gt-MOST_SIZE+then-height-gt-MOST_SIZE}

pub returns-then-width-eq-MISSING : goal.returns-then-width-eq-MISSING
returns-then-width-eq-MISSING c = size_missing _ _ _ _ c.if-width-eq-MISSING.true

pub returns-then-width-gt-MOST_SIZE : goal.returns-then-width-gt-MOST_SIZE
returns-then-width-gt-MOST_SIZE c = elim c.then-width-gt-MOST_SIZE.branch [
  | then-width-gt-MOST_SIZE-via-then-width-gt-MOST_SIZE w ↦ size_wide _ _ _ _ c.if-width-eq-MISSING.false w.if-width-gt-MOST_SIZE.true
  | then-width-gt-MOST_SIZE-via-else-width-gt-MOST_SIZE+then-height-gt-MOST_SIZE w ↦
      size_high _ _ _ _ c.if-width-eq-MISSING.false w.if-width-gt-MOST_SIZE.false w.if-height-gt-MOST_SIZE.true
]

pub returns : goal.returns
returns c = size_taken _ _ _ _ c.if-width-eq-MISSING.false c.if-width-gt-MOST_SIZE.false c.if-height-gt-MOST_SIZE.false _ c.state_after.ensures
