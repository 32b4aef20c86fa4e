-- `decimal` meets its contract: the invariant is `Counting`, and each way is one law of `Decimals`.
use Rattle.reader.proofs.lemmas.value.Decimals.{Counting}
use Rattle.reader.proofs.value.decimal.Given as goal

abbrev pub invariant-loop-b : goal.invariant-loop-b
invariant-loop-b l = Counting l.b-items l.b-index l.number
