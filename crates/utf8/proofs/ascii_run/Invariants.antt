-- `utf8::ascii_run` meets its contract. The loop's invariant: whether the bytes so far are ASCII.
use mathlib.Core.Path.{◌≡◌}
use lib.ListN.{drop}
use Rattle.utf8.specs.reference.Sequence.{begins_ascii}
use Rattle.utf8.proofs.ascii_run.Given as goal

abbrev pub invariant-loop-b : goal.invariant-loop-b
invariant-loop-b g l = l.all ≡ begins_ascii l.b-index (drop l.place l.text)
