-- `machine::none_required` meets its contract. The loop's invariant: what the specification says from the place on is what it says from the first one on.
use mathlib.Core.Path.{◌≡◌}
use lib.ListN.{drop}
use Rattle.elements.specs.rules.Rules.{rule_of}
use Rattle.elements.specs.rules.Inside.{none_required}
use Rattle.inside.proofs.machine.none_required.Given as goal

abbrev pub invariant-loop-place : goal.invariant-loop-place
invariant-loop-place l = none_required (drop l.place (rule_of l.kind).parameters) ≡ none_required (drop l.state (rule_of l.kind).parameters)
