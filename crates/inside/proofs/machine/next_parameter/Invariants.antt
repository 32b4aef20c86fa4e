-- `machine::next_parameter` meets its contract. The loop's invariant: what the specification says from the place on is what it says from the state's on.
use lib.ListN.{drop}
use Rattle.elements.specs.rules.Rules.{rule_of}
use Rattle.elements.specs.rules.Inside.{next_parameter}
use Rattle.inside.specs.Machine.{after_place}
use Rattle.inside.proofs.Steps.{StepsTo}
use Rattle.inside.proofs.machine.next_parameter.Given as goal

abbrev pub invariant-loop-place : goal.invariant-loop-place
invariant-loop-place l = StepsTo (rule_of l.kind).content l.class (drop l.place (rule_of l.kind).parameters) l.place
    (next_parameter (drop l.state (rule_of l.kind).parameters) (rule_of l.kind).content l.class)
    (after_place l.state (drop l.state (rule_of l.kind).parameters) l.class)
