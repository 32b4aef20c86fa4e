-- `machine::first_required` meets its contract.
use mathlib.Core.Path.{◌∙◌, sym, ap}
use Rattle.elements.specs.rules.Rules.{rule_of}
use Rattle.inside.specs.internal.Table.{begins_required}
use Rattle.inside.proofs.Steps.{no_parameter_left, begins_with}
use Rattle.inside.proofs.machine.first_required.Goals as goal

pub returns-in-Some : goal.returns-in-Some
returns-in-Some c = c.is_required.ensures ∙ begins_with (rule_of c.args.kind).parameters 0 _ c.in-Some.ensures

pub returns-in-None : goal.returns-in-None
unfolding begins_required
returns-in-None c = sym (ap begins_required (no_parameter_left (rule_of c.args.kind).parameters 0 c.in-None.ensures))
