-- Each example of `specs/examples/Rows.antt` has its verdict, by computation.
use mathlib.Core.Path.{◌≡◌, refl}
use mathlib.Core.List.{map}
use Rattle.elements.specs.rules.Bytes.{among}
use Rattle.elements.specs.rules.Rules.{alternatives_of, rules, rule_in, rule_of}
use Rattle.elements.specs.rules.Inside.{step, start, ended, none_required, may_be_empty, next_parameter, next_child_step, first_child_step, chosen, some_has, is_include}
use Rattle.elements.specs.examples.Rows.{Row, rows, verdict, verdict_from, go_on}

pub rows_judged : map verdict rows ≡ map (λ (r : Row). r.expected) rows
unfolding among alternatives_of rules rule_in rule_of step start ended none_required may_be_empty next_parameter next_child_step first_child_step chosen some_has is_include rows verdict verdict_from go_on
rows_judged = refl
