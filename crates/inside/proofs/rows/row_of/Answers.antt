-- `rows::row_of` meets its contract: each arm by computing its row, and past the arms there is no row.
use mathlib.Core.Path.{refl}
use Rattle.elements.specs.rules.Bytes.{among}
use Rattle.elements.specs.rules.Rules.{alternatives_of, rules, rule_in, rule_of}
use Rattle.elements.specs.rules.Inside.{some_has, allows}
use Rattle.inside.specs.internal.Table.{packed, code, bits}
use Rattle.inside.proofs.Table.{no_rule}
use Rattle.inside.proofs.rows.row_of.Goals as goal

pub returns-in-1 : goal.returns-in-1
unfolding packed code bits allows some_has alternatives_of among rules rule_in rule_of
returns-in-1 c = rw c.in-1.is (refl, refl)

pub returns-in-2 : goal.returns-in-2
unfolding packed code bits allows some_has alternatives_of among rules rule_in rule_of
returns-in-2 c = rw c.in-2.is (refl, refl)

pub returns-in-3 : goal.returns-in-3
unfolding packed code bits allows some_has alternatives_of among rules rule_in rule_of
returns-in-3 c = rw c.in-3.is (refl, refl)

pub returns-in-4 : goal.returns-in-4
unfolding packed code bits allows some_has alternatives_of among rules rule_in rule_of
returns-in-4 c = rw c.in-4.is (refl, refl)

pub returns-in-5 : goal.returns-in-5
unfolding packed code bits allows some_has alternatives_of among rules rule_in rule_of
returns-in-5 c = rw c.in-5.is (refl, refl)

pub returns-in-6 : goal.returns-in-6
unfolding packed code bits allows some_has alternatives_of among rules rule_in rule_of
returns-in-6 c = rw c.in-6.is (refl, refl)

pub returns-in-7 : goal.returns-in-7
unfolding packed code bits allows some_has alternatives_of among rules rule_in rule_of
returns-in-7 c = rw c.in-7.is (refl, refl)

pub returns-in-8 : goal.returns-in-8
unfolding packed code bits allows some_has alternatives_of among rules rule_in rule_of
returns-in-8 c = rw c.in-8.is (refl, refl)

pub returns-in-10 : goal.returns-in-10
unfolding packed code bits allows some_has alternatives_of among rules rule_in rule_of
returns-in-10 c = rw c.in-10.is (refl, refl)

pub returns-in-11 : goal.returns-in-11
unfolding packed code bits allows some_has alternatives_of among rules rule_in rule_of
returns-in-11 c = rw c.in-11.is (refl, refl)

pub returns-in-12 : goal.returns-in-12
unfolding packed code bits allows some_has alternatives_of among rules rule_in rule_of
returns-in-12 c = rw c.in-12.is (refl, refl)

pub returns-in-13 : goal.returns-in-13
unfolding packed code bits allows some_has alternatives_of among rules rule_in rule_of
returns-in-13 c = rw c.in-13.is (refl, refl)

pub returns-in-14 : goal.returns-in-14
unfolding packed code bits allows some_has alternatives_of among rules rule_in rule_of
returns-in-14 c = rw c.in-14.is (refl, refl)

pub returns-in-15 : goal.returns-in-15
unfolding packed code bits allows some_has alternatives_of among rules rule_in rule_of
returns-in-15 c = rw c.in-15.is (refl, refl)

pub returns-in-16 : goal.returns-in-16
unfolding packed code bits allows some_has alternatives_of among rules rule_in rule_of
returns-in-16 c = rw c.in-16.is (refl, refl)

pub returns-in-17 : goal.returns-in-17
unfolding packed code bits allows some_has alternatives_of among rules rule_in rule_of
returns-in-17 c = rw c.in-17.is (refl, refl)

pub returns-in-18 : goal.returns-in-18
unfolding packed code bits allows some_has alternatives_of among rules rule_in rule_of
returns-in-18 c = rw c.in-18.is (refl, refl)

pub returns-in-19 : goal.returns-in-19
unfolding packed code bits allows some_has alternatives_of among rules rule_in rule_of
returns-in-19 c = rw c.in-19.is (refl, refl)

pub returns-in-20 : goal.returns-in-20
unfolding packed code bits allows some_has alternatives_of among rules rule_in rule_of
returns-in-20 c = rw c.in-20.is (refl, refl)

pub returns-in-21 : goal.returns-in-21
unfolding packed code bits allows some_has alternatives_of among rules rule_in rule_of
returns-in-21 c = rw c.in-21.is (refl, refl)

pub returns-in-22 : goal.returns-in-22
unfolding packed code bits allows some_has alternatives_of among rules rule_in rule_of
returns-in-22 c = rw c.in-22.is (refl, refl)

pub returns-in-23 : goal.returns-in-23
unfolding packed code bits allows some_has alternatives_of among rules rule_in rule_of
returns-in-23 c = rw c.in-23.is (refl, refl)

pub returns-in-24 : goal.returns-in-24
unfolding packed code bits allows some_has alternatives_of among rules rule_in rule_of
returns-in-24 c = rw c.in-24.is (refl, refl)

pub returns-in-25 : goal.returns-in-25
unfolding packed code bits allows some_has alternatives_of among rules rule_in rule_of
returns-in-25 c = rw c.in-25.is (refl, refl)

pub returns-in_default : goal.returns-in_default
unfolding packed bits allows some_has alternatives_of among rules
returns-in_default c = rw (no_rule c.args.kind c.in_default.in_default-own.rest) (refl, refl)
