-- `token::first_seen` meets its contract, by the class of the byte.
use Rattle.lexer.proofs.Looks.{as_said, seen_past, seen_symbol, seen_string, seen_other, seen_list}
use Rattle.lexer.proofs.token.first_seen.Goals as goal

pub returns-then-text-place : goal.returns-then-text-place
returns-then-text-place c = as_said c.nothing_seen.ensures (seen_past _ _ c.if-text-place.true)

pub returns-in-Ordinary : goal.returns-in-Ordinary
returns-in-Ordinary c = as_said c.symbol_seen.ensures
    (seen_symbol c.args.text.now c.args.place c.byte_class.result c.if-text-place.false c.byte_class.ensures c.in-Ordinary.is)

pub returns-in-Quote : goal.returns-in-Quote
returns-in-Quote c = as_said c.string_seen.ensures
    (seen_string c.args.text.now c.args.place c.byte_class.result c.if-text-place.false c.byte_class.ensures c.in-Quote.is)

pub returns-in-Opening : goal.returns-in-Opening
returns-in-Opening c = as_said c.list_seen.ensures
    (seen_list c.args.text.now c.args.place c.byte_class.result c.if-text-place.false c.byte_class.ensures c.in-Opening.field-0 c.in-Opening.is)

pub returns-in_default : goal.returns-in_default
returns-in_default c = as_said c.nothing_seen-in_default.ensures
    (seen_other c.args.text.now c.args.place c.byte_class.result c.if-text-place.false c.byte_class.ensures
    c.in_default.not-Ordinary c.in_default.not-Quote c.in_default.not-Opening)
