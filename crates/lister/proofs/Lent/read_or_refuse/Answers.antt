-- `Lent::read_or_refuse` meets its contract: the line of a text that is too long or refused.
use Rattle.std.proofs.Common.{rules, arith}
use Rattle.listing.proofs.Printed.{answered_long, answered_refusal}
use Rattle.lister.specs.Lending.{spelled}
use Rattle.lister.proofs.Lent.read_or_refuse.Goals as goal

pub returns-then-text-gt-LONGEST_TEXT-clause-refuses : goal.returns-then-text-gt-LONGEST_TEXT-clause-refuses
returns-then-text-gt-LONGEST_TEXT-clause-refuses c = λ fresh room document.
    let put = c.put_too_long.ensures in
    (answered_long document (spelled c.args.spelling) c.args.text.now (omega arith) c.if-text-gt-LONGEST_TEXT.true (put.value, put.out_after)).1

pub returns-then-a-ne0-clause-refuses : goal.returns-then-a-ne0-clause-refuses
returns-then-a-ne0-clause-refuses c = λ fresh room document.
    let a = c.read-a.result in
    let e = c.read-a.ensures.answers in
    let put = c.put_refusal.ensures in
    (answered_refusal document (spelled c.args.spelling) c.args.text.now _ c.if-text-gt-LONGEST_TEXT.false a.number a.line a.column (omega arith) c.if-a-ne0.true
    (search rules) (search rules) (search rules) e.number e.line e.column fresh (put.value, put.out_after)).1
