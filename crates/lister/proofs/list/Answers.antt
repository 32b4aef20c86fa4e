-- `list` meets its contract: what each way through it prints is what is printed of such a text.
use Rattle.std.proofs.Common.{rules}
use Rattle.listing.specs.Listing.{after_check, printed}
use Rattle.listing.proofs.Printed.{lines_stand, lists_fault, lists_document}
use Rattle.lister.specs.Lending.{spelled}
use Rattle.lister.proofs.list.Goals as goal

pub returns-in-Err-clause-prefix_len : goal.returns-in-Err-clause-prefix_len
returns-in-Err-clause-prefix_len c =
    let line = c.in-Err.ensures.refuses c.new-lent.ensures (search rules) (after_check c.args.text.now) in
    (lines_stand (printed (spelled c.args.spelling) c.args.text.now) line.size line.bytes).0

pub returns-then-c-ne0 : goal.returns-then-c-ne0
returns-then-c-ne0 c =
    let a = c.in-Ok.a in
    let read = c.in-Ok.ensures.accepts in
    let e = read.reads.answers in
    let k = c.check-c in
    let put = c.put_fault.ensures in
    let value = rw c.in-Ok.ensures.untouched at put.value in
    let out_after = rw c.in-Ok.ensures.untouched at put.out_after in
    let whole =
    lists_fault (spelled c.args.spelling) c.args.text.now c.args.out.now (search rules) _ read.short a.number a.nodes a.pool _ read.accepted
    e.number e.nodes e.pool read.reads.leaves k.result.number k.result.node k.ensures.number k.ensures.node c.if-c-ne0.true
    (search rules) c.new-lent.ensures (value, out_after) in
    record { prefix_len = whole.0; lists = whole.1 }

pub returns : goal.returns
returns c =
    let a = c.in-Ok.a in
    let read = c.in-Ok.ensures.accepts in
    let e = read.reads.answers in
    let k = c.check-c in
    let put = c.put_document.ensures in
    let value = rw c.in-Ok.ensures.untouched at put.value in
    let out_after = rw c.in-Ok.ensures.untouched at put.out_after in
    let whole =
    lists_document (spelled c.args.spelling) c.args.text.now c.args.out.now (search rules) _ read.short a.number a.nodes a.pool _ read.accepted
    e.number e.nodes e.pool read.reads.leaves k.result.number k.result.node k.ensures.number k.ensures.node c.if-c-ne0.false
    c.new-lent.ensures (value, out_after) put.pool_len_bound in
    record { prefix_len = whole.0; lists = whole.1 }
