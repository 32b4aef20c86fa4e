-- `tidy` meets its contract: what each way through it prints is what is printed of such a text.
use Rattle.std.proofs.Common.{rules, arith}
use Rattle.listing.proofs.Printed.{lines_stand}
use Rattle.print_canonical.specs.Tidying.{spelling_of, tidied}
use Rattle.print_canonical.proofs.Tidying.{line_end_fits, tidies_document}
use Rattle.print_canonical.proofs.tidy.Goals as goal

pub returns-in-Err : goal.returns-in-Err
returns-in-Err c =
    let line = c.in-Err.ensures.refuses c.new-lent.ensures (search rules) spelling_of in
    let whole = lines_stand (tidied c.args.text.now) line.size line.bytes in
    record { prefix_len = whole.0; lists = whole.1 }

pub bounds-out-n : goal.bounds-out-n
bounds-out-n c =
    let print = c.print-p in
    let read = c.in-Ok.ensures.accepts in
    omega (arith, line_end_fits c.args.text.now c.args.out.now (search rules) c.in-Ok.a _ (rw c.new-lent.ensures at read.reads) read.accepted print.result _ (rw c.in-Ok.ensures.untouched at print.ensures))

pub returns : goal.returns
returns c =
    let print = c.print-p in
    let read = c.in-Ok.ensures.accepts in
    let whole =
    tidies_document c.args.text.now c.args.out.now (search rules) c.in-Ok.a _ (rw c.new-lent.ensures at read.reads) read.accepted
    print.result _ (rw c.in-Ok.ensures.untouched at print.ensures) read.short in
    record { prefix_len = whole.0; lists = whole.1 }
