-- `utf8::ascii_end` meets its contract.
use mathlib.Core.Path.{sym, ◌∙◌}
use Rattle.utf8.proofs.Ascii.{ascii_both, ascii_rest}
use Rattle.utf8.proofs.ascii_end.Goals as goal

pub returns-then-n-place-le8 : goal.returns-then-n-place-le8
returns-then-n-place-le8 c e = ascii_rest c.args.text.now c.args.place c.requires c.if-n-lt8.false c.if-n-place-le8.true
    (sym c.ascii_run.ensures ∙ e)

pub returns-then-n-place-le16 : goal.returns-then-n-place-le16
returns-then-n-place-le16 c e = ascii_both c.args.text.now c.args.place c.if-n-place-le8.false c.if-n-place-le16.true
    (rw (c.ascii_run-then-n-place-le16.ensures, c.ascii_run-then-n-place-le16-2.ensures) at e)
