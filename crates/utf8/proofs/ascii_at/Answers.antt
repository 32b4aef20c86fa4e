-- `utf8::ascii_at` meets its contract.
use mathlib.Core.Path.{sym}
use borrow.Author.Tests.{lt-leb}
use Rattle.utf8.proofs.Ascii.{ascii_short}
use Rattle.utf8.proofs.ascii_at.Goals as goal

pub returns-else-text-place : goal.returns-else-text-place
returns-else-text-place g c = rw (lt-leb _ _ c.if-text-place.false) (sym (ascii_short c.args.text.now c.args.place g.row.N c.if-text-place.false))
