-- `utf8::byte_within` meets its contract.
use Prim.Native.Nat.{ℕ}
use mathlib.Core.Path.{sym}
use borrow.Author.Tests.{le-leb, lt-leb}
use lib.ListN.{drop_of_length-le}
use lib.Seq.{drop-cons}
use Rattle.base.proofs.Booleans.{and_true}
use Rattle.utf8.specs.reference.Sequence.{begins, within}
use Rattle.utf8.proofs.byte_within.Goals as goal

pub returns-in-None : goal.returns-in-None
unfolding begins
returns-in-None c = rw (drop_of_length-le _ c.in-None.ensures.lookup.3)

pub returns-then-low-b : goal.returns-then-low-b
unfolding begins within
returns-then-low-b c = let (inside, at) = c.in-Some.ensures.lookup.3 in
    rw (drop-cons {A = ℕ} _ _ 0 inside, sym (at 0), le-leb _ _ c.if-low-b.true, and_true)

pub returns-else-low-b : goal.returns-else-low-b
unfolding begins within
returns-else-low-b c = let (inside, at) = c.in-Some.ensures.lookup.3 in
    rw (drop-cons {A = ℕ} _ _ 0 inside, sym (at 0), lt-leb _ _ c.if-low-b.false)
