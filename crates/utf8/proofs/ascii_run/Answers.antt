-- `utf8::ascii_run` meets its contract, one byte more at a time.
use Prim.Native.Nat.{ℕ, ◌+◌, ◌-◌, ◌<◌}
use mathlib.Core.Path.{◌≡◌, refl}
use native.Mathlib.Omega.{arith}
use lib.ListN.{length-take, length-drop}
use lib.Seq.{get_or-take, get_or-drop}
use Rattle.utf8.specs.reference.Sequence.{begins_ascii, begins}
use Rattle.utf8.proofs.Ascii.{ascii_next}
use Rattle.utf8.proofs.ascii_run.Goals as goal

pub loop-b-init : goal.loop-b-init
unfolding begins_ascii begins
loop-b-init g c = refl

pub loop-b-preserved : goal.loop-b-preserved
loop-b-preserved g c = let a = c.args in
    let i : ℕ = c.loop-b.b-index in
    let size : a.place + g.row.N - a.place ≡ g.row.N = omega arith in
    let within : i < g.row.N = omega (arith, simp (length-take, length-drop) at c.loop-b-test.true) in
    rw (size, get_or-take, get_or-drop) (ascii_next a.text.now a.place i (omega arith) c.loop-b.invariant)

pub returns : goal.returns
returns g c = let a = c.args in
    let last = simp (length-take, length-drop) at c.loop-b-test.false in
    let end = simp (length-take, length-drop) at c.loop-b.auto.b-index-end in
    let all : c.loop-b.b-index ≡ g.row.N = omega (arith, last, end) in
    rw all at c.loop-b.invariant
