-- `Kind::of_name` meets its contract: the classes up to 25 are the kinds, and 0.
use Prim.Native.Nat.{ℕ, zero, suc, ◌≤◌, ◌<◌}
use mathlib.Core.Path.{◌≡◌, refl}
use mathlib.Core.Bool.{cond}
use native.Mathlib.Omega.{arith}
use borrow.Author.Tests.{le-leb, lt-leb}
use Rattle.elements.specs.rules.Class.{is_kind, kind_of}
use Rattle.kind.proofs.Kind.of_name.Goals as goal

low : (c : ℕ) → c ≤ 25 → c ≡ cond (is_kind c) c 0
unfolding is_kind
low zero h = refl
low (suc c) h = rw (le-leb 1 (suc c) (omega arith), le-leb (suc c) 25 h)

high : (c : ℕ) → 25 < c → 0 ≡ cond (is_kind c) c 0
unfolding is_kind
high c h = rw (le-leb 1 c (omega arith), lt-leb c 25 h)

pub returns-then-class : goal.returns-then-class
unfolding kind_of
returns-then-class c = rw (← c.class_of-class.ensures) (low _ c.if-class.true)

pub returns : goal.returns
unfolding kind_of
returns c = rw (← c.class_of-class.ensures) (high _ c.if-class.false)
