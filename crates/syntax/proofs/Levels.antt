-- Items to levels: the items of a run build that run.
use Prim.Native.Nat.{ℕ, zero, suc, ◌+◌, ◌≤◌}
use mathlib.Core.Path.{◌≡◌, refl, ap, ◌∙◌}
use mathlib.Core.List.{List, [], ◌∷◌}
use native.Mathlib.Omega.{arith}
use lib.ListN.{length}
use Rattle.syntax.specs.rules.Byte.{Bracket}
use Rattle.syntax.specs.rules.Syntax.{leaf_before, Forest, end, leaf, brackets, bytes_of, levels}
use Rattle.syntax.specs.reference.Scan.{Items, closes, Open, Levels, fault, level, add_leaf, wrap, end_level, one_more, one_less, build}
use Rattle.syntax.proofs.ByteClasses.{same_bracket_lem}
use Rattle.syntax.proofs.Runs.{items_of}

-- A run in front of what follows it.
unfoldable pub run_before : Forest → Levels → Levels
run_before end v = v
run_before (leaf l f) v = add_leaf l (run_before f v)
run_before (brackets b inside f) v = wrap b (run_before inside (end_level (run_before f v)))

-- In front of a fault a run leaves the fault, and in front of the end of a level it is that level.
pub before_fault : (f : Forest) (n p : ℕ) → run_before f (fault n p) ≡ fault n p
unfolding run_before add_leaf wrap end_level
before_fault end n p = refl
before_fault (leaf l f) n p = rw (before_fault f n p)
before_fault (brackets b inside f) n p = rw (before_fault f n p, before_fault inside n p)

pub before_level : (f : Forest) (fs : List Forest) → run_before f (level end fs) ≡ level f fs
unfolding run_before add_leaf wrap end_level
before_level end fs = refl
before_level (leaf l f) fs = rw (before_level f fs)
before_level (brackets b inside f) fs = rw (before_level f fs, before_level inside (f ∷ fs))

-- A bracket that its partner closes.
build_closed : (n : ℕ) (b : Bracket) (p : ℕ) (stack : List Open) (room : ℕ) (is : Items)
    → build (record { bracket = b; place = p } ∷ stack) room (closes n b is) ≡ end_level (build stack (suc room) is)
unfolding build one_less
build_closed n b p stack room is = rw (same_bracket_lem b)

-- The items of a run build it, where there is room for its levels.
pub build_run : (f : Forest) (n : ℕ) (stack : List Open) (room : ℕ) (is : Items) → levels f ≤ room
    → build stack room (items_of n f is) ≡ run_before f (build stack room is)
unfolding build items_of run_before levels one_more
build_run end n stack room is h = refl
build_run (leaf l f) n stack room is h = ap (add_leaf l) (build_run f (n + length (leaf_before l [])) stack room is h)
build_run (brackets b inside f) n stack zero is h = absurd (omega arith)
build_run (brackets b inside f) n stack (suc room) is h =
    let at : ℕ = n + 1 + length (bytes_of inside) in
    let stack' : List Open = record { bracket = b; place = n } ∷ stack in
    let inner : Items = closes at b (items_of (at + 1) f is) in
    ap (wrap b)
    (build_run inside (n + 1) stack' room inner (omega arith)
    ∙ ap (run_before inside)
    (build_closed at b n stack room (items_of (at + 1) f is)
    ∙ ap end_level (build_run f (at + 1) stack (suc room) is (omega arith))))
