-- The scan accepts the bytes of each concrete syntax and gives that syntax, so a text has at most one.
use Prim.Native.Nat.{ℕ, ◌+◌, ◌≤◌}
use mathlib.Core.Path.{◌≡◌, ap, ◌∙◌}
use mathlib.Core.List.{[]}
use native.Mathlib.Omega.{arith}
use Rattle.syntax.specs.rules.Syntax.{Forest, bytes_of, levels, another, Ok}
use Rattle.syntax.specs.reference.Scan.{Items, done, items_from, build, at_end, scanned, outermost, scan}
use Rattle.syntax.proofs.ByteClasses.{fits_end}
use Rattle.syntax.proofs.Runs.{last_of, items_run}
use Rattle.syntax.proofs.Levels.{build_run, before_level}

-- The scan of the bytes of concrete syntax gives it, where there is room for its levels.
pub accepted : (f : Forest) (room : ℕ) → Ok another f → levels f ≤ room → scan room (bytes_of f) ≡ scanned f
unfolding scan bytes_of items_from build at_end outermost
accepted f room o h =
    ap (λ (is : Items). outermost (build [] room is)) (items_run another f 0 [] o (fits_end (last_of another f)))
    ∙ ap outermost (build_run f 0 [] room done h ∙ before_level f [])

-- Two concrete syntaxes with the same bytes are the same.
pub same_bytes : (f g : Forest) → Ok another f → Ok another g → bytes_of f ≡ bytes_of g → f ≡ g
same_bytes f g o o' e =
    let room : ℕ = levels f + levels g in
    let s : scan room (bytes_of f) ≡ scanned f = accepted f room o (omega arith) in
    let s' : scan room (bytes_of g) ≡ scanned g = accepted g room o' (omega arith) in
    cc
