-- What stands before a fault: how it grows, and what the scan makes of it.
use Prim.Native.Nat.{ℕ, suc, ◌+◌, ◌≤◌, max}
use mathlib.Core.Path.{◌≡◌, refl, ap, sym, ◌∙◌}
use mathlib.Core.List.{List, [], ◌∷◌}
use native.Mathlib.Nat.{zero-add}
use native.Mathlib.Omega.{arith}
use lib.ListN.{length}
use Rattle.syntax.specs.rules.Byte.{Bracket, open_byte}
use Rattle.syntax.specs.rules.Syntax.{Before, another, after, Forest, end, leaf, brackets, bytes_before, bytes_of, Ok, levels}
use Rattle.syntax.specs.reference.Scan.{Items, opens, items_from, Open, fault, wrap, one_more, build}
use Rattle.syntax.specs.rules.Fault.{Opened, outside, within, opened_before, size, open_levels, OkOpened}
use Rattle.syntax.proofs.ByteClasses.{FitsAfter, fits_open}
use Rattle.syntax.proofs.Items.{items_open}
use Rattle.syntax.proofs.Runs.{last_of, items_of, items_run, run_length}
use Rattle.syntax.proofs.Levels.{build_run, before_fault}

-- ---- two runs, one after the other

unfoldable pub joined : Forest → Forest → Forest
joined end g = g
joined (leaf l f) g = leaf l (joined f g)
joined (brackets b inside f) g = brackets b inside (joined f g)

joined_bytes : (f g : Forest) (k : List ℕ) → bytes_before (joined f g) k ≡ bytes_before f (bytes_before g k)
unfolding joined bytes_before
joined_bytes end g k = refl
joined_bytes (leaf l f) g k = rw (joined_bytes f g k)
joined_bytes (brackets b inside f) g k = rw (joined_bytes f g k)

joined_ok : (m : Before) (f g : Forest) → Ok m f → Ok (last_of m f) g → Ok m (joined f g)
unfolding joined Ok last_of
joined_ok m end g o u = u
joined_ok m (leaf l f) g o u = (o.0, o.1, joined_ok (after l) f g o.2 u)
joined_ok m (brackets b inside f) g o u = (o.0, joined_ok another f g o.1 u)

joined_levels : (f g : Forest) → levels (joined f g) ≡ max (levels f) (levels g)
unfolding joined levels
joined_levels end g = omega arith
joined_levels (leaf l f) g = joined_levels f g
joined_levels (brackets b inside f) g = rw (joined_levels f g) (omega arith)

joined_last : (m : Before) (f g : Forest) → last_of m (joined f g) ≡ last_of (last_of m f) g
unfolding joined last_of
joined_last m end g = refl
joined_last m (leaf l f) g = joined_last (after l) f g
joined_last m (brackets b inside f) g = joined_last another f g

-- ---- what stands before a fault, with a run more

-- What stands last before what follows.
unfoldable pub last_opened : Opened → Before
last_opened (outside f) = last_of another f
last_opened (within o b f) = last_of another f

unfoldable pub with_run : Opened → Forest → Opened
with_run (outside f) g = outside (joined f g)
with_run (within o b f) g = within o b (joined f g)

-- It keeps the bytes, what stands last, and that it is concrete syntax.
pub with_bytes : (o : Opened) (g : Forest) (k : List ℕ) → opened_before (with_run o g) k ≡ opened_before o (bytes_before g k)
unfolding with_run opened_before
with_bytes (outside f) g k = joined_bytes f g k
with_bytes (within o b f) g k = ap (λ (t : List ℕ). opened_before o (open_byte b ∷ t)) (joined_bytes f g k)

pub with_last : (o : Opened) (g : Forest) → last_opened (with_run o g) ≡ last_of (last_opened o) g
unfolding with_run last_opened
with_last (outside f) g = joined_last another f g
with_last (within o b f) g = joined_last another f g

pub with_ok : (room : ℕ) (o : Opened) (g : Forest) → OkOpened room o → Ok (last_opened o) g → open_levels o + levels g ≤ room → OkOpened room (with_run o g)
unfolding with_run last_opened OkOpened open_levels
with_ok room (outside f) g u v h = (joined_ok another f g u.0 v, rw (joined_levels f g) (omega arith))
with_ok room (within o b f) g u v h = (u.0, joined_ok another f g u.1 v, rw (joined_levels f g) (omega arith))

-- No more brackets are open than there is room for.
pub open_levels_lem : (room : ℕ) (o : Opened) → OkOpened room o → open_levels o ≤ room
unfolding OkOpened open_levels
open_levels_lem room (outside f) u = omega arith
open_levels_lem room (within o b f) u = omega arith

-- ---- what the scan makes of it

-- Its open brackets, the innermost first, and its items in front of those that follow.
unfoldable pub stack_of : Opened → List Open
stack_of (outside f) = []
stack_of (within o b f) = record { bracket = b; place = size o } ∷ stack_of o

unfoldable pub items_opened : Opened → Items → Items
items_opened (outside f) is = items_of 0 f is
items_opened (within o b f) is = items_opened o (opens (size o) b (items_of (size o + 1) f is))

pub opened_length : (o : Opened) (k : List ℕ) → length (opened_before o k) ≡ size o + length k
unfolding opened_before size bytes_of
opened_length (outside f) k = run_length f k
opened_length (within o b f) k =
    omega (arith, opened_length o (open_byte b ∷ bytes_before f k), opened_length o (open_byte b ∷ bytes_before f []), run_length f k)

size_within : (o : Opened) (b : Bracket) (f : Forest) → size (within o b f) ≡ size o + 1 + length (bytes_of f)
unfolding opened_before size bytes_of
size_within o b f = omega (arith, opened_length o (open_byte b ∷ bytes_before f []))

-- It is read as its items, if what follows may follow it.
pub items_opened_lem : (room : ℕ) (o : Opened) (k : List ℕ) → OkOpened room o → FitsAfter (last_opened o) k
    → items_from 0 0 (opened_before o k) ≡ items_opened o (items_from 0 (size o) k)
unfolding OkOpened last_opened opened_before items_opened size bytes_of
items_opened_lem room (outside f) k u h = rw (zero-add (length (bytes_of f))) at (items_run another f 0 k u.0 h)
items_opened_lem room (within o b f) k u h =
    items_opened_lem room o (open_byte b ∷ bytes_before f k) u.0 (fits_open (last_opened o) b (bytes_before f k))
    ∙ ap (items_opened o)
    (items_open b (size o) (bytes_before f k)
    ∙ ap (opens (size o) b)
    (items_run another f (size o + 1) k u.1 h ∙ ap (λ (p : ℕ). items_of (size o + 1) f (items_from 0 p k)) (sym (size_within o b f))))

-- A fault of what follows is one of the whole.
pub build_opened : (room : ℕ) (o : Opened) (left : ℕ) (is : Items) (n p : ℕ) → OkOpened room o → open_levels o + left ≡ room
    → build (stack_of o) left is ≡ fault n p → build [] room (items_opened o is) ≡ fault n p
unfolding OkOpened open_levels stack_of items_opened build one_more wrap
build_opened room (outside f) left is n p u l e =
    let same : left ≡ room = omega arith in
    build_run f 0 [] room is u.1 ∙ rw (← same, e) (before_fault f n p)
build_opened room (within o b f) left is n p u l e =
    let inside : build (stack_of (within o b f)) left (items_of (size o + 1) f is) ≡ fault n p
    = build_run f (size o + 1) (stack_of (within o b f)) left is (omega arith) ∙ rw e (before_fault f n p) in
    build_opened room o (suc left) (opens (size o) b (items_of (size o + 1) f is)) n p u.0 (omega arith) (ap (wrap b) inside)
