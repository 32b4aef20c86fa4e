-- The bytes of a run, and the items that are read from them.
use Prim.Native.Nat.{ℕ, suc, ◌+◌}
use mathlib.Core.Path.{◌≡◌, refl, ap, ◌∙◌}
use mathlib.Core.List.{List, [], ◌∷◌, ◌++◌, append_assoc, append-nil}
use native.Mathlib.Nat.{add-zero, add_assoc}
use native.Mathlib.Omega.{arith}
use lib.Dec.{T}
use lib.ListN.{length, length-append}
use Rattle.syntax.specs.rules.Byte.{close_byte, byte_class, ordinary_class, is_blank}
use Rattle.syntax.specs.rules.Syntax.{pieces_before, Leaf, space, line_end, word, string, leaf_before, is_leaf, Before, a_symbol}
use Rattle.syntax.specs.rules.Syntax.{another, after, may_follow, Forest, end, leaf, brackets, bytes_before, bytes_of, Ok}
use Rattle.syntax.specs.reference.Scan.{Items, a_leaf, opens, closes, items_from}
use Rattle.syntax.proofs.ByteClasses.{FitsAfter, fits_class, fits_open, fits_close, blank_class_lem}
use Rattle.syntax.proofs.Strings.{pieces_append}
use Rattle.syntax.proofs.Items.{items_leaf, items_open, items_close}

-- Bytes in front of others are the bytes alone and then the others.
pub leaf_append : (l : Leaf) (k : List ℕ) → leaf_before l k ≡ leaf_before l [] ++ k
unfolding leaf_before
leaf_append (space b) k = refl
leaf_append line_end k = refl
leaf_append (word b bs) k = rw (append-nil bs)
leaf_append (string p ps) k =
    rw (pieces_append (p ∷ ps) (0x22 ∷ k), pieces_append (p ∷ ps) (0x22 ∷ []), append_assoc)

pub run_append : (f : Forest) (k : List ℕ) → bytes_before f k ≡ bytes_of f ++ k
unfolding bytes_before bytes_of
run_append end k = refl
run_append (leaf l f) k =
    rw (run_append f k, leaf_append l (bytes_before f []), append_assoc) (leaf_append l (bytes_before f [] ++ k))
run_append (brackets b inside f) k =
    rw (run_append inside (close_byte b ∷ bytes_before f k), run_append inside (close_byte b ∷ bytes_before f []), append_assoc, run_append f k)

pub leaf_length : (l : Leaf) (k : List ℕ) → length (leaf_before l k) ≡ length (leaf_before l []) + length k
leaf_length l k = rw (leaf_append l k) (length-append (leaf_before l []) k)

pub run_length : (f : Forest) (k : List ℕ) → length (bytes_before f k) ≡ length (bytes_of f) + length k
run_length f k = rw (run_append f k) (length-append (bytes_of f) k)

-- What stands last in a run that follows m.
unfoldable pub last_of : Before → Forest → Before
last_of m end = m
last_of m (leaf l f) = last_of (after l) f
last_of m (brackets b inside f) = last_of another f

-- A run that may follow m begins with a byte that may.
pub fits_leaf : (m : Before) (l : Leaf) (k : List ℕ) → T (may_follow m l) → T (is_leaf l) → FitsAfter m (leaf_before l k)
unfolding FitsAfter leaf_before may_follow is_leaf is_blank byte_class ordinary_class
fits_leaf another l k t u = tt
fits_leaf a_symbol (space b) k t u = fits_class a_symbol b k (rw (blank_class_lem b u))
fits_leaf a_symbol line_end k t u = fits_class a_symbol 0x0D (0x0A ∷ k) refl
fits_leaf a_symbol (word b bs) k t u = absurd t
fits_leaf a_symbol (string p ps) k t u = fits_class a_symbol 0x22 (pieces_before (p ∷ ps) (0x22 ∷ k)) refl

pub fits_run : (m : Before) (f : Forest) (k : List ℕ) → Ok m f → FitsAfter (last_of m f) k → FitsAfter m (bytes_before f k)
unfolding Ok last_of bytes_before
fits_run m end k o h = h
fits_run m (leaf l f) k o h = fits_leaf m l (bytes_before f k) o.0 o.1
fits_run m (brackets b inside f) k o h = fits_open m b (bytes_before inside (close_byte b ∷ bytes_before f k))

-- The items of a run at place n, in front of those that follow.
unfoldable pub items_of : ℕ → Forest → Items → Items
items_of n end is = is
items_of n (leaf l f) is = a_leaf l (items_of (n + length (leaf_before l [])) f is)
items_of n (brackets b inside f) is =
    opens n b (items_of (n + 1) inside (closes (n + 1 + length (bytes_of inside)) b (items_of (n + 1 + length (bytes_of inside) + 1) f is)))

-- A run is read as its items, if what follows may follow it.
pub items_run : (m : Before) (f : Forest) (n : ℕ) (k : List ℕ) → Ok m f → FitsAfter (last_of m f) k
    → items_from 0 n (bytes_before f k) ≡ items_of n f (items_from 0 (n + length (bytes_of f)) k)
unfolding Ok last_of bytes_before bytes_of items_of
items_run m end n k o h = rw (add-zero n)
items_run m (leaf l f) n k o h =
    items_leaf l n (bytes_before f k) o.1 (fits_run (after l) f k o.2 h)
    ∙ ap (a_leaf l) (items_run (after l) f (n + length (leaf_before l [])) k o.2 h)
    ∙ rw (leaf_length l (bytes_before f []), add_assoc n)
items_run m (brackets b inside f) n k o h =
    let at : ℕ = n + 1 + length (bytes_of inside) in
    let place : at + 1 + length (bytes_of f) ≡ n + suc (length (bytes_before inside (close_byte b ∷ bytes_of f)))
    = omega (arith, run_length inside (close_byte b ∷ bytes_of f)) in
    items_open b n (bytes_before inside (close_byte b ∷ bytes_before f k))
    ∙ ap (opens n b)
    (items_run another inside (n + 1) (close_byte b ∷ bytes_before f k) o.0 (fits_close (last_of another inside) b (bytes_before f k))
    ∙ ap (items_of (n + 1) inside)
    (items_close b at (bytes_before f k)
    ∙ ap (closes at b)
    (items_run another f (at + 1) k o.1 h ∙ ap (λ (p : ℕ). items_of (at + 1) f (items_from 0 p k)) place)))
