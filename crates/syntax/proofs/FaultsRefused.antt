-- A text that has a fault is refused with its number and place.
use Prim.Native.Nat.{ℕ, ◌+◌, ◌-◌}
use mathlib.Core.Path.{◌≡◌, refl, ap, ◌∙◌}
use mathlib.Core.Bool.{false}
use mathlib.Core.List.{List, [], ◌∷◌}
use native.Mathlib.Omega.{arith}
use lib.Dec.{T}
use lib.ListN.{length, get_or}
use borrow.Author.Tests.{ne_eqb}
use Rattle.base.proofs.Booleans.{not_T_false}
use Rattle.syntax.specs.rules.Byte.{forbidden, byte_class, ordinary_class}
use Rattle.syntax.specs.rules.Syntax.{Before, Piece, is_piece, piece_before, pieces_before}
use Rattle.syntax.specs.reference.Scan.{bad_escape, quoted_from, escape_at, quoted_item, item_at, items_from, fault, build, one_more, one_less, at_end, refused, outermost, scan}
use Rattle.syntax.specs.rules.Fault.{Opened, outside, within, size, open_levels, Hit, control, lone_return, no_escape}
use Rattle.syntax.specs.rules.Fault.{empty_string, unclosed_string, unopened, other_partner, left_open, too_deep, Fault}
use Rattle.syntax.proofs.ByteClasses.{FitsAfter, fits_end, fits_class, fits_open, fits_close}
use Rattle.syntax.proofs.Strings.{escape_spelled, pieces, quoted_pieces, pieces_unclosed, pieces_bad}
use Rattle.syntax.proofs.Items.{item_of, items_open, items_close}
use Rattle.syntax.proofs.BeforeFault.{last_opened, stack_of, items_opened, items_opened_lem, build_opened, open_levels_lem}

-- The bytes of a fault begin with no byte of a symbol.
hit_fits : (m : Before) {room : ℕ} {o : Opened} {s : List ℕ} {n p : ℕ} → Hit room o s n p → FitsAfter m s
unfolding byte_class ordinary_class
hit_fits m (control {b = b} {s = s} e) = fits_class m b s (rw e)
hit_fits m (lone_return {s = s} h) = fits_class m 0x0D s refl
hit_fits m (no_escape ps s t h) = fits_class m 0x22 (pieces_before ps (0x5C ∷ s)) refl
hit_fits m (empty_string {s = s}) = fits_class m 0x22 (0x22 ∷ s) refl
hit_fits m (unclosed_string ps t) = fits_class m 0x22 (pieces_before ps []) refl
hit_fits m (unopened b {s = s}) = fits_close m b s
hit_fits m (other_partner {s = s} c e) = fits_close m c s
hit_fits m left_open = fits_end m
hit_fits m (too_deep b {s = s} e) = fits_open m b s

-- A backslash that begins no escape is found.
escape_bad : (n : ℕ) (s : List ℕ) → ((p : Piece) (t : List ℕ) → T (is_piece p) → piece_before p t ≡ 0x5C ∷ s → ⊥)
    → quoted_from 0 n (0x5C ∷ s) ≡ bad_escape n
unfolding quoted_from
escape_bad n s h =
    let bad : is_piece (escape_at s) ≡ false
    = not_T_false (is_piece (escape_at s)) (λ u. let (t, e) = escape_spelled s u in h (escape_at s) t u e) in
    rw bad

-- What follows has its fault.
hit_built : {room : ℕ} {o : Opened} {s : List ℕ} {n p : ℕ} (left : ℕ) → open_levels o + left ≡ room → Hit room o s n p
    → build (stack_of o) left (items_from 0 (size o) s) ≡ fault n p
unfolding build item_at quoted_item one_less one_more at_end stack_of quoted_from items_from byte_class
hit_built left l (control {o = o} {b = b} {s = s} e) = rw (item_of forbidden (size o) b s e)
hit_built left l (lone_return {o = o} {s = s} h) = rw (ne_eqb (get_or s 0 0) 0x0A h)
hit_built left l (no_escape {o = o} ps s t h) =
    let at : ℕ = size o + 1 in
    rw (quoted_pieces ps at (0x5C ∷ s) t ∙ ap (pieces ps) (escape_bad (at + length (pieces_before ps [])) s h), pieces_bad)
hit_built left l (empty_string {o = o} {s = s}) = refl
hit_built left l (unclosed_string {o = o} ps t) =
    rw (quoted_pieces ps (size o + 1) [] t, pieces_unclosed)
hit_built left l (unopened {f = f} b {s = s}) = rw (items_close b (size (outside f)) s)
hit_built left l (other_partner {o = o} {b = b} {f = f} {s = s} c e) = rw (items_close c (size (within o b f)) s, e)
hit_built left l (left_open {o = o} {b = b} {f = f}) = refl
hit_built left l (too_deep {o = o} b {s = s} e) =
    let full : left ≡ 0 = omega arith in
    rw (items_open b (size o) s, full)

-- A text with a fault is refused with its number and place.
pub fault_refused : (room : ℕ) (text : List ℕ) (n p : ℕ) → Fault room text n p → scan room text ≡ refused n p
unfolding scan outermost
fault_refused room text n p r =
    let o : Opened = r.before in
    let left : ℕ = room - open_levels o in
    let l : open_levels o + left ≡ room = omega (arith, open_levels_lem room o r.ok) in
    let items : items_from 0 0 text ≡ items_opened o (items_from 0 (size o) r.rest)
    = rw r.bytes at (items_opened_lem room o r.rest r.ok (hit_fits (last_opened o) r.hit)) in
    let built : build [] room (items_opened o (items_from 0 (size o) r.rest)) ≡ fault n p
    = build_opened room o left (items_from 0 (size o) r.rest) n p r.ok l (hit_built left l r.hit) in
    rw (items, built)
