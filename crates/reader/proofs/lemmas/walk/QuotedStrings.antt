-- How long a quoted string is, and what it stands for, whatever the text holds.
use Prim.Native.Nat.{ℕ, zero, suc, ◌+◌, ◌-◌, ◌≤◌, ◌<◌}
use mathlib.Core.Path.{◌≡◌, refl, ap, ◌∙◌}
use mathlib.Core.List.{List, [], ◌∷◌}
use native.Mathlib.Omega.{arith}
use lib.Dec.{eqb}
use lib.ListN.{length, length-append, get_or, drop, length-drop}
use Rattle.base.proofs.Booleans.{cond_case}
use Rattle.syntax.specs.rules.Syntax.{Piece, raw, letter, number, piece_before, pieces_before, is_piece, piece_value, pieces_value}
use Rattle.syntax.specs.reference.Scan.{Quoted, closed, unclosed, bad_escape, piece, escape_at, quoted_from}
use Rattle.atoms.specs.Atom.{StringEnd, string_end, string_at, content_of, atom_value}
use Rattle.syntax.proofs.Strings.{piece_append}
use Rattle.atoms.proofs.PieceAt.{piece_few}
use Rattle.characters.proofs.Symbols.{run_fits}
use Rattle.atoms.proofs.Contents.{content_anywhere}

-- ---- what a string stands for is no longer than its spelling

pieces_length : (p : Piece) (ps : List Piece) → length (pieces_before (p ∷ ps) []) ≡ length (piece_before p []) + length (pieces_before ps [])
unfolding pieces_before
pieces_length p ps = rw (piece_append p (pieces_before ps [])) (length-append (piece_before p []) (pieces_before ps []))

values_length : (ps : List Piece) → length (pieces_value ps) ≤ length (pieces_before ps [])
unfolding pieces_value pieces_before
values_length [] = omega arith
values_length (p ∷ ps) =
    omega (arith, length-append (piece_value p) (pieces_value ps), pieces_length p ps, piece_few p, values_length ps)

-- ---- a string that is closed ends within the text

-- Pieces and their closing quote stand within m bytes, after those that are skipped.
QuotedWithin : ℕ → ℕ → Quoted → Type 0
QuotedWithin m skip (closed ps) = skip + (length (pieces_before ps []) + 1) ≤ m
QuotedWithin m skip unclosed = Unit {0}
QuotedWithin m skip (bad_escape p) = Unit {0}

piece_nonempty : (p : Piece) → 1 ≤ length (piece_before p [])
unfolding piece_before
piece_nonempty (raw b) = omega arith
piece_nonempty (letter c) = omega arith
piece_nonempty (number d₁ d₂ d₃ d₄) = omega arith

within_piece : (m : ℕ) (p : Piece) (q : Quoted) → QuotedWithin m (length (piece_before p []) - 1) q → QuotedWithin (suc m) 0 (piece p q)
unfolding QuotedWithin piece
within_piece m p (closed ps) h = omega (arith, pieces_length p ps, piece_nonempty p)
within_piece m p unclosed h = tt
within_piece m p (bad_escape n) h = tt

within_skip : (m k : ℕ) (q : Quoted) → QuotedWithin m k q → QuotedWithin (suc m) (suc k) q
unfolding QuotedWithin
within_skip m k (closed ps) h = omega arith
within_skip m k unclosed h = tt
within_skip m k (bad_escape n) h = tt

quoted_within : (skip n : ℕ) (s : List ℕ) → QuotedWithin (length s) skip (quoted_from skip n s)
unfolding QuotedWithin quoted_from pieces_before piece_before
quoted_within zero n [] = tt
quoted_within (suc k) n [] = tt
quoted_within (suc k) n (b ∷ s) = within_skip (length s) k (quoted_from k (n + 1) s) (quoted_within k (n + 1) s)
quoted_within zero n (b ∷ s) =
    let p : Piece = escape_at s in
    let m : ℕ = suc (length s) in
    cond_case (QuotedWithin m 0) (eqb b 0x22) (λ e. omega arith)
    (λ e. cond_case (QuotedWithin m 0) (eqb b 0x5C)
    (λ f. cond_case (QuotedWithin m 0) (is_piece p)
    (λ g. within_piece (length s) p (quoted_from (length (piece_before p []) - 1) (n + 1) s) (quoted_within (length (piece_before p []) - 1) (n + 1) s))
    (λ g. tt))
    (λ f. within_piece (length s) (raw b) (quoted_from 0 (n + 1) s) (quoted_within 0 (n + 1) s)))

-- ---- where a string ends

-- A string at place n that is not faulty: it ends within the m bytes from there on, and stands for fewer bytes than it takes.
pub record StringSpans (n m : ℕ) (r : StringEnd) : Type 0 where
  pub within : r.next ≤ n + m
  pub fits : n + r.length < r.next

end_spans : (n m : ℕ) (q : Quoted) → QuotedWithin m 0 q → (string_end n q).number ≡ 0 → StringSpans n (suc m) (string_end n q)
unfolding string_end QuotedWithin
end_spans n m (closed []) h e = absurd (omega arith)
end_spans n m (closed (p ∷ ps)) h e = record { within = omega arith; fits = omega (arith, values_length (p ∷ ps)) }
end_spans n m unclosed h e = absurd (omega arith)
end_spans n m (bad_escape p) h e = absurd (omega arith)

-- A string that has an end has no fault.
end_good : (n : ℕ) (q : Quoted) → 0 < (string_end n q).next → (string_end n q).number ≡ 0
unfolding string_end
end_good n (closed []) h = absurd (omega arith)
end_good n (closed (p ∷ ps)) h = refl
end_good n unclosed h = absurd (omega arith)
end_good n (bad_escape p) h = absurd (omega arith)

end_content : (n : ℕ) (q : Quoted) → (string_end n q).number ≡ 0 → (string_end n q).length ≡ length (content_of q)
unfolding string_end content_of pieces_value
end_content n (closed []) e = refl
end_content n (closed (p ∷ ps)) e = refl
end_content n unclosed e = refl
end_content n (bad_escape p) e = refl

-- ---- the same of the string at place n, whose quote b stands in front of s

pub string_spans : (n b : ℕ) (s : List ℕ) → (string_at n (b ∷ s)).number ≡ 0 → StringSpans n (suc (length s)) (string_at n (b ∷ s))
unfolding string_at
string_spans n b s e = end_spans n (length s) (quoted_from 0 (n + 1) s) (quoted_within 0 (n + 1) s) e

pub string_good : (n b : ℕ) (s : List ℕ) → 0 < (string_at n (b ∷ s)).next → (string_at n (b ∷ s)).number ≡ 0
unfolding string_at
string_good n b s h = end_good n (quoted_from 0 (n + 1) s) h

-- What it stands for has the length that was told.
pub string_value : (n : ℕ) (s : List ℕ) → (string_at n (0x22 ∷ s)).number ≡ 0 → (string_at n (0x22 ∷ s)).length ≡ length (atom_value (0x22 ∷ s))
unfolding string_at atom_value
string_value n s e = end_content n (quoted_from 0 (n + 1) s) e ∙ ap length (content_anywhere s (n + 1) 1)

-- ---- a symbol or string stands for no more bytes than the text has from its place on

content_short : (m : ℕ) (q : Quoted) → QuotedWithin m 0 q → length (content_of q) ≤ m
unfolding QuotedWithin content_of
content_short m (closed ps) h = omega (arith, values_length ps)
content_short m unclosed h = omega arith
content_short m (bad_escape p) h = omega arith

atom_short : (s : List ℕ) → length (atom_value s) ≤ length s
unfolding atom_value
atom_short s =
    cond_case (λ (v : List ℕ). length v ≤ length s) (eqb (get_or s 0 0) 0x22)
    (λ e. omega (arith, content_short (length (drop 1 s)) (quoted_from 0 1 (drop 1 s)) (quoted_within 0 1 (drop 1 s)), length-drop 1 s)) (λ e. run_fits s)

pub atom_within : (s : List ℕ) (i : ℕ) → length (atom_value (drop i s)) ≤ length s
atom_within s i = omega (arith, atom_short (drop i s), length-drop i s)
