-- Bytes to the pieces of a quoted string.
use Prim.Native.Nat.{ℕ, ◌+◌, ◌-◌}
use mathlib.Core.Path.{◌≡◌, refl, ap, ◌∙◌}
use mathlib.Core.Bool.{Bool, true, false, cond, ◌&&◌, ◌||◌}
use mathlib.Core.List.{List, [], ◌∷◌, ◌++◌, append_assoc}
use native.Mathlib.Omega.{arith}
use lib.Dec.{T, eqb}
use lib.ListN.{length, get_or, length-append}
use native.Mathlib.Nat.{add-zero, add_assoc}
use borrow.Author.Tests.{eqb-true, ne_eqb}
use Rattle.base.proofs.Booleans.{both, or_false, not-true, T_true}
use Rattle.utf8.specs.rules.Scalar.{is_scalar}
use Rattle.syntax.specs.rules.Byte.{is_raw}
use Rattle.syntax.specs.rules.Syntax.{Piece, raw, letter, number, is_hex, hex_value, is_piece, are_pieces, piece_before, pieces_before}
use Rattle.syntax.specs.reference.Scan.{Quoted, closed, unclosed, bad_escape, piece, escape_at, quoted_from}

-- The pieces in front of what follows.
unfoldable pub pieces : List Piece → Quoted → Quoted
pieces [] q = q
pieces (p ∷ ps) q = piece p (pieces ps q)

pub piece_append : (p : Piece) (k : List ℕ) → piece_before p k ≡ piece_before p [] ++ k
unfolding piece_before
piece_append (raw b) k = refl
piece_append (letter c) k = refl
piece_append (number d₁ d₂ d₃ d₄) k = refl

-- A letter of an escape is not the one of an escape by number.
pub letter_not_u : (c : ℕ) → T (is_piece (letter c)) → eqb c 0x75 ≡ false
unfolding is_piece
letter_not_u c t = ne_eqb c 0x75 (λ e. rw e at t)

pub raw_tests : (b : ℕ) → T (is_piece (raw b)) → (eqb b 0x22 ≡ false) × (eqb b 0x5C ≡ false)
unfolding is_piece is_raw
raw_tests b t = or_false (eqb b 0x22) (eqb b 0x5C) (not-true (eqb b 0x22 || eqb b 0x5C) (T_true _ t))

quoted_escape : (p : Piece) (n : ℕ) (s : List ℕ) → escape_at s ≡ p → T (is_piece p)
    → quoted_from 0 n (0x5C ∷ s) ≡ piece p (quoted_from (length (piece_before p []) - 1) (n + 1) s)
unfolding quoted_from
quoted_escape p n s e t = rw (e, T_true (is_piece p) t)

-- A piece is read, whatever follows it.
pub quoted_piece : (p : Piece) (n : ℕ) (k : List ℕ) → T (is_piece p)
    → quoted_from 0 n (piece_before p k) ≡ piece p (quoted_from 0 (n + length (piece_before p [])) k)
unfolding quoted_from piece_before escape_at
quoted_piece (raw b) n k t = let (e, f) = raw_tests b t in rw (e, f)
quoted_piece (letter c) n k t =
    let place : n + 1 + 1 ≡ n + 2 = omega arith in
    rw (← place) (quoted_escape (letter c) n (c ∷ k) (rw (letter_not_u c t)) t)
quoted_piece (number d₁ d₂ d₃ d₄) n k t =
    let place : n + 1 + 1 + 1 + 1 + 1 + 1 ≡ n + 6 = omega arith in
    rw (← place) (quoted_escape (number d₁ d₂ d₃ d₄) n (0x75 ∷ d₁ ∷ d₂ ∷ d₃ ∷ d₄ ∷ k) refl t)

pub pieces_append : (ps : List Piece) (k : List ℕ) → pieces_before ps k ≡ pieces_before ps [] ++ k
unfolding pieces_before
pieces_append [] k = refl
pieces_append (p ∷ ps) k = rw (pieces_append ps k, piece_append p (pieces_before ps []), piece_append p (pieces_before ps [] ++ k), append_assoc)

-- Good pieces are read, whatever follows them.
pub quoted_pieces : (ps : List Piece) (n : ℕ) (k : List ℕ) → T (are_pieces ps)
    → quoted_from 0 n (pieces_before ps k) ≡ pieces ps (quoted_from 0 (n + length (pieces_before ps [])) k)
unfolding pieces_before are_pieces pieces
quoted_pieces [] n k t = rw (add-zero n)
quoted_pieces (p ∷ ps) n k t =
    let (t₁, t₂) = both (is_piece p) (are_pieces ps) t in
    let place : length (piece_before p (pieces_before ps [])) ≡ length (piece_before p []) + length (pieces_before ps [])
    = ap length (piece_append p (pieces_before ps [])) ∙ length-append (piece_before p []) (pieces_before ps []) in
    quoted_piece p n (pieces_before ps k) t₁
    ∙ ap (piece p) (quoted_pieces ps (n + length (piece_before p [])) k t₂)
    ∙ rw (place, add_assoc n)

-- What pieces up to a closing quote, up to the end and up to a bad escape are read as.
pub pieces_closed : (ps qs : List Piece) → pieces ps (closed qs) ≡ closed (ps ++ qs)
unfolding pieces piece
pieces_closed [] qs = refl
pieces_closed (p ∷ ps) qs = rw (pieces_closed ps qs)

pub pieces_unclosed : (ps : List Piece) → pieces ps unclosed ≡ unclosed
unfolding pieces piece
pieces_unclosed [] = refl
pieces_unclosed (p ∷ ps) = rw (pieces_unclosed ps)

pub pieces_bad : (ps : List Piece) (n : ℕ) → pieces ps (bad_escape n) ≡ bad_escape n
unfolding pieces piece
pieces_bad [] n = refl
pieces_bad (p ∷ ps) n = rw (pieces_bad ps n)

-- The tests of an escape by number.
pub record EscapeDigits (d₁ d₂ d₃ d₄ : ℕ) : Type 0 where
  pub first : T (is_hex d₁)
  pub second : T (is_hex d₂)
  pub third : T (is_hex d₃)
  pub fourth : T (is_hex d₄)
  pub scalar : T (is_scalar (hex_value d₁ d₂ d₃ d₄))

pub digits_of : (d₁ d₂ d₃ d₄ : ℕ) → T (is_piece (number d₁ d₂ d₃ d₄)) → EscapeDigits d₁ d₂ d₃ d₄
unfolding is_piece
digits_of d₁ d₂ d₃ d₄ t =
    let (u₄, s) = both (is_hex d₁ && is_hex d₂ && is_hex d₃ && is_hex d₄) (is_scalar (hex_value d₁ d₂ d₃ d₄)) t in
    let (u₃, h₄) = both (is_hex d₁ && is_hex d₂ && is_hex d₃) (is_hex d₄) u₄ in
    let (u₂, h₃) = both (is_hex d₁ && is_hex d₂) (is_hex d₃) u₃ in
    let (h₁, h₂) = both (is_hex d₁) (is_hex d₂) u₂ in
    record { first = h₁; second = h₂; third = h₃; fourth = h₄; scalar = s }

-- The bytes s after a backslash begin with the rest of the escape p.
BeginsEscape : Piece → List ℕ → Type 0
BeginsEscape p s = (t : List ℕ) × (piece_before p t ≡ 0x5C ∷ s)

number_spelled : (s : List ℕ) → EscapeDigits (get_or s 0 0) (get_or s 1 0) (get_or s 2 0) (get_or s 3 0)
    → BeginsEscape (number (get_or s 0 0) (get_or s 1 0) (get_or s 2 0) (get_or s 3 0)) (0x75 ∷ s)
unfolding is_hex piece_before BeginsEscape
number_spelled [] r = absurd r.first
number_spelled (d₁ ∷ []) r = absurd r.second
number_spelled (d₁ ∷ d₂ ∷ []) r = absurd r.third
number_spelled (d₁ ∷ d₂ ∷ d₃ ∷ []) r = absurd r.fourth
number_spelled (d₁ ∷ d₂ ∷ d₃ ∷ d₄ ∷ t) r = (t, refl)

-- An escape that is found stands there.
pub escape_spelled : (s : List ℕ) → T (is_piece (escape_at s)) → (t : List ℕ) × (piece_before (escape_at s) t ≡ 0x5C ∷ s)
unfolding escape_at is_piece piece_before BeginsEscape
escape_spelled [] u = absurd u
escape_spelled (c ∷ s) u = go (eqb c 0x75) refl u
  where
    found : Piece
    found = number (get_or s 0 0) (get_or s 1 0) (get_or s 2 0) (get_or s 3 0)

    go : (b : Bool) → eqb c 0x75 ≡ b → T (is_piece (cond b found (letter c))) → BeginsEscape (cond b found (letter c)) (c ∷ s)
    go true e v = rw (eqb-true c 0x75 e) (number_spelled s (digits_of (get_or s 0 0) (get_or s 1 0) (get_or s 2 0) (get_or s 3 0) v))
    go false e v = (s, refl)
