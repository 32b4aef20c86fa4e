-- The piece of a string that stands at a place: what the code has of it, how long it is, and how the string goes on after it.
use Prim.Native.Nat.{ℕ, suc, ◌+◌, ◌≤◌, ◌<◌}
use mathlib.Core.Path.{◌≡◌, refl, ap, sym, ◌∙◌}
use mathlib.Core.Bool.{Bool, true, false, cond}
use mathlib.Core.List.{List, [], ◌∷◌}
use native.Mathlib.Omega.{arith}
use lib.Dec.{T, eqb, leb}
use lib.ListN.{length, drop, get_or, drop_of_length-le}
use lib.Seq.{drop-cons, drop-drop, drop_at}
use borrow.Author.Tests.{eqb-true, ne_eqb, le-leb}
use Rattle.std.specs.Prelude.{Some, None}
use Rattle.base.proofs.Booleans.{cond_case, true_T}
use Rattle.utf8.specs.rules.Scalar.{encode}
use Rattle.syntax.specs.rules.Byte.{is_raw}
use Rattle.syntax.specs.rules.Syntax.{Piece, raw, letter, number, is_piece, piece_before, piece_value, letter_value, hex_value}
use Rattle.syntax.specs.reference.Scan.{piece, escape_at, quoted_from}
use Rattle.atoms.specs.Atom.{piece_at}
use Rattle.atoms.specs.declared.pieces.PieceSeen.{PieceSeen}
use Rattle.atoms.specs.internal.Escape.{escape_value}
use Rattle.atoms.specs.internal.PieceSeen.{piece_stands, piece_seen}
use Rattle.syntax.proofs.Strings.{EscapeDigits, digits_of, piece_append, quoted_piece, escape_spelled}
use Rattle.syntax.proofs.Escapes.{hex_small, first_of}

-- ---- how long a piece is

-- What a code point is encoded as, and so what a piece stands for, has 1 to 6 bytes, and no more than the piece has.
abbrev Few : List ℕ → Type 0
Few s = (0 < length s) × (length s ≤ 6)

encode_few : (n : ℕ) → Few (encode n)
unfolding encode
encode_few n =
    cond_case Few (leb n 0x7F) (λ e. (omega arith, omega arith))
    (λ e. cond_case Few (leb n 0x7FF) (λ f. (omega arith, omega arith))
    (λ f. cond_case Few (leb n 0xFFFF) (λ g. (omega arith, omega arith)) (λ g. (omega arith, omega arith))))

pub piece_few : (p : Piece) → (0 < length (piece_value p)) × (length (piece_value p) ≤ length (piece_before p [])) × (length (piece_before p []) ≤ 6)
unfolding piece_value piece_before
piece_few (raw b) = (omega arith, omega arith, omega arith)
piece_few (letter c) = (omega arith, omega arith, omega arith)
piece_few (number d₁ d₂ d₃ d₄) = let (x, y) = encode_few (hex_value d₁ d₂ d₃ d₄) in (x, y, omega arith)

-- An escape by number is below 0x10000, so a piece stands for at most three bytes.
encode_short : (n : ℕ) → n ≤ 0xFFFF → length (encode n) ≤ 3
unfolding encode
encode_short n h =
    cond_case Short (leb n 0x7F) (λ e. omega arith)
    (λ e. cond_case Short (leb n 0x7FF) (λ f. omega arith) (λ f. rw (le-leb n 0xFFFF h) (omega arith)))
  where
    Short : List ℕ → Type 0
    Short v = length v ≤ 3

number_short : (d₁ d₂ d₃ d₄ : ℕ) → EscapeDigits d₁ d₂ d₃ d₄ → length (encode (hex_value d₁ d₂ d₃ d₄)) ≤ 3
unfolding hex_value
number_short d₁ d₂ d₃ d₄ r =
    encode_short _ (omega (arith, hex_small d₁ r.first, hex_small d₂ r.second, hex_small d₃ r.third, hex_small d₄ r.fourth))

pub piece_short : (p : Piece) → T (is_piece p) → length (piece_value p) ≤ 3
unfolding piece_value
piece_short (raw b) t = omega arith
piece_short (letter c) t = omega arith
piece_short (number d₁ d₂ d₃ d₄) t = number_short d₁ d₂ d₃ d₄ (digits_of d₁ d₂ d₃ d₄ t)

-- ---- what the code has of a piece

-- A piece that the code has stands there, and where it has none there is none.
pub piece_good : (p : Piece) (place : ℕ) (q : PieceSeen) → Some q ≡ piece_seen place p → (is_piece p ≡ true) × (q ≡ piece_stands place p)
unfolding piece_seen
piece_good p place q e = go (is_piece p) e
  where
    go : (t : Bool) → Some q ≡ cond t (Some (piece_stands place p)) None → (t ≡ true) × (q ≡ piece_stands place p)
    go true e = (refl, cc)
    go false e = cc

pub piece_none : (p : Piece) (place : ℕ) → None ≡ piece_seen place p → is_piece p ≡ false
unfolding piece_seen
piece_none p place e = go (is_piece p) e
  where
    go : (t : Bool) → None ≡ cond t (Some (piece_stands place p)) None → t ≡ false
    go true e = cc
    go false e = refl

pub seen_good : (p : Piece) (place : ℕ) → is_piece p ≡ true → piece_seen place p ≡ Some (piece_stands place p)
unfolding piece_seen
seen_good p place e = rw e

pub seen_none : (p : Piece) (place : ℕ) → is_piece p ≡ false → piece_seen place p ≡ None
unfolding piece_seen
seen_none p place e = rw e

-- ---- escapes

abbrev pub number_in : List ℕ → Piece
number_in s = number (get_or s 1 0) (get_or s 2 0) (get_or s 3 0) (get_or s 4 0)

-- The escape after a backslash is by number or by letter.
pub by_number : (s : List ℕ) → get_or s 0 0 ≡ 0x75 → escape_at s ≡ number_in s
unfolding escape_at
by_number s e = rw e

pub by_letter_lem : (s : List ℕ) (c : ℕ) → get_or s 0 0 ≡ c → (c ≡ 0x75 → ⊥) → escape_at s ≡ letter c
unfolding escape_at
by_letter_lem s c e h = rw (e, ne_eqb c 0x75 h)

module _ (s : List ℕ) (place : ℕ) where
  pub seen_number : (value : ℕ) → get_or s 0 0 ≡ 0x75 → Some value ≡ escape_value (get_or s 1 0) (get_or s 2 0) (get_or s 3 0) (get_or s 4 0)
      → piece_seen place (escape_at s)
      ≡ Some (record { next = place + 6; size = length (encode value); first = get_or (encode value) 0 0; second = get_or (encode value) 1 0; third = get_or (encode value) 2 0 })
  unfolding escape_value piece_stands piece_before piece_value
  seen_number value e f =
      let (good, is-value) = go (is_piece (number_in s)) f in
      rw (by_number s e, seen_good (number_in s) place good, is-value)
    where
      go : (t : Bool) → Some value ≡ cond t (Some (hex_value (get_or s 1 0) (get_or s 2 0) (get_or s 3 0) (get_or s 4 0))) None
          → (t ≡ true) × (value ≡ hex_value (get_or s 1 0) (get_or s 2 0) (get_or s 3 0) (get_or s 4 0))
      go true e = (refl, cc)
      go false e = cc

  pub no_number : get_or s 0 0 ≡ 0x75 → None ≡ escape_value (get_or s 1 0) (get_or s 2 0) (get_or s 3 0) (get_or s 4 0) → piece_seen place (escape_at s) ≡ None
  unfolding escape_value
  no_number e f = rw (by_number s e) (seen_none (number_in s) place (go (is_piece (number_in s)) f))
    where
      go : (t : Bool) → None ≡ cond t (Some (hex_value (get_or s 1 0) (get_or s 2 0) (get_or s 3 0) (get_or s 4 0))) None → t ≡ false
      go true e = cc
      go false e = refl

  pub seen_letter : (l : ℕ) → get_or s 0 0 ≡ l → (l ≡ 0x75 → ⊥) → is_piece (letter l) ≡ true
      → piece_seen place (escape_at s) ≡ Some (record { next = place + 2; size = 1; first = letter_value l; second = 0; third = 0 })
  unfolding piece_stands piece_before piece_value
  seen_letter l e h g = rw (by_letter_lem s l e h) (seen_good (letter l) place g)

  pub no_letter : (l : ℕ) → get_or s 0 0 ≡ l → (l ≡ 0x75 → ⊥) → is_piece (letter l) ≡ false → piece_seen place (escape_at s) ≡ None
  no_letter l e h g = rw (by_letter_lem s l e h) (seen_none (letter l) place g)

-- Past the end of the text there is no escape.
pub no_escape : (text : List ℕ) (i place : ℕ) → length text ≤ i → piece_seen place (escape_at (drop i text)) ≡ None
unfolding is_piece
no_escape text i place h = rw (drop_of_length-le text h) (no_letter [] place 0 refl (λ e. omega arith) refl)

-- ---- the piece at a place

-- What stands at a place, by its first byte.
pub piece_escape : (text : List ℕ) (place : ℕ) → get_or text place 0 ≡ 0x5C → piece_at (drop place text) ≡ escape_at (drop (place + 1) text)
unfolding piece_at
piece_escape text place e = rw (first_of text place, e, drop-drop 1 place text)

pub piece_raw : (text : List ℕ) (place : ℕ) → (get_or text place 0 ≡ 0x5C → ⊥) → piece_at (drop place text) ≡ raw (get_or text place 0)
unfolding piece_at
piece_raw text place h = rw (first_of text place, ne_eqb (get_or text place 0) 0x5C h)

pub raw_piece : (b : ℕ) → eqb b 0x22 ≡ false → eqb b 0x5C ≡ false → is_piece (raw b) ≡ true
unfolding is_piece is_raw
raw_piece b e f = rw (e, f)

spelled : (b : ℕ) (s : List ℕ) → T (is_piece (piece_at (b ∷ s))) → (t : List ℕ) × (piece_before (piece_at (b ∷ s)) t ≡ b ∷ s)
unfolding piece_at piece_before
spelled b s u = go (eqb b 0x5C) refl u
  where
    go : (x : Bool) → eqb b 0x5C ≡ x → T (is_piece (cond x (escape_at s) (raw b))) → (t : List ℕ) × (piece_before (cond x (escape_at s) (raw b)) t ≡ b ∷ s)
    go true e v = rw (eqb-true b 0x5C e) (escape_spelled s v)
    go false e v = (s, refl)

-- A piece is read, and what follows it is left.
quoted_at : (n b : ℕ) (s : List ℕ) → is_piece (piece_at (b ∷ s)) ≡ true
    → let p = piece_at (b ∷ s) in
    quoted_from 0 n (b ∷ s) ≡ piece p (quoted_from 0 (n + length (piece_before p [])) (drop (length (piece_before p [])) (b ∷ s)))
quoted_at n b s e =
    let p : Piece = piece_at (b ∷ s) in
    let (t, x) = spelled b s (true_T e) in
    let left : drop (length (piece_before p [])) (b ∷ s) ≡ t
    = ap (drop (length (piece_before p []))) (sym x ∙ piece_append p t) ∙ drop_at (piece_before p []) t (length (piece_before p [])) refl in
    ap (quoted_from 0 n) (sym x) ∙ quoted_piece p n t (true_T e) ∙ ap (λ (k : List ℕ). piece p (quoted_from 0 (n + length (piece_before p [])) k)) (sym left)

pub read_on : (text : List ℕ) (i : ℕ) → i < length text → is_piece (piece_at (drop i text)) ≡ true
    → let p = piece_at (drop i text) in
    let j = i + length (piece_before p []) in
    quoted_from 0 i (drop i text) ≡ piece p (quoted_from 0 j (drop j text))
read_on text i h e =
    let k : ℕ = length (piece_before (piece_at (drop i text)) []) in
    at (drop i text) (drop-cons text i 0 h) e ∙ rw (drop-drop k i text)
  where
    at : (s : List ℕ) → s ≡ get_or text i 0 ∷ drop (suc i) text → is_piece (piece_at s) ≡ true
        → quoted_from 0 i s ≡ piece (piece_at s) (quoted_from 0 (i + length (piece_before (piece_at s) [])) (drop (length (piece_before (piece_at s) [])) s))
    at [] x e = let z : ◌≡◌ {A = ℕ} 0 1 = cc in absurd (omega arith)
    at (b ∷ s) x e = quoted_at i b s e
