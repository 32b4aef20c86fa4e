-- Whether what a symbol or string stands for are characters of a sort.
use mathlib.Core.Path.{◌≡◌, refl, sym, ap, ◌∙◌}
use mathlib.Core.Bool.{Bool, true, false, not, ◌&&◌, ◌||◌, true≢false}
use mathlib.Core.Logic.{⊎_elim}
use mathlib.Core.List.{List, [], ◌∷◌, ◌++◌}
use Prim.Native.Nat.{ℕ, ◌+◌, ◌/◌, ◌≤◌, ◌<◌}
use native.Mathlib.Nat.{eq-or-lt_of_le}
use native.Mathlib.Omega.{arith}
use lib.Dec.{T, leb}
use lib.ListN.{length, drop, get_or, drop_of_length-le}
use borrow.Author.Tests.{leb-true, leb-false}
use Rattle.base.proofs.Booleans.{bool_case, both, cond_case, and_true, T_true}
use Rattle.base.proofs.Tables.{each_below}
use Rattle.utf8.specs.rules.Scalar.{encode}
use Rattle.elements.specs.rules.Characters.{is_letter, is_digit, type_character, id_character, uri_character, character_of}
use Rattle.syntax.specs.rules.Syntax.{Piece, raw, letter, number, hex_value, is_piece, piece_value, pieces_value}
use Rattle.syntax.specs.reference.Scan.{Quoted, closed, unclosed, bad_escape, piece, ordinary_run, quoted_from}
use Rattle.syntax.specs.rules.Byte.{byte_class, is_ordinary, ordinary_class}
use Rattle.std.specs.Prelude.{Some, None, Result, Ok, Err}
use Rattle.std.specs.Result.{is_err}
use Rattle.characters.specs.declared.values.Alphabet.{Alphabet}
use Rattle.characters.specs.Codes.{alphabet_number, IsAlphabetOf}
use Rattle.atoms.specs.declared.pieces.PieceSeen.{PieceSeen}
use Rattle.atoms.specs.declared.string.StringEnd.{StringEnd}
use Rattle.atoms.specs.declared.string.BadString.{BadString}
use Rattle.atoms.specs.Atom.{ended, string_at, content_of, piece_at, fits}
use Rattle.atoms.specs.internal.PieceSeen.{piece_stands, piece_seen}
use Rattle.elements.proofs.Characters.{none_high}
use Rattle.characters.proofs.Symbols.{run_turn, run_stop}
use Rattle.atoms.proofs.PieceAt.{piece_few, piece_good, piece_none, read_on}
use Rattle.atoms.proofs.Contents.{is_closed, piece_closed, no_piece, closed_string, content_inner, good_number, faulty_nothing}

-- The bytes that fit an alphabet are those that fit its number.
pub fits_same : (n : ℕ) (a : Alphabet) → IsAlphabetOf n a → (s : List ℕ) → fits (alphabet_number a) s ≡ fits n s
unfolding fits
fits_same n a e [] = refl
fits_same n a e (b ∷ s) = rw (e b, fits_same n a e s)

-- Bytes one after another fit where both do.
pub fits_append : (n : ℕ) (v w : List ℕ) → fits n (v ++ w) ≡ fits n v && fits n w
unfolding fits
fits_append n [] w = refl
fits_append n (b ∷ v) w = rw (fits_append n v w) (assoc (character_of n b) (fits n v) (fits n w))
  where
    assoc : (a b c : Bool) → a && (b && c) ≡ (a && b) && c
    assoc true b c = refl
    assoc false b c = refl

-- The first byte decides of a piece: where there are more, it is one from 0x80 on.
encode_fits : (m n : ℕ) → fits m (encode n) ≡ character_of m (get_or (encode n) 0 0)
unfolding fits encode
encode_fits m n =
    cond_case Decided (leb n 0x7F) (λ e. and_true _)
    (λ e. cond_case Decided (leb n 0x7FF) (λ f. rw (none_high (0xC0 + n / 64) m (omega arith)))
    (λ f. cond_case Decided (leb n 0xFFFF) (λ g. rw (none_high (0xE0 + n / 4096) m (omega arith)))
    (λ g. rw (none_high (0xF0 + n / 262144) m (omega arith)))))
  where
    Decided : List ℕ → Type 0
    Decided v = fits m v ≡ character_of m (get_or v 0 0)

pub piece_fits : (n : ℕ) (p : Piece) → fits n (piece_value p) ≡ character_of n (get_or (piece_value p) 0 0)
unfolding fits piece_value
piece_fits n (raw b) = and_true _
piece_fits n (letter c) = and_true _
piece_fits n (number d₁ d₂ d₃ d₄) = encode_fits n (hex_value d₁ d₂ d₃ d₄)

-- ---- a symbol

module _ (text : List ℕ) (sort i : ℕ) (h : i < length text) where
  pub symbol_done : is_ordinary (get_or text i 0) ≡ false → fits sort (ordinary_run (drop i text)) ≡ true
  unfolding fits
  symbol_done f = rw (run_stop text i h f)

  symbol_first : is_ordinary (get_or text i 0) ≡ true
      → fits sort (ordinary_run (drop i text)) ≡ character_of sort (get_or text i 0) && fits sort (ordinary_run (drop (i + 1) text))
  unfolding fits
  symbol_first f = rw (run_turn text i h f)

  pub symbol_turn : is_ordinary (get_or text i 0) ≡ true → character_of sort (get_or text i 0) ≡ true
      → fits sort (ordinary_run (drop (i + 1) text)) ≡ fits sort (ordinary_run (drop i text))
  symbol_turn f t = rw t at (sym (symbol_first f))

  -- At a byte that is no such character the symbol does not fit, if it goes on there.
  pub symbol_refused : character_of sort (get_or text i 0) ≡ false → not (is_ordinary (get_or text i 0)) ≡ fits sort (ordinary_run (drop i text))
  symbol_refused t =
      bool_case (is_ordinary (get_or text i 0))
      (λ y. rw y (rw t at (sym (symbol_first y))))
      (λ n. rw n (sym (symbol_done n)))

-- Characters of types and ids are ordinary bytes, by a test of each byte below 0x80.
abbrev sort_ordinary : ℕ → ℕ → Bool
sort_ordinary n b = not (character_of n b) || is_ordinary b

abbrev both_ordinary : ℕ → Bool
both_ordinary b = sort_ordinary 0 b && sort_ordinary 1 b

pub named_ordinary : (n b : ℕ) → n ≤ 1 → character_of n b ≡ true → is_ordinary b ≡ true
unfolding character_of type_character id_character uri_character is_letter is_digit byte_class is_ordinary ordinary_class
named_ordinary n b h e =
    bool_case (leb 0x80 b)
    (λ high. absurd (true≢false (sym e ∙ none_high b n (leb-true 0x80 b high))))
    (λ low. let (zero, one) = both (sort_ordinary 0 b) (sort_ordinary 1 b) (each_below both_ordinary 0x80 b (leb-false 0x80 b low) tt) in
    ⊎_elim (λ (f : n ≡ 1). known 1 one (rw f at e)) (λ (f : n < 1). known 0 zero (let z : n ≡ 0 = omega arith in rw z at e)) (eq-or-lt_of_le h))
  where
    known : (m : ℕ) → T (sort_ordinary m b) → character_of m b ≡ true → is_ordinary b ≡ true
    known m t f = T_true (is_ordinary b) (rw f at t)

-- ---- a string

abbrev pub whole : List ℕ → ℕ → List ℕ
whole text place = content_of (quoted_from 0 1 (drop 1 (drop place text)))

-- What is left of a string of a text.
abbrev left : List ℕ → ℕ → Quoted
left text i = quoted_from 0 i (drop i text)

-- A piece that fits is passed over; one that does not refuses what a closing quote ends.
piece_passed : (n : ℕ) (p : Piece) (q : Quoted) → fits n (piece_value p) ≡ true → fits n (content_of (piece p q)) ≡ fits n (content_of q)
unfolding fits content_of piece pieces_value
piece_passed n p (closed ps) e = fits_append n (piece_value p) (pieces_value ps) ∙ rw e
piece_passed n p unclosed e = refl
piece_passed n p (bad_escape m) e = refl

piece_refused : (n : ℕ) (p : Piece) (q : Quoted) → fits n (piece_value p) ≡ false → is_closed q ≡ true → fits n (content_of (piece p q)) ≡ false
unfolding fits content_of piece pieces_value is_closed
piece_refused n p (closed ps) e c = fits_append n (piece_value p) (pieces_value ps) ∙ rw e
piece_refused n p unclosed e c = cc
piece_refused n p (bad_escape m) e c = cc

-- From place i on the same is left to be found of a string as at first, and a closing quote where there was one.
pub record StringLeft (text : List ℕ) (place sort i : ℕ) : Type 0 where
  pub ends : is_closed (left text i) ≡ is_closed (left text (place + 1))
  pub same : fits sort (content_of (left text i)) ≡ fits sort (whole text place)

pub string_start : (text : List ℕ) (place sort : ℕ) → StringLeft text place sort (place + 1)
string_start text place sort = record { ends = refl; same = ap (fits sort) (content_inner text place) }

-- Past the end of the text there is no string.
pub string_none : (text : List ℕ) (place sort : ℕ) → length text ≤ place → true ≡ fits sort (whole text place)
unfolding fits content_of quoted_from
string_none text place sort h = rw (drop_of_length-le text h)

module _ (text : List ℕ) (place sort i : ℕ) (c : StringLeft text place sort i) where
  pub string_past : length text ≤ i → true ≡ fits sort (whole text place)
  unfolding fits content_of quoted_from
  string_past h = rw (drop_of_length-le text h) at c.same

  module _ (inside : i < length text) where
    abbrev here : Piece
    here = piece_at (drop i text)

    pub string_stopped : None ≡ piece_seen i here → true ≡ fits sort (whole text place)
    unfolding fits
    string_stopped e = rw (no_piece text i inside (piece_none here i e)) at c.same

    module _ (q : PieceSeen) (seen : Some q ≡ piece_seen i here) where
      good : is_piece here ≡ true
      good = (piece_good here i q seen).0

      stands : q ≡ piece_stands i here
      stands = (piece_good here i q seen).1

      reads : left text i ≡ piece here (left text q.next)
      unfolding piece_stands
      reads = rw stands (read_on text i inside good)

      decides : (t : Bool) → t ≡ character_of sort q.first → fits sort (piece_value here) ≡ t
      unfolding piece_stands
      decides t e = piece_fits sort here ∙ ap (λ (r : PieceSeen). character_of sort r.first) (sym stands) ∙ sym e

      ends_next : is_closed (left text q.next) ≡ is_closed (left text (place + 1))
      ends_next = sym (piece_closed here (left text q.next)) ∙ ap is_closed (sym reads) ∙ c.ends

      pub string_further : i < q.next
      unfolding piece_stands
      string_further = rw stands (omega (arith, piece_few here))

      pub string_turn : (t : Bool) → t ≡ character_of sort q.first → t ≡ true → StringLeft text place sort q.next
      string_turn t e u =
          record {
            ends = ends_next;
            same = sym (piece_passed sort here (left text q.next) (decides t e ∙ u)) ∙ ap (λ (r : Quoted). fits sort (content_of r)) (sym reads) ∙ c.same;
          }

      -- A piece that does not fit refuses the string if it has no fault.
      pub string_refused : (t : Bool) → t ≡ character_of sort q.first → t ≡ false
          → (r : Result StringEnd BadString) → ended r ≡ string_at place (drop place text) → is_err r ≡ fits sort (whole text place)
      unfolding fits
      string_refused t e u (Ok s) f =
          let closes = closed_string text place 0 (good_number text place s f) refl in
          sym (piece_refused sort here (left text q.next) (decides t e ∙ u) (ends_next ∙ closes)) ∙ ap (λ (r : Quoted). fits sort (content_of r)) (sym reads) ∙ c.same
      string_refused t e u (Err b) f = rw (faulty_nothing text place b f)
