-- What a string stands for, piece by piece.
use mathlib.Core.Path.{◌≡◌, refl, ap, sym, ◌∙◌}
use mathlib.Core.Bool.{Bool, true, false, cond}
use mathlib.Core.List.{List, [], ◌∷◌, ◌++◌}
use Prim.Native.Nat.{ℕ, zero, suc, ◌+◌, ◌-◌, ◌≤◌, ◌<◌}
use native.Mathlib.Nat.{add-zero, add_assoc}
use native.Mathlib.Omega.{arith}
use lib.Dec.{eqb, leb}
use borrow.Author.Tests.{ne_eqb, leb-true, leb-false}
use lib.ListN.{length, take, drop, get_or, length-append, drop_of_length-le}
use lib.Seq.{sets, drop-cons, drop-drop}
use Rattle.std.specs.Prelude.{Option, Some, IsSome, Ok, Err}
use Rattle.base.proofs.Booleans.{bool_case, true_T}
use Rattle.syntax.specs.rules.Syntax.{Piece, raw, is_piece, piece_before, piece_value, pieces_value}
use Rattle.syntax.specs.reference.Scan.{Quoted, closed, unclosed, bad_escape, piece, escape_at, quoted_from, ordinary_run}
use Rattle.atoms.specs.Atom.{StringEnd, ended, string_end, string_at, content_of, piece_at, atom_value}
use Rattle.atoms.specs.declared.string.StringEnd as Ended
use Rattle.atoms.specs.declared.string.BadString.{BadString}
use Rattle.syntax.proofs.Escapes.{first_of}
use Rattle.atoms.specs.declared.pieces.PieceSeen.{PieceSeen}
use Rattle.atoms.specs.internal.PieceSeen.{piece_stands, piece_seen}
use Rattle.atoms.proofs.PieceAt.{piece_few, piece_short, piece_good, seen_good, raw_piece, read_on}
use Rattle.atoms.specs.internal.Run.{plain_run}
use Rattle.base.proofs.Stores.{sets_append}
use Rattle.atoms.proofs.stores.PieceStores.{bytes_of}
use Rattle.atoms.proofs.run.PlainRuns.{plains, raws, quoted_passed, plain_part}

-- ---- a piece is read

-- A closing quote was found.
unfoldable pub is_closed : Quoted → Bool
is_closed (closed ps) = true
is_closed unclosed = false
is_closed (bad_escape n) = false

pub piece_closed : (p : Piece) (q : Quoted) → is_closed (piece p q) ≡ is_closed q
unfolding is_closed piece
piece_closed p (closed ps) = refl
piece_closed p unclosed = refl
piece_closed p (bad_escape n) = refl

piece_content : (p : Piece) (q : Quoted) → is_closed q ≡ true → content_of (piece p q) ≡ piece_value p ++ content_of q
unfolding is_closed piece content_of pieces_value
piece_content p (closed ps) e = refl
piece_content p unclosed e = cc
piece_content p (bad_escape n) e = cc

-- The same of plain bytes in front of a string.
raws_closed : (r : List ℕ) (q : Quoted) → is_closed (raws r q) ≡ is_closed q
unfolding raws
raws_closed [] q = refl
raws_closed (b ∷ r) q = piece_closed (raw b) (raws r q) ∙ raws_closed r q

raws_content : (r : List ℕ) (q : Quoted) → is_closed q ≡ true → content_of (raws r q) ≡ r ++ content_of q
unfolding raws piece_value
raws_content [] q e = refl
raws_content (b ∷ r) q e = piece_content (raw b) (raws r q) (raws_closed r q ∙ e) ∙ ap (λ (l : List ℕ). b ∷ l) (raws_content r q e)

-- Where a closing quote follows and none stands here, a piece stands.
first_piece : (n b : ℕ) (s : List ℕ) → (b ≡ 0x22 → ⊥) → is_closed (quoted_from 0 n (b ∷ s)) ≡ true → is_piece (piece_at (b ∷ s)) ≡ true
unfolding piece_at quoted_from is_closed
first_piece n b s h e = go (eqb b 0x22) (eqb b 0x5C) (is_piece (escape_at s)) refl (ne_eqb b 0x22 h) (raw_piece b (ne_eqb b 0x22 h)) e
  where
    go : (x y z : Bool) → is_piece (escape_at s) ≡ z → x ≡ false → (y ≡ false → is_piece (raw b) ≡ true)
        → is_closed (cond x (closed [])
        (cond y (cond z (piece (escape_at s) (quoted_from (length (piece_before (escape_at s) []) - 1) (n + 1) s)) (bad_escape n))
        (piece (raw b) (quoted_from 0 (n + 1) s)))) ≡ true
        → is_piece (cond y (escape_at s) (raw b)) ≡ true
    go true y z g x r e = cc
    go false true true g x r e = g
    go false true false g x r e = cc
    go false false z g x r e = r refl

-- Where no piece stands a string ends.
nothing_at : (n b : ℕ) (s : List ℕ) → is_piece (piece_at (b ∷ s)) ≡ false → content_of (quoted_from 0 n (b ∷ s)) ≡ []
unfolding piece_at quoted_from content_of pieces_value
nothing_at n b s e = go (eqb b 0x22) (eqb b 0x5C) (raw_piece b) e
  where
    go : (x y : Bool) → (x ≡ false → y ≡ false → is_piece (raw b) ≡ true) → is_piece (cond y (escape_at s) (raw b)) ≡ false
        → content_of (cond x (closed [])
        (cond y (cond (is_piece (escape_at s)) (piece (escape_at s) (quoted_from (length (piece_before (escape_at s) []) - 1) (n + 1) s)) (bad_escape n))
        (piece (raw b) (quoted_from 0 (n + 1) s)))) ≡ []
    go true y r e = refl
    go false true r e = rw e
    go false false r e = let z : true ≡ false = sym (r refl refl) ∙ e in let y : ◌≡◌ {A = ℕ} 0 1 = cc in absurd (omega arith)

pub no_piece : (text : List ℕ) (i : ℕ) → i < length text → is_piece (piece_at (drop i text)) ≡ false → content_of (quoted_from 0 i (drop i text)) ≡ []
no_piece text i h e =
    let first = drop-cons text i 0 h in
    rw first (nothing_at i (get_or text i 0) (drop (suc i) text) (rw first at e))

-- ---- the place of a string is of no account for what it stands for

forget : Quoted → Quoted
forget (closed ps) = closed ps
forget unclosed = unclosed
forget (bad_escape n) = bad_escape 0

forget_piece : (p : Piece) (q r : Quoted) → forget q ≡ forget r → forget (piece p q) ≡ forget (piece p r)
unfolding forget piece
forget_piece p (closed ps) (closed qs) e = let z : ps ≡ qs = cc in rw z
forget_piece p (closed ps) unclosed e = cc
forget_piece p (closed ps) (bad_escape n) e = cc
forget_piece p unclosed (closed qs) e = cc
forget_piece p unclosed unclosed e = refl
forget_piece p unclosed (bad_escape n) e = cc
forget_piece p (bad_escape m) (closed qs) e = cc
forget_piece p (bad_escape m) unclosed e = cc
forget_piece p (bad_escape m) (bad_escape n) e = refl

anywhere : (s : List ℕ) (k m n : ℕ) → forget (quoted_from k m s) ≡ forget (quoted_from k n s)
unfolding quoted_from forget
anywhere [] zero m n = refl
anywhere [] (suc k) m n = refl
anywhere (b ∷ s) (suc k) m n = anywhere s k (m + 1) (n + 1)
anywhere (b ∷ s) zero m n =
    go (eqb b 0x22) (eqb b 0x5C) (is_piece (escape_at s)) _ _ _ _ (anywhere s (length (piece_before (escape_at s) []) - 1) (m + 1) (n + 1)) (anywhere s 0 (m + 1) (n + 1))
  where
    go : (t u v : Bool) (q r x y : Quoted) → forget q ≡ forget r → forget x ≡ forget y
        → forget (cond t (closed []) (cond u (cond v (piece (escape_at s) q) (bad_escape m)) (piece (raw b) x)))
        ≡ forget (cond t (closed []) (cond u (cond v (piece (escape_at s) r) (bad_escape n)) (piece (raw b) y)))
    go true u v q r x y e f = refl
    go false true true q r x y e f = forget_piece (escape_at s) q r e
    go false true false q r x y e f = refl
    go false false v q r x y e f = forget_piece (raw b) x y f

content_forget : (q : Quoted) → content_of (forget q) ≡ content_of q
unfolding content_of forget
content_forget (closed ps) = refl
content_forget unclosed = refl
content_forget (bad_escape n) = refl

pub content_anywhere : (s : List ℕ) (m n : ℕ) → content_of (quoted_from 0 m s) ≡ content_of (quoted_from 0 n s)
content_anywhere s m n = sym (content_forget (quoted_from 0 m s)) ∙ ap content_of (anywhere s 0 m n) ∙ content_forget (quoted_from 0 n s)

pub content_inner : (text : List ℕ) (place : ℕ)
    → content_of (quoted_from 0 (place + 1) (drop (place + 1) text)) ≡ content_of (quoted_from 0 1 (drop 1 (drop place text)))
content_inner text place = rw (drop-drop 1 place text) (content_anywhere (drop (place + 1) text) (place + 1) 1)

-- ---- a string of a text

-- A string that has no fault has a closing quote, and one that has a fault stands for nothing.
number_closed : (n : ℕ) (q : Quoted) → (string_end n q).number ≡ 0 → is_closed q ≡ true
unfolding string_end is_closed
number_closed n (closed []) e = refl
number_closed n (closed (p ∷ ps)) e = refl
number_closed n unclosed e = absurd (omega arith)
number_closed n (bad_escape m) e = absurd (omega arith)

number_nothing : (n : ℕ) (q : Quoted) → ((string_end n q).number ≡ 0 → ⊥) → content_of q ≡ []
unfolding string_end content_of pieces_value
number_nothing n (closed []) h = refl
number_nothing n (closed (p ∷ ps)) h = absurd (h refl)
number_nothing n unclosed h = refl
number_nothing n (bad_escape m) h = refl

pub fault_nothing : (text : List ℕ) (place found : ℕ) → found ≡ (string_at place (drop place text)).number → (found ≡ 0 → ⊥)
    → content_of (quoted_from 0 1 (drop 1 (drop place text))) ≡ []
unfolding string_at
fault_nothing text place found e h =
    content_anywhere (drop 1 (drop place text)) 1 (place + 1)
    ∙ number_nothing place (quoted_from 0 (place + 1) (drop 1 (drop place text))) (λ f. h (e ∙ f))

-- What the code's answer says of both.
pub good_ended : (a : StringEnd) (s : Ended.StringEnd) → ended (Ok s) ≡ a → (0 ≡ a.number) × (s.next ≡ a.next) × (s.length ≡ a.length)
unfolding ended
good_ended a s e = (ap (λ (x : StringEnd). x.number) e, ap (λ (x : StringEnd). x.next) e, ap (λ (x : StringEnd). x.length) e)

pub good_number : (text : List ℕ) (place : ℕ) (s : Ended.StringEnd) → ended (Ok s) ≡ string_at place (drop place text) → 0 ≡ (string_at place (drop place text)).number
good_number text place s e = (good_ended _ s e).0

pub faulty_nothing : (text : List ℕ) (place : ℕ) (f : BadString) → ended (Err f) ≡ string_at place (drop place text)
    → content_of (quoted_from 0 1 (drop 1 (drop place text))) ≡ []
unfolding ended
faulty_nothing text place f e = fault_nothing text place 4 (ap (λ (x : StringEnd). x.number) e) (λ z. omega arith)

-- A string is written up to place i of the text, with k bytes: what is left of it, written on, gives what the whole gives.
pub record ContentSoFar (text : List ℕ) (place : ℕ) (start : List ℕ) (at : ℕ) (out : List ℕ) (i k : ℕ) : Type 0 where
  pub fits : k ≤ i
  pub ends : is_closed (quoted_from 0 i (drop i text)) ≡ true
  pub left : k + length (content_of (quoted_from 0 i (drop i text))) ≡ length (content_of (quoted_from 0 1 (drop 1 (drop place text))))
  pub written : sets out (at + k) (content_of (quoted_from 0 i (drop i text))) ≡ sets start at (content_of (quoted_from 0 1 (drop 1 (drop place text))))

inside_closed : (text : List ℕ) (i n : ℕ) → is_closed (quoted_from 0 n (drop i text)) ≡ true → i < length text
unfolding is_closed quoted_from
inside_closed text i n e =
    bool_case (leb (length text) i)
    (λ f. let z : false ≡ true = rw (drop_of_length-le text (leb-true (length text) i f)) at e in let y : ◌≡◌ {A = ℕ} 0 1 = cc in absurd (omega arith))
    (λ f. leb-false (length text) i f)

module _ (text : List ℕ) (place found : ℕ) (e : found ≡ (string_at place (drop place text)).number) (z : found ≡ 0) where
  pub closed_string : is_closed (quoted_from 0 (place + 1) (drop (place + 1) text)) ≡ true
  unfolding string_at
  closed_string =
      let whole : drop 1 (drop place text) ≡ drop (place + 1) text = drop-drop 1 place text in
      rw whole at (number_closed place (quoted_from 0 (place + 1) (drop 1 (drop place text))) (sym e ∙ z))

  pub string_inside : place + 1 < length text
  string_inside = inside_closed text (place + 1) (place + 1) closed_string

  pub content_start : (out : List ℕ) (at : ℕ) → ContentSoFar text place out at out (place + 1) 0
  content_start out at =
      let same = content_inner text place in
      record { fits = omega arith; ends = closed_string; left = rw same (omega arith); written = rw (same, add-zero at) }

-- From place i on a string goes on, up to its closing quote: what the code has of the piece that stands at i, and the next one, which is further on.
pub record ContentTurned (text : List ℕ) (i : ℕ) (q : PieceSeen) : Type 0 where
  pub size : q.size ≡ length (piece_value (piece_at (drop i text)))
  pub further : i < q.next
  pub less : i + q.size ≤ q.next
  pub short : q.first ∷ take (q.size - 1) (q.second ∷ q.third ∷ []) ≡ piece_value (piece_at (drop i text))
  pub inside : q.next < length text
  pub ends : is_closed (quoted_from 0 q.next (drop q.next text)) ≡ true
  pub more : content_of (quoted_from 0 i (drop i text)) ≡ piece_value (piece_at (drop i text)) ++ content_of (quoted_from 0 q.next (drop q.next text))

module _ (text : List ℕ) (i : ℕ) (c : is_closed (quoted_from 0 i (drop i text)) ≡ true) where
  abbrev here : Piece
  here = piece_at (drop i text)

  pub quoted_inside : i < length text
  quoted_inside = inside_closed text i i c

  -- Over a run.
  pub quoted_over : (end : ℕ) → end ≡ i + plains text i
      → (is_closed (quoted_from 0 end (drop end text)) ≡ true)
      × (content_of (quoted_from 0 i (drop i text)) ≡ plain_run (drop i text) ++ content_of (quoted_from 0 end (drop end text)))
  quoted_over end e =
      let passed = quoted_passed text i end e in
      let ends : is_closed (quoted_from 0 end (drop end text)) ≡ true = sym (raws_closed (plain_run (drop i text)) _) ∙ ap is_closed (sym passed) ∙ c in
      (ends, ap content_of passed ∙ raws_content (plain_run (drop i text)) _ ends)

  pub quoted_done : get_or text i 0 ≡ 0x22 → content_of (quoted_from 0 i (drop i text)) ≡ []
  unfolding quoted_from content_of pieces_value
  quoted_done e = rw (drop-cons text i 0 quoted_inside, e)

  module _ (h : get_or text i 0 ≡ 0x22 → ⊥) where
    pub good_piece : is_piece here ≡ true
    good_piece =
        let first = drop-cons text i 0 quoted_inside in
        rw first (first_piece i (get_or text i 0) (drop (suc i) text) h (rw first at c))

    quoted_next : quoted_from 0 i (drop i text) ≡ piece here (quoted_from 0 (i + length (piece_before here [])) (drop (i + length (piece_before here [])) text))
    quoted_next = read_on text i quoted_inside good_piece

    quoted_ends : is_closed (quoted_from 0 (i + length (piece_before here [])) (drop (i + length (piece_before here [])) text)) ≡ true
    quoted_ends = sym (piece_closed here _) ∙ ap is_closed (sym quoted_next) ∙ c

    pub quoted_turn : (q : PieceSeen) → Some q ≡ piece_seen i here → ContentTurned text i q
    unfolding piece_stands
    quoted_turn q seen =
        let (some, less, less-than-7) = piece_few here in
        let is : q ≡ piece_stands i here = (piece_good here i q seen).1 in
        let ends : is_closed (quoted_from 0 (i + length (piece_before here [])) (drop (i + length (piece_before here [])) text)) ≡ true = quoted_ends in
        rw is
        (record {
          size = refl;
          further = omega arith;
          less = omega arith;
          short = bytes_of (piece_value here) some (piece_short here (true_T good_piece));
          inside = inside_closed text (i + length (piece_before here [])) (i + length (piece_before here [])) ends;
          ends = ends;
          more = rw quoted_next (piece_content here _ quoted_ends);
        })

    -- The code has a piece there.
    pub quoted_some : (o : Option PieceSeen) → (i < length text → o ≡ piece_seen i here) → IsSome o
    quoted_some o told = rw (told quoted_inside, seen_good here i good_piece) refl

module _ (text : List ℕ) (place : ℕ) (start : List ℕ) (at : ℕ) (out : List ℕ) (i k : ℕ) (c : ContentSoFar text place start at out i k) where
  abbrev value : List ℕ
  value = piece_value (piece_at (drop i text))

  -- With the piece that stands there written, the string is written up to the next one, which is further on.
  pub content_turn : (get_or text i 0 ≡ 0x22 → ⊥) → (l : List ℕ) (q : PieceSeen) → Some q ≡ piece_seen i (piece_at (drop i text))
      → l ≡ sets out (at + k) (q.first ∷ take (q.size - 1) (q.second ∷ q.third ∷ []))
      → (i < q.next) × (q.next < length text) × ContentSoFar text place start at l q.next (k + q.size)
  content_turn h l q seen f =
      let t = quoted_turn text i c.ends h q seen in
      let s : q.size ≡ length value = t.size in
      let all : l ≡ sets out (at + k) value = f ∙ rw t.short in
      let step : ContentSoFar text place start at l q.next (k + q.size) = record {
        fits = omega (arith, c.fits, t.less);
        ends = t.ends;
        left = omega (arith, rw (t.more, length-append value) at c.left);
        written = rw (all, s, ← add_assoc at k (length value), ← sets_append) (rw t.more at c.written);
      } in
      (t.further, t.inside, step)

  -- With the run that stands there written, it is written up to the run's end.
  pub content_run : (l : List ℕ) (end : ℕ) → end ≡ i + plains text i → l ≡ sets out (at + k) (take (end - i) (drop i text))
      → ContentSoFar text place start at l end (k + (end - i))
  content_run l end e f =
      let r : List ℕ = plain_run (drop i text) in
      let t = quoted_over text i c.ends end e in
      let size : end - i ≡ length r = omega arith in
      let all : l ≡ sets out (at + k) r = f ∙ rw (size, plain_part (drop i text)) in
      record {
        fits = omega (arith, c.fits);
        ends = t.0;
        left = omega (arith, rw (t.1, length-append r) at c.left);
        written = rw (all, size, ← add_assoc at k (length r), ← sets_append) (rw t.1 at c.written);
      }

  pub content_done : get_or text i 0 ≡ 0x22
      → (k ≡ length (content_of (quoted_from 0 1 (drop 1 (drop place text))))) × (out ≡ sets start at (content_of (quoted_from 0 1 (drop 1 (drop place text)))))
  content_done e =
      let none = quoted_done text i c.ends e in
      (omega (arith, rw none at c.left), rw none at c.written)

-- ---- symbols and strings, by the first byte

module _ (text : List ℕ) (place : ℕ) where
  pub atom_string : get_or text place 0 ≡ 0x22 → atom_value (drop place text) ≡ content_of (quoted_from 0 1 (drop 1 (drop place text)))
  unfolding atom_value
  atom_string f = rw (first_of text place, f)

  pub atom_symbol : (get_or text place 0 ≡ 0x22 → ⊥) → atom_value (drop place text) ≡ ordinary_run (drop place text)
  unfolding atom_value
  atom_symbol f = rw (first_of text place, ne_eqb (get_or text place 0) 0x22 f)
