-- A string read piece by piece: what is left to read gives the same answer at each piece.
use Prim.Native.Nat.{ℕ, suc, ◌+◌, ◌-◌, ◌≤◌, ◌<◌}
use mathlib.Core.Path.{◌≡◌, refl, ap, sym, ◌∙◌}
use mathlib.Core.Bool.{Bool, true, false, cond}
use mathlib.Core.List.{List, [], ◌∷◌}
use native.Mathlib.Nat.{add-zero, add_assoc}
use native.Mathlib.Omega.{arith}
use lib.Dec.{eqb, leb}
use lib.ListN.{length, drop, get_or, length-append, drop_of_length-le, get_or-eq_default}
use lib.Seq.{drop-cons, drop-drop}
use borrow.Author.Tests.{ne_eqb, leb-true, leb-false}
use Rattle.std.specs.Prelude.{Some, None}
use Rattle.base.proofs.Booleans.{bool_case}
use Rattle.syntax.specs.rules.Byte.{is_raw}
use Rattle.syntax.specs.rules.Syntax.{Piece, raw, is_piece, piece_before, pieces_before, piece_value, pieces_value}
use Rattle.syntax.specs.reference.Scan.{Quoted, closed, unclosed, bad_escape, piece, escape_at, quoted_from}
use Rattle.atoms.specs.Atom.{StringEnd, string_end, string_at, piece_at}
use Rattle.atoms.specs.internal.StringStep.{bad_string_end, stopped_at}
use Rattle.atoms.specs.declared.pieces.PieceSeen.{PieceSeen}
use Rattle.atoms.specs.internal.PieceSeen.{piece_stands, piece_seen}
use Rattle.atoms.specs.internal.Run.{plain_run}
use Rattle.syntax.proofs.Strings.{piece_append}
use Rattle.atoms.proofs.PieceAt.{piece_few, piece_good, piece_none, read_on, piece_raw, raw_piece}
use Rattle.atoms.proofs.run.PlainRuns.{plains, raws, quoted_passed, plain_ended}

-- ---- the answer from a piece on

-- The answer for the string whose quote is at n, where its pieces up to place i stand for d bytes and q follows.
unfoldable pub string_finish : ℕ → ℕ → ℕ → Quoted → StringEnd
string_finish n i d (closed ps) =
    cond (eqb (d + length (pieces_value ps)) 0) (bad_string_end n)
    (record { number = 0; place = 0; next = i + length (pieces_before ps []) + 1; length = d + length (pieces_value ps) })
string_finish n i d unclosed = bad_string_end n
string_finish n i d (bad_escape p) = bad_string_end p

finish_start : (n : ℕ) (q : Quoted) → string_finish n (n + 1) 0 q ≡ string_end n q
unfolding string_finish string_end bad_string_end pieces_value
finish_start n (closed []) = refl
finish_start n (closed (p ∷ ps)) =
    let v : List ℕ = pieces_value (p ∷ ps) in
    let some : 0 + length v ≡ 0 → ⊥ = λ e. omega (arith, piece_few p, length-append (piece_value p) (pieces_value ps)) in
    let next : n + 1 + length (pieces_before (p ∷ ps) []) + 1 ≡ n + (length (pieces_before (p ∷ ps) []) + 2) = omega arith in
    let decoded : 0 + length v ≡ length v = omega arith in
    rw (ne_eqb (0 + length v) 0 some, next, decoded)
finish_start n unclosed = refl
finish_start n (bad_escape p) = refl

finish_piece : (n i d : ℕ) (p : Piece) (q : Quoted)
    → string_finish n i d (piece p q) ≡ string_finish n (i + length (piece_before p [])) (d + length (piece_value p)) q
unfolding string_finish piece pieces_value pieces_before
finish_piece n i d p (closed ps) =
    let bytes : length (piece_before p (pieces_before ps [])) ≡ length (piece_before p []) + length (pieces_before ps [])
    = ap length (piece_append p (pieces_before ps [])) ∙ length-append (piece_before p []) (pieces_before ps []) in
    rw (bytes, length-append (piece_value p) (pieces_value ps), ← (add_assoc d), ← (add_assoc i))
finish_piece n i d p unclosed = refl
finish_piece n i d p (bad_escape m) = refl

-- A turn of the loop keeps the answer.
pub turn : (text : List ℕ) (n i d : ℕ) → i < length text → is_piece (piece_at (drop i text)) ≡ true
    → let p = piece_at (drop i text) in
    let j = i + length (piece_before p []) in
    string_finish n j (d + length (piece_value p)) (quoted_from 0 j (drop j text)) ≡ string_finish n i d (quoted_from 0 i (drop i text))
turn text n i d h e =
    let p : Piece = piece_at (drop i text) in
    let j : ℕ = i + length (piece_before p []) in
    sym (ap (string_finish n i d) (read_on text i h e) ∙ finish_piece n i d p (quoted_from 0 j (drop j text)))

-- The same of what the code has: a piece is small, and its turn keeps the answer.
abbrev pub PieceTurned : List ℕ → ℕ → ℕ → ℕ → PieceSeen → Type 0
PieceTurned text n i d q =
    (i < q.next) × (i + q.size ≤ q.next) × (q.next ≤ i + 6)
    × (string_finish n q.next (d + q.size) (quoted_from 0 q.next (drop q.next text)) ≡ string_finish n i d (quoted_from 0 i (drop i text)))

pub walk : (text : List ℕ) (n i d : ℕ) (q : PieceSeen) → i < length text → Some q ≡ piece_seen i (piece_at (drop i text)) → PieceTurned text n i d q
unfolding piece_stands
walk text n i d q h t =
    let p : Piece = piece_at (drop i text) in
    let (good, is) = piece_good p i q t in
    let (u, v, w) = piece_few p in
    rw is (omega arith, omega arith, omega arith, turn text n i d h good)

-- ---- where no piece stands

stop_at : (n i d b : ℕ) (s : List ℕ) → is_piece (piece_at (b ∷ s)) ≡ false → string_finish n i d (quoted_from 0 i (b ∷ s)) ≡ stopped_at n i d (b ∷ s)
unfolding piece_at quoted_from stopped_at string_finish pieces_value pieces_before
stop_at n i d b s g = go (eqb b 0x22) (eqb b 0x5C) (raw_piece b) g
  where
    go : (x y : Bool) → (x ≡ false → y ≡ false → is_piece (raw b) ≡ true) → is_piece (cond y (escape_at s) (raw b)) ≡ false
        → string_finish n i d (cond x (closed [])
        (cond y (cond (is_piece (escape_at s)) (piece (escape_at s) (quoted_from (length (piece_before (escape_at s) []) - 1) (i + 1) s)) (bad_escape i))
        (piece (raw b) (quoted_from 0 (i + 1) s))))
        ≡ cond x (cond (eqb d 0) (bad_string_end n) (record { number = 0; place = 0; next = i + 1; length = d })) (bad_string_end i)
    go true y r g = rw (add-zero d, add-zero i)
    go false true r g = rw g
    go false false r g = let z : ◌≡◌ {A = ℕ} 0 1 = ap (λ (t : Bool). cond t 1 0) (sym g ∙ r refl refl) in absurd (omega arith)

stop : (text : List ℕ) (n i d : ℕ) → i < length text → is_piece (piece_at (drop i text)) ≡ false
    → string_finish n i d (quoted_from 0 i (drop i text)) ≡ stopped_at n i d (drop i text)
stop text n i d h e = at (drop i text) (drop-cons text i 0 h) e
  where
    at : (s : List ℕ) → s ≡ get_or text i 0 ∷ drop (suc i) text → is_piece (piece_at s) ≡ false → string_finish n i d (quoted_from 0 i s) ≡ stopped_at n i d s
    at [] x e = let z : ◌≡◌ {A = ℕ} 0 1 = cc in absurd (omega arith)
    at (b ∷ s) x e = stop_at n i d b s e

at_end : (text : List ℕ) (n i d : ℕ) → length text ≤ i → string_finish n i d (quoted_from 0 i (drop i text)) ≡ bad_string_end n
unfolding quoted_from string_finish
at_end text n i d h = rw (drop_of_length-le text h)

pub at_start : (text : List ℕ) (n : ℕ) → string_finish n (n + 1) 0 (quoted_from 0 (n + 1) (drop (n + 1) text)) ≡ string_at n (drop n text)
unfolding string_at
at_start text n = finish_start n (quoted_from 0 (n + 1) (drop (n + 1) text)) ∙ rw (drop-drop 1 n text)

-- A place past the end is as an unclosed string.
pub past_end : (text : List ℕ) (n : ℕ) → length text ≤ n → bad_string_end n ≡ string_at n (drop n text)
unfolding string_at string_end quoted_from bad_string_end
past_end text n h = rw (drop_of_length-le text h)

-- ---- a run of plain bytes is passed

finish_raws : (r : List ℕ) (n i d : ℕ) (q : Quoted) → string_finish n i d (raws r q) ≡ string_finish n (i + length r) (d + length r) q
unfolding raws piece_before piece_value
finish_raws [] n i d q = rw (add-zero i, add-zero d)
finish_raws (b ∷ r) n i d q =
    let next : (m : ℕ) → m + 1 + length r ≡ m + suc (length r) = λ m. omega arith in
    finish_piece n i d (raw b) (raws r q) ∙ finish_raws r n (i + 1) (d + 1) q ∙ rw (next i, next d)

-- After a run up to place `end`, whose bytes are counted in d: what follows finishes the string with the answer, and no plain byte stands there.
pub record RunEnd (text : List ℕ) (n end d : ℕ) (answer : StringEnd) : Type 0 where
  pub same : string_finish n end d (quoted_from 0 end (drop end text)) ≡ answer
  pub after : end < length text → is_raw (get_or text end 0) ≡ false

pub run_end : (text : List ℕ) (n i d end : ℕ) (answer : StringEnd) → end ≡ i + plains text i
    → string_finish n i d (quoted_from 0 i (drop i text)) ≡ answer → RunEnd text n end (d + (end - i)) answer
run_end text n i d end answer e f =
    let size : end - i ≡ plains text i = omega arith in
    let passed : string_finish n i d (quoted_from 0 i (drop i text)) ≡ string_finish n (i + plains text i) (d + plains text i) (quoted_from 0 end (drop end text))
    = ap (string_finish n i d) (quoted_passed text i end e) ∙ finish_raws (plain_run (drop i text)) n i d (quoted_from 0 end (drop end text)) in
    record { same = rw (size) (rw (← e) at (sym passed) ∙ f); after = plain_ended text i end e }

pub escape_inside : (text : List ℕ) (i : ℕ) → get_or text i 0 ≡ 0x5C → i < length text
escape_inside text i e =
    bool_case (leb (length text) i)
    (λ h. absurd (omega (arith, get_or-eq_default text 0 (leb-true (length text) i h))))
    (leb-false (length text) i)

-- What stands there is no escape, or no good one.
pub run_stopped : {text : List ℕ} {n end d : ℕ} {answer : StringEnd} → RunEnd text n end d answer → (get_or text end 0 ≡ 0x5C → ⊥)
    → stopped_at n end d (drop end text) ≡ answer
unfolding stopped_at is_piece
run_stopped {text} {n} {end} {d} r h =
    bool_case (leb (length text) end)
    (λ e. let past : length text ≤ end = leb-true (length text) end e in
    rw (drop_of_length-le text past) (sym (at_end text n end d past) ∙ r.same))
    (λ e. let inside : end < length text = leb-false (length text) end e in
    let none : is_piece (piece_at (drop end text)) ≡ false = ap is_piece (piece_raw text end h) ∙ r.after inside in
    sym (stop text n end d inside none) ∙ r.same)

pub run_bad : {text : List ℕ} {n end d : ℕ} {answer : StringEnd} → RunEnd text n end d answer → get_or text end 0 ≡ 0x5C
    → None ≡ piece_seen end (piece_at (drop end text)) → bad_string_end end ≡ answer
unfolding stopped_at
run_bad {text} {n} {end} {d} r e f =
    let inside : end < length text = escape_inside text end e in
    let at : stopped_at n end d (drop end text) ≡ bad_string_end end = rw (drop-cons text end 0 inside, e) in
    sym at ∙ sym (stop text n end d inside (piece_none _ end f)) ∙ r.same
