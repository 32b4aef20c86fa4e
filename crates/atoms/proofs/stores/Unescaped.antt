-- A string that stands for as many bytes as are between its quotes is those bytes.
use mathlib.Core.Path.{◌≡◌, refl, ap, sym, ◌∙◌}
use mathlib.Core.Bool.{true, false}
use mathlib.Core.List.{List, [], ◌∷◌, ◌++◌, append-nil}
use Prim.Native.Nat.{ℕ, ◌+◌, ◌-◌, ◌≤◌, ◌<◌}
use native.Mathlib.Omega.{arith}
use lib.Dec.{T, eqb}
use borrow.Author.Tests.{eqb-true, eqb-false}
use lib.ListN.{length, take, drop, get_or, length-append}
use lib.Seq.{drop-cons}
use Rattle.base.proofs.Booleans.{bool_case, cond_case, true_T}
use Rattle.syntax.specs.rules.Byte.{is_raw}
use Rattle.syntax.specs.rules.Syntax.{Piece, number, is_piece, piece_before, pieces_before, piece_value, pieces_value}
use Rattle.syntax.specs.reference.Scan.{Quoted, closed, unclosed, bad_escape, escape_at, quoted_from}
use Rattle.syntax.proofs.Strings.{piece_append}
use Rattle.std.specs.Prelude.{Ok}
use Rattle.atoms.specs.Atom.{StringEnd, ended, string_at, content_of, piece_at}
use Rattle.atoms.specs.declared.string.StringEnd as Ended
use Rattle.atoms.specs.internal.StringStep.{bad_string_end}
use Rattle.atoms.specs.internal.Run.{plain_run}
use Rattle.atoms.proofs.PieceAt.{piece_few, piece_short, piece_escape}
use Rattle.atoms.proofs.run.PlainRuns.{plains, plain_part}
use Rattle.atoms.proofs.string.StringSteps.{string_finish, turn, at_start, RunEnd, run_end}
use Rattle.atoms.proofs.Contents.{is_closed, good_ended, closed_string, content_inner, quoted_inside, quoted_over, quoted_done, good_piece}

-- ---- pieces stand for no more bytes than they have

-- An escape stands for fewer.
escape_longer : (s : List ℕ) → T (is_piece (escape_at s)) → length (piece_value (escape_at s)) < length (piece_before (escape_at s) [])
unfolding escape_at piece_value piece_before
escape_longer s =
    cond_case Longer (eqb (get_or s 0 0) 0x75)
    (λ e t. omega (arith, piece_short (number (get_or s 1 0) (get_or s 2 0) (get_or s 3 0) (get_or s 4 0)) t))
    (λ e t. omega arith)
  where
    Longer : Piece → Type 0
    Longer p = T (is_piece p) → length (piece_value p) < length (piece_before p [])

pieces_few : (ps : List Piece) → length (pieces_value ps) ≤ length (pieces_before ps [])
unfolding pieces_value pieces_before
pieces_few [] = omega arith
pieces_few (p ∷ ps) =
    omega (
      arith,
      piece_few p,
      pieces_few ps,
      length-append (piece_value p) (pieces_value ps),
      ap length (piece_append p (pieces_before ps [])),
      length-append (piece_before p []) (pieces_before ps []),
    )

finish_fits : (n i d : ℕ) (q : Quoted) → (string_finish n i d q).number ≡ 0 → (string_finish n i d q).length + i + 1 ≤ (string_finish n i d q).next + d
unfolding string_finish bad_string_end
finish_fits n i d (closed ps) = cond_case Fits (eqb (d + length (pieces_value ps)) 0) (λ e z. absurd (omega arith)) (λ e z. omega (arith, pieces_few ps))
  where
    Fits : StringEnd → Type 0
    Fits a = a.number ≡ 0 → a.length + i + 1 ≤ a.next + d
finish_fits n i d unclosed = λ z. absurd (omega arith)
finish_fits n i d (bad_escape p) = λ z. absurd (omega arith)

finish_none : (n i d : ℕ) → (string_finish n i d (closed [])).number ≡ 0 → (string_finish n i d (closed [])).next ≡ i + 1
unfolding string_finish bad_string_end pieces_before
finish_none n i d = cond_case Next (eqb (d + length (pieces_value [])) 0) (λ e z. absurd (omega arith)) (λ e z. omega arith)
  where
    Next : StringEnd → Type 0
    Next a = a.number ≡ 0 → a.next ≡ i + 1

not_raw : (b : ℕ) → eqb b 0x22 ≡ false → is_raw b ≡ false → b ≡ 0x5C
unfolding is_raw
not_raw b e f = bool_case (eqb b 0x5C) (eqb-true b 0x5C) (λ g. let z : true ≡ false = rw (e, g) at f in let y : ◌≡◌ {A = ℕ} 0 1 = cc in absurd (omega arith))

-- ---- a string of a text that has no fault

module _ (text : List ℕ) (place : ℕ) (s : Ended.StringEnd) (e : ended (Ok s) ≡ string_at place (drop place text)) where
  abbrev answer : StringEnd
  answer = string_at place (drop place text)

  found : 0 ≡ answer.number
  found = (good_ended answer s e).0

  is_next : s.next ≡ answer.next
  is_next = (good_ended answer s e).1

  is_size : s.length ≡ answer.length
  is_size = (good_ended answer s e).2

  pub string_span : place + 2 + s.length ≤ s.next
  string_span =
      let start : string_finish place (place + 1) 0 (quoted_from 0 (place + 1) (drop (place + 1) text)) ≡ answer = at_start text place in
      omega (arith, is_next, is_size, rw start at (finish_fits place (place + 1) 0 (quoted_from 0 (place + 1) (drop (place + 1) text)) (ap (λ (a : StringEnd). a.number) start ∙ sym found)))

  -- The run at its front ends at `end`.
  abbrev end : ℕ
  end = place + 1 + plains text (place + 1)

  run : RunEnd text place end (0 + (end - (place + 1))) answer
  run = run_end text place (place + 1) 0 end answer refl (at_start text place)

  over : (is_closed (quoted_from 0 end (drop end text)) ≡ true)
      × (content_of (quoted_from 0 (place + 1) (drop (place + 1) text)) ≡ plain_run (drop (place + 1) text) ++ content_of (quoted_from 0 end (drop end text)))
  over = quoted_over text (place + 1) (closed_string text place 0 found refl) end refl

  inside : end < length text
  inside = quoted_inside text end over.0

  pub record Between : Type 0 where
    pub within : s.next - 1 ≤ length text
    pub same : content_of (quoted_from 0 1 (drop 1 (drop place text))) ≡ take (s.next - 1 - (place + 1)) (drop (place + 1) text)

  -- What stands there is the closing quote,
  at_quote : get_or text end 0 ≡ 0x22 → Between
  unfolding quoted_from
  at_quote h =
      let none : quoted_from 0 end (drop end text) ≡ closed [] = rw (drop-cons text end 0 inside, h) in
      let last : string_finish place end (0 + (end - (place + 1))) (closed []) ≡ answer = rw none at run.same in
      let after : s.next ≡ end + 1
      = is_next ∙ ap (λ (a : StringEnd). a.next) (sym last) ∙ finish_none place end (0 + (end - (place + 1))) (ap (λ (a : StringEnd). a.number) last ∙ sym found) in
      let size : s.next - 1 - (place + 1) ≡ plains text (place + 1) = omega arith in
      let content : content_of (quoted_from 0 1 (drop 1 (drop place text))) ≡ plain_run (drop (place + 1) text) ++ content_of (quoted_from 0 end (drop end text))
      = sym (content_inner text place) ∙ over.1 in
      record {
        within = omega (arith, inside);
        same = content ∙ rw (quoted_done text end over.0 h, append-nil (plain_run (drop (place + 1) text)), size, plain_part (drop (place + 1) text));
      }

  -- or an escape, and then the string stands for fewer bytes.
  at_escape : (get_or text end 0 ≡ 0x22 → ⊥) → get_or text end 0 ≡ 0x5C → s.length < s.next - 1 - (place + 1)
  at_escape k h =
      let p : Piece = piece_at (drop end text) in
      let good : is_piece p ≡ true = good_piece text end over.0 k in
      let escape : p ≡ escape_at (drop (end + 1) text) = piece_escape text end h in
      let longer : length (piece_value p) < length (piece_before p [])
      = rw escape (escape_longer (drop (end + 1) text) (true_T (rw escape at good))) in
      let j : ℕ = end + length (piece_before p []) in
      let d : ℕ = 0 + (end - (place + 1)) + length (piece_value p) in
      let rest : string_finish place j d (quoted_from 0 j (drop j text)) ≡ answer = turn text place end (0 + (end - (place + 1))) inside good ∙ run.same in
      omega (arith, is_next, is_size, rw rest at (finish_fits place j d (quoted_from 0 j (drop j text)) (ap (λ (a : StringEnd). a.number) rest ∙ sym found)))

  pub unescaped : s.length ≡ s.next - 1 - (place + 1) → Between
  unescaped h =
      bool_case (eqb (get_or text end 0) 0x22) (λ t. at_quote (eqb-true (get_or text end 0) 0x22 t))
      (λ t. absurd (omega (arith, at_escape (eqb-false (get_or text end 0) 0x22 t) (not_raw (get_or text end 0) t (run.after inside)))))
