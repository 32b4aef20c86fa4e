-- `pieces::escape_at` meets its contract.
use mathlib.Core.Path.{refl, sym, ap, ◌∙◌}
use mathlib.Core.List.{List}
use Prim.Native.Nat.{ℕ, ◌+◌}
use native.Mathlib.Omega.{arith}
use borrow.Author.Tests.{ne_eqb}
use lib.ListN.{drop}
use Rattle.std.specs.Prelude.{Some}
use Rattle.syntax.specs.rules.Syntax.{is_piece, letter_value}
use Rattle.syntax.proofs.Escapes.{later, first_of}
use Rattle.atoms.proofs.PieceAt.{seen_number, no_number, seen_letter, no_letter, no_escape}
use Rattle.atoms.proofs.pieces.escape_at.Goals as goal

pub returns-in_err-get : goal.returns-in_err-get
returns-in_err-get c = c.from_residual.ensures ∙ sym (no_escape c.args.text.now (c.args.place + 1) c.args.place c.in_err-get.ensures.lookup.3)

pub returns-in_err-number_at-in-117 : goal.returns-in_err-number_at-in-117
returns-in_err-number_at-in-117 c = let text : List ℕ = c.args.text.now in
    let place : ℕ = c.args.place in
    let none = rw (later text place 1, later text place 2, later text place 3, later text place 4) at c.in_err-number_at-in-117.ensures in
    c.from_residual-in_err-number_at-in-117.ensures
    ∙ sym (no_number (drop (place + 1) text) place (first_of text (place + 1) ∙ sym (c.in_ok-get.ensures.lookup.3.1 0) ∙ c.in-117.is) none)

pub returns-in_ok-number_at-in-117 : goal.returns-in_ok-number_at-in-117
returns-in_ok-number_at-in-117 c = let text : List ℕ = c.args.text.now in
    let place : ℕ = c.args.place in
    let value = rw (later text place 1, later text place 2, later text place 3, later text place 4) at c.in_ok-number_at-in-117.ensures in
    ap Some c.encoded.ensures
    ∙ sym (seen_number (drop (place + 1) text) place _ (first_of text (place + 1) ∙ sym (c.in_ok-get.ensures.lookup.3.1 0) ∙ c.in-117.is) value)

pub returns-in-114 : goal.returns-in-114
unfolding is_piece letter_value
returns-in-114 c =
    ap Some c.one.ensures
    ∙ sym (seen_letter (drop (c.args.place + 1) c.args.text.now) c.args.place 0x72
    (first_of c.args.text.now (c.args.place + 1) ∙ sym (c.in_ok-get.ensures.lookup.3.1 0) ∙ c.in-114.is) (λ k. omega arith) refl)

pub returns-in-110 : goal.returns-in-110
unfolding is_piece letter_value
returns-in-110 c =
    ap Some c.one-in-110.ensures
    ∙ sym (seen_letter (drop (c.args.place + 1) c.args.text.now) c.args.place 0x6E
    (first_of c.args.text.now (c.args.place + 1) ∙ sym (c.in_ok-get.ensures.lookup.3.1 0) ∙ c.in-110.is) (λ k. omega arith) refl)

pub returns-in-116 : goal.returns-in-116
unfolding is_piece letter_value
returns-in-116 c =
    ap Some c.one-in-116.ensures
    ∙ sym (seen_letter (drop (c.args.place + 1) c.args.text.now) c.args.place 0x74
    (first_of c.args.text.now (c.args.place + 1) ∙ sym (c.in_ok-get.ensures.lookup.3.1 0) ∙ c.in-116.is) (λ k. omega arith) refl)

pub returns-in-34 : goal.returns-in-34
unfolding is_piece letter_value
returns-in-34 c =
    ap Some c.one-in-34.ensures
    ∙ sym (seen_letter (drop (c.args.place + 1) c.args.text.now) c.args.place 0x22
    (first_of c.args.text.now (c.args.place + 1) ∙ sym (c.in_ok-get.ensures.lookup.3.1 0) ∙ c.in-34.is) (λ k. omega arith) refl)

pub returns-in_default : goal.returns-in_default
unfolding is_piece
returns-in_default c = let l : ℕ = c.in_ok-get.field-0.now in
    sym (no_letter (drop (c.args.place + 1) c.args.text.now) c.args.place l
    (first_of c.args.text.now (c.args.place + 1) ∙ sym (c.in_ok-get.ensures.lookup.3.1 0)) (λ e. omega arith)
    (rw (ne_eqb l 0x72 (λ e. omega arith), ne_eqb l 0x6E (λ e. omega arith), ne_eqb l 0x74 (λ e. omega arith), ne_eqb l 0x22 (λ e. omega arith))))
