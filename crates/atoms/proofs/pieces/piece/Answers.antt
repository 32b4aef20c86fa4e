-- `pieces::piece` meets its contract.
use mathlib.Core.Path.{◌≡◌, sym, ap, ◌∙◌}
use Prim.Native.Nat.{ℕ}
use native.Mathlib.Omega.{arith}
use borrow.Author.Tests.{ne_eqb}
use lib.ListN.{get_or}
use Rattle.std.specs.Prelude.{Some}
use Rattle.syntax.specs.rules.Byte.{is_raw}
use Rattle.syntax.specs.rules.Syntax.{is_piece, piece_before, piece_value}
use Rattle.atoms.specs.internal.PieceSeen.{piece_stands}
use Rattle.atoms.proofs.PieceAt.{seen_good, seen_none, piece_escape, piece_raw, raw_piece}
use Rattle.atoms.proofs.pieces.piece.Goals as goal

pub returns-in-92 : goal.returns-in-92
returns-in-92 c inside = rw (piece_escape _ _ (sym (c.in_ok-b.ensures.lookup.3.1 0) ∙ c.in-92.is)) c.escape_at.ensures

pub returns-in-34 : goal.returns-in-34
unfolding is_piece is_raw
returns-in-34 c inside =
    let quote : get_or c.args.text.now c.args.place 0 ≡ 0x22 = sym (c.in_ok-b.ensures.lookup.3.1 0) ∙ c.in-34.is in
    let other : get_or c.args.text.now c.args.place 0 ≡ 0x5C → ⊥ = λ e. omega arith in
    rw (piece_raw _ _ other) (sym (seen_none _ _ (rw quote)))

pub returns-in_default : goal.returns-in_default
unfolding piece_before piece_value piece_stands
returns-in_default c inside =
    let b : ℕ = get_or c.args.text.now c.args.place 0 in
    let byte : c.in_ok-b.field-0.now ≡ b = c.in_ok-b.ensures.lookup.3.1 0 in
    let other : b ≡ 0x5C → ⊥ = λ e. omega arith in
    rw (piece_raw _ _ other)
    (ap Some c.one.ensures ∙ rw byte (sym (seen_good _ _ (raw_piece b (ne_eqb b 0x22 (λ e. omega arith)) (ne_eqb b 0x5C other)))))
