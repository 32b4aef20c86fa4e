-- `stores::put_runs` meets its contract. The loop's invariant is `ContentSoFar`.
use mathlib.Core.Path.{◌≡◌, refl, sym, ◌∙◌}
use native.Mathlib.Omega.{arith}
use lib.ListN.{get_or}
use Rattle.std.proofs.lemmas.Grind.{common_steps}
use Rattle.atoms.proofs.Contents.{string_inside, content_start, content_run, quoted_over, quoted_inside, quoted_some, content_turn, content_done}
use Rattle.atoms.proofs.stores.put_runs.Goals as goal

pub overflow_add-i : goal.overflow_add-i
overflow_add-i c = omega (arith, string_inside c.args.text.now c.args.place _ refl c.requires)

pub loop-place-init : goal.loop-place-init
loop-place-init c = (
  refl,
  content_start c.args.text.now c.args.place _ refl c.requires
      c.args.out.now c.args.at,
)

pub slice_bounds-put_run-end : goal.slice_bounds-put_run-end
slice_bounds-put_run-end c = let over = quoted_over c.args.text.now c.loop-place.i c.loop-place.invariant.1.ends
    c.plain_end-end.result c.plain_end-end.ensures in
    omega (arith, quoted_inside c.args.text.now c.plain_end-end.result over.0)

pub overflow_add-k : goal.overflow_add-k
overflow_add-k c =
    let args = c.args in
    let loop = c.loop-place in
    let end = c.plain_end-end in
    let after_run = content_run args.text.now args.place args.out.now args.at loop.out loop.i loop.k loop.invariant.1 _ end.result end.ensures c.put_run.ensures in
    omega (arith, after_run.fits)

pub returns-then-eq : goal.returns-then-eq
returns-then-eq c =
    let args = c.args in
    let loop = c.loop-place in
    let end = c.plain_end-end in
    let quote : get_or args.text.now end.result 0 ≡ 0x22 = grind (arith, common_steps) in
    let after_run = content_run args.text.now args.place args.out.now args.at loop.out loop.i loop.k loop.invariant.1 _ end.result end.ensures c.put_run.ensures in
    content_done args.text.now args.place args.out.now args.at _ _ _ after_run quote

pub unwrap-p-requires : goal.unwrap-p-requires
unwrap-p-requires c =
    let args = c.args in
    let loop = c.loop-place in
    let end = c.plain_end-end in
    let other : get_or args.text.now end.result 0 ≡ 0x22 → ⊥ = λ e. grind (arith, common_steps) in
    let after_run = content_run args.text.now args.place args.out.now args.at loop.out loop.i loop.k loop.invariant.1 _ end.result end.ensures c.put_run.ensures in
    quoted_some args.text.now end.result after_run.ends other c.piece.result c.piece.ensures

pub put_piece-requires : goal.put_piece-requires
put_piece-requires c =
    let args = c.args in
    let loop = c.loop-place in
    let end = c.plain_end-end in
    let after_run = content_run args.text.now args.place args.out.now args.at loop.out loop.i loop.k loop.invariant.1 _ end.result end.ensures c.put_run.ensures in
    omega (arith, after_run.fits, quoted_inside args.text.now end.result after_run.ends)

pub overflow_add-k-in-loop-place : goal.overflow_add-k-in-loop-place
overflow_add-k-in-loop-place c =
    let args = c.args in
    let loop = c.loop-place in
    let end = c.plain_end-end in
    let after_run = content_run args.text.now args.place args.out.now args.at loop.out loop.i loop.k loop.invariant.1 _ end.result end.ensures c.put_run.ensures in
    let other : get_or args.text.now end.result 0 ≡ 0x22 → ⊥ = λ e. grind (arith, common_steps) in
    let seen = c.unwrap-p.ensures in
    let turn = content_turn args.text.now args.place args.out.now args.at _ _ _ after_run other _ c.unwrap-p.result
    (sym seen ∙ c.piece.ensures (quoted_inside args.text.now end.result after_run.ends)) c.put_piece.ensures in
    omega (arith, turn.1, turn.2.fits)

pub loop-place-smaller : goal.loop-place-smaller
loop-place-smaller c =
    let args = c.args in
    let loop = c.loop-place in
    let end = c.plain_end-end in
    let after_run = content_run args.text.now args.place args.out.now args.at loop.out loop.i loop.k loop.invariant.1 _ end.result end.ensures c.put_run.ensures in
    let other : get_or args.text.now end.result 0 ≡ 0x22 → ⊥ = λ e. grind (arith, common_steps) in
    let seen = c.unwrap-p.ensures in
    let turn = content_turn args.text.now args.place args.out.now args.at _ _ _ after_run other _ c.unwrap-p.result
    (sym seen ∙ c.piece.ensures (quoted_inside args.text.now end.result after_run.ends)) c.put_piece.ensures in
    omega (arith, end.ensures, turn.0, turn.1)

pub loop-place-preserved : goal.loop-place-preserved
loop-place-preserved c =
    let args = c.args in
    let loop = c.loop-place in
    let end = c.plain_end-end in
    let after_run = content_run args.text.now args.place args.out.now args.at loop.out loop.i loop.k loop.invariant.1 _ end.result end.ensures c.put_run.ensures in
    let other : get_or args.text.now end.result 0 ≡ 0x22 → ⊥ = λ e. grind (arith, common_steps) in
    let seen = c.unwrap-p.ensures in
    let turn = content_turn args.text.now args.place args.out.now args.at _ _ _ after_run other _ c.unwrap-p.result
    (sym seen ∙ c.piece.ensures (quoted_inside args.text.now end.result after_run.ends)) c.put_piece.ensures in
    (c.put_piece.auto.out ∙ c.put_run.auto.out ∙ loop.invariant.0, turn.2)
