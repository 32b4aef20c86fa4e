-- `fill::fill` meets its contract. The loop's invariant: the rows of the entries passed are written.
use mathlib.Core.Path.{◌≡◌, refl, sym, ap, ◌∙◌}
use mathlib.Core.List.{List}
use Prim.Native.Nat.{ℕ}
use native.Mathlib.Omega.{arith}
use lib.ListN.{length}
use Rattle.std.proofs.Common.{rules}
use Rattle.base.specs.rules.Limits.{missing}
use Rattle.reader.specs.internal.Filling.{filling}
use Rattle.reader.proofs.lemmas.fill.Rows.{rows_of, grown_to, rows_on}
use Rattle.reader.proofs.lemmas.tape.AfterWalk.{length_taped}
use Rattle.reader.proofs.lemmas.fill.WholeDocument.{filled_whole}
use Rattle.reader.proofs.fill.fill.Goals as goal

pub loop-node-init : goal.loop-node-init
unfolding rows_of
loop-node-init c = (omega arith, (refl, refl, refl), refl)

pub row-requires : goal.row-requires
row-requires c = let g = grown_to _ _ _ _ _ c.loop-node.invariant.2 in
    record {
      short = omega arith;
      few = omega arith;
      words_within = omega (arith, g.words_long);
      places_within = omega (arith, g.places_long);
      bytes_within = omega (arith, g.bytes_within c.requires.0);
    }

pub loop-node-preserved : goal.loop-node-preserved
loop-node-preserved c = let v = c.loop-node in
    let (_, (a, b, d), is) = v.invariant in
    let (a', b', d') = c.row.ensures.same in
    (omega arith, (a' ∙ a, b' ∙ b, d' ∙ d), rows_on _ _ _ _ _ _ refl is c.row.ensures.row)

by_lent : {l m r : List ℕ} → m ≡ r → l ≡ m → l ≡ r
by_lent e f = f ∙ e

pub returns : goal.returns
returns c = let g = c.args in
    let v = c.loop-node in
    λ e t o f is n.
    let full : length t ≡ 4096 = sym (ap length is ∙ length_taped t 0 missing e) ∙ c.told-tape in
    let (words, places, pool) = filled_whole g.text.now g.tape.now v.node _ (filling v.node v.lent) refl refl (omega arith) v.invariant.2 e t o f full is (omega arith) in
    (by_lent words (search rules), by_lent places (search rules), by_lent pool (search rules))
