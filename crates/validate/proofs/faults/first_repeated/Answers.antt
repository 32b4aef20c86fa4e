-- `faults::first_repeated` meets its contract.
use Prim.Native.Nat.{◌+◌, ◌-◌}
use mathlib.Core.Path.{◌≡◌, ◌∙◌, refl, sym, ap}
use mathlib.Core.Bool.{false}
use native.Mathlib.Omega.{arith}
use Rattle.validate.specs.internal.TableWords.{ids_before, repeats_at, found}
use Rattle.validate.proofs.lemmas.index.BlockIds.{above_id, repeated_here, repeated_on, repeated_end}
use Rattle.validate.proofs.faults.first_repeated.Goals as goal
use Rattle.validate.proofs.faults.first_repeated.Goals.{then-nodes-i-gt-FOOTNOTE, else-nodes-i-gt-FOOTNOTE+else-repeats}

pub loop-i-init : goal.loop-i-init
unfolding ids_before
loop-i-init c =
    let count = c.args.index.now.table.count in
    let e : count - 0 ≡ count = omega arith in
    (refl, c.requires, rw e)

pub pass-requires : goal.pass-requires
pass-requires c =
    let (table, count, rest) = c.loop-i.invariant in
    (rw (table, count) c.loop-i-test.true, rw (table, count) (above_id _ _ _ c.if-nodes-i-gt-FOOTNOTE.true))

pub returns-then-repeats : goal.returns-then-repeats
unfolding found
returns-then-repeats c =
    let (table, count, rest) = c.loop-i.invariant in
    let e = rw (table, count) at c.repeats.ensures.0 in
    (ap found (sym (repeated_here _ _ _ _ c.loop-i-test.true (sym e ∙ c.if-repeats.true)) ∙ rest), c.repeats.ensures.1 ∙ table, λ e. cc)

pub loop-i-preserved : goal.loop-i-preserved
loop-i-preserved c =
    let was = c.args.index.now.table in
    let i = c.loop-i.i in
    let now = c.if-nodes-i-gt-FOOTNOTE.index in
    let (table, count, rest) = c.loop-i.invariant in
    let turn : (now.table ≡ was) × (now.count ≡ i + 1) × (repeats_at was.nodes.now was.pool.now i ≡ false) =
    elim c.if-nodes-i-gt-FOOTNOTE.branch [
      | then-nodes-i-gt-FOOTNOTE w ↦ (
        rw w.index-is (w.pass.ensures.0 ∙ table),
        rw w.index-is (w.pass.ensures.1 ∙ ap (λ n. n + 1) count),
        rw (above_id was.nodes.now was.pool.now i w.if-nodes-i-gt-FOOTNOTE.true),
      )
      | else-nodes-i-gt-FOOTNOTE+else-repeats w ↦ (
        rw w.index-is (w.repeats.ensures.1 ∙ table),
        rw w.index-is (w.repeats.ensures.2 w.if-repeats.false ∙ ap (λ n. n + 1) count),
        sym (rw (table, count) at w.repeats.ensures.0) ∙ w.if-repeats.false,
      )
    ] in
    (turn.0, turn.1, repeated_on _ _ _ _ c.loop-i-test.true turn.2 ∙ rest)

pub returns : goal.returns
unfolding found
returns c =
    let (table, count, rest) = c.loop-i.invariant in
    (ap found (sym (repeated_end _ _ _ _ _ c.loop-i-test.false) ∙ rest), table, λ q. omega (arith, count, c.loop-i-test.false))
