-- `IdIndex::known` meets its contract. The loop's invariant: what is known among the first `j` nodes is what is known at all.
use Prim.Native.Nat.{◌-◌}
use Rattle.std.proofs.Common.{rules}
use mathlib.Core.Path.{◌≡◌, ◌∙◌, sym, ap}
use Rattle.elements.specs.rules.Bytes.{same}
use Rattle.document.specs.reference.Check.{is_among}
use Rattle.validate.specs.internal.TableWords.{ids_before}
use Rattle.validate.proofs.lemmas.index.BlockIds.{equal_same, known_here, known_other, known_none, known_end}
use Rattle.validate.proofs.lemmas.index.SlotChains.{left_first, left_next, next_below}
use Rattle.validate.proofs.index.IdIndex.known.Goals as goal
use Rattle.validate.proofs.index.IdIndex.known.Goals.{in_default-via-in-Some+else-eq, in_default-via-in-None-1}

pub loop-j-init : goal.loop-j-init
loop-j-init c = left_first _ _ _ _ _ _ _ c.args.self.now.indexed c.requires.0

pub returns-in-loop-j : goal.returns-in-loop-j
returns-in-loop-j c =
    sym (known_here _ _ _ _ _ c.loop-j-test.true c.in-Some.ensures.0
    (sym (ap (same _) c.in-Some.ensures.1) ∙ (sym (equal_same _ _ c.eq.ensures) ∙ c.if-eq.true)))
    ∙ c.loop-j.invariant.among

pub loop-j-smaller : goal.loop-j-smaller
loop-j-smaller c = next_below _ _ _ _ _ _ _ c.args.self.now.indexed _ c.loop-j-test.true c.loop-j.invariant

pub loop-j-preserved : goal.loop-j-preserved
loop-j-preserved c =
    let words = c.args.self.now.table.nodes.now in
    let bytes = c.args.self.now.table.pool.now in
    let id = c.args.id.now in
    let target = c.args.target in
    let j = c.loop-j.j in
    let below = c.loop-j-test.true in
    let e : is_among id (ids_before words bytes target (j - 1)) ≡ is_among id (ids_before words bytes target j) =
    elim c.in_default.branch [
      | in_default-via-in-Some+else-eq w ↦ known_other words bytes id target j below w.in-Some.ensures.0
          (sym (ap (same id) w.in-Some.ensures.1) ∙ (sym (equal_same _ _ w.eq.ensures) ∙ w.if-eq.false))
      | in_default-via-in-None-1 w ↦ known_none words bytes id target j below (search rules)
    ] in
    left_next _ _ _ _ _ _ _ c.args.self.now.indexed _ below c.loop-j.invariant e

pub returns : goal.returns
returns c = sym (known_end _ _ _ _ _ c.loop-j-test.false) ∙ c.loop-j.invariant.among
