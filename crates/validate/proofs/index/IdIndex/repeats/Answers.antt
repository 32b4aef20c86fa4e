-- `IdIndex::repeats` meets its contract.
use mathlib.Core.Path.{◌≡◌, ◌∙◌, sym, ap}
use mathlib.Core.Bool.{true, false}
use native.Mathlib.Omega.{arith}
use Rattle.document.specs.reference.Check.{holds_id}
use Rattle.validate.specs.internal.TableWords.{key_at, entry_of_node}
use Rattle.validate.specs.internal.IdIndex.{slot_of}
use Rattle.validate.proofs.lemmas.index.BlockIds.{any_block}
use Rattle.validate.proofs.lemmas.index.SlotChains.{entered}
use Rattle.validate.proofs.index.IdIndex.repeats.Goals as goal

pub pass-requires : goal.pass-requires
pass-requires c = (c.requires, sym (any_block _ _ _) ∙ (sym c.has_id.ensures ∙ c.if-not-has_id.true))

pub returns-then-not-has_id : goal.returns-then-not-has_id
returns-then-not-has_id c =
    let now = c.args.self.now in
    let h : holds_id (entry_of_node now.table.nodes.now now.table.pool.now now.count) ≡ false =
    sym (any_block _ _ _) ∙ (sym c.has_id.ensures ∙ c.if-not-has_id.true) in
    (rw h, c.pass.ensures.0, λ e. c.pass.ensures.1)

pub invariant_of-self-clause-indexed : goal.invariant_of-self-clause-indexed
invariant_of-self-clause-indexed c =
    let now = c.args.self.now in
    let h : holds_id (entry_of_node now.table.nodes.now now.table.pool.now now.count) ≡ true =
    sym (any_block _ _ _) ∙ (sym c.has_id.ensures ∙ c.if-not-has_id.false) in
    let q : c.slot-s.result ≡ slot_of (key_at now.table.nodes.now now.table.pool.now now.count) = c.slot-s.ensures.0 ∙ ap slot_of c.key-id.ensures in
    rw q (entered _ _ _ _ _ now.indexed (omega (arith, c.requires, now.few)) h)
