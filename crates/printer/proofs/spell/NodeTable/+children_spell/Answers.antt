-- `spell::NodeTable::children` and `spell::NodeTable::spell` meet their contracts.
use Rattle.std.proofs.Common.{rules, arith}
use Rattle.printer.proofs.put.Appending.{adds_whole}
use Rattle.printer.proofs.spell.NodeSpelled.{none_spelled, text_spelled, element_spelled}
use Rattle.printer.proofs.spell.Siblings.{upto_start, upto_done, upto_never, upto_turn}
use Rattle.printer.proofs.spell.NodeTable.+children_spell.Goals as goal

pub children-loop-i-init : goal.children-loop-i-init
children-loop-i-init t c = (search rules, upto_start _ _ _ _ _)

pub children-returns-then-next-i : goal.children-returns-then-next-i
children-returns-then-next-i t c =
    upto_never _ _ _ _ _ _ _ _ c.loop-i.invariant.1 c.loop-i-test.true c.word-next.ensures (λ l g. omega (arith, c.if-next-i.true))

pub children-returns-then-end-next : goal.children-returns-then-end-next
children-returns-then-end-next t c =
    upto_never _ _ _ _ _ _ _ _ c.loop-i.invariant.1 c.loop-i-test.true c.word-next.ensures (λ l g. omega (arith, c.if-end-next.true))

pub children-loop-i-preserved : goal.children-loop-i-preserved
children-loop-i-preserved t c = (
  omega (arith, c.loop-i.invariant.0, c.if-next-i.false),
  upto_turn _ _ _ _ _ _ _ _ _ _ _ c.loop-i.invariant.1 c.loop-i-test.true c.word-next.ensures c.byte.ensures.appends
      (search rules) c.spell-size.ensures.1 (search rules) (search rules) (search rules),
)

pub children-returns : goal.children-returns
children-returns t c = upto_done _ _ _ _ _ _ _ c.loop-i.invariant.1 c.loop-i-test.false

pub spell-returns-then-end-i : goal.spell-returns-then-end-i
spell-returns-then-end-i t c = (search rules, none_spelled _ _ _ _ _ _ _ c.if-end-i.true)

pub spell-returns-then-kind : goal.spell-returns-then-kind
spell-returns-then-kind t c =
    let text = text_spelled _ _ _ _ _ _ _ _ c.word-kind.ensures c.if-kind.true c.string.ensures c.quoted.ensures.appends in (
      search rules,
      λ d parent p s e h.
          let written = text d parent p s e in
          let same = written.same_output in
          adds_whole written.adds h (search rules),
    )

pub spell-returns : goal.spell-returns
spell-returns t c =
    let element = element_spelled _ _ _ _ _ _ _ c.word-kind.ensures c.if-kind.false c.first_end-first.ensures.2 c.byte.ensures.appends c.name.ensures
    c.children.ensures c.values.ensures c.children-2.ensures c.byte-2.ensures.appends in (
      search rules,
      λ d parent p s e h.
          let written = element d parent p s e in
          let same = written.same_output in
          adds_whole written.adds h (search rules),
    )
