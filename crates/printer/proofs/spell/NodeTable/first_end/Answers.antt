-- `spell::NodeTable::first_end` meets its contract.
use native.Mathlib.Omega.{arith}
use Rattle.printer.proofs.spell.StoredNodes.{first_childless, first_untitled, first_titled, first_ends}
use Rattle.printer.proofs.spell.NodeTable.first_end.Goals as goal

pub returns-then-end-from : goal.returns-then-end-from
returns-then-end-from c = let args = c.args in
    (omega arith, omega arith, first_childless args.self.now.nodes.now args.i args.end c.if-end-from.true)

pub returns-then-not-is_titled : goal.returns-then-not-is_titled
returns-then-not-is_titled c = let args = c.args in
    let word = c.word in
    let is-titled = c.is_titled in (
      omega arith,
      omega arith,
      first_untitled args.self.now.nodes.now args.i args.end word.result is-titled.result word.ensures is-titled.ensures
          (c.if-not-is_titled.true),
    )

pub returns-then-first-from : goal.returns-then-first-from
returns-then-first-from c = let args = c.args in
    let if1 = c.if-end-from in
    let word2 = c.word-first in
    (omega arith, omega arith, first_ends args.self.now.nodes.now args.i args.end word2.result word2.ensures if1.false (λ l g. omega arith))

pub returns-then-end-first : goal.returns-then-end-first
returns-then-end-first c = let args = c.args in
    let if1 = c.if-end-from in
    let word2 = c.word-first in
    (omega arith, omega arith, first_ends args.self.now.nodes.now args.i args.end word2.result word2.ensures if1.false (λ l g. omega arith))

pub returns : goal.returns
returns c = let args = c.args in
    let if1 = c.if-end-from in
    let word = c.word in
    let is-titled = c.is_titled in
    let word2 = c.word-first in (
      omega arith,
      omega arith,
      first_titled args.self.now.nodes.now args.i args.end word.result is-titled.result word2.result word.ensures
          is-titled.ensures (c.if-not-is_titled.false) word2.ensures if1.false,
    )
