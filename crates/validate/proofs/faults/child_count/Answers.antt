-- `validate::child_count` meets its contract. The loop's invariant: `n` and the children from `at` on are as many as the children.
use native.Mathlib.Omega.{arith}
use Rattle.validate.proofs.lemmas.faults.Children.{counted_on, counted_end}
use Rattle.validate.proofs.faults.child_count.Goals as goal

pub returns-then-next-at : goal.returns-then-next-at
returns-then-next-at c = let args = c.args in
    let word = c.word-end in
    let loop = c.loop-at in
    let loop-test = c.loop-at-test in
    let word2 = c.word-next in
    λ ns f.
    let (l, r) = counted_on args.nodes.now args.i word.result ns loop.at loop.n (loop.invariant.1 ns f) loop-test.true in
    absurd (omega (arith, l, word2.ensures))

pub loop-at-preserved : goal.loop-at-preserved
loop-at-preserved c = let args = c.args in
    let word = c.word-end in
    let loop = c.loop-at in
    let loop-test = c.loop-at-test in
    let word2 = c.word-next in (
      omega arith,
      λ ns f.
          rw word2.ensures
          (counted_on args.nodes.now args.i word.result ns loop.at loop.n (loop.invariant.1 ns f) loop-test.true).1,
    )

pub returns : goal.returns
returns c = let args = c.args in
    let word = c.word-end in
    let loop = c.loop-at in
    λ ns f. counted_end args.nodes.now args.i word.result ns loop.at loop.n (loop.invariant.1 ns f) (omega arith)
