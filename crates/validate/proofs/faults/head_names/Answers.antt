-- `validate::head_names` meets its contract. The loop's invariant: the first head among the children from `at` on is that of all.
use mathlib.Core.Path.{◌∙◌, sym}
use native.Mathlib.Omega.{arith}
use Rattle.validate.specs.internal.TableWords.{cells_found}
use Rattle.validate.proofs.lemmas.faults.Children.{sought_head, sought_on, sought_end}
use Rattle.validate.proofs.faults.head_names.Goals as goal

pub returns-then-word-eq-HEAD : goal.returns-then-word-eq-HEAD
unfolding cells_found
returns-then-word-eq-HEAD c = let loop = c.loop-at in
    let loop-test = c.loop-at-test in
    let word2 = c.word in
    let if2 = c.if-word-eq-HEAD in
    λ ns f.
    let (ms, g, e) = sought_head _ _ _ ns _ (loop.invariant ns f) loop-test.true (sym word2.ensures ∙ if2.true) in
    rw (e, c.child_count.ensures ms g)

pub returns-then-next-at : goal.returns-then-next-at
returns-then-next-at c = let loop = c.loop-at in
    let loop-test = c.loop-at-test in
    let word2 = c.word in
    let if2 = c.if-word-eq-HEAD in
    let word3 = c.word-next in
    λ ns f. absurd (omega (arith, (sought_on _ _ _ ns _ (loop.invariant ns f) loop-test.true (λ k. if2.false (word2.ensures ∙ k))).0, word3.ensures))

pub loop-at-preserved : goal.loop-at-preserved
loop-at-preserved c = let loop = c.loop-at in
    let loop-test = c.loop-at-test in
    let word2 = c.word in
    let if2 = c.if-word-eq-HEAD in
    let word3 = c.word-next in
    λ ns f. rw word3.ensures (sought_on _ _ _ ns _ (loop.invariant ns f) loop-test.true (λ k. if2.false (word2.ensures ∙ k))).1

pub returns : goal.returns
unfolding cells_found
returns c = let loop = c.loop-at in
    λ ns f. rw (sought_end _ _ _ ns _ (loop.invariant ns f) (omega arith))
