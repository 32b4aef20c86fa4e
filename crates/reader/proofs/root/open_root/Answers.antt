-- `open_root` meets its contract: what is seen first in the text is the root, and no place of it is past the text's end.
use native.Mathlib.Omega.{arith}
use mathlib.Core.Path.{refl}
use mathlib.Core.Logic.{⊎_elim}
use Rattle.reader.specs.internal.WalkAnswer.{walked_to}
use Rattle.reader.specs.internal.Walks.{no_expression, no_document, stuck}
use Rattle.reader.proofs.lemmas.walk.SeenExpressions.{seen_bounds}
use Rattle.reader.proofs.root.open_root.Goals as goal

pub returns-then-root-eq-THE_END : goal.returns-then-root-eq-THE_END
unfolding walked_to
returns-then-root-eq-THE_END c = no_expression (omega arith) refl

pub returns-then-root-ne-DOCUMENT : goal.returns-then-root-ne-DOCUMENT
unfolding walked_to
returns-then-root-ne-DOCUMENT c =
    ⊎_elim
    (λ d. no_document (λ e. omega arith) (λ e. omega arith) (cc))
    (λ d. stuck (λ e. omega arith) (omega (arith, d.1)) (cc))
    c.then-root-ne-DOCUMENT.either

pub enter-requires : goal.enter-requires
enter-requires c =
    let b = seen_bounds c.args.text.now 0 (omega arith) in
    (omega (arith, b.place_within, c.requires), omega arith, omega arith)
