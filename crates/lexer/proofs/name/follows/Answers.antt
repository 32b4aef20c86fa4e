-- `name::follows` meets its contract, one byte more at a time.
use mathlib.Core.Path.{sym, ◌∙◌}
use native.Mathlib.Omega.{arith}
use Rattle.lexer.proofs.Names.{word_start, word_turn, word_done}
use Rattle.lexer.proofs.name.follows.Goals as goal

pub loop-k-init : goal.loop-k-init
loop-k-init c = word_start _ _ _

pub loop-k-preserved : goal.loop-k-preserved
loop-k-preserved c = let args = c.args in
    let loop = c.loop-k in
    word_turn args.text.now args.i args.word.now loop.k loop.same (omega arith) (omega arith) ∙ loop.invariant

pub returns : goal.returns
returns c = sym (word_done _ _ _ c.loop-k.k _ (omega arith)) ∙ c.loop-k.invariant
