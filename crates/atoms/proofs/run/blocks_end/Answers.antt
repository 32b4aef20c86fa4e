-- `run::blocks_end` meets its contract. The loop's invariant: from `i` on the run ends where it ends from `from` on.
use mathlib.Core.Path.{refl, sym, ◌∙◌}
use borrow.Author.Rules.{rules}
use Rattle.atoms.proofs.run.PlainRuns.{plain_passed}
use Rattle.atoms.proofs.run.blocks_end.Goals as goal

pub loop-i-init : goal.loop-i-init
loop-i-init c = (search rules, refl)

pub loop-i-preserved : goal.loop-i-preserved
loop-i-preserved c = (
  search rules,
  plain_passed c.args.text.now c.loop-i.i 16
      (sym c.plain_block.ensures ∙ c.if-not-plain_block.false) ∙ c.loop-i.invariant.1,
)
