-- `run::block_end` meets its contract.
use mathlib.Core.Path.{sym, ◌∙◌}
use Rattle.atoms.proofs.run.PlainRuns.{plain_passed}
use Rattle.atoms.proofs.run.block_end.Goals as goal

pub returns-then-plain_block : goal.returns-then-plain_block
returns-then-plain_block c = plain_passed c.args.text.now c.args.from 8 (sym c.plain_block.ensures ∙ c.if-plain_block.true)
