-- `spell::spelled` meets its contract.
use Rattle.std.proofs.Common.{◌∙◌}
use Rattle.printer.proofs.spell.StoredNodes.{end_word}
use Rattle.printer.proofs.spell.spelled.Goals as goal

pub returns : goal.returns
returns c = (c.spell.ensures.0, λ d parent p s. c.spell.ensures.1 d parent p s (c.word.ensures ∙ end_word d _ _ 0 parent p s))
