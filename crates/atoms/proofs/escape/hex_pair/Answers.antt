-- `escape::hex_pair` meets its contract.
use mathlib.Core.Path.{◌∙◌}
use Rattle.atoms.proofs.escape.HexValues.{no_high, no_low}
use Rattle.atoms.proofs.escape.hex_pair.Goals as goal

pub returns-in_err-get : goal.returns-in_err-get
returns-in_err-get c = c.from_residual.ensures ∙ no_high _ _ _ c.in_err-get.ensures.lookup.3

pub returns-in_err-get-2 : goal.returns-in_err-get-2
returns-in_err-get-2 c = c.from_residual-in_err-get-2.ensures ∙ no_low _ _ _ c.in_err-get-2.ensures.lookup.3
