-- `open::OpenBrackets::depth` meets its contract.
use mathlib.Core.Path.{ap}
use native.Mathlib.Omega.{arith}
use lib.ListN.{length}
use Rattle.std.proofs.lemmas.List.{length-take}
use Rattle.lexer.proofs.open.OpenBrackets.depth.Goals as goal

pub returns : goal.returns
returns c = let s = c.self.inside in omega (arith, ap length c.self.view_is, length-take s.depth s.open)
