-- `run::plain` meets its contract.
use mathlib.Core.Path.{◌≡◌, refl}
use mathlib.Core.Bool.{Bool, true, false, not, ◌&&◌, ◌||◌}
use lib.Dec.{eqb}
use Rattle.syntax.specs.rules.Byte.{is_raw}
use Rattle.atoms.proofs.run.plain.Goals as goal

neither : (a b : Bool) → not a && not b ≡ not (a || b)
neither true b = refl
neither false b = refl

pub returns : goal.returns
unfolding is_raw
returns c = neither (eqb c.args.b 0x22) (eqb c.args.b 0x5C)
