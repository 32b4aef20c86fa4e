-- `fit::atom_is_in` meets its contract.
use mathlib.Core.Path.{◌≡◌}
use native.Mathlib.Omega.{arith}
use lib.ListN.{get_or}
use Rattle.std.proofs.lemmas.Grind.{common_steps}
use Rattle.atoms.proofs.Contents.{atom_string, atom_symbol}
use Rattle.atoms.proofs.fit.atom_is_in.Goals as goal

pub returns-then-eq : goal.returns-then-eq
returns-then-eq c = let quote : get_or c.args.text.now c.args.place 0 ≡ 0x22 = grind (arith, common_steps) in
    rw (atom_string c.args.text.now c.args.place quote) c.string_fits.ensures

pub returns : goal.returns
returns c = let other : get_or c.args.text.now c.args.place 0 ≡ 0x22 → ⊥ = λ e. grind (arith, common_steps) in
    rw (atom_symbol c.args.text.now c.args.place other) c.symbol_fits.ensures
