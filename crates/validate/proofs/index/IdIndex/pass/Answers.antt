-- `IdIndex::pass` meets its contract.
use native.Mathlib.Omega.{arith}
use Rattle.validate.proofs.lemmas.index.SlotChains.{no_id}
use Rattle.validate.proofs.index.IdIndex.pass.Goals as goal

pub invariant_of-self-clause-indexed : goal.invariant_of-self-clause-indexed
invariant_of-self-clause-indexed c = no_id _ _ _ _ _ c.args.self.now.indexed (omega (arith, c.requires.0, c.args.self.now.few)) c.requires.1
