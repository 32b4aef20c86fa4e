-- `values::state_after` meets its contract: the step's numbers decide.
use Prim.Native.Nat.{ℕ}
use mathlib.Core.Path.{◌≡◌, sym}
use borrow.Author.Tests.{ne_eqb}
use Rattle.std.specs.Prelude.{Result, Ok, Err, MatchOption}
use Rattle.std.specs.Result.{result_ok}
use Rattle.base.specs.Refusals.{number}
use Rattle.base.specs.declared.refusal.Refusal.{Refusal}
use Rattle.base.proofs.Refusals.{number_some}
use Rattle.elements.specs.rules.Inside.{Step, go, bad}
use Rattle.inside.specs.Machine.{state_of, step_of, fault_number, state_number}
use Rattle.validate.proofs.values.state_after.Goals as goal

by_step : (k : ℕ) (s : Step) (r : Result ℕ Refusal) → step_of k (fault_number r) (state_number r) ≡ s
    → MatchOption (result_ok r) ((f : ℕ) × (s ≡ bad f)) (λ n. s ≡ go (state_of k n))
unfolding step_of
by_step k s (Ok n) e = sym e
by_step k s (Err f) e = (number f, sym (rw (ne_eqb (number f) 0 (number_some f)) at e))

pub returns : goal.returns
returns c = rw c.ok.ensures.value (by_step _ _ _ c.step.ensures.stands)
