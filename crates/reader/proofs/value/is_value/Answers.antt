-- `is_value` meets its contract: each way out is one law of `TextValues`.
use native.Mathlib.Omega.{arith}
use Rattle.characters.specs.Codes.{alphabet_number}
use Rattle.reader.proofs.lemmas.value.TextValues.{value_id, value_type, value_target, value_none}
use Rattle.reader.proofs.value.is_value.Goals as goal

pub returns-in-26 : goal.returns-in-26
unfolding alphabet_number
returns-in-26 c = value_id _ _ _ _ c.in-26.is c.atom_is_in.ensures

pub returns-in-27 : goal.returns-in-27
unfolding alphabet_number
returns-in-27 c = value_type _ _ _ _ c.in-27.is c.atom_is_in-in-27.ensures

pub returns-in-28 : goal.returns-in-28
returns-in-28 c = value_target _ _ _ _ _ c.in-28.is c.target_sort.ensures c.atom_is_in-in-28.ensures

pub returns-in_default : goal.returns-in_default
returns-in_default c = value_none _ _ _ (λ e. omega arith) (λ e. omega arith) (λ e. omega arith)
