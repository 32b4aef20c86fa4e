-- `Alphabet::from` meets its contract: the number decides.
use native.Mathlib.Omega.{arith}
use borrow.Author.Tests.{ne_eqb}
use Rattle.elements.specs.rules.Characters.{character_of}
use Rattle.characters.specs.Codes.{alphabet_number}
use Rattle.characters.proofs.values.AlphabetFromU8.from.Goals as goal

pub returns-in-0 : goal.returns-in-0
unfolding alphabet_number
returns-in-0 c = λ b. rw c.in-0.is

pub returns-in-1 : goal.returns-in-1
unfolding alphabet_number
returns-in-1 c = λ b. rw c.in-1.is

pub returns-in_default : goal.returns-in_default
unfolding character_of alphabet_number
returns-in_default c = λ b. rw (ne_eqb c.args.sort 0 (omega arith), ne_eqb c.args.sort 1 (omega arith))
