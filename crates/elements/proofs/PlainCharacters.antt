-- The ranges of `Characters` are the characters written out in `specs/examples/PlainCharacters.antt`, by computation over all 256 bytes.
use Prim.Native.Nat.{ℕ}
use Prim.Native.String.{String}
use mathlib.Core.Bool.{Bool, ◌&&◌}
use lib.Dec.{T}
use Rattle.base.proofs.Tables.{below, alike}
use Rattle.elements.specs.rules.Bytes.{codes, among}
use Rattle.elements.specs.rules.Characters.{is_digit, is_letter, type_character, id_character, uri_character, character_of}
use Rattle.elements.specs.examples.PlainCharacters.{of_digit, of_type, of_id, of_uri}

abbrev written : (ℕ → Bool) → String → ℕ → Bool
written test s b = alike (test b) (among b (codes s))

pub digit_characters : T (below (written is_digit of_digit) 256)
unfolding is_digit of_digit among codes
digit_characters = tt

-- Types, by the definition and by the number 0 of its sort.
pub type_characters : T (below (λ b. written type_character of_type b && written (character_of 0) of_type b) 256)
unfolding is_digit is_letter type_character character_of of_type among codes
type_characters = tt

-- Ids, and targets that name a block: sort 1.
pub id_characters : T (below (λ b. written id_character of_id b && written (character_of 1) of_id b) 256)
unfolding is_digit is_letter type_character id_character character_of of_id among codes
id_characters = tt

-- URIs: sort 2.
pub uri_characters : T (below (λ b. written uri_character of_uri b && written (character_of 2) of_uri b) 256)
unfolding uri_character character_of of_uri among codes
uri_characters = tt
