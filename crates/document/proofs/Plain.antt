-- The definitions of `Value` and `Canonical` agree with the plain tables and examples of `specs/examples/Plain.antt`, by computation.
use Prim.Native.Nat.{ℕ}
use mathlib.Core.Path.{◌≡◌, refl}
use mathlib.Core.Bool.{Bool, ◌&&◌}
use mathlib.Core.List.{map}
use lib.Dec.{T}
use Rattle.base.proofs.Tables.{every, below, alike}
use Rattle.utf8.specs.examples.Quoted.{utf8_of, of_bytes}
use Rattle.elements.specs.rules.Bytes.{among}
use Rattle.document.specs.rules.Value.{names_block, target_character}
use Rattle.document.specs.rules.Spelling.{holds_text, is_block_parameter}
use Rattle.document.specs.examples.Plain.{naming_blocks, Target, targets, holding_texts, of_blocks, Valued, values, valued, Digits, digits, number_in, Size, sizes, sized, spelled_of, spelled_as}
use Rattle.document.proofs.Compute.{computes}

-- The classes 0 to 32 that name a block by their target, that hold one text, and that are a command's parameters.
abbrev as_listed : ℕ → Bool
as_listed c =
    alike (names_block c) (among c naming_blocks) && alike (holds_text c) (among c holding_texts) && alike (is_block_parameter c) (among c of_blocks)

pub classes_listed : T (below as_listed 33)
unfolding computes naming_blocks holding_texts of_blocks
classes_listed = tt

-- The characters of a target, for each kind that has one, over all 256 bytes.
abbrev as_written : Target → Bool
as_written t = every (λ k. below (λ b. alike (target_character k b) (among b t.characters)) 256) t.kinds

pub target_characters : T (every as_written targets)
unfolding computes targets
target_characters = tt

pub values_judged : map valued values ≡ map (λ (v : Valued). v.allowed) values
unfolding computes utf8_of values valued
values_judged = refl

pub digits_read : map number_in digits ≡ map (λ (d : Digits). d.number) digits
unfolding computes utf8_of digits number_in
digits_read = refl

pub sizes_judged : map sized sizes ≡ map (λ (s : Size). s.allowed) sizes
unfolding computes sizes sized
sizes_judged = refl

-- The canonical spelling of each byte of a string.
pub bytes_spelled : of_bytes spelled_of ≡ of_bytes spelled_as
unfolding computes of_bytes spelled_of spelled_as
bytes_spelled = refl
