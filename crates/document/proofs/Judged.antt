-- Each example of `specs/examples/Judged.antt`, `specs/examples/Outcomes.antt` and `specs/examples/Printing.antt` has what is beside it, by computation: the whole outcome,
-- or the answer alone (number, place, line, column and both counts).
use mathlib.Core.Path.{◌≡◌, refl}
use mathlib.Core.List.{List, map}
use Rattle.utf8.specs.examples.Quoted.{utf8_of}
use Rattle.document.specs.examples.Expected.{numbers, lent_memory, row, bare, keyed, typed, texts, joined, leaves, pair_outcome, Whole, left, left_by_read}
use Rattle.document.specs.examples.Judged.{titled_A, untitled, same_id_twice, link_to_nowhere, listed, Example, examples, settlements, open_points, answered}
use Rattle.document.specs.examples.Judged.{room, Lent, memory_of, read_into, short_of_room, Tidied, printable, paper, printed_from, read_in, spelled_out}
use Rattle.document.specs.examples.Outcomes.{outcomes, drafts, id_behind_type, escaped_by_number, images_and_a_link, table_and_list}
use Rattle.document.specs.examples.Outcomes.{two_spellings, row_too_short, id_again, link_on_line_3, reference_to_a_section}
use Rattle.document.specs.examples.Printing.{Print, printed_as, blank, escaped, prints}
use Rattle.document.proofs.Compute.{computes}

-- Opens how an outcome is written down.
unfoldable written_down : Unit {0}
unfolding utf8_of numbers lent_memory row bare keyed typed texts joined leaves pair_outcome left left_by_read
written_down = tt

abbrev AllLeft : List Whole → Type 0
AllLeft ws = map left ws ≡ map (λ (w : Whole). w.expected) ws

abbrev pub AllAnswered : List Example → Type 0
AllAnswered es = map answered es ≡ map (λ (e : Example). e.expected) es

-- The judged examples that document 01 marks with *, and its printed listing: each answer, node word, place and pool byte, and the rest of the lent memory.
pub judged : AllLeft examples
unfolding computes written_down examples titled_A untitled same_id_twice link_to_nowhere listed
judged = refl

-- Drafts: reading alone answers 0 where the pair answers 15 to 18.
pub drafts_judged : map left_by_read drafts ≡ map (λ (w : Whole). w.expected) drafts
unfolding computes written_down drafts same_id_twice link_to_nowhere row_too_short id_again link_on_line_3 reference_to_a_section
drafts_judged = refl

-- The texts beyond them.
pub outcomes_judged : AllLeft outcomes
unfolding computes written_down outcomes id_behind_type escaped_by_number images_and_a_link table_and_list two_spellings row_too_short id_again link_on_line_3 reference_to_a_section
outcomes_judged = refl

pub settled : AllAnswered settlements
unfolding computes settlements answered room utf8_of
settled = refl

pub decided : AllAnswered open_points
unfolding computes open_points answered room utf8_of
decided = refl

-- The numbers 13 and 14; memory stays as it was lent.
pub short_judged : map (λ (l : Lent). (read_into l).answer) short_of_room ≡ map (λ (l : Lent). l.example.expected) short_of_room
unfolding computes short_of_room read_into pair_outcome memory_of utf8_of
short_judged = refl

pub short_unaltered : map (λ (l : Lent). (read_into l).memory) short_of_room ≡ map memory_of short_of_room
unfolding computes short_of_room read_into pair_outcome memory_of utf8_of
short_unaltered = refl

-- Printing: number, length and every byte of the output.
pub prints_judged : map printed_as prints ≡ map (λ (p : Print). p.expected) prints
unfolding computes written_down prints printed_as blank escaped titled_A same_id_twice link_to_nowhere id_behind_type images_and_a_link table_and_list two_spellings row_too_short reference_to_a_section
prints_judged = refl

-- Printing what was read gives the canonical spelling.
pub tidied : map (λ (t : Tidied). printed_from (read_in t.spelling t.text)) printable
    ≡ map (λ (t : Tidied). spelled_out t.canonical) printable
unfolding computes printable printed_from read_in spelled_out room utf8_of paper
tidied = refl
