-- Each example of `specs/Sizes.antt` has what is beside it, by computation.
use mathlib.Core.Path.{◌≡◌, refl}
use mathlib.Core.Bool.{true}
use mathlib.Core.List.{[], ◌∷◌, map}
use lib.ListN.{replicate}
use Rattle.utf8.specs.examples.Quoted.{utf8_of}
use Rattle.document.specs.examples.Expected.{numbers, row, bare, texts, joined, pair_outcome}
use Rattle.document.specs.examples.Judged.{Lent, memory_of, read_into}
use Rattle.document.specs.examples.Printing.{printed_as, blank}
use Rattle.examples.specs.Sizes.{times, same_answer, as_expected, paragraphs, commands, counted, columns, column_texts, bare_node, alike, only, column_document}
use Rattle.examples.specs.Sizes.{columns_checked, columns_expected, two_ids, id_and_link, long_ids, lists, closed, levels, paragraph_rows, paragraphs_table}
use Rattle.examples.specs.Sizes.{every_twelve, paragraph_places, fills_all, list_rows, levels_64, levels_65, same_printed, is_printed, long_outputs}
use Rattle.document.proofs.Compute.{computes}

-- Counts needed, under 13 and 14.
pub counts_judged : map (λ (l : Lent). (read_into l).answer) counted ≡ map (λ (l : Lent). l.example.expected) counted
unfolding computes counted read_into pair_outcome memory_of utf8_of times paragraphs commands
counts_judged = refl

pub column_texts_judged : map as_expected (column_texts (1 ∷ 2 ∷ 40 ∷ [])) ≡ replicate 9 true
unfolding computes column_texts columns as_expected same_answer read_into pair_outcome memory_of utf8_of times
column_texts_judged = refl

-- Heads of 1 to 40 names: over a row of as many cells no fault, over one more or one fewer 15 at the row.
pub columns_judged : map columns_checked (numbers 1 40) ≡ map columns_expected (numbers 1 40)
unfolding computes columns_checked columns_expected column_document bare_node alike only numbers
columns_judged = refl

pub long_ids_judged : map as_expected (long_ids (64 ∷ 65 ∷ 255 ∷ 256 ∷ 300 ∷ [])) ≡ replicate 35 true
unfolding computes long_ids two_ids id_and_link as_expected same_answer read_into pair_outcome memory_of utf8_of
long_ids_judged = refl

pub levels_judged : map as_expected levels ≡ replicate 5 true
unfolding computes levels lists closed times as_expected same_answer read_into pair_outcome memory_of utf8_of
levels_judged = refl

pub memory_filled : fills_all 100 ≡ true
unfolding computes fills_all as_expected same_answer paragraphs paragraphs_table paragraph_rows paragraph_places every_twelve row bare texts joined times read_into pair_outcome memory_of utf8_of
memory_filled = refl

pub long_outputs_judged : map is_printed long_outputs ≡ replicate 5 true
unfolding computes long_outputs is_printed same_printed printed_as blank numbers paragraphs_table paragraph_rows list_rows levels_64 levels_65 lists closed row bare texts joined times utf8_of
long_outputs_judged = refl
