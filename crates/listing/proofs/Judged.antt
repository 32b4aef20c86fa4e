-- Each example of `specs/examples/Listings.antt` is listed as it says, by computation.
use mathlib.Core.Path.{◌≡◌, refl}
use mathlib.Core.List.{map}
use lib.ListN.{length}
use Rattle.document.specs.rules.Memory.{node_room}
use Rattle.document.proofs.Compute.{computes}
use Rattle.listing.specs.Listing.{numeral_within, numeral, refused_line, header_line, parent_word, node_line, line_of_node}
use Rattle.listing.specs.Listing.{node_lines, document_lines, listing_of, fault_line, after_read, after_check, lent_memory, printed_by, too_long}
use Rattle.listing.specs.examples.Listings.{Example, listed, examples}

pub judged : map listed examples ≡ map (λ (e : Example). e.lines) examples
unfolding computes lent_memory numeral_within numeral refused_line header_line parent_word node_line line_of_node node_lines document_lines
    listing_of fault_line after_read after_check printed_by too_long examples listed
judged = refl

-- "They lend 1,024 nodes and a pool of 32,768 bytes."
pub room_lent : (node_room lent_memory ≡ 1024) × (length lent_memory.pool ≡ 32768)
unfolding computes lent_memory
room_lent = (refl, refl)
