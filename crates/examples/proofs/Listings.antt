-- Each text of `specs/Listings.antt` is listed as it says, by computation.
use mathlib.Core.Path.{◌≡◌, refl}
use mathlib.Core.List.{map}
use Rattle.document.proofs.Compute.{computes}
use Rattle.listing.specs.Listing.{numeral_within, numeral, refused_line, header_line, parent_word, node_line, line_of_node}
use Rattle.listing.specs.Listing.{node_lines, document_lines, listing_of, fault_line, after_read, after_check, lent_memory, printed_by, too_long}
use Rattle.listing.specs.examples.Listings.{Example, listed}
use Rattle.examples.specs.Listings.{letters, crowd, listings}

pub listings_judged : map listed listings ≡ map (λ (e : Example). e.lines) listings
unfolding computes lent_memory numeral_within numeral refused_line header_line parent_word node_line line_of_node node_lines document_lines
    listing_of fault_line after_read after_check printed_by too_long letters crowd listings listed
listings_judged = refl
