-- The lines of the nodes before k are put.
use Rattle.listing.specs.Listing.{node_lines}
use Rattle.listing.specs.internal.Puts.{Appends}
use Rattle.listing.proofs.Output.nodes.Given as goal

abbrev pub invariant-loop-k : goal.invariant-loop-k
invariant-loop-k l = Appends l.initial.self (node_lines l.table l.k) l.self
