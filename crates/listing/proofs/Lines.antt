-- The lines of a table's nodes, put one after another.
use mathlib.Core.Path.{◌≡◌}
use mathlib.Core.List.{List}
use Prim.Native.Nat.{ℕ, ◌+◌, ◌*◌}
use native.Mathlib.Numerals.{add-one}
use lib.ListN.{get_or}
use Rattle.document.specs.rules.Record.{record_length}
use Rattle.listing.specs.Listing.{node_line, line_of_node, node_lines}
use Rattle.listing.specs.declared.Output.{Output}
use Rattle.listing.specs.internal.Puts.{Appends}
use Rattle.listing.proofs.Puts.{appends_none, appends_on}

pub lines_none : (a : Output) (table : List ℕ) → Appends a (node_lines table 0) a
unfolding node_lines
lines_none a table = appends_none a

pub lines_next : {a b c : Output} {kind parent end : ℕ} (table : List ℕ) (k : ℕ)
    → kind ≡ get_or table (k * record_length) 0 → parent ≡ get_or table (k * record_length + 1) 0 → end ≡ get_or table (k * record_length + 2) 0
    → Appends a (node_lines table k) b → Appends b (node_line k kind parent end) c → Appends a (node_lines table (k + 1)) c
unfolding node_lines line_of_node
lines_next table k x y z p q = rw (add-one k, ← x, ← y, ← z) (appends_on p q)
