-- Which words and which pool are the table of a document within the limits, which of them a caller lends, and what printing and the check return. Document 01, "Numbers answered".
use Rattle.std.specs.Prelude.{ℕ, ◌*◌, ◌≤◌, ◌≡◌, List, T, leb, length, take}
use Rattle.base.specs.rules.Limits.{most_bytes, most_nodes, nested_levels}
use Rattle.document.specs.rules.Document.{Node, Document}
use Rattle.document.specs.rules.Record.{record_length}
use Rattle.document.specs.rules.Table.{table_of, pool, count}
use Rattle.document.specs.rules.Canonical.{layout, tree_levels}

-- These words and this pool are the node table of the draft d, well-formed or not, "within the limits (at most 4,096 nodes, canonical nesting at most 64, pool at most 65,536)".
pub record IsDraft (d : Node) (words bytes : List ℕ) : Type 0 where
  pub document : Document d
  pub node_words : table_of d ≡ words
  pub pool_bytes : pool d ≡ bytes
  pub few_nodes : T (leb (count d) most_nodes)
  pub nests_within : T (leb (tree_levels (layout d)) nested_levels)
  pub short_pool : T (leb (length (pool d)) most_bytes)

-- The n records and m bytes at the front of what is lent are the table of the document d, well-formed or not.
pub record Holds (words : List ℕ) (n : ℕ) (bytes : List ℕ) (m : ℕ) (d : Node) : Type 0 where
  pub words_within : record_length * n ≤ length words
  pub bytes_within : m ≤ length bytes
  pub draft : IsDraft d (take (record_length * n) words) (take m bytes)

-- "Printing returns number and length", and leaves `out` of the output.
pub record Printed : Type 0 where
  pub number : ℕ
  pub size : ℕ
  pub out : List ℕ

-- The check of a table returns number and node: "15 to 18 with the node number instead of a place" (document 02, change request 1).
pub record Checked : Type 0 where
  pub number : ℕ
  pub node : ℕ
