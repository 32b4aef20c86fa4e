-- Demand 3, as a statement about the rules alone: which texts are read, and what is then in the lent memory. No reader is in it.
-- "demand 3 reads 'well-formed but for rows, ids and links' for reading alone" (document 02, change request 1).
use Rattle.std.specs.Prelude.{ℕ, ◌*◌, ◌≤◌, ◌≡◌, List, length}
use Rattle.base.specs.rules.Limits.{most_nodes}
use Rattle.base.specs.rules.Numbers as Number
use Rattle.document.specs.rules.Document.{Node}
use Rattle.document.specs.rules.Spelling.{Spelling, Spells, WithinLimits}
use Rattle.document.specs.rules.Record.{record_length}
use Rattle.document.specs.rules.Table.{count, pool, table_of}
use Rattle.document.specs.rules.Memory.{Memory, Outcome, over}

-- "Room is enough if the lent node words, place list and pool can hold the document."
pub record Fits (d : Node) (m : Memory) : Type 0 where
  pub node_words : record_length * count d ≤ length m.nodes
  pub place_list : count d ≤ length m.places
  pub pool_bytes : length (pool d) ≤ length m.pool

-- The text is within the limits and spells the draft d, for which the room is enough: a document that is "well-formed but for rows, ids and links".
pub record Readable (s : Spelling) (text : List ℕ) (m : Memory) (d : Node) : Type 0 where
  pub spells : Spells s d text
  pub within : WithinLimits s text spells.forest
  pub few_nodes : count d ≤ most_nodes
  pub fits : Fits d m

-- The answer is 0, and node words, pool and both counts are those of d.
pub record Read (m : Memory) (o : Outcome) (d : Node) : Type 0 where
  pub accepted : o.answer.number ≡ Number.ok
  pub nodes : o.answer.nodes ≡ count d
  pub bytes : o.answer.pool ≡ length (pool d)
  pub node_words : o.memory.nodes ≡ over (table_of d) m.nodes
  pub pool_bytes : o.memory.pool ≡ over (pool d) m.pool

-- Two outcomes have one number, the same counts, node words and pool: they may differ in places alone.
pub record Alike (o o' : Outcome) : Type 0 where
  pub number : o.answer.number ≡ o'.answer.number
  pub nodes : o.answer.nodes ≡ o'.answer.nodes
  pub bytes : o.answer.pool ≡ o'.answer.pool
  pub node_words : o.memory.nodes ≡ o'.memory.nodes
  pub pool_bytes : o.memory.pool ≡ o'.memory.pool
