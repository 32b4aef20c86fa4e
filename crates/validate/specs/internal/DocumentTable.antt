-- Definitions that serve the contracts of private functions: words and bytes that begin with the table of a document.
use Rattle.std.specs.Prelude.{ℕ, ◌*◌, ◌≤◌, ◌≡◌, List, length, take}
use Rattle.document.specs.rules.Document.{Node, Document}
use Rattle.document.specs.rules.Record.{record_length}
use Rattle.document.specs.rules.Table.{table_of, pool, count}
use Rattle.validate.specs.declared.lent.Table.{Table}

-- The words and bytes begin with the table and the pool of the document d, which has n nodes.
pub record BeginsWithTable (words : List ℕ) (n : ℕ) (bytes : List ℕ) (d : Node) : Type 0 where
  pub document : Document d
  pub node_count : count d ≡ n
  pub node_words : take (record_length * n) words ≡ table_of d
  pub pool_bytes : take (length (pool d)) bytes ≡ pool d

-- The table has the first words and bytes of those lent, for n nodes and of m bytes.
pub record LendsTable (words : List ℕ) (n : ℕ) (bytes : List ℕ) (m : ℕ) (t : Table) : Type 0 where
  pub nodes : t.nodes.now ≡ take (record_length * n) words
  pub count : t.count ≡ n
  pub pool : t.pool.now ≡ take m bytes
  pub words_within : record_length * n ≤ length words
  pub bytes_within : m ≤ length bytes
