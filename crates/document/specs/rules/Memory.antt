-- The lent memory, what a read returns, and what each sort of answer leaves in the memory. Document 01, "Numbers answered".
use Rattle.std.specs.Prelude.{ℕ, ◌/◌, min, List, ◌++◌, length, drop}
use Rattle.base.specs.rules.Limits.{most_nodes}
use Rattle.base.specs.rules.Numbers as Number
use Rattle.utf8.specs.rules.Position.{line_of, column_of}
use Rattle.document.specs.rules.Document.{Node}
use Rattle.document.specs.rules.Record.{record_length}
use Rattle.document.specs.rules.Table.{count, pool, table_of}

-- "A read returns number, place, line, column, node count, pool count."
pub record Answer : Type 0 where
  pub number : ℕ
  pub place : ℕ
  pub line : ℕ
  pub column : ℕ
  pub nodes : ℕ
  pub pool : ℕ

-- The lent memory: node words, place list, pool.
pub record Memory : Type 0 where
  pub nodes : List ℕ
  pub places : List ℕ
  pub pool : List ℕ

pub record Outcome : Type 0 where
  pub answer : Answer
  pub memory : Memory

unfoldable pub answer_at : List ℕ → ℕ → ℕ → ℕ → ℕ → Answer
answer_at text n p nodes bytes =
    record { number = n; place = p; line = line_of text p; column = column_of text p; nodes = nodes; pool = bytes }

-- "Answers 1 to 12 and 19: counts 0."
unfoldable pub refusal : List ℕ → Memory → ℕ → ℕ → Outcome
refusal text m n p = record { answer = answer_at text n p 0 0; memory = m }

-- "13 and 14: counts needed."
unfoldable pub no_room : List ℕ → Memory → ℕ → Node → Outcome
no_room text m n d = record { answer = answer_at text n 0 (count d) (length (pool d)); memory = m }

-- "Words and bytes past those used keep their values."
unfoldable pub over : List ℕ → List ℕ → List ℕ
over new old = new ++ drop (length new) old

-- 0: "table, pool and places filled, counts used", at place 0.
unfoldable pub filled : List ℕ → Memory → List ℕ → Node → Outcome
filled text m ps d =
    record {
      answer = answer_at text Number.ok 0 (count d) (length (pool d));
      memory = record { nodes = over (table_of d) m.nodes; places = over ps m.places; pool = over (pool d) m.pool };
    }

-- "more nodes than 4,096, the node words over 11, or the place list": how many nodes there is room for.
unfoldable pub node_room : Memory → ℕ
node_room m = min most_nodes (min (length m.nodes / record_length) (length m.places))
