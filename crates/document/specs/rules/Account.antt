-- What a read answers and leaves in the lent memory, told by the rules alone: one case for each number of document 01, "Numbers answered", up to 14, and 19.
-- No scan, no judge, no stack of blocks and no search is in these cases. That reading answers so, and in no other way, is proved in `proofs/Account.antt`.
use Rattle.std.specs.Prelude.{ℕ, ◌≤◌, ◌<◌, ◌≡◌, List, length}
use Rattle.base.specs.rules.Limits.{most_bytes, nested_levels}
use Rattle.base.specs.rules.Numbers as Number
use Rattle.elements.specs.rules.Class as Class
use Rattle.utf8.specs.rules.Scalar.{IsUtf8, IllFormedAt}
use Rattle.syntax.specs.rules.Syntax.{Forest, another, Ok, bytes_of, levels}
use Rattle.syntax.specs.rules.Expression.{Expr, Exprs, none, and, place, locate, depth}
use Rattle.syntax.specs.rules.Fault.{Fault}
use Rattle.document.specs.rules.Document.{Tree, Node, Lawful}
use Rattle.document.specs.rules.Spelling.{Spelling, nested, imperative, most_levels, Writes, Spells, WithinLimits, node_places}
use Rattle.document.specs.rules.Command.{block}
use Rattle.document.specs.rules.Takes.{Takes}
use Rattle.document.specs.rules.Faults.{RootFault}
use Rattle.document.specs.rules.Table.{count, pool}
use Rattle.document.specs.rules.Memory.{Memory, Outcome, refusal, no_room, filled, node_room}

-- The text is concrete syntax, nested within the limit, with these expressions.
pub record Scans (s : Spelling) (text : List ℕ) (es : Exprs) : Type 0 where
  pub forest : Forest
  pub syntax : Ok another forest
  pub bytes : bytes_of forest ≡ text
  pub within : levels forest ≤ most_levels s
  pub expressions : locate 0 forest ≡ es

-- The nested form of a text's expressions: of one in the nested spelling; of all in the imperative one, where the first is the document's command and its block
-- takes all that follow.
pub data NestedForm : Spelling → Exprs → Expr → Type 0 where
  as_it_stands : {e : Expr} → NestedForm nested (and e none) e
  regrouped : {e : Expr} {es content : Exprs} → Takes (Class.significance Class.document) es content none → NestedForm imperative (and e es) (block e content)

-- The numbers 3 to 12 and 19, with their places, of a text that is UTF-8.
pub data RefusedFor (s : Spelling) (text : List ℕ) : ℕ → ℕ → Type 0 where
  -- 3 to 6
  no_syntax : {n p : ℕ} → Fault (most_levels s) text n p → RefusedFor s text n p
  -- 7
  no_expression : Scans s text none → RefusedFor s text Number.not_one_expression (length text)
  second_expression : {e e' : Expr} {es : Exprs} → s ≡ nested → Scans s text (and e (and e' es)) → RefusedFor s text Number.not_one_expression (place e')
  -- 8 to 12
  against_rules : {es : Exprs} {e : Expr} {n p : ℕ} → Scans s text es → NestedForm s es e → RootFault e n p → RefusedFor s text n p
  -- 19
  too_deep : {es : Exprs} {e : Expr} {t : Tree} → s ≡ imperative → Scans s text es → NestedForm s es e → Writes t e → Lawful t → nested_levels < depth e
      → RefusedFor s text Number.nested_too_deep 0

-- The outcome of reading the text into the lent memory m.
pub data Answers (s : Spelling) (text : List ℕ) (m : Memory) : Outcome → Type 0 where
  -- 1
  too_long : most_bytes < length text → Answers s text m (refusal text m Number.text_too_long most_bytes)
  -- 2
  ill_formed : {p : ℕ} → length text ≤ most_bytes → IllFormedAt text p → Answers s text m (refusal text m Number.not_utf8 p)
  -- 3 to 12, 19
  refused : {n p : ℕ} → length text ≤ most_bytes → IsUtf8 text → RefusedFor s text n p → Answers s text m (refusal text m n p)
  -- 13
  no_node_room : {d : Node} (spells : Spells s d text) → WithinLimits s text spells.forest → node_room m < count d → Answers s text m (no_room text m Number.nodes_short d)
  -- 14
  no_pool_room : {d : Node} (spells : Spells s d text) → WithinLimits s text spells.forest → count d ≤ node_room m → length m.pool < length (pool d)
      → Answers s text m (no_room text m Number.pool_short d)
  -- 0: rows, ids and links are not looked at.
  accepted : {d : Node} (spells : Spells s d text) → WithinLimits s text spells.forest → count d ≤ node_room m → length (pool d) ≤ length m.pool
      → Answers s text m (filled text m (node_places spells) d)
