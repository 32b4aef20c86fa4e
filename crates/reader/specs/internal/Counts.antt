-- How many nodes and pool bytes expressions bring, as plain sums: what the walk counts.
use Rattle.std.specs.Prelude.{ℕ, suc, ◌+◌, cond, length}
use Rattle.elements.specs.rules.Class as Class
use Rattle.syntax.specs.rules.Expression.{Expr, symbol, quoted, list, Exprs, none, and}
use Rattle.document.specs.rules.Document.{key_of, type_of}
use Rattle.document.specs.rules.Lead.{lead_class}
use Rattle.document.specs.reference.Meaning.{value_tree}

-- The pool bytes of a value: of an id, target or type its own, of a size none.
unfoldable pub value_size : ℕ → Exprs → ℕ
value_size c es = length (key_of (value_tree c es)) + length (type_of (value_tree c es))

unfoldable mutual
  pub node_count : Expr → ℕ
  node_count (symbol at s) = 1
  node_count (quoted at s) = 1
  node_count (list at es) = node_count_of_list es

  pub node_count_of_list : Exprs → ℕ
  node_count_of_list none = 0
  node_count_of_list (and e es) = cond (Class.is_element (lead_class e)) (suc (node_count_in es)) 0

  pub node_count_in : Exprs → ℕ
  node_count_in none = 0
  node_count_in (and e es) = node_count e + node_count_in es

unfoldable mutual
  pub pool_bytes : Expr → ℕ
  pool_bytes (symbol at s) = length s
  pool_bytes (quoted at s) = length s
  pool_bytes (list at es) = pool_bytes_of_list es

  pub pool_bytes_of_list : Exprs → ℕ
  pool_bytes_of_list none = 0
  pool_bytes_of_list (and e es) = cond (Class.is_element (lead_class e)) (pool_bytes_in es) (value_size (lead_class e) es)

  pub pool_bytes_in : Exprs → ℕ
  pool_bytes_in none = 0
  pool_bytes_in (and e es) = pool_bytes e + pool_bytes_in es
