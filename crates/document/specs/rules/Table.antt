-- The node table and the pool of a document. Document 01, "The table".
use Rattle.std.specs.Prelude.{ℕ, suc, ◌+◌, List, [], ◌∷◌, ◌++◌, length}
use Rattle.base.specs.rules.Limits.{missing}
use Rattle.document.specs.rules.Document.{Node, node, Nodes, childless, child}

unfoldable mutual
  pub count : Node → ℕ
  count (node k key type text w h ns) = suc (count_all ns)

  pub count_all : Nodes → ℕ
  count_all childless = 0
  count_all (child n ns) = count n + count_all ns

-- "decoded UTF-8 with no gap: node by node, id or target, then type, then text"
unfoldable mutual
  pub pool : Node → List ℕ
  pool (node k key type text w h ns) = key ++ (type ++ (text ++ pool_all ns))

  pub pool_all : Nodes → List ℕ
  pool_all childless = []
  pool_all (child n ns) = pool n ++ pool_all ns

-- "A missing string is 0, 0": the offset of a string that would stand at p.
unfoldable pub offset : ℕ → List ℕ → ℕ
offset p [] = 0
offset p (b ∷ bs) = p

-- The records of node number i and its descendants, under this parent, its strings from p on in the pool:
-- "kind; parent (4,294,967,295 at the root); end, one past the last descendant; offset and length in the pool of id or target; of type; of text; image width; height".
unfoldable mutual
  pub rows : ℕ → ℕ → ℕ → Node → List ℕ
  rows i parent p (node k key type text w h ns) =
      k
      ∷ parent
      ∷ (i + suc (count_all ns))
      ∷ offset p key
      ∷ length key
      ∷ offset (p + length key) type
      ∷ length type
      ∷ offset (p + length key + length type) text
      ∷ length text
      ∷ w
      ∷ h
      ∷ rows_all (i + 1) i (p + length key + length type + length text) ns

  pub rows_all : ℕ → ℕ → ℕ → Nodes → List ℕ
  rows_all i parent p childless = []
  rows_all i parent p (child n ns) = rows i parent p n ++ rows_all (i + count n) parent (p + length (pool n)) ns

-- The node words of a document.
unfoldable pub table_of : Node → List ℕ
table_of d = rows 0 missing 0 d
