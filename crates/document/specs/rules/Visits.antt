-- The nodes of a document in document order, each with its number, its parent's number and where its strings begin: what the laws of the table and the faults 15 to 18 are said with.
-- Document 01, "The table": "Node numbers run in document order from 0".
use Rattle.std.specs.Prelude.{ℕ, zero, suc, ◌+◌, ◌≤◌, ◌<◌, ◌≡◌, length}
use mathlib.Core.List.{List, [], ◌∷◌, ◌++◌, Memᴰ}
use Rattle.base.specs.rules.Limits.{missing}
use Rattle.document.specs.rules.Document.{Node, node, Nodes, childless, child}
use Rattle.document.specs.rules.Table.{count, pool, offset}

-- The parts of a node.
unfoldable pub node_kind : Node → ℕ
node_kind (node k key type text w h ns) = k

-- The id of a block, or the target of what names one.
unfoldable pub node_key : Node → List ℕ
node_key (node k key type text w h ns) = key

unfoldable pub node_type : Node → List ℕ
node_type (node k key type text w h ns) = type

unfoldable pub node_text : Node → List ℕ
node_text (node k key type text w h ns) = text

unfoldable pub node_width : Node → ℕ
node_width (node k key type text w h ns) = w

unfoldable pub node_height : Node → ℕ
node_height (node k key type text w h ns) = h

unfoldable pub node_children : Node → Nodes
node_children (node k key type text w h ns) = ns

unfoldable pub child_count : Nodes → ℕ
child_count childless = 0
child_count (child n ns) = suc (child_count ns)

-- A node met in document order: its number, its parent's, and where its strings begin in the pool.
pub record Visit : Type 0 where
  pub number : ℕ
  pub parent : ℕ
  pub start : ℕ
  pub visited : Node

-- Those of a node and its descendants: a node before its children, and each child before the next.
unfoldable mutual
  pub visits : ℕ → ℕ → ℕ → Node → List Visit
  visits i parent p (node k key type text w h ns) =
      record { number = i; parent = parent; start = p; visited = node k key type text w h ns }
      ∷ visits_all (i + 1) i (p + length key + length type + length text) ns

  pub visits_all : ℕ → ℕ → ℕ → Nodes → List Visit
  visits_all i parent p childless = []
  visits_all i parent p (child n ns) = visits i parent p n ++ visits_all (i + count n) parent (p + length (pool n)) ns

-- The visits of a document: "parent (4,294,967,295 at the root)".
unfoldable pub visits_of : Node → List Visit
visits_of d = visits 0 missing 0 d

-- The n numbers i, i + 1, i + 2, ...
unfoldable pub up_from : ℕ → ℕ → List ℕ
up_from i zero = []
up_from i (suc n) = i ∷ up_from (suc i) n

-- "end, one past the last descendant"
unfoldable pub end_of : Visit → ℕ
end_of v = v.number + count v.visited

-- Where a visited node's type and text begin in the pool: its key begins at `start`.
unfoldable pub type_start : Visit → ℕ
type_start v = v.start + length (node_key v.visited)

unfoldable pub text_start : Visit → ℕ
text_start v = type_start v + length (node_type v.visited)

-- The eleven words of a node: "kind; parent; end, one past the last descendant; offset and length in the pool of id or target; of type; of text; image width; height".
unfoldable pub words_of : Visit → List ℕ
words_of v =
    node_kind v.visited
    ∷ v.parent
    ∷ end_of v
    ∷ offset v.start (node_key v.visited)
    ∷ length (node_key v.visited)
    ∷ offset (type_start v) (node_type v.visited)
    ∷ length (node_type v.visited)
    ∷ offset (text_start v) (node_text v.visited)
    ∷ length (node_text v.visited)
    ∷ node_width v.visited
    ∷ node_height v.visited
    ∷ []

-- The bytes of a node's own strings, in the pool's order.
unfoldable pub strings_of : Visit → List ℕ
strings_of v = node_key v.visited ++ (node_type v.visited ++ node_text v.visited)

-- What f gives of the visits, one after the other.
unfoldable pub each : (Visit → List ℕ) → List Visit → List ℕ
each f [] = []
each f (v ∷ vs) = f v ++ each f vs

-- The node u has the node v in it, by numbers alone: v's number is above u's and below u's end.
pub record Spans (u v : Visit) : Type 0 where
  pub above : u.number < v.number
  pub below : v.number < end_of u

-- The holder of v: a node that has v in it, whose number is v's parent word; and every other node that has v in it begins before the holder and ends no earlier.
pub record Holder (vs : List Visit) (v h : Visit) : Type 0 where
  pub there : Memᴰ h vs
  pub number_is : h.number ≡ v.parent
  pub spans : Spans h v
  pub innermost : (u : Visit) → Memᴰ u vs → Spans u v → (u.number ≤ h.number) × (end_of h ≤ end_of u)
