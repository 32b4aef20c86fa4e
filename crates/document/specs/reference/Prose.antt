-- What "well-formed" means, in plain statements about the nodes of a document. Document 01, "Numbers answered", 15 to 18.
use Rattle.std.specs.Prelude.{ℕ, ◌≡◌, ◌⊎◌, T}
use mathlib.Core.List.{List, Memᴰ}
use Rattle.elements.specs.rules.Class as Class
use Rattle.document.specs.rules.Document.{Node, node, Nodes, childless, child}
use Rattle.document.specs.reference.Check.{exactly, cells_in, Entry, entries, holds_id}
use Rattle.document.specs.rules.Visits.{node_kind, node_children, child_count}

-- The node n is one of these.
unfoldable pub OneOf : Node → Nodes → Type 0
OneOf n childless = ⊥
OneOf n (child m ms) = (n ≡ m) ⊎ OneOf n ms

-- The node n stands in d: it is d, or stands in a child of d.
unfoldable mutual
  pub In : Node → Node → Type 0
  In n (node k key type text w h ns) = (n ≡ node k key type text w h ns) ⊎ InSome n ns

  pub InSome : Node → Nodes → Type 0
  InSome n childless = ⊥
  InSome n (child m ms) = In n m ⊎ InSome n ms

-- The node r is this node, a row, or is a row of this node, a body.
unfoldable mutual
  pub RowAt : Node → Node → Type 0
  RowAt r (node k key type text w h ns) = ((k ≡ Class.row) × (r ≡ node k key type text w h ns)) ⊎ ((k ≡ Class.body) × RowAmong r ns)

  -- The node r is a row among these nodes, or in a body among them.
  pub RowAmong : Node → Nodes → Type 0
  RowAmong r childless = ⊥
  RowAmong r (child m ms) = RowAt r m ⊎ RowAmong r ms

-- In every table that has a head, of n names, every row has n cells.
unfoldable pub RowsMatch : Node → Type 0
RowsMatch d =
    (t r : Node) (n : ℕ) → In t d → node_kind t ≡ Class.table → cells_in (node_children t) ≡ exactly n → RowAmong r (node_children t)
    → child_count (node_children r) ≡ n

-- The same said of a document, where rows stand in bodies, bodies in tables, and a table has at most one head:
-- every row of a table's body has as many cells as the table's head has names.
unfoldable pub RowsMatchHead : Node → Type 0
RowsMatchHead d =
    (t h b r : Node) → In t d → node_kind t ≡ Class.table → OneOf h (node_children t) → node_kind h ≡ Class.head
    → OneOf b (node_children t) → node_kind b ≡ Class.body → OneOf r (node_children b) → node_kind r ≡ Class.row
    → child_count (node_children r) ≡ child_count (node_children h)

-- No two blocks among these entries have one id.
unfoldable pub IdsDifferAmong : List Entry → Type 0
IdsDifferAmong es =
    (e f : Entry) → Memᴰ e es → Memᴰ f es → T (holds_id e) → T (holds_id f) → e.key ≡ f.key → e.number ≡ f.number

-- The block b is among these entries and has that id.
pub record HasIdAmong (es : List Entry) (s : List ℕ) (b : Entry) : Type 0 where
  pub stands : Memᴰ b es
  pub has_id : T (holds_id b)
  pub id_is : b.key ≡ s

unfoldable pub IdsDiffer : Node → Type 0
IdsDiffer d = IdsDifferAmong (entries 0 d)

-- The target of every link is the id of a block.
unfoldable pub LinksFound : Node → Type 0
LinksFound d =
    (e : Entry) → Memᴰ e (entries 0 d) → e.kind ≡ Class.link → (b : Entry) × HasIdAmong (entries 0 d) e.key b

-- The target of every footnote-ref is the id of a footnote.
unfoldable pub RefsFound : Node → Type 0
RefsFound d =
    (e : Entry) → Memᴰ e (entries 0 d) → e.kind ≡ Class.footnote_ref
    → (b : Entry) × (b.kind ≡ Class.footnote) × HasIdAmong (entries 0 d) e.key b

pub record Prose (d : Node) : Type 0 where
  pub rows_match : RowsMatch d
  pub ids_differ : IdsDiffer d
  pub links_found : LinksFound d
  pub refs_found : RefsFound d
