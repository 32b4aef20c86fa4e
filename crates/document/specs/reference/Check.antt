-- The search for the faults 15 to 18 of a document: the first fault and the number of the first node that has it. It need not be believed: that it finds the fault
-- that `WellFormed` tells of is proved in `proofs/FirstFaults.antt`.
use Rattle.std.specs.Prelude.{ℕ, ◌+◌, Bool, false, not, cond, ◌&&◌, ◌||◌, List, [], ◌∷◌, ◌++◌, eqb}
use Rattle.base.specs.rules.Numbers as Number
use Rattle.elements.specs.rules.Bytes.{same}
use Rattle.elements.specs.rules.Class as Class
use Rattle.document.specs.rules.Value.{non_empty}
use Rattle.document.specs.rules.Document.{Node, node, Nodes, childless, child}
use Rattle.document.specs.rules.Table.{count}
use Rattle.document.specs.rules.Visits.{child_count}
use Rattle.document.specs.rules.WellFormed.{FirstFault, WellFormed}

pub data First : Type 0 where
  nowhere : First
  at_node : ℕ → First

unfoldable pub or_else : First → First → First
or_else nowhere f = f
or_else (at_node i) f = at_node i

-- How many cells the rows of a table must have: any number, or as many as its head has names.
pub data Cells : Type 0 where
  any_number : Cells
  exactly : ℕ → Cells

unfoldable pub head_cells : Cells → Node → Cells
head_cells c (node k key type text w h ns) = cond (eqb k Class.head) (exactly (child_count ns)) c

unfoldable pub cells_in : Nodes → Cells
cells_in childless = any_number
cells_in (child n ns) = head_cells (cells_in ns) n

unfoldable pub differs : Cells → ℕ → Bool
differs any_number m = false
differs (exactly n) m = not (eqb n m)

-- What holds for the children of a node of kind k: a table's head binds its body, and that its rows.
unfoldable pub cells_below : Cells → ℕ → Nodes → Cells
cells_below c k ns = cond (eqb k Class.table) (cells_in ns) (cond (eqb k Class.body) c any_number)

-- 15, "row of a table with head, count of cells differs": from node number i on, under rows that must have c cells.
unfoldable mutual
  pub found_bad_row : ℕ → Cells → Node → First
  found_bad_row i c (node k key type text w h ns) =
      cond (eqb k Class.row && differs c (child_count ns)) (at_node i) (bad_row_among (i + 1) (cells_below c k ns) ns)

  pub bad_row_among : ℕ → Cells → Nodes → First
  bad_row_among i c childless = nowhere
  bad_row_among i c (child n ns) = or_else (found_bad_row i c n) (bad_row_among (i + count n) c ns)

-- A node with its number, in document order.
pub record Entry : Type 0 where
  pub number : ℕ
  pub kind : ℕ
  pub key : List ℕ

unfoldable mutual
  pub entries : ℕ → Node → List Entry
  entries i (node k key type text w h ns) = record { number = i; kind = k; key = key } ∷ entries_among (i + 1) ns

  pub entries_among : ℕ → Nodes → List Entry
  entries_among i childless = []
  entries_among i (child n ns) = entries i n ++ entries_among (i + count n) ns

-- A block that has an id.
unfoldable pub holds_id : Entry → Bool
holds_id e = Class.is_block e.kind && non_empty e.key

-- The ids of blocks of any kind, or of one kind.
unfoldable pub ids_where : (ℕ → Bool) → List Entry → List (List ℕ)
ids_where p [] = []
ids_where p (e ∷ es) = cond (p e.kind && holds_id e) (e.key ∷ ids_where p es) (ids_where p es)

unfoldable pub is_among : List ℕ → List (List ℕ) → Bool
is_among s [] = false
is_among s (t ∷ ts) = same s t || is_among s ts

-- 16, "id already on an earlier block": the ids of the earlier ones are `seen`.
unfoldable pub found_repeated_id : List (List ℕ) → List Entry → First
found_repeated_id seen [] = nowhere
found_repeated_id seen (e ∷ es) =
    let with-id = cond (is_among e.key seen) (at_node e.number) (found_repeated_id (e.key ∷ seen) es) in
    let without = found_repeated_id seen es in
    cond (holds_id e) with-id without

-- The first node of kind k whose target is none of these ids.
unfoldable pub found_unknown_target : ℕ → List (List ℕ) → List Entry → First
found_unknown_target k ids [] = nowhere
found_unknown_target k ids (e ∷ es) =
    cond (eqb e.kind k && not (is_among e.key ids)) (at_node e.number) (found_unknown_target k ids es)

-- 17, "link target on no block": "A link may name any block, footnotes and the document too."
unfoldable pub found_unknown_link : List Entry → First
found_unknown_link es = found_unknown_target Class.link (ids_where Class.is_block es) es

-- 18, "footnote-ref target on no footnote"
unfoldable pub found_unknown_footnote : List Entry → First
found_unknown_footnote es = found_unknown_target Class.footnote_ref (ids_where (eqb Class.footnote) es) es

pub data Check : Type 0 where
  sound : Check
  unsound : ℕ → ℕ → Check

unfoldable pub checked_by : ℕ → First → Check → Check
checked_by n nowhere next = next
checked_by n (at_node i) next = unsound n i

-- The first of 15 to 18 that the document has, with its node.
unfoldable pub check : Node → Check
check d =
    checked_by Number.row_length (found_bad_row 0 any_number d)
    (checked_by Number.repeated_id (found_repeated_id [] (entries 0 d))
    (checked_by Number.unknown_target (found_unknown_link (entries 0 d))
    (checked_by Number.unknown_footnote (found_unknown_footnote (entries 0 d)) sound)))

-- What an answer of the check says of a document.
abbrev pub Decides : Node → Check → Type 0
Decides d sound = WellFormed d
Decides d (unsound n i) = FirstFault d n i
