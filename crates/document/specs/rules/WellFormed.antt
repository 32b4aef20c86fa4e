-- Faults 15 to 18 of a document, and what is well-formed: each fault is said of a node by its number, with no search. Document 01, "Numbers answered".
use Rattle.std.specs.Prelude.{ℕ, ◌<◌, ◌≡◌, T}
use mathlib.Core.List.{List, Memᴰ}
use Rattle.base.specs.rules.Numbers as Number
use Rattle.elements.specs.rules.Class as Class
use Rattle.document.specs.rules.Value.{non_empty}
use Rattle.document.specs.rules.Document.{Node}
use Rattle.document.specs.rules.Visits.{node_kind, node_key, node_children, child_count, Visit, visits_of}

-- Node number i of the document d is v, and of kind k.
pub record NodeAt (d : Node) (i k : ℕ) (v : Visit) : Type 0 where
  pub there : Memᴰ v (visits_of d)
  pub number_is : v.number ≡ i
  pub kind_is : node_kind v.visited ≡ k

-- 15, "row of a table with head, count of cells differs": node i is a row of a body of a table, and the table has a head with another number of names.
pub record BadRow (d : Node) (i : ℕ) : Type 0 where
  pub row : Visit
  pub body : Visit
  pub table : Visit
  pub head : Visit
  pub is_row : NodeAt d i Class.row row
  pub in_body : NodeAt d row.parent Class.body body
  pub in_table : NodeAt d body.parent Class.table table
  pub is_head : NodeAt d head.number Class.head head
  pub its_head : head.parent ≡ table.number
  pub other_count : child_count (node_children row.visited) ≡ child_count (node_children head.visited) → ⊥

-- Node i is v, a block, and has the id s: "blocks are kinds 1 to 7".
pub record HasId (d : Node) (s : List ℕ) (i : ℕ) (v : Visit) : Type 0 where
  pub there : Memᴰ v (visits_of d)
  pub number_is : v.number ≡ i
  pub is_block : T (Class.is_block (node_kind v.visited))
  pub present : T (non_empty s)
  pub id_is : node_key v.visited ≡ s

-- 16, "id already on an earlier block"
pub record RepeatedId (d : Node) (i : ℕ) : Type 0 where
  pub id : List ℕ
  pub block : Visit
  pub has_id : HasId d id i block
  pub earlier : ℕ
  pub before : earlier < i
  pub other : Visit
  pub also_has : HasId d id earlier other

-- 17, "link target on no block": "A link may name any block, footnotes and the document too."
pub record UnknownLink (d : Node) (i : ℕ) : Type 0 where
  pub link : Visit
  pub is_link : NodeAt d i Class.link link
  pub on_none : (j : ℕ) (b : Visit) → HasId d (node_key link.visited) j b → ⊥

-- 18, "footnote-ref target on no footnote"
pub record UnknownFootnote (d : Node) (i : ℕ) : Type 0 where
  pub reference : Visit
  pub is_reference : NodeAt d i Class.footnote_ref reference
  pub on_none : (j : ℕ) (b : Visit) → HasId d (node_key reference.visited) j b → node_kind b.visited ≡ Class.footnote → ⊥

-- No node has the fault.
abbrev pub None : (ℕ → Type 0) → Type 0
None Has = (i : ℕ) → Has i → ⊥

-- "first such": node i has the fault, and no node with a smaller number has it.
pub record FirstSuch (Has : ℕ → Type 0) (i : ℕ) : Type 0 where
  pub has : Has i
  pub none_before : (j : ℕ) → j < i → Has j → ⊥

-- The fault of the document, 15 to 18, and its node: "The first group in this order that applies decides."
pub data FirstFault (d : Node) : ℕ → ℕ → Type 0 where
  bad_row : {i : ℕ} → FirstSuch (BadRow d) i → FirstFault d Number.row_length i
  repeated_id : {i : ℕ} → None (BadRow d) → FirstSuch (RepeatedId d) i → FirstFault d Number.repeated_id i
  unknown_link : {i : ℕ} → None (BadRow d) → None (RepeatedId d) → FirstSuch (UnknownLink d) i → FirstFault d Number.unknown_target i
  unknown_footnote : {i : ℕ} → None (BadRow d) → None (RepeatedId d) → None (UnknownLink d) → FirstSuch (UnknownFootnote d) i → FirstFault d Number.unknown_footnote i

-- "It is well-formed if it also has none of the faults numbered 15 to 18".
pub record WellFormed (d : Node) : Type 0 where
  pub rows : None (BadRow d)
  pub ids : None (RepeatedId d)
  pub links : None (UnknownLink d)
  pub footnotes : None (UnknownFootnote d)
