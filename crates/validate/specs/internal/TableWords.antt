-- Definitions that serve the contracts of private functions: what the words of a table say of its nodes, whatever words they are.
use Rattle.std.specs.Prelude.{ℕ, zero, suc, ◌+◌, ◌<◌, ◌≡◌, Bool, cond, ◌&&◌, List, [], ◌∷◌, eqb, Option, Some, None}
use Rattle.elements.specs.rules.Class as Class
use Rattle.document.specs.rules.Record as Word
use Rattle.document.specs.rules.Document.{Node, node, Nodes, childless, child}
use Rattle.document.specs.rules.Table.{count, count_all}
use Rattle.document.specs.reference.Check.{First, nowhere, at_node, Cells, any_number, exactly, cells_in, differs, Entry, holds_id, is_among}
use Rattle.document.specs.rules.Visits.{child_count}
use Rattle.table.specs.Stored.{word_at, string_at}
use Rattle.validate.specs.declared.index.Target.{Target}
use Rattle.validate.specs.declared.index.Target.TheVariants.{Block, Footnote}

-- The id or target of node i.
abbrev pub key_at : List ℕ → List ℕ → ℕ → List ℕ
key_at words bytes i = string_at words bytes i Word.key_offset

abbrev pub entry_of_node : List ℕ → List ℕ → ℕ → Entry
entry_of_node words bytes i = record { number = i; kind = word_at words i Word.kind; key = key_at words bytes i }

-- The n entries from node i on.
unfoldable pub entries_from : List ℕ → List ℕ → ℕ → ℕ → List Entry
entries_from words bytes zero i = []
entries_from words bytes (suc n) i = entry_of_node words bytes i ∷ entries_from words bytes n (suc i)

-- A target may be of kind k.
abbrev pub wanted : Target → ℕ → Bool
wanted Block k = Class.is_block k
wanted Footnote k = eqb Class.footnote k

-- The ids of such blocks among the first n nodes, the last first.
unfoldable pub ids_before : List ℕ → List ℕ → Target → ℕ → List (List ℕ)
ids_before words bytes target zero = []
ids_before words bytes target (suc n) =
    cond (wanted target (word_at words n Word.kind) && holds_id (entry_of_node words bytes n))
    (key_at words bytes n ∷ ids_before words bytes target n) (ids_before words bytes target n)

-- Node i is a block whose id is on an earlier block.
abbrev pub repeats_at : List ℕ → List ℕ → ℕ → Bool
repeats_at words bytes i = holds_id (entry_of_node words bytes i) && is_among (key_at words bytes i) (ids_before words bytes Block i)

unfoldable pub found : First → Option ℕ
found nowhere = None
found (at_node i) = Some i

unfoldable pub cells_found : Cells → Option ℕ
cells_found any_number = None
cells_found (exactly n) = Some n

-- The words say the kinds, parents and ends of the node with number i, and of these nodes from number i on, children of node p.
unfoldable mutual
  pub Shape : List ℕ → ℕ → ℕ → Node → Type 0
  Shape words p i (node k key type text w h ns) =
      (word_at words i Word.kind ≡ k) × (word_at words i Word.parent ≡ p) × ((word_at words i Word.end ≡ i + suc (count_all ns)) × Shapes words i (i + 1) ns)

  pub Shapes : List ℕ → ℕ → ℕ → Nodes → Type 0
  Shapes words p i childless = Unit {0}
  Shapes words p i (child n ns) = Shape words p i n × Shapes words p (i + count n) ns

-- Node i has these children.
abbrev pub Family : List ℕ → ℕ → Nodes → Type 0
Family words i ns = (word_at words i Word.end ≡ i + suc (count_all ns)) × Shapes words i (i + 1) ns

-- The rows among the children of node i must have so many cells.
pub data Below (words : List ℕ) : ℕ → Cells → Type 0 where
  in_table : {i : ℕ} (ns : Nodes) → word_at words i Word.kind ≡ Class.table → Family words i ns → Below words i (cells_in ns)
  in_body : {i : ℕ} {c : Cells} → word_at words i Word.kind ≡ Class.body → word_at words i Word.parent < i → Below words (word_at words i Word.parent) c → Below words i c
  elsewhere : {i : ℕ} → (word_at words i Word.kind ≡ Class.table → ⊥) → (word_at words i Word.kind ≡ Class.body → ⊥) → Below words i any_number

-- The node that says so is no body.
pub record Binder (words : List ℕ) (i : ℕ) (c : Cells) : Type 0 where
  pub binds : Below words i c
  pub no_body : word_at words i Word.kind ≡ Class.body → ⊥

-- Whether node i is a row with another number of cells than it must have.
pub record Spot (words : List ℕ) (i : ℕ) (b : Bool) : Type 0 where
  pub must : Cells
  pub cells : Nodes
  pub family : Family words i cells
  pub bound : word_at words i Word.kind ≡ Class.row → Below words (word_at words i Word.parent) must
  pub test : b ≡ eqb (word_at words i Word.kind) Class.row && differs must (child_count cells)

-- The first such row among n nodes from number i on.
unfoldable pub Searched : List ℕ → ℕ → ℕ → First → Type 0
Searched words zero i f = f ≡ nowhere
Searched words (suc n) i f = (b : Bool) × (g : First) × Spot words i b × (f ≡ cond b (at_node i) g) × Searched words n (suc i) g
