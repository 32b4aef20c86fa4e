-- The words and strings of a table's records, and a document's nodes as they stand in a table, record by record.
use Rattle.std.specs.Prelude.{ℕ, suc, ◌+◌, ◌*◌, ◌≡◌, List, [], ◌∷◌, length, get_or, take, drop}
use Rattle.document.specs.rules.Document.{Node, node, Nodes, childless, child}
use Rattle.document.specs.rules.Record.{record_length}
use Rattle.document.specs.rules.Table.{count, count_all, pool, offset}
use Rattle.document.specs.reference.Printing.{part}
use Rattle.table.specs.declared.record.Record.{Record}

-- Word j of the record of node i, and 0 past the end.
unfoldable pub word_at : List ℕ → ℕ → ℕ → ℕ
word_at words i j = get_or words (record_length * i + j) 0

-- The string that words j and j + 1 of the record of node i name, as far as the pool has it.
unfoldable pub string_at : List ℕ → List ℕ → ℕ → ℕ → List ℕ
string_at words bytes i j = part bytes (word_at words i j) (word_at words i (j + 1))

-- The words of a record, in their order.
abbrev pub words_of : Record → List ℕ
words_of r =
    r.kind ∷ r.parent ∷ r.end ∷ r.key ∷ r.key_length ∷ r.typename ∷ r.type_length ∷ r.text ∷ r.text_length ∷ r.width ∷ r.height ∷ []

-- The record of node i has these words.
unfoldable pub Recorded : List ℕ → ℕ → List ℕ → Type 0
Recorded words i r = take record_length (drop (record_length * i) words) ≡ r

-- Node number i, under this parent, and its descendants stand in the table, their strings from p on in the pool.
unfoldable mutual
  pub Stored : List ℕ → List ℕ → ℕ → ℕ → ℕ → Node → Type 0
  Stored words bytes i parent p (node k key type text w h ns) =
      Recorded words i
      (k ∷ parent ∷ (i + suc (count_all ns)) ∷ offset p key ∷ length key ∷ offset (p + length key) type ∷ length type
      ∷ offset (p + length key + length type) text ∷ length text ∷ w ∷ h ∷ [])
      × (part bytes p (length key) ≡ key)
      × (part bytes (p + length key) (length type) ≡ type)
      × (part bytes (p + length key + length type) (length text) ≡ text)
      × StoredAll words bytes (i + 1) i (p + length key + length type + length text) ns

  -- So do these nodes, the first with number i, children of one parent.
  pub StoredAll : List ℕ → List ℕ → ℕ → ℕ → ℕ → Nodes → Type 0
  StoredAll words bytes i parent p childless = Unit {0}
  StoredAll words bytes i parent p (child n ns) =
      Stored words bytes i parent p n × StoredAll words bytes (i + count n) parent (p + length (pool n)) ns
