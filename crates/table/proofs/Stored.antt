-- Laws of nodes that stand in a table.
use Prim.Native.Nat.{ℕ, zero, suc, ◌+◌, ◌*◌, ◌≤◌, ◌<◌}
use mathlib.Core.Path.{◌≡◌, refl, sym, ap, ◌∙◌}
use mathlib.Core.List.{List, [], ◌∷◌, ◌++◌, append_assoc, append-nil}
use native.Mathlib.Omega.{arith}
use lib.ListN.{length, get_or, take, drop, length-append, length-take, length-drop}
use lib.Seq.{take_all, take_at, drop_at, take-add, drop-drop, drop-cons, get_or-take, get_or-drop}
use Rattle.base.specs.rules.Limits.{missing}
use Rattle.document.specs.rules.Record.{record_length}
use Rattle.document.specs.rules.Document.{Node, node, Nodes, childless, child}
use Rattle.document.specs.rules.Table.{count, count_all, pool, pool_all, rows, rows_all, table_of}
use Rattle.document.specs.reference.Printing.{part}
use Rattle.document.proofs.Records.{rows_length}
use Rattle.document.proofs.TableDetermines.{count_positive}
use Rattle.table.specs.Stored.{word_at, Recorded, Stored, StoredAll}

-- A part that is there whole and is not empty ends within the list.
part_within : (l s : List ℕ) (n m : ℕ) → take m (drop n l) ≡ s → length s ≡ m → 0 < m → n + m ≤ length l
part_within l s n m e f h = omega (arith, simp (length-take, length-drop) at (ap length e))

-- The n elements from j on.
abbrev elements : List ℕ → ℕ → ℕ → List ℕ
elements l j zero = []
elements l j (suc n) = get_or l j 0 ∷ elements l (suc j) n

take_elements : (l : List ℕ) (j n : ℕ) → j + n ≤ length l → take n (drop j l) ≡ elements l j n
take_elements l j zero h = refl
take_elements l j (suc n) h =
    let b : j < length l = omega arith in
    rw (drop-cons l j 0, take_elements l (suc j) n (omega arith))

-- The words of a record are those of the table.
pub recorded_word : (words r : List ℕ) (i j : ℕ) → Recorded words i r → j < record_length → word_at words i j ≡ get_or r j 0
unfolding word_at Recorded
recorded_word words r i j e h = rw (← e, get_or-take, get_or-drop)

-- A whole record ends within the table.
pub recorded_within : (words r : List ℕ) (i : ℕ) → Recorded words i r → length r ≡ record_length → record_length * i + record_length ≤ length words
unfolding Recorded
recorded_within words r i e f = part_within words r (record_length * i) record_length e f (omega arith)

-- Within the table the record of node i is its eleven words.
pub word_recorded : (words : List ℕ) (i : ℕ) → record_length * i + record_length ≤ length words
    → Recorded words i
    (word_at words i 0 ∷ word_at words i 1 ∷ word_at words i 2 ∷ word_at words i 3 ∷ word_at words i 4 ∷ word_at words i 5
    ∷ word_at words i 6 ∷ word_at words i 7 ∷ word_at words i 8 ∷ word_at words i 9 ∷ word_at words i 10 ∷ [])
unfolding word_at Recorded
word_recorded words i h = simp get_or-drop at (take_elements (drop (record_length * i) words) 0 record_length (simp length-drop (omega arith)))

-- The words from node i + c on are those behind c records from node i on.
records_behind : (words : List ℕ) (i c : ℕ) → drop (record_length * (i + c)) words ≡ drop (record_length * c) (drop (record_length * i) words)
records_behind words i c = let e : record_length * (i + c) ≡ record_length * i + record_length * c = omega arith in rw (drop-drop, e)

-- A string that begins a list from p on is its part there, and what follows the string stands from its end on.
string_front : (bytes s r : List ℕ) (p : ℕ) → drop p bytes ≡ s ++ r → (part bytes p (length s) ≡ s) × (drop (p + length s) bytes ≡ r)
unfolding part
string_front bytes s r p e =
    (rw e (take_at s r (length s) refl), rw (← (drop-drop (length s) p bytes), e) (drop_at s r (length s) refl))

-- The records of c nodes and those of the c' after them are the records of c + c'.
records_joined : (words s t : List ℕ) (i c c' n : ℕ) → n ≡ c + c' → take (record_length * c) (drop (record_length * i) words) ≡ s
    → take (record_length * c') (drop (record_length * (i + c)) words) ≡ t → take (record_length * n) (drop (record_length * i) words) ≡ s ++ t
records_joined words s t i c c' n m e f =
    let k : record_length * n ≡ record_length * c + record_length * c' = omega arith in
    rw (k, take-add, ← (records_behind words i c), e, f)

-- Two strings, one behind the other, are one.
strings_joined : (bytes s t : List ℕ) (p : ℕ) → take (length s) (drop p bytes) ≡ s → take (length t) (drop (p + length s) bytes) ≡ t
    → take (length (s ++ t)) (drop p bytes) ≡ s ++ t
strings_joined bytes s t p e f = rw (length-append, take-add, drop-drop, e, f)

mutual
  unfolding count pool rows Recorded Stored

  -- What stands at the front of the table's words from node i on, and of the pool from p on, is stored.
  pub stored_rows : (n : Node) (words bytes r q : List ℕ) (i parent p : ℕ) → drop (record_length * i) words ≡ rows i parent p n ++ r → drop p bytes ≡ pool n ++ q
      → Stored words bytes i parent p n
  stored_rows (node k key type text w h ns) words bytes r q i parent p e f =
      let s1 = string_front bytes key _ p (simp append_assoc at f) in
      let s2 = string_front bytes type _ (p + length key) s1.1 in
      let s3 = string_front bytes text _ (p + length key + length type) s2.1 in
      let rest : drop (record_length * (i + 1)) words ≡ rows_all (i + 1) i (p + length key + length type + length text) ns ++ r
      = rw (records_behind, e) in
      (rw e, s1.0, s2.0, s3.0, stored_rows_all ns words bytes r q (i + 1) i (p + length key + length type + length text) rest s3.1)

  -- So are several nodes.
  pub stored_rows_all : (ns : Nodes) (words bytes r q : List ℕ) (i parent p : ℕ) → drop (record_length * i) words ≡ rows_all i parent p ns ++ r
      → drop p bytes ≡ pool_all ns ++ q → StoredAll words bytes i parent p ns
  stored_rows_all childless words bytes r q i parent p e f = tt
  stored_rows_all (child n ns) words bytes r q i parent p e f =
      let e' : drop (record_length * i) words ≡ rows i parent p n ++ (rows_all (i + count n) parent (p + length (pool n)) ns ++ r) = simp append_assoc at e in
      let f' : drop p bytes ≡ pool n ++ (pool_all ns ++ q) = simp append_assoc at f in
      let rest : drop (record_length * (i + count n)) words ≡ rows_all (i + count n) parent (p + length (pool n)) ns ++ r
      = rw (records_behind, e') (drop_at (rows i parent p n) _ (record_length * count n) (rows_length n i parent p)) in (
        stored_rows n words bytes _ _ i parent p e' f',
        stored_rows_all ns words bytes r q (i + count n) parent (p + length (pool n)) rest (string_front bytes (pool n) _ p f').1,
      )

mutual
  unfolding count pool rows part Recorded Stored

  -- What is stored stands in the table from node i on, and in the pool from p on.
  pub rows_stored : (n : Node) (words bytes : List ℕ) (i parent p : ℕ) → Stored words bytes i parent p n
      → (take (record_length * count n) (drop (record_length * i) words) ≡ rows i parent p n) × (take (length (pool n)) (drop p bytes) ≡ pool n)
  rows_stored (node k key type text w h ns) words bytes i parent p (e, s1, s2, s3, a) =
      let below = rows_stored_all ns words bytes (i + 1) i (p + length key + length type + length text) a in (
        records_joined words _ _ i 1 (count_all ns) (suc (count_all ns)) (omega arith) e below.0,
        strings_joined bytes key _ p s1
            (strings_joined bytes type _ (p + length key) s2 (strings_joined bytes text _ (p + length key + length type) s3 below.1)),
      )

  -- So do several nodes.
  pub rows_stored_all : (ns : Nodes) (words bytes : List ℕ) (i parent p : ℕ) → StoredAll words bytes i parent p ns
      → (take (record_length * count_all ns) (drop (record_length * i) words) ≡ rows_all i parent p ns) × (take (length (pool_all ns)) (drop p bytes) ≡ pool_all ns)
  rows_stored_all childless words bytes i parent p a = (refl, refl)
  rows_stored_all (child n ns) words bytes i parent p (a, b) =
      let one = rows_stored n words bytes i parent p a in
      let more = rows_stored_all ns words bytes (i + count n) parent (p + length (pool n)) b in (
        records_joined words _ _ i (count n) (count_all ns) _ refl one.0 more.0,
        strings_joined bytes (pool n) (pool_all ns) p one.1 more.1,
      )

-- What is stored ends within the table.
pub stored_within : (n : Node) (words bytes : List ℕ) (i parent p : ℕ) → Stored words bytes i parent p n → record_length * (i + count n) ≤ length words
stored_within n words bytes i parent p a =
    omega (
      arith,
      part_within words (rows i parent p n) (record_length * i) (record_length * count n) (rows_stored n words bytes i parent p a).0 (rows_length n i parent p)
          (omega (arith, count_positive n)),
    )

-- The nodes of a document stand in its table.
pub table_stored : (d : Node) (words bytes : List ℕ) → table_of d ≡ words → pool d ≡ bytes → Stored words bytes 0 missing 0 d
unfolding table_of
table_stored d words bytes e f =
    stored_rows d words bytes [] [] 0 missing 0 (sym e ∙ sym (append-nil (rows 0 missing 0 d))) (sym f ∙ sym (append-nil (pool d)))

-- A table in which a document's nodes stand, and nothing else, is the document's.
pub stored_table : (d : Node) (words bytes : List ℕ) → Stored words bytes 0 missing 0 d → length words ≡ record_length * count d
    → length bytes ≡ length (pool d) → (table_of d ≡ words) × (pool d ≡ bytes)
unfolding table_of
stored_table d words bytes a e f =
    let s = rows_stored d words bytes 0 missing 0 a in (
      sym s.0 ∙ take_all (record_length * count d) words (omega arith),
      sym s.1 ∙ take_all (length (pool d)) bytes (omega arith),
    )
