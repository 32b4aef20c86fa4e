-- The record of a node that stands in a table, and the node that a record is of.
use Prim.Native.Nat.{ℕ, suc, ◌+◌, ◌≤◌, ◌<◌}
use mathlib.Core.Path.{◌≡◌, refl, sym, ap, ◌∙◌}
use mathlib.Core.Bool.{Bool, true, false, cond}
use mathlib.Core.List.{List, [], ◌∷◌}
use native.Mathlib.Omega.{arith}
use lib.Dec.{eqb, eqb-suc-zero}
use lib.ListN.{length, take, drop, length-append, length-take, length-drop}
use borrow.Author.Tests.{eqb-true}
use Rattle.document.specs.rules.Record.{record_length}
use Rattle.document.specs.rules.Document.{Node, node, Nodes}
use Rattle.document.specs.rules.Table.{count_all, pool, pool_all, offset}
use Rattle.document.specs.reference.Printing.{part}
use Rattle.table.specs.Stored.{word_at, Recorded, Stored, StoredAll}
use Rattle.table.specs.Stored.{string_at}
use Rattle.validate.specs.internal.DraftWalk.{offset_of, NamesStringAt, strings_end, RecordAt}
use Rattle.table.proofs.Stored.{recorded_word, recorded_within, word_recorded}

-- The node whose record is that of number i, with these children.
unfoldable pub node_of : List ℕ → List ℕ → ℕ → Nodes → Node
node_of words bytes i ns =
    node (word_at words i 0) (string_at words bytes i 3) (string_at words bytes i 5) (string_at words bytes i 7) (word_at words i 9) (word_at words i 10) ns

offset_length : (p : ℕ) (s : List ℕ) → offset p s ≡ offset_of p (length s)
unfolding offset offset_of
offset_length p [] = refl
offset_length p (b ∷ bs) = rw (eqb-suc-zero (length bs))

-- A string that is missing is the same from any place on.
part_from : (bytes : List ℕ) (o p n : ℕ) → o ≡ offset_of p n → part bytes o n ≡ part bytes p n
unfolding offset_of part
part_from bytes o p n = go (eqb n 0) refl
  where
    go : (b : Bool) → eqb n 0 ≡ b → o ≡ cond b 0 p → take n (drop o bytes) ≡ take n (drop p bytes)
    go true e f = rw (eqb-true n 0 e)
    go false e f = rw f

part_length : (bytes : List ℕ) (p n : ℕ) → p + n ≤ length bytes → length (part bytes p n) ≡ n
unfolding part
part_length bytes p n h = simp (length-take, length-drop) (omega arith)

-- A string that is there ends within the pool.
string_within : (bytes s : List ℕ) (p : ℕ) → part bytes p (length s) ≡ s → p ≤ length bytes → p + length s ≤ length bytes
unfolding part
string_within bytes s p e h = omega (arith, simp (length-take, length-drop) at (ap length e))

-- A string of no bytes is missing.
pub missing_string : (words bytes : List ℕ) (i j : ℕ) → word_at words i (j + 1) ≡ 0 → string_at words bytes i j ≡ []
unfolding string_at part
missing_string words bytes i j e = rw e

-- The string s is the one that words j and j + 1 name.
pub record StringNamed (words bytes : List ℕ) (i j p : ℕ) : Type 0 where
  pub size : length (string_at words bytes i j) ≡ word_at words i (j + 1)
  pub from : offset p (string_at words bytes i j) ≡ word_at words i j
  pub there : part bytes p (length (string_at words bytes i j)) ≡ string_at words bytes i j

pub string_named : (words bytes : List ℕ) (i j p : ℕ) → NamesStringAt words i j p (length bytes) → StringNamed words bytes i j p
unfolding string_at
string_named words bytes i j p s =
    let same = part_from bytes (word_at words i j) p (word_at words i (j + 1)) s.offset in
    let size : length (part bytes (word_at words i j) (word_at words i (j + 1))) ≡ word_at words i (j + 1)
    = rw same (part_length bytes p (word_at words i (j + 1)) s.within) in
    record { size = size; from = offset_length p _ ∙ rw size (sym s.offset); there = rw size (sym same) }

-- The words of a string that is there name it.
names : (words bytes s : List ℕ) (i j p : ℕ) → word_at words i j ≡ offset p s → word_at words i (j + 1) ≡ length s → part bytes p (length s) ≡ s
    → p ≤ length bytes → NamesStringAt words i j p (length bytes) × (s ≡ string_at words bytes i j)
unfolding string_at
names words bytes s i j p o l e h =
    let f : word_at words i j ≡ offset_of p (word_at words i (j + 1)) = o ∙ rw l (offset_length p s) in (
      record { offset = f; within = rw l (string_within bytes s p e h) },
      sym (part_from bytes (word_at words i j) p (word_at words i (j + 1)) f ∙ rw l e),
    )

-- What stands in a table is the node of its record.
pub record IsNodeOf (words bytes : List ℕ) (i parent p : ℕ) (n : Node) : Type 0 where
  pub below : Nodes
  pub made : n ≡ node_of words bytes i below
  pub recorded : RecordAt words (length bytes) i parent p
  pub end : word_at words i 2 ≡ i + suc (count_all below)
  pub stored : StoredAll words bytes (i + 1) i (strings_end words i p) below

pub stored_node : (n : Node) (words bytes : List ℕ) (i parent p : ℕ) → Stored words bytes i parent p n → p ≤ length bytes → IsNodeOf words bytes i parent p n
unfolding Stored node_of
stored_node (node k key type text w h ns) words bytes i parent p (e, s1, s2, s3, a) l =
    let at : (j : ℕ) → j < record_length → _ = λ j b. recorded_word words _ i j e b in
    let w4 : word_at words i 4 ≡ length key = at 4 (omega arith) in
    let w6 : word_at words i 6 ≡ length type = at 6 (omega arith) in
    let w8 : word_at words i 8 ≡ length text = at 8 (omega arith) in
    let n1 = names words bytes key i 3 p (at 3 (omega arith)) w4 s1 l in
    let n2 = names words bytes type i 5 (p + length key) (at 5 (omega arith)) w6 s2 (string_within bytes key p s1 l) in
    let n3 = names words bytes text i 7 (p + length key + length type) (at 7 (omega arith)) w8 s3
    (string_within bytes type (p + length key) s2 (string_within bytes key p s1 l)) in
    record {
      below = ns;
      made = cc (at 0 (omega arith), n1.1, n2.1, n3.1, at 9 (omega arith), at 10 (omega arith));
      recorded = record { whole = recorded_within words _ i e refl; under = at 1 (omega arith); key_stands = n1.0; type_at = rw w4 n2.0; text_at = rw (w4, w6) n3.0 };
      end = at 2 (omega arith);
      stored = rw (w4, w6, w8) a;
    }

-- The node of a record that is there stands in the table.
pub node_stored : (ns : Nodes) (words bytes : List ℕ) (i parent p : ℕ) → RecordAt words (length bytes) i parent p → word_at words i 2 ≡ i + suc (count_all ns)
    → StoredAll words bytes (i + 1) i (strings_end words i p) ns → Stored words bytes i parent p (node_of words bytes i ns)
unfolding Stored node_of Recorded
node_stored ns words bytes i parent p r e a =
    let n1 = string_named words bytes i 3 p r.key_stands in
    let n2 = string_named words bytes i 5 (p + word_at words i 4) r.type_at in
    let n3 = string_named words bytes i 7 (p + word_at words i 4 + word_at words i 6) r.text_at in (
      rw (n1.size, n2.size, n3.size, n1.from, n2.from, n3.from, ← r.under, ← e) (word_recorded words i r.whole),
      n1.there,
      rw n1.size n2.there,
      rw (n1.size, n2.size) n3.there,
      rw (n1.size, n2.size, n3.size) a,
    )

-- The strings of a record's node, and the pool of its children, are its pool.
pub node_pool : (ns : Nodes) (words bytes : List ℕ) (i parent p : ℕ) → RecordAt words (length bytes) i parent p
    → p + length (pool (node_of words bytes i ns)) ≡ strings_end words i p + length (pool_all ns)
unfolding node_of pool
node_pool ns words bytes i parent p r =
    let n1 = string_named words bytes i 3 p r.key_stands in
    let n2 = string_named words bytes i 5 (p + word_at words i 4) r.type_at in
    let n3 = string_named words bytes i 7 (p + word_at words i 4 + word_at words i 6) r.text_at in
    simp length-append (rw (n1.size, n2.size, n3.size) (omega arith))
