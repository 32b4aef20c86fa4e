-- The records and the pool of a node give the node back: what the test of printing looks for is the document itself.
use Prim.Native.Nat.{ℕ, zero, suc, ◌+◌, ◌≤◌}
use mathlib.Core.Path.{◌≡◌, ◌∙◌, refl, sym, ap}
use mathlib.Core.List.{List, [], ◌∷◌, ◌++◌, append_assoc, append-nil}
use native.Mathlib.Nat.{add-zero, zero-add, suc-add, add_assoc}
use native.Mathlib.Omega.{arith}
use lib.ListN.{length, length-append}
use borrow.Author.Tests.{lt-ltb, le-ltb}
use Rattle.base.specs.rules.Limits.{missing}
use Rattle.document.specs.rules.Document.{Node, node, Nodes, childless, child}
use Rattle.document.specs.rules.Table.{count, count_all, pool, pool_all, offset, rows, rows_all, table_of}
use Rattle.document.specs.reference.Printing.{Numbered, part, below, not_below, add_record, rebuild, candidate}
use Rattle.document.proofs.TableDetermines.{count_positive}
use Rattle.document.proofs.Records.{named}

abbrev numbered : ℕ → Node → Numbered
numbered i n = record { number = i; made = n }

-- Nodes that follow one another, each with its number.
unfoldable siblings : ℕ → Nodes → List Numbered
siblings i childless = []
siblings i (child n ns) = numbered i n ∷ siblings (i + count n) ns

module _ (bytes : List ℕ) where
  -- What is rebuilt from the number e on is not below e.
  none_below : (m e : ℕ) (r : List ℕ) → below e (rebuild m e r bytes) ≡ childless
  unfolding below rebuild add_record
  none_below zero e r = refl
  none_below (suc m) e r = rw (le-ltb e e (omega arith))

  all_kept : (m e : ℕ) (r : List ℕ) → not_below e (rebuild m e r bytes) ≡ rebuild m e r bytes
  unfolding not_below rebuild add_record
  all_kept zero e r = refl
  all_kept (suc m) e r = rw (le-ltb e e (omega arith))

-- Of siblings before an end, all are below it, and what follows is left.
siblings_below : (ns : Nodes) (i e : ℕ) (later : List Numbered) → i + count_all ns ≤ e → below e later ≡ childless
    → below e (siblings i ns ++ later) ≡ ns
unfolding below siblings count
siblings_below childless i e later l h = h
siblings_below (child n ns) i e later l h =
    rw (lt-ltb i e (omega (arith, count_positive n)), siblings_below ns (i + count n) e later (omega arith) h)

siblings_past : (ns : Nodes) (i e : ℕ) (later : List Numbered) → i + count_all ns ≤ e → not_below e (siblings i ns ++ later) ≡ not_below e later
unfolding not_below siblings count
siblings_past childless i e later l = refl
siblings_past (child n ns) i e later l =
    rw (lt-ltb i e (omega (arith, count_positive n)), siblings_past ns (i + count n) e later (omega arith))

module _ (bytes : List ℕ) where
  -- A string that stands in the pool at p.
  string_part : (q s r : List ℕ) (p : ℕ) → length q ≡ p → bytes ≡ q ++ (s ++ r) → part bytes (offset p s) (length s) ≡ s
  unfolding part
  string_part q s r p l e = rw e (named q s r p l)

  mutual
    unfolding count pool rows rebuild add_record siblings

    -- A node's records, before whatever follows, give the node, before what follows it.
    node_rebuilt : (n : Node) (i parent p m : ℕ) (r q z : List ℕ) → length q ≡ p → bytes ≡ q ++ (pool n ++ z)
        → rebuild (count n + m) i (rows i parent p n ++ r) bytes ≡ numbered i n ∷ rebuild m (i + count n) r bytes
    node_rebuilt (node k key type text w h ns) i parent p m r q z l e =
        let e1 : bytes ≡ q ++ (key ++ (type ++ (text ++ (pool_all ns ++ z)))) = e ∙ simp append_assoc in
        let e2 : bytes ≡ (q ++ key) ++ (type ++ (text ++ (pool_all ns ++ z))) = e ∙ simp append_assoc in
        let e3 : bytes ≡ ((q ++ key) ++ type) ++ (text ++ (pool_all ns ++ z)) = e ∙ simp append_assoc in
        let e4 : bytes ≡ (((q ++ key) ++ type) ++ text) ++ (pool_all ns ++ z) = e ∙ simp append_assoc in
        let l2 : length (q ++ key) ≡ p + length key = omega (arith, length-append q key) in
        let l3 : length ((q ++ key) ++ type) ≡ p + length key + length type = omega (arith, length-append (q ++ key) type) in
        let l4 : length (((q ++ key) ++ type) ++ text) ≡ p + length key + length type + length text = omega (arith, length-append ((q ++ key) ++ type) text) in
        let inside = nodes_rebuilt ns (i + 1) i (p + length key + length type + length text) m r (((q ++ key) ++ type) ++ text) z l4 e4 in
        let end : ℕ = i + suc (count_all ns) in
        let later : List Numbered = rebuild m end r bytes in
        let ends : i + 1 + count_all ns ≡ end = omega arith in
        rw (
          suc-add (count_all ns) m,
          string_part q key _ p l e1,
          string_part (q ++ key) type _ (p + length key) l2 e2,
          string_part ((q ++ key) ++ type) text _ (p + length key + length type) l3 e3,
          inside,
          ends,
          siblings_below ns (i + 1) end later (omega arith) (none_below bytes m end r),
          siblings_past ns (i + 1) end later (omega arith),
          all_kept bytes m end r,
        )

    nodes_rebuilt : (ns : Nodes) (i parent p m : ℕ) (r q z : List ℕ) → length q ≡ p → bytes ≡ q ++ (pool_all ns ++ z)
        → rebuild (count_all ns + m) i (rows_all i parent p ns ++ r) bytes ≡ siblings i ns ++ rebuild m (i + count_all ns) r bytes
    nodes_rebuilt childless i parent p m r q z l e = rw (zero-add m, add-zero i)
    nodes_rebuilt (child n ns) i parent p m r q z l e =
        let one = node_rebuilt n i parent p (count_all ns + m) (rows_all (i + count n) parent (p + length (pool n)) ns ++ r) q (pool_all ns ++ z) l (e ∙ simp append_assoc) in
        let rest = nodes_rebuilt ns (i + count n) parent (p + length (pool n)) m r (q ++ pool n) z (omega (arith, length-append q (pool n))) (e ∙ simp append_assoc) in
        rw (add_assoc (count n) (count_all ns) m, append_assoc (rows i parent p n), one, rest, add_assoc i (count n) (count_all ns))

-- The document that the test of printing looks for is the one whose table and pool it has.
pub rebuilt : (d : Node) → candidate (rebuild (count d) 0 (table_of d) (pool d)) ≡ d
unfolding table_of candidate
rebuilt d =
    let e : rebuild (count d + 0) 0 (table_of d ++ []) (pool d) ≡ numbered 0 d ∷ rebuild 0 (0 + count d) [] (pool d)
    = node_rebuilt (pool d) d 0 missing 0 0 [] [] [] refl (sym (append-nil (pool d))) in
    ap candidate (rw (add-zero (count d), append-nil (table_of d)) at e)
