-- The table and the pool determine the document: two nodes, lawful or not, with one table and one pool are equal.
use Prim.Native.Nat.{ℕ, suc, ◌+◌, ◌<◌}
use mathlib.Core.Path.{◌≡◌, ◌∙◌, refl, ap}
use mathlib.Core.List.{List, [], ◌∷◌, ◌++◌, append_assoc}
use native.Mathlib.Omega.{arith}
use lib.ListN.{length, get_or, drop}
use Rattle.base.specs.rules.Limits.{missing}
use Rattle.document.specs.rules.Document.{Node, node, Nodes, childless, child}
use Rattle.document.specs.rules.Record.{record_length}
use Rattle.document.specs.rules.Record as Word
use Rattle.document.specs.rules.Table.{count, count_all, pool, pool_all, rows, rows_all, table_of}

-- Two strings of one length that begin one list are equal, and so is what follows them.
cut : (s t x y : List ℕ) → length s ≡ length t → s ++ x ≡ t ++ y → (s ≡ t) × (x ≡ y)
cut [] [] x y l e = (refl, e)
cut [] (b ∷ t) x y l e = let z : ◌≡◌ {A = ℕ} 0 1 = omega arith in (cc, cc)
cut (a ∷ s) [] x y l e = let z : ◌≡◌ {A = ℕ} 0 1 = omega arith in (cc, cc)
cut (a ∷ s) (b ∷ t) x y l e =
    let h : a ≡ b = cc in
    let f : s ++ x ≡ t ++ y = cc in
    let m : length s ≡ length t = omega arith in
    let r : (s ≡ t) × (x ≡ y) = cut s t x y m f in
    let r0 : s ≡ t = r.0 in
    (cc, r.1)

-- A node counts itself.
pub count_positive : (n : Node) → 0 < count n
unfolding count
count_positive (node k key type text w h ns) = omega arith

mutual
  unfolding count pool rows

  -- A node's records and strings, each before whatever follows, determine the node and what follows.
  node_determined : (n n' : Node) (i parent p : ℕ) (r r' q q' : List ℕ) → rows i parent p n ++ r ≡ rows i parent p n' ++ r'
      → pool n ++ q ≡ pool n' ++ q' → (n ≡ n') × (r ≡ r') × (q ≡ q')
  node_determined (node k key type text w h ns) (node k' key' type' text' w' h' ns') i parent p r r' q q' e f =
      let word : (j : ℕ) → get_or (rows i parent p (node k key type text w h ns) ++ r) j 0
      ≡ get_or (rows i parent p (node k' key' type' text' w' h' ns') ++ r') j 0 = λ j. ap (λ (l : List ℕ). get_or l j 0) e in
      let ends : i + suc (count_all ns) ≡ i + suc (count_all ns') = word Word.end in
      let c : count_all ns ≡ count_all ns' = omega (arith, ends) in
      let l1 : length key ≡ length key' = word Word.key_length in
      let l2 : length type ≡ length type' = word Word.type_length in
      let l3 : length text ≡ length text' = word Word.text_length in
      let kinds : k ≡ k' = word Word.kind in
      let widths : w ≡ w' = word Word.width in
      let heights : h ≡ h' = word Word.height in
      let s1 = cut key key' _ _ l1 (simp append_assoc at f) in
      let s2 = cut type type' _ _ l2 s1.1 in
      let s3 = cut text text' _ _ l3 s2.1 in
      let e1 : key ≡ key' = s1.0 in
      let e2 : type ≡ type' = s2.0 in
      let e3 : text ≡ text' = s3.0 in
      let later : rows_all (i + 1) i (p + length key + length type + length text) ns ++ r
      ≡ rows_all (i + 1) i (p + length key' + length type' + length text') ns' ++ r' = ap (drop record_length) e in
      let t : rows_all (i + 1) i (p + length key + length type + length text) ns ++ r
      ≡ rows_all (i + 1) i (p + length key + length type + length text) ns' ++ r' = later ∙ rw (l1, l2, l3) in
      let rest = nodes_determined ns ns' (i + 1) i (p + length key + length type + length text) r r' q q' c t s3.1 in
      let e4 : ns ≡ ns' = rest.0 in
      (rw (kinds, e1, e2, e3, widths, heights, e4), rest.1, rest.2)

  -- So do several nodes, of one number.
  nodes_determined : (ns ns' : Nodes) (i parent p : ℕ) (r r' q q' : List ℕ) → count_all ns ≡ count_all ns'
      → rows_all i parent p ns ++ r ≡ rows_all i parent p ns' ++ r' → pool_all ns ++ q ≡ pool_all ns' ++ q' → (ns ≡ ns') × (r ≡ r') × (q ≡ q')
  nodes_determined childless childless i parent p r r' q q' c e f = (refl, e, f)
  nodes_determined childless (child n' ns') i parent p r r' q q' c e f = absurd (omega (arith, count_positive n'))
  nodes_determined (child n ns) childless i parent p r r' q q' c e f = absurd (omega (arith, count_positive n))
  nodes_determined (child n ns) (child n' ns') i parent p r r' q q' c e f =
      let one = node_determined n n' i parent p _ _ _ _ (simp append_assoc at e) (simp append_assoc at f) in
      let e1 : n ≡ n' = one.0 in
      let en : count n ≡ count n' = cc in
      let c' : count_all ns ≡ count_all ns' = omega arith in
      let t : rows_all (i + count n) parent (p + length (pool n)) ns ++ r ≡ rows_all (i + count n) parent (p + length (pool n)) ns' ++ r'
      = one.1 ∙ rw e1 in
      let rest = nodes_determined ns ns' (i + count n) parent (p + length (pool n)) r r' q q' c' t one.2 in
      let e2 : ns ≡ ns' = rest.0 in
      (cc, rest.1, rest.2)

-- Two nodes with one table and one pool are equal.
pub table_determines : (d d' : Node) → table_of d ≡ table_of d' → pool d ≡ pool d' → d ≡ d'
unfolding table_of
table_determines d d' e f =
    (node_determined d d' 0 missing 0 [] [] [] [] (ap (λ (l : List ℕ). l ++ []) e) (ap (λ (l : List ℕ). l ++ []) f)).0
