-- The words of the table of a document, and its pool, say the document's entries, and the search through its rows finds its bad row.
use Prim.Native.Nat.{ℕ, zero, suc, ◌+◌, ◌*◌, ◌<◌, ◌≤◌}
use mathlib.Core.Path.{◌≡◌, ◌∙◌, refl, sym, ap, subst}
use mathlib.Core.Bool.{Bool, true, false, cond, ◌&&◌, ◌||◌}
use mathlib.Core.List.Memᴰ
use mathlib.Core.List.{List, [], ◌∷◌, ◌++◌, map, Memᴰ}
use native.Mathlib.Nat.{zero-add, add-zero, suc-add, add-suc}
use native.Mathlib.Numerals.{add-one}
use native.Mathlib.Omega.{arith}
use lib.Dec.{T, eqb, eqb→eq, lit<}
use lib.ListN.{length, take, drop, get_or, length-take, length-drop, take-append-drop}
use lib.Seq.{get_or-take, get_or-drop, take-append-le, drop-append-le}
use borrow.Author.Tests.{eqb-true, eqb-false}
use Rattle.base.proofs.Booleans.{bool_case, cond_case, both, T_true, or_none}
use Rattle.elements.specs.rules.Bytes.{same}
use Rattle.elements.specs.rules.Class as Class
use Rattle.base.specs.rules.Limits.{missing}
use Rattle.document.specs.rules.Document.{Tree, text, value, size, element, tree_class, says, Node, node, Nodes, childless, child}
use Rattle.document.specs.reference.RulesTest.{keeps_rules, is_document}
use Rattle.document.specs.rules.Value.{non_empty, is_value}
use Rattle.document.specs.rules.Record.{record_length}
use Rattle.document.specs.rules.Table.{count, count_all, pool, offset, table_of}
use Rattle.document.specs.reference.Check.{First, at_node, or_else, Cells, any_number, cells_below, differs, found_bad_row}
use Rattle.document.specs.reference.Check.{bad_row_among, Entry, entries, is_among, ids_where, found_unknown_target, found_unknown_link, found_unknown_footnote}
use Rattle.document.specs.rules.Visits.{child_count, node_kind, node_key, Visit, visits, visits_all, visits_of, up_from, end_of, words_of}
use Rattle.document.proofs.RulesTest.{lawful_test}
use Rattle.document.proofs.Records.{entry_of, record_at, key_stands, table_length, numbered, entries_visits}
use Rattle.validate.specs.internal.DocumentTable.{BeginsWithTable}
use Rattle.document.specs.reference.Printing.{part}
use Rattle.table.specs.Stored.{word_at, string_at}
use Rattle.validate.specs.declared.index.Target.{Target}
use Rattle.validate.specs.declared.index.Target.TheVariants.{Block, Footnote}
use Rattle.validate.specs.internal.TableWords.{key_at, entry_of_node, entries_from, wanted, ids_before, Shape, Shapes, Family, Below, in_table, in_body, elsewhere, Searched}
use Rattle.validate.proofs.lemmas.index.BlockIds.{id_wanted}

-- What stands in a part of a list that is long enough.
part_of : (xs ys : List ℕ) (at size : ℕ) (key : List ℕ) → take size (drop at xs) ≡ key → length key ≡ size → take size (drop at (xs ++ ys)) ≡ key
part_of xs ys at zero key e l = e
part_of xs ys at (suc n) key e l =
    let f : length (take (suc n) (drop at xs)) ≡ length key = ap length e in
    let h : suc n ≤ length (drop at xs) = omega (arith, length-take (suc n) (drop at xs)) in
    let g : at ≤ length xs = omega (arith, length-drop at xs) in
    rw (drop-append-le at xs ys g, take-append-le (suc n) (drop at xs) ys h) e

-- The words of a node's kind, parent and end.
abbrev Recorded : List ℕ → Visit → Type 0
Recorded words v =
    (word_at words v.number 0 ≡ node_kind v.visited) × (word_at words v.number 1 ≡ v.parent)
    × (word_at words v.number 2 ≡ v.number + count v.visited)

-- Word j of the record of a visited node.
module _ (words : List ℕ) (n : ℕ) (bytes : List ℕ) (d : Node) (holds : BeginsWithTable words n bytes d) (v : Visit)
    (m : Memᴰ v (visits_of d)) where
  within : record_length * v.number + record_length ≤ record_length * n
  unfolding words_of
  within =
      let e : length (take record_length (drop (record_length * v.number) (table_of d))) ≡ record_length = ap length (record_at d v m) in
      let t : length (table_of d) ≡ record_length * n = table_length d ∙ ap (λ (x : ℕ). record_length * x) holds.node_count in
      omega (arith, length-take record_length (drop (record_length * v.number) (table_of d)), length-drop (record_length * v.number) (table_of d))

  pub word_is : (j : ℕ) → j < record_length → word_at words v.number j ≡ get_or (words_of v) j 0
  unfolding word_at
  word_is j l =
      let h : record_length * v.number + j < record_length * n = omega (arith, within) in
      sym (get_or-take (record_length * n) words (record_length * v.number + j) 0 h)
      ∙ (rw holds.node_words
      (sym (get_or-drop (record_length * v.number) (table_of d) j 0)
      ∙ (sym (get_or-take record_length (drop (record_length * v.number) (table_of d)) j 0 l) ∙ rw (record_at d v m))))

  pub key_is : key_at words bytes v.number ≡ node_key v.visited
  unfolding string_at part words_of
  key_is =
      let key : List ℕ = node_key v.visited in
      let split : bytes ≡ pool d ++ drop (length (pool d)) bytes =
      sym (take-append-drop (length (pool d)) bytes) ∙ ap (λ (l : List ℕ). l ++ drop (length (pool d)) bytes) holds.pool_bytes in
      rw (word_is 3 (lit< tt), word_is 4 (lit< tt))
      (ap (λ (l : List ℕ). take (length key) (drop (offset v.start key) l)) split
      ∙ part_of (pool d) (drop (length (pool d)) bytes) (offset v.start key) (length key) key (key_stands d v m) refl)

  pub entry_is : entry_of_node words bytes v.number ≡ entry_of v
  unfolding entry_of words_of
  entry_is = rw (word_is 0 (lit< tt), key_is)

  -- The words that say where a node stands.
  pub kind_parent_end : Recorded words v
  unfolding words_of end_of
  kind_parent_end = (word_is 0 (lit< tt), word_is 1 (lit< tt), word_is 2 (lit< tt))

-- The entries, one by one.
entries_up : (words bytes : List ℕ) (n i : ℕ) → entries_from words bytes n i ≡ map (entry_of_node words bytes) (up_from i n)
unfolding entries_from up_from
entries_up words bytes zero i = refl
entries_up words bytes (suc n) i = ap (λ (l : List Entry). entry_of_node words bytes i ∷ l) (entries_up words bytes n (suc i))

each_entry : (f : ℕ → Entry) (vs : List Visit) → ((v : Visit) → Memᴰ v vs → f v.number ≡ entry_of v)
    → map f (map (λ (v : Visit). v.number) vs) ≡ map entry_of vs
each_entry f [] h = refl
each_entry f (v ∷ vs) h = rw (h v (Memᴰ.head refl), each_entry f vs (λ u m. h u (Memᴰ.tail m)))

pub entries_are : (words : List ℕ) (n : ℕ) (bytes : List ℕ) (d : Node) → BeginsWithTable words n bytes d → entries_from words bytes n 0 ≡ entries 0 d
unfolding visits_of
entries_are words n bytes d holds =
    entries_up words bytes n 0
    ∙ (ap (λ (m : ℕ). map (entry_of_node words bytes) (up_from 0 m)) (sym holds.node_count)
    ∙ (ap (map (entry_of_node words bytes)) (sym (numbered d))
    ∙ (each_entry (entry_of_node words bytes) (visits_of d) (λ v m. entry_is words n bytes d holds v m) ∙ sym (entries_visits d 0 missing 0))))

-- The ids before node i, and those from it on, are those of all.
or_swap : (a b c : Bool) → (a || b) || c ≡ b || (a || c)
or_swap true true c = refl
or_swap true false c = refl
or_swap false true c = refl
or_swap false false c = refl

module _ (words bytes s : List ℕ) (target : Target) where
  ids_swap : (n i : ℕ)
      → is_among s (ids_before words bytes target (suc i)) || is_among s (ids_where (wanted target) (entries_from words bytes n (suc i)))
      ≡ is_among s (ids_before words bytes target i) || is_among s (ids_where (wanted target) (entries_from words bytes (suc n) i))
  unfolding is_among ids_before ids_where entries_from
  ids_swap n i =
      bool_case (id_wanted words bytes target i) (λ e. rw e (or_swap (same s (key_at words bytes i)) _ _)) (λ e. rw e)

  ids_all : (i n : ℕ)
      → is_among s (ids_before words bytes target i) || is_among s (ids_where (wanted target) (entries_from words bytes n i))
      ≡ is_among s (ids_where (wanted target) (entries_from words bytes (i + n) 0))
  unfolding is_among ids_before
  ids_all zero n = rw zero-add
  ids_all (suc i) n = ids_swap n i ∙ (ids_all i (suc n) ∙ rw (suc-add, add-suc))

  ids_known : (n : ℕ) → is_among s (ids_before words bytes target n) ≡ is_among s (ids_where (wanted target) (entries_from words bytes n 0))
  unfolding is_among ids_where entries_from
  ids_known n = sym (or_none (is_among s (ids_before words bytes target n))) ∙ (ids_all n 0 ∙ rw add-zero)

unknown_same : (k : ℕ) (ids ids' : List (List ℕ)) (es : List Entry) → ((s : List ℕ) → is_among s ids ≡ is_among s ids')
    → found_unknown_target k ids es ≡ found_unknown_target k ids' es
unfolding found_unknown_target
unknown_same k ids ids' [] h = refl
unknown_same k ids ids' (e ∷ es) h = rw (h e.key, unknown_same k ids ids' es h)

module _ (words : List ℕ) (n : ℕ) (bytes : List ℕ) (d : Node) (holds : BeginsWithTable words n bytes d) where
  unknown_is : (k : ℕ) (target : Target)
      → found_unknown_target k (ids_before words bytes target n) (entries_from words bytes n 0) ≡ found_unknown_target k (ids_where (wanted target) (entries 0 d))
      (entries 0 d)
  unknown_is k target =
      unknown_same k (ids_before words bytes target n) (ids_where (wanted target) (entries_from words bytes n 0)) (entries_from words bytes n 0)
      (λ s. ids_known words bytes s target n)
      ∙ ap (λ (es : List Entry). found_unknown_target k (ids_where (wanted target) es) es) (entries_are words n bytes d holds)

  pub link_is : found_unknown_target Class.link (ids_before words bytes Block n) (entries_from words bytes n 0) ≡ found_unknown_link (entries 0 d)
  unfolding found_unknown_link
  link_is = unknown_is Class.link Block

  pub note_is : found_unknown_target Class.footnote_ref (ids_before words bytes Footnote n) (entries_from words bytes n 0) ≡ found_unknown_footnote
      (entries 0 d)
  unfolding found_unknown_footnote
  note_is = unknown_is Class.footnote_ref Footnote

-- The words say the shape of the tree.
mutual
  unfolding visits Shape count node_kind

  shape : (words : List ℕ) (n : Node) (i parent p : ℕ) → ((v : Visit) → Memᴰ v (visits i parent p n) → Recorded words v) → Shape words parent i n
  shape words (node k key type said w h ns) i parent p r =
      let own = r (record { number = i; parent = parent; start = p; visited = node k key type said w h ns }) (Memᴰ.head refl) in
      (own.0, own.1, (own.2, shapes words ns (i + 1) i (p + length key + length type + length said) (λ v m. r v (Memᴰ.tail m))))

  shapes : (words : List ℕ) (ns : Nodes)
      (i parent p : ℕ) → ((v : Visit) → Memᴰ v (visits_all i parent p ns) → Recorded words v) → Shapes words parent i ns
  shapes words childless i parent p r = tt
  shapes words (child n ns) i parent p r = (
    shape words n i parent p (λ v m. r v (Memᴰ.append_left (visits_all (i + count n) parent (p + length (pool n)) ns) m)),
    shapes words ns (i + count n) parent (p + length (pool n)) (λ v m. r v (Memᴰ.append_right (visits i parent p n) m)),
  )

or_else_cond : (b : Bool) (i : ℕ) (f g : First) → or_else (cond b (at_node i) f) g ≡ cond b (at_node i) (or_else f g)
unfolding or_else
or_else_cond true i f g = refl
or_else_cond false i f g = refl

module _ (words : List ℕ) where
  searched_append : (m n i : ℕ) (f g : First) → Searched words m i f → Searched words n (i + m) g → Searched words (m + n) i (or_else f g)
  unfolding Searched or_else
  searched_append zero n i f g e t = rw (zero-add n, e) (rw add-zero at t)
  searched_append (suc m) n i f g (b, h, spot, e, s) t =
      let r : Searched words n (suc i + m) g = subst (λ (j : ℕ). Searched words n j g) (omega arith) t in
      rw suc-add (b, or_else h g, spot, ap (λ (x : First). or_else x g) e ∙ or_else_cond b i h g, searched_append m n (suc i) h g s r)

  -- What binds the children of a node, by its kind.
  below : (i p k : ℕ) (c : Cells) (ns : Nodes) → word_at words i 0 ≡ k → word_at words i 1 ≡ p → Family words i ns
      → ((k ≡ Class.document → ⊥) → (p < i) × Below words p c) → Below words i (cells_below c k ns)
  unfolding cells_below
  below i p k c ns ki pi fam bound =
      cond_case (Below words i) (eqb k Class.table) (λ t. in_table ns (ki ∙ eqb-true k Class.table t) fam)
      (λ t. cond_case (Below words i) (eqb k Class.body)
      (λ u.
      let e : k ≡ Class.body = eqb-true k Class.body u in
      let (l, b) = bound (λ x. omega arith) in
      in_body (ki ∙ e) (rw pi l) (rw pi b))
      (λ u. elsewhere (λ x. eqb-false k Class.table t (sym ki ∙ x)) (λ x. eqb-false k Class.body u (sym ki ∙ x))))

  mutual
    unfolding Shape Searched found_bad_row count node_kind

    searched : (n : Node) (i p : ℕ) (c : Cells) → Shape words p i n → ((node_kind n ≡ Class.document → ⊥) → (p < i) × Below words p c)
        → Searched words (count n) i (found_bad_row i c n)
    searched (node k key type said w h ns) i p c (ki, pi, fam) bound = (
      eqb k Class.row && differs c (child_count ns),
      bad_row_among (i + 1) (cells_below c k ns) ns,
      record {
        must = c;
        cells = ns;
        family = fam;
        bound = λ e. rw pi (bound (λ x. omega (arith, ki))).1;
        test = rw ki;
      },
      refl,
      subst (λ (j : ℕ). Searched words (count_all ns) j (bad_row_among (i + 1) (cells_below c k ns) ns)) (add-one i)
          (searched_all ns (i + 1) i (cells_below c k ns) fam.1 (omega arith) (below i p k c ns ki pi fam bound)),
    )

    searched_all : (ns : Nodes) (i p : ℕ) (c : Cells) → Shapes words p i ns → p < i → Below words p c
        → Searched words (count_all ns) i (bad_row_among i c ns)
    searched_all childless i p c s l b = refl
    searched_all (child n ns) i p c (s, t) l b =
        searched_append (count n) (count_all ns) i (found_bad_row i c n) (bad_row_among (i + count n) c ns) (searched n i p c s (λ f. (l, b)))
        (searched_all ns (i + count n) p c t (omega arith) b)

-- A document's root is of kind 1.
root_kind : (t : Tree) → T (is_document t) → node_kind (says t) ≡ Class.document
unfolding is_document tree_class keeps_rules says node_kind is_value
root_kind (text s) l = absurd l
root_kind (value c s) l =
    let (e, v) = both (eqb c Class.document) (is_value 0 c s) l in
    let v' : T (is_value 0 Class.document s) = subst (λ (x : ℕ). T (is_value 0 x s)) (eqb→eq c Class.document e) v in
    absurd (both (non_empty s) false v').1
root_kind (size w h) l = absurd l
root_kind (element k ts) l = eqb-true k Class.document (T_true _ (both (eqb k Class.document) _ l).0)

pub rows_searched : (words : List ℕ) (n : ℕ) (bytes : List ℕ) (d : Node) → BeginsWithTable words n bytes d → Searched words n 0
    (found_bad_row 0 any_number d)
unfolding visits_of
rows_searched words n bytes d holds =
    let e : node_kind d ≡ Class.document = ap node_kind (sym holds.document.said) ∙ root_kind holds.document.tree
    (lawful_test holds.document.tree holds.document.lawful) in
    subst (λ (m : ℕ). Searched words m 0 (found_bad_row 0 any_number d)) holds.node_count
    (searched words d 0 missing any_number (shape words d 0 missing 0 (λ v m. kind_parent_end words n bytes d holds v m)) (λ f. absurd (f e)))
