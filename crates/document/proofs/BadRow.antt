-- The search for a bad row finds the first node that has fault 15, by the numbers of nodes.
use Prim.Native.Nat.{ℕ, ◌+◌, ◌<◌}
use mathlib.Core.Path.{◌≡◌, ◌∙◌, refl, sym, ap}
use mathlib.Core.Bool.{Bool, true, ◌&&◌}
use mathlib.Core.Logic.{◌⊎◌, inl, inr}
use mathlib.Core.List.Memᴰ
use mathlib.Core.List.{List, [], ◌∷◌, ◌++◌, map, map-map, map-append, Memᴰ}
use native.Mathlib.Omega.{arith}
use lib.Dec.{eqb}
use lib.ListN.{length}
use borrow.Author.Tests.{eqb-true, eqb-false, eq-eqb, ne_eqb}
use Rattle.base.proofs.Booleans.{bool_case, both, true_T, T_true}
use Rattle.elements.specs.rules.Class as Class
use Rattle.base.specs.rules.Limits.{missing}
use Rattle.document.specs.rules.Document.{Node, node, Nodes, childless, child, Document}
use Rattle.document.specs.rules.Table.{count, pool}
use Rattle.document.specs.rules.Visits.{child_count, node_kind, node_children, Visit, visits, visits_all, visits_of}
use Rattle.document.specs.rules.WellFormed.{BadRow, None}
use Rattle.document.specs.reference.Check.{Cells, any_number, exactly, cells_in, cells_below, differs, found_bad_row, bad_row_among}
use Rattle.document.specs.reference.Prose.{OneOf, In, RowsMatchHead}
use Rattle.document.proofs.NumberedLists.{NumberedFrom, counted, one_number}
use Rattle.document.proofs.NumberedSearch.{Finds, first_of, first_append, FirstAnswer, first_answer, test_finds}
use Rattle.document.proofs.Records.{numbered}
use Rattle.document.proofs.VisitedNodes.{visited_in, child_visited, in_visited}
use Rattle.document.proofs.TableRows.{root_kind, some_head, row_in_body, body_in_table, head_binds}

-- A visit with how many cells a row must have there.
pub record Bound : Type 0 where
  pub visit : Visit
  pub must : Cells

abbrev pub number_of : Bound → ℕ
number_of b = b.visit.number

-- Those of a node and its descendants.
unfoldable mutual
  pub bounds : ℕ → ℕ → ℕ → Cells → Node → List Bound
  bounds i parent p c (node k key type text w h ns) =
      record { visit = record { number = i; parent = parent; start = p; visited = node k key type text w h ns }; must = c }
      ∷ bounds_all (i + 1) i (p + length key + length type + length text) (cells_below c k ns) ns

  pub bounds_all : ℕ → ℕ → ℕ → Cells → Nodes → List Bound
  bounds_all i parent p c childless = []
  bounds_all i parent p c (child n ns) = bounds i parent p c n ++ bounds_all (i + count n) parent (p + length (pool n)) c ns

unfoldable pub bounds_of : Node → List Bound
bounds_of d = bounds 0 missing 0 any_number d

-- A row that has another number of cells than it must.
unfoldable pub is_bad : Bound → Bool
is_bad b = eqb (node_kind b.visit.visited) Class.row && differs b.must (child_count (node_children b.visit.visited))

-- The search for a bad row takes the first of them.
mutual
  unfolding found_bad_row bounds first_of is_bad node_kind node_children

  bad_row_first : (n : Node) (i parent p : ℕ) (c : Cells) → found_bad_row i c n ≡ first_of number_of is_bad (bounds i parent p c n)
  bad_row_first (node k key type text w h ns) i parent p c =
      rw (bad_row_first_all ns (i + 1) i (p + length key + length type + length text) (cells_below c k ns))

  bad_row_first_all : (ns : Nodes) (i parent p : ℕ) (c : Cells) → bad_row_among i c ns ≡ first_of number_of is_bad (bounds_all i parent p c ns)
  bad_row_first_all childless i parent p c = refl
  bad_row_first_all (child n ns) i parent p c =
      rw (bad_row_first n i parent p c, bad_row_first_all ns (i + count n) parent (p + length (pool n)) c)
      (sym (first_append number_of is_bad (bounds i parent p c n) (bounds_all (i + count n) parent (p + length (pool n)) c ns)))

abbrev visit_of : Bound → Visit
visit_of b = b.visit

-- They are the visits.
mutual
  unfolding bounds visits

  bounds_visits : (n : Node) (i parent p : ℕ) (c : Cells) → map visit_of (bounds i parent p c n) ≡ visits i parent p n
  bounds_visits (node k key type text w h ns) i parent p c =
      rw (bounds_visits_all ns (i + 1) i (p + length key + length type + length text) (cells_below c k ns))

  bounds_visits_all : (ns : Nodes) (i parent p : ℕ) (c : Cells) → map visit_of (bounds_all i parent p c ns) ≡ visits_all i parent p ns
  bounds_visits_all childless i parent p c = refl
  bounds_visits_all (child n ns) i parent p c =
      map-append visit_of (bounds i parent p c n) (bounds_all (i + count n) parent (p + length (pool n)) c ns)
      ∙ rw (bounds_visits n i parent p c, bounds_visits_all ns (i + count n) parent (p + length (pool n)) c)

visits_of_lem : (d : Node) → map visit_of (bounds_of d) ≡ visits_of d
unfolding bounds_of visits_of
visits_of_lem d = bounds_visits d 0 missing 0 any_number

pub bounds_counted : (d : Node) → NumberedFrom number_of 0 (bounds_of d)
bounds_counted d =
    counted number_of (bounds_of d) 0 (count d)
    (sym (map-map (λ (v : Visit). v.number) visit_of (bounds_of d)) ∙ (rw (visits_of_lem d) (numbered d)))

-- What the search answers, of any node.
pub bad_row_answer : (d : Node) → FirstAnswer number_of is_bad (bounds_of d) (found_bad_row 0 any_number d)
unfolding bounds_of
bad_row_answer d = rw (bad_row_first d 0 missing 0 any_number) (first_answer number_of is_bad (bounds_of d) 0 (bounds_counted d))

pub bound_visited : (d : Node) (b : Bound) → Memᴰ b (bounds_of d) → Memᴰ b.visit (visits_of d)
bound_visited d b m = rw (visits_of_lem d) at (Memᴰ.map visit_of m)

visit_bound : (d : Node) (v : Visit) → Memᴰ v (visits_of d) → (b : Bound) × Memᴰ b (bounds_of d) × (b.visit ≡ v)
visit_bound d v m = Memᴰ.of_map visit_of (bounds_of d) (rw (visits_of_lem d) m)

-- A visit is a child of another one, whose number is its parent word, and bound as that one binds its children.
record HeldBy (bs : List Bound) (b : Bound) : Type 0 where
  holder : Bound
  there : Memᴰ holder bs
  number_is : number_of holder ≡ b.visit.parent
  holds : OneOf b.visit.visited (node_children holder.visit.visited)
  must_is : b.must ≡ cells_below holder.must (node_kind holder.visit.visited) (node_children holder.visit.visited)

held_in : (s t : List Bound) (b : Bound) → ((a : Bound) → Memᴰ a s → Memᴰ a t) → HeldBy s b → HeldBy t b
held_in s t b into a =
    record { holder = a.holder; there = into a.holder a.there; number_is = a.number_is; holds = a.holds; must_is = a.must_is }

-- Or it is held from outside.
abbrev Outside : Cells → ℕ → (Node → Type 0) → Bound → Type 0
Outside c parent Here b = (b.must ≡ c) × (b.visit.parent ≡ parent) × Here b.visit.visited

mutual
  unfolding bounds OneOf node_kind node_children

  bound_held : (n : Node) (i parent p : ℕ) (c : Cells) (b : Bound) → Memᴰ b (bounds i parent p c n)
      → Outside c parent (λ m. m ≡ n) b ⊎ HeldBy (bounds i parent p c n) b
  bound_held (node k key type text w h ns) i parent p c b m =
      go (λ x. bound_held_all ns (i + 1) i (p + length key + length type + length text) (cells_below c k ns) b x) (Memᴰ.cases_cons m)
    where
      whole : Bound
      whole = record { visit = record { number = i; parent = parent; start = p; visited = node k key type text w h ns }; must = c }

      rest : List Bound
      rest = bounds_all (i + 1) i (p + length key + length type + length text) (cells_below c k ns) ns

      into : Outside (cells_below c k ns) i (λ m. OneOf m ns) b ⊎ HeldBy rest b → HeldBy (whole ∷ rest) b
      into (inl (q, e, o)) = record { holder = whole; there = Memᴰ.head refl; number_is = sym e; holds = o; must_is = q }
      into (inr a) = held_in rest (whole ∷ rest) b (λ u x. Memᴰ.tail x) a

      go : (Memᴰ b rest → Outside (cells_below c k ns) i (λ m. OneOf m ns) b ⊎ HeldBy rest b) → (b ≡ whole) ⊎ Memᴰ b rest
          → Outside c parent (λ m. m ≡ node k key type text w h ns) b ⊎ HeldBy (whole ∷ rest) b
      go below (inl x) = inl (rw x (refl, refl, refl))
      go below (inr x) = inr (into (below x))

  bound_held_all : (ns : Nodes) (i parent p : ℕ) (c : Cells) (b : Bound) → Memᴰ b (bounds_all i parent p c ns)
      → Outside c parent (λ m. OneOf m ns) b ⊎ HeldBy (bounds_all i parent p c ns) b
  bound_held_all childless i parent p c b m = absurd (Memᴰ.not-nil m)
  bound_held_all (child n ns) i parent p c b m =
      go (λ x. bound_held n i parent p c b x) (λ x. bound_held_all ns (i + count n) parent (p + length (pool n)) c b x)
      (Memᴰ.append_cases (bounds i parent p c n) m)
    where
      first : List Bound
      first = bounds i parent p c n

      rest : List Bound
      rest = bounds_all (i + count n) parent (p + length (pool n)) c ns

      from_first : Outside c parent (λ m. m ≡ n) b ⊎ HeldBy first b → Outside c parent (λ m. OneOf m (child n ns)) b ⊎ HeldBy (first ++ rest) b
      from_first (inl (q, e, x)) = inl (q, e, inl x)
      from_first (inr a) = inr (held_in first (first ++ rest) b (λ u x. Memᴰ.append_left rest x) a)

      from_rest : Outside c parent (λ m. OneOf m ns) b ⊎ HeldBy rest b → Outside c parent (λ m. OneOf m (child n ns)) b ⊎ HeldBy (first ++ rest) b
      from_rest (inl (q, e, x)) = inl (q, e, inr x)
      from_rest (inr a) = inr (held_in rest (first ++ rest) b (λ u x. Memᴰ.append_right first x) a)

      go : (Memᴰ b first → Outside c parent (λ m. m ≡ n) b ⊎ HeldBy first b)
          → (Memᴰ b rest → Outside c parent (λ m. OneOf m ns) b ⊎ HeldBy rest b) → Memᴰ b first ⊎ Memᴰ b rest
          → Outside c parent (λ m. OneOf m (child n ns)) b ⊎ HeldBy (first ++ rest) b
      go one more (inl x) = from_first (one x)
      go one more (inr x) = from_rest (more x)

-- Cells that a count differs from are an exact number, and not that count; and the other way.
differs_exact : (c : Cells) (m : ℕ) → differs c m ≡ true → (n : ℕ) × (c ≡ exactly n) × (m ≡ n → ⊥)
unfolding differs
differs_exact any_number m e = absurd (let z : ◌≡◌ {A = ℕ} 0 1 = cc in omega arith)
differs_exact (exactly n) m e = (n, refl, λ q. let z : ◌≡◌ {A = ℕ} 0 1 = cc (eq-eqb n m (sym q)) in omega arith)

exact_differs : (c : Cells) (m n : ℕ) → c ≡ exactly n → (m ≡ n → ⊥) → differs c m ≡ true
unfolding differs
exact_differs c m n e other = rw (e, ne_eqb n m (λ q. other (sym q)))

-- A body's rows are bound as it is, a table's body by the table's head.
below_body : (c : Cells) (k : ℕ) (ns : Nodes) → k ≡ Class.body → cells_below c k ns ≡ c
unfolding cells_below
below_body c k ns e = rw e

below_table : (c : Cells) (k : ℕ) (ns : Nodes) → k ≡ Class.table → cells_below c k ns ≡ cells_in ns
unfolding cells_below
below_table c k ns e = rw e

module _ (d : Node) (doc : Document d) where
  held : (b : Bound) → Memᴰ b (bounds_of d) → Outside any_number missing (λ n. n ≡ d) b ⊎ HeldBy (bounds_of d) b
  unfolding bounds_of
  held b m = bound_held d 0 missing 0 any_number b m

  bound_in : (b : Bound) → Memᴰ b (bounds_of d) → In b.visit.visited d
  bound_in b m = visited_in d b.visit (bound_visited d b m)

  -- A node that is no root is a child of the node that its parent word names, and bound as that one binds its children.
  held_by : (b h : Bound) → Memᴰ b (bounds_of d) → Memᴰ h (bounds_of d) → h.visit.number ≡ b.visit.parent
      → Class.text < node_kind b.visit.visited
      → OneOf b.visit.visited (node_children h.visit.visited)
      × (b.must ≡ cells_below h.must (node_kind h.visit.visited) (node_children h.visit.visited))
  held_by b h m mh e l = pick (held b m)
    where
      pick : Outside any_number missing (λ n. n ≡ d) b ⊎ HeldBy (bounds_of d) b
          → OneOf b.visit.visited (node_children h.visit.visited)
          × (b.must ≡ cells_below h.must (node_kind h.visit.visited) (node_children h.visit.visited))
      pick (inl (q, p, x)) = absurd (omega (arith, root_kind d doc, ap node_kind x))
      pick (inr a) =
          let is : a.holder ≡ h = one_number number_of (bounds_of d) 0 a.holder h (bounds_counted d) a.there mh (a.number_is ∙ sym e) in
          rw (← is) (a.holds, a.must_is)

  -- A bad row that is found has the fault.
  bad_has : (b : Bound) → Memᴰ b (bounds_of d) → is_bad b ≡ true → BadRow d (number_of b)
  unfolding is_bad
  bad_has b m t =
      let (k, o) = both (eqb (node_kind b.visit.visited) Class.row) _ (true_T t) in
      let (n, q, other) = differs_exact b.must (child_count (node_children b.visit.visited)) (T_true _ o) in
      in_body n q other (eqb-true _ _ (T_true _ k)) (held b m)
    where
      in_table : (n : ℕ) → (child_count (node_children b.visit.visited) ≡ n → ⊥) → node_kind b.visit.visited ≡ Class.row → (g : HeldBy (bounds_of d) b)
          → node_kind g.holder.visit.visited ≡ Class.body → g.holder.must ≡ exactly n
          → Outside any_number missing (λ n. n ≡ d) g.holder ⊎ HeldBy (bounds_of d) g.holder → BadRow d (number_of b)
      in_table n other kr g kb q (inl (e, p, x)) = absurd (let z : ◌≡◌ {A = ℕ} 0 1 = cc in omega arith)
      in_table n other kr g kb q (inr f) =
          let table : Node = f.holder.visit.visited in
          let mt = bound_visited d f.holder f.there in
          let kt : node_kind table ≡ Class.table = body_in_table d doc table g.holder.visit.visited (bound_in f.holder f.there) f.holds kb in
          let (h, oh, kh, ch) = some_head (node_children table) n (sym (below_table f.holder.must (node_kind table) (node_children table) kt) ∙ (sym f.must_is ∙ q)) in
          let u = child_visited d f.holder.visit mt h oh in
          record {
            row = b.visit;
            body = g.holder.visit;
            table = f.holder.visit;
            head = u.visit;
            is_row = record { there = bound_visited d b m; number_is = refl; kind_is = kr };
            in_body = record { there = bound_visited d g.holder g.there; number_is = omega (arith, g.number_is); kind_is = kb };
            in_table = record { there = mt; number_is = omega (arith, f.number_is); kind_is = kt };
            is_head = record { there = u.there; number_is = refl; kind_is = ap node_kind u.node_is ∙ kh };
            its_head = omega (arith, u.parent_is);
            other_count = λ x. other (x ∙ (ap (λ (y : Node). child_count (node_children y)) u.node_is ∙ ch));
          }

      in_body : (n : ℕ) → b.must ≡ exactly n → (child_count (node_children b.visit.visited) ≡ n → ⊥) → node_kind b.visit.visited ≡ Class.row
          → Outside any_number missing (λ n. n ≡ d) b ⊎ HeldBy (bounds_of d) b → BadRow d (number_of b)
      in_body n q other kr (inl (e, p, x)) = absurd (let z : ◌≡◌ {A = ℕ} 0 1 = cc in omega arith)
      in_body n q other kr (inr g) =
          let body : Node = g.holder.visit.visited in
          let kb : node_kind body ≡ Class.body = row_in_body d doc body b.visit.visited (bound_in g.holder g.there) g.holds kr in
          in_table n other kr g kb (sym (below_body g.holder.must (node_kind body) (node_children body) kb) ∙ (sym g.must_is ∙ q))
          (held g.holder g.there)

  -- A row that has the fault is found.
  has_bad : (i : ℕ) → BadRow d i → (b : Bound) × Memᴰ b (bounds_of d) × (number_of b ≡ i) × (is_bad b ≡ true)
  unfolding is_bad
  has_bad i a =
      let (r, mr, er) = visit_bound d a.row a.is_row.there in
      let (b, mb, eb) = visit_bound d a.body a.in_body.there in
      let (t, mt, et) = visit_bound d a.table a.in_table.there in
      let (h, mh, eh) = visit_bound d a.head a.is_head.there in
      let kr : node_kind r.visit.visited ≡ Class.row = rw er a.is_row.kind_is in
      let kb : node_kind b.visit.visited ≡ Class.body = rw eb a.in_body.kind_is in
      let kt : node_kind t.visit.visited ≡ Class.table = rw et a.in_table.kind_is in
      let kh : node_kind h.visit.visited ≡ Class.head = rw eh a.is_head.kind_is in
      let row-held = held_by r b mr mb (rw (er, eb) (omega (arith, a.in_body.number_is))) (omega arith) in
      let body-held = held_by b t mb mt (rw (eb, et) (omega (arith, a.in_table.number_is))) (omega arith) in
      let head-held = held_by h t mh mt (rw (eh, et) (omega (arith, a.its_head))) (omega arith) in
      let must : r.must ≡ exactly (child_count (node_children h.visit.visited)) =
      row-held.1
      ∙ (below_body _ _ _ kb
      ∙ (body-held.1
      ∙ (below_table _ _ _ kt ∙ head_binds d doc t.visit.visited h.visit.visited (bound_in t mt) kt head-held.0 kh))) in
      let differing : differs r.must (child_count (node_children r.visit.visited)) ≡ true =
      exact_differs r.must (child_count (node_children r.visit.visited)) (child_count (node_children h.visit.visited)) must (rw (er, eh) a.other_count) in
      (r, mr, cc a.is_row.number_is, rw (eq-eqb _ _ kr) differing)

  -- So the search decides fault 15, and names the first row that has it.
  pub bad_row_found : Finds (BadRow d) (found_bad_row 0 any_number d)
  bad_row_found = test_finds number_of is_bad (bounds_of d) (BadRow d) bad_has has_bad (found_bad_row 0 any_number d) (bad_row_answer d)

  -- A node is a child of the node that its parent word names.
  child_of_lem : (v h : Visit) → Memᴰ v (visits_of d) → Memᴰ h (visits_of d) → h.number ≡ v.parent → Class.text < node_kind v.visited
      → OneOf v.visited (node_children h.visited)
  child_of_lem v h mv mh e l =
      let (b, mb, eb) = visit_bound d v mv in
      let (c, mc, ec) = visit_bound d h mh in
      rw (eb, ec) at (held_by b c mb mc (cc) (rw eb l)).0

  -- No row has it just where the rows match the heads.
  pub rows_match_none : (RowsMatchHead d → None (BadRow d)) × (None (BadRow d) → RowsMatchHead d)
  unfolding RowsMatchHead
  rows_match_none = (to, from)
    where
      to : RowsMatchHead d → None (BadRow d)
      to rows i a =
          let kr = a.is_row.kind_is in
          let kb = a.in_body.kind_is in
          let kh = a.is_head.kind_is in
          let mr = a.is_row.there in
          let mb = a.in_body.there in
          let mt = a.in_table.there in
          let mh = a.is_head.there in
          a.other_count (rows a.table.visited a.head.visited a.body.visited a.row.visited (visited_in d a.table mt) a.in_table.kind_is
          (child_of_lem a.head a.table mh mt (omega (arith, a.its_head)) (omega arith)) kh
          (child_of_lem a.body a.table mb mt (omega (arith, a.in_table.number_is)) (omega arith)) kb
          (child_of_lem a.row a.body mr mb (omega (arith, a.in_body.number_is)) (omega arith)) kr)

      from : None (BadRow d) → RowsMatchHead d
      from none t h b r x kt oh kh ob kb or kr =
          let (v, mt, et) = in_visited d t x in
          let head = child_visited d v mt h (rw et oh) in
          let body = child_visited d v mt b (rw et ob) in
          let row = child_visited d body.visit body.there r (rw body.node_is or) in
          bool_case (eqb (child_count (node_children r)) (child_count (node_children h))) (λ e. eqb-true _ _ e) (λ e.
          absurd (none row.visit.number (record {
            row = row.visit;
            body = body.visit;
            table = v;
            head = head.visit;
            is_row = record { there = row.there; number_is = refl; kind_is = rw row.node_is kr };
            in_body = record { there = body.there; number_is = omega (arith, row.parent_is); kind_is = rw body.node_is kb };
            in_table = record { there = mt; number_is = omega (arith, body.parent_is); kind_is = rw et kt };
            is_head = record { there = head.there; number_is = refl; kind_is = rw head.node_is kh };
            its_head = omega (arith, head.parent_is);
            other_count = rw (row.node_is, head.node_is) (eqb-false _ _ e);
          })))
