-- The visits of a node are the nodes that stand in it, and a node's children are visited under its number.
use Prim.Native.Nat.{ℕ, ◌+◌}
use mathlib.Core.Path.{◌≡◌, refl, sym}
use mathlib.Core.Logic.{◌⊎◌, inl, inr}
use mathlib.Core.List.Memᴰ
use mathlib.Core.List.{List, Memᴰ}
use lib.ListN.{length}
use Rattle.base.specs.rules.Limits.{missing}
use Rattle.document.specs.rules.Document.{Node, node, Nodes, childless, child}
use Rattle.document.specs.rules.Table.{count, pool}
use Rattle.document.specs.rules.Visits.{node_children, Visit, visits, visits_all, visits_of}
use Rattle.document.specs.reference.Prose.{OneOf, In, InSome}
use Rattle.document.proofs.Records.{subtree_in}

mutual
  unfolding visits In

  -- A visited node stands in the tree.
  visit_in : (n : Node) (i parent p : ℕ) (v : Visit) → Memᴰ v (visits i parent p n) → In v.visited n
  visit_in (node k key type text w h ns) i parent p v m = go _ (λ x. visit_in_all ns (i + 1) _ _ v x) (Memᴰ.cases_cons m)
    where
      go : (vs : List Visit) → (Memᴰ v vs → InSome v.visited ns)
          → (v ≡ record { number = i; parent = parent; start = p; visited = node k key type text w h ns }) ⊎ Memᴰ v vs
          → (v.visited ≡ node k key type text w h ns) ⊎ InSome v.visited ns
      go vs below (inl x) = inl (rw x)
      go vs below (inr x) = inr (below x)

  visit_in_all : (ns : Nodes) (i parent p : ℕ) (v : Visit) → Memᴰ v (visits_all i parent p ns) → InSome v.visited ns
  visit_in_all childless i parent p v m = absurd (Memᴰ.not-nil m)
  visit_in_all (child n ns) i parent p v m =
      go _ (λ x. visit_in n i _ _ v x) (λ x. visit_in_all ns (i + count n) _ _ v x) (Memᴰ.append_cases (visits i parent p n) m)
    where
      go : (vs : List Visit) → (Memᴰ v (visits i parent p n) → In v.visited n) → (Memᴰ v vs → InSome v.visited ns)
          → Memᴰ v (visits i parent p n) ⊎ Memᴰ v vs → In v.visited n ⊎ InSome v.visited ns
      go vs one more (inl x) = inl (one x)
      go vs one more (inr x) = inr (more x)

pub visited_in : (d : Node) (v : Visit) → Memᴰ v (visits_of d) → In v.visited d
unfolding visits_of
visited_in d v m = visit_in d 0 missing 0 v m

mutual
  unfolding visits In

  -- What stands in the tree is visited.
  in_visits : (n : Node) (i parent p : ℕ) (t : Node) → In t n → (v : Visit) × Memᴰ v (visits i parent p n) × (v.visited ≡ t)
  in_visits (node k key type text w h ns) i parent p t (inl e) = (_, Memᴰ.head refl, sym e)
  in_visits (node k key type text w h ns) i parent p t (inr x) =
      let (v, m, e) = in_visits_all ns (i + 1) i (p + length key + length type + length text) t x in
      (v, Memᴰ.tail m, e)

  in_visits_all : (ns : Nodes) (i parent p : ℕ) (t : Node) → InSome t ns → (v : Visit) × Memᴰ v (visits_all i parent p ns) × (v.visited ≡ t)
  in_visits_all childless i parent p t x = absurd x
  in_visits_all (child n ns) i parent p t (inl x) =
      let (v, m, e) = in_visits n i parent p t x in
      (v, Memᴰ.append_left _ m, e)
  in_visits_all (child n ns) i parent p t (inr x) =
      let (v, m, e) = in_visits_all ns (i + count n) parent (p + length (pool n)) t x in
      (v, Memᴰ.append_right (visits i parent p n) m, e)

pub in_visited : (d t : Node) → In t d → (v : Visit) × Memᴰ v (visits_of d) × (v.visited ≡ t)
unfolding visits_of
in_visited d t x = in_visits d 0 missing 0 t x

-- A node's child is visited, under the node's number.
pub record ChildVisited (vs : List Visit) (parent : ℕ) (m : Node) : Type 0 where
  pub visit : Visit
  pub there : Memᴰ visit vs
  pub parent_is : visit.parent ≡ parent
  pub node_is : visit.visited ≡ m

child_visited_in : (s t : List Visit) (parent : ℕ) (m : Node) → ((v : Visit) → Memᴰ v s → Memᴰ v t) → ChildVisited s parent m
    → ChildVisited t parent m
child_visited_in s t parent m into a =
    record { visit = a.visit; there = into a.visit a.there; parent_is = a.parent_is; node_is = a.node_is }

first_visited : (n : Node) (i parent p : ℕ) → ChildVisited (visits i parent p n) parent n
unfolding visits
first_visited (node k key type text w h ns) i parent p =
    record {
      visit = record { number = i; parent = parent; start = p; visited = node k key type text w h ns };
      there = Memᴰ.head refl;
      parent_is = refl;
      node_is = refl;
    }

child_among : (ns : Nodes) (i parent p : ℕ) (m : Node) → OneOf m ns → ChildVisited (visits_all i parent p ns) parent m
unfolding OneOf visits
child_among childless i parent p m o = absurd o
child_among (child n ns) i parent p m (inl e) =
    rw e (child_visited_in _ _ parent n (λ v x. Memᴰ.append_left _ x) (first_visited n i parent p))
child_among (child n ns) i parent p m (inr o) =
    child_visited_in _ _ parent m (λ v x. Memᴰ.append_right (visits i parent p n) x) (child_among ns (i + count n) parent _ m o)

children_below : (n : Node) (i parent p : ℕ) (m : Node) → OneOf m (node_children n) → ChildVisited (visits i parent p n) i m
unfolding visits node_children
children_below (node k key type text w h ns) i parent p m o = child_visited_in _ _ i m (λ v x. Memᴰ.tail x) (child_among ns (i + 1) i _ m o)

pub child_visited : (d : Node) (v : Visit) → Memᴰ v (visits_of d) → (m : Node) → OneOf m (node_children v.visited)
    → ChildVisited (visits_of d) v.number m
unfolding visits_of
child_visited d v m c o =
    let a = subtree_in d 0 missing 0 v m in
    rw a.split (child_visited_in _ _ v.number c (λ u x. Memᴰ.append_right a.before (Memᴰ.append_left a.after x))
    (children_below v.visited v.number v.parent v.start c o))
