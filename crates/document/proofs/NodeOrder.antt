-- The nodes in document order: those of the visits, and those that trees say one after the other.
use Prim.Native.Nat.{ℕ, ◌+◌}
use mathlib.Core.Path.{◌≡◌, refl, ap, ◌∙◌}
use mathlib.Core.Bool.{Bool, true, false, cond}
use mathlib.Core.List.{List, [], ◌∷◌, ◌++◌, map, map-append, append_assoc}
use lib.ListN.{length}
use Rattle.document.specs.rules.Document.{Tree, Trees, holds, is_node, Node, node, Nodes, childless, child, says, say_all}
use Rattle.document.specs.rules.Table.{count, pool}
use Rattle.document.specs.rules.Visits.{Visit, visits, visits_all}
use Rattle.document.proofs.BlockParts.{Parts, no_more, one_more_lem}

-- A node before its children, and each child before the next.
unfoldable mutual
  pub nodes_of : Node → List Node
  nodes_of (node k key type text w h ns) = node k key type text w h ns ∷ nodes_of_all ns

  pub nodes_of_all : Nodes → List Node
  nodes_of_all childless = []
  nodes_of_all (child n ns) = nodes_of n ++ nodes_of_all ns

abbrev pub visited_of : List Visit → List Node
visited_of vs = map (λ (v : Visit). v.visited) vs

mutual
  unfolding nodes_of visits

  pub visits_nodes : (n : Node) (i parent p : ℕ) → visited_of (visits i parent p n) ≡ nodes_of n
  visits_nodes (node k key type text w h ns) i parent p =
      ap (λ (l : List Node). node k key type text w h ns ∷ l) (visits_nodes_all ns (i + 1) i (p + length key + length type + length text))

  visits_nodes_all : (ns : Nodes) (i parent p : ℕ) → visited_of (visits_all i parent p ns) ≡ nodes_of_all ns
  visits_nodes_all childless i parent p = refl
  visits_nodes_all (child n ns) i parent p =
      map-append (λ (v : Visit). v.visited) (visits i parent p n) (visits_all (i + count n) parent (p + length (pool n)) ns)
      ∙ rw (visits_nodes n i parent p, visits_nodes_all ns (i + count n) parent (p + length (pool n)))

-- The nodes that a tree says, and those that trees do.
unfoldable pub tree_nodes : Tree → List Node
tree_nodes t = cond (is_node t) (nodes_of (says t)) []

unfoldable pub trees_nodes : Trees → List Node
trees_nodes ts = nodes_of_all (say_all ts)

pub holds_nodes : (t : Tree) (ts : Trees) → trees_nodes (holds t ts) ≡ tree_nodes t ++ trees_nodes ts
unfolding tree_nodes trees_nodes says nodes_of
holds_nodes t ts = go (is_node t)
  where
    go : (b : Bool) → nodes_of_all (cond b (child (says t) (say_all ts)) (say_all ts)) ≡ cond b (nodes_of (says t)) [] ++ nodes_of_all (say_all ts)
    go true = refl
    go false = refl

pub parts_nodes : {ts ps cs : Trees} → Parts ts ps cs → trees_nodes ts ≡ trees_nodes ps ++ trees_nodes cs
unfolding trees_nodes says nodes_of
parts_nodes no_more = refl
parts_nodes (one_more_lem {t} {ts} {ps} {cs} p) = holds_nodes t ts ∙ rw (parts_nodes p, holds_nodes t ps, append_assoc)
