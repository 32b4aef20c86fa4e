-- An expression that is fine has one place for each node of what it says. Document 01, "The table": "The place list has one word a node".
use Prim.Native.Nat.{ℕ, suc, ◌+◌}
use mathlib.Core.Path.{◌≡◌, refl, sym, ap, ◌∙◌}
use mathlib.Core.Bool.{Bool, true, false, cond}
use mathlib.Core.List.{[], ◌∷◌}
use native.Mathlib.Omega.{arith}
use lib.Dec.{T, eqb}
use lib.ListN.{length, length-append}
use borrow.Author.Tests.{eqb-true}
use Rattle.base.proofs.Booleans.{cond_case, T_true}
use Rattle.elements.specs.rules.Class as Class
use Rattle.elements.specs.rules.Inside.{State, step, start}
use Rattle.syntax.specs.rules.Expression.{Expr, symbol, quoted, list, Exprs, none, and, place}
use Rattle.document.specs.rules.Document.{Tree, element, Trees, holds, is_node, says, say_all, child}
use Rattle.document.specs.rules.Table.{count, count_all}
use Rattle.document.specs.rules.Lead.{lead_class, list_class, expr_class}
use Rattle.document.specs.reference.Meaning.{size_tree, value_tree, tree_of, list_tree, trees_of, Verdict, fine, finish, judge_value, judge, judge_list, run, judge_root, places, list_places, all_places}
use Rattle.document.proofs.NestedMeaning.{not_fine, passed}

-- The nodes of what a tree says; a value says none.
unfoldable pub nodes : Tree → ℕ
nodes t = cond (is_node t) (count (says t)) 0

size_nodes : (es : Exprs) → is_node (size_tree es) ≡ false
unfolding is_node size_tree
size_nodes none = refl
size_nodes (and e none) = refl
size_nodes (and e (and e' none)) = refl
size_nodes (and e (and e' (and e'' es))) = refl

value_nodes : (c : ℕ) (es : Exprs) → nodes (value_tree c es) ≡ 0
unfolding nodes is_node value_tree
value_nodes c es = cond_case (λ (t : Tree). nodes t ≡ 0) (eqb c Class.size) (λ e. rw (size_nodes es)) (λ e. refl)

holds_nodes : (t : Tree) (ts : Trees) → nodes t + count_all (say_all ts) ≡ count_all (say_all (holds t ts))
unfolding nodes says count
holds_nodes t ts = go (is_node t)
  where
    go : (b : Bool) → cond b (count (says t)) 0 + count_all (say_all ts) ≡ count_all (cond b (child (says t) (say_all ts)) (say_all ts))
    go true = refl
    go false = omega arith

list_case : (k at c : ℕ) (es : Exprs) (b : Bool) → (finish at c (run at c (start c) es) ≡ fine → length (all_places es) ≡ count_all (say_all (trees_of es)))
    → cond b (finish at c (run at c (start c) es)) (judge_value k at (value_tree c es)) ≡ fine
    → length (cond b (at ∷ all_places es) []) ≡ nodes (cond b (element c (trees_of es)) (value_tree c es))
unfolding nodes is_node says count
list_case k at c es true inside f = ap suc (inside f)
list_case k at c es false inside f = sym (value_nodes c es)

mutual
  unfolding judge tree_of places nodes is_node says count

  place_count : (k : ℕ) (e : Expr) → judge k e ≡ fine → length (places e) ≡ nodes (tree_of e)
  place_count k (symbol at s) f = refl
  place_count k (quoted at s) f = refl
  place_count k (list at es) f = list_count k at es f

  list_count : (k at : ℕ) (es : Exprs) → judge_list k at es ≡ fine → length (list_places at es) ≡ nodes (list_tree es)
  list_count k at none f = absurd (not_fine 8 at f)
  list_count k at (and e es) f =
      let c : ℕ = lead_class e in
      list_case k at c es (Class.is_element c) (λ g. all_count at c (start c) es g) f

  all_count : (at k : ℕ) (s : State) (es : Exprs) → finish at k (run at k s es) ≡ fine → length (all_places es) ≡ count_all (say_all (trees_of es))
  all_count at k s none f = refl
  all_count at k s (and e es) f =
      let on = passed at k (place e) (step k s (expr_class e)) (judge k e) (λ s'. run at k s' es) f in
      let h = place_count k e on.2 in
      let hs = all_count at k on.0 es on.3 in
      length-append (places e) (all_places es) ∙ cc (h, hs) ∙ holds_nodes (tree_of e) (trees_of es)

-- One place for each node, of an expression that is fine and says a node.
pub places_count : (e : Expr) (k : ℕ) → judge k e ≡ fine → T (is_node (tree_of e)) → length (places e) ≡ count (says (tree_of e))
unfolding nodes
places_count e k f n = place_count k e f ∙ rw (T_true (is_node (tree_of e)) n)

-- A list led by the name of an element says a node.
pub element_node : (e : Expr) → Class.is_element (expr_class e) ≡ true → T (is_node (tree_of e))
unfolding expr_class list_class tree_of is_node Class.is_element Class.is_kind
element_node (symbol at s) i = tt
element_node (quoted at s) i = tt
element_node (list at none) i = tt
element_node (list at (and e es)) i = rw i tt

-- One place for each node of a root that is fine.
pub root_places : (e : Expr) → judge_root e ≡ fine → length (places e) ≡ count (says (tree_of e))
unfolding judge_root Class.is_element Class.is_kind
root_places e =
    cond_case
    (λ (v : Verdict). v ≡ fine → length (places e) ≡ count (says (tree_of e)))
    (eqb (expr_class e) Class.document)
    (λ c f. places_count e 0 f (element_node e (rw (eqb-true (expr_class e) Class.document c))))
    (λ c f. absurd (not_fine 8 (place e) f))
