-- The counts of a walk are those of the document, and never pass the bytes read.
use Prim.Native.Nat.{ℕ, suc, ◌+◌, ◌≤◌, max}
use mathlib.Core.Path.{◌≡◌, refl, ap, ◌∙◌}
use mathlib.Core.Bool.{Bool, true, false, cond}
use mathlib.Core.List.{List, [], ◌∷◌, ◌++◌}
use native.Mathlib.Omega.{arith}
use lib.Dec.{T, eqb}
use lib.ListN.{length, length-append}
use Rattle.base.proofs.Booleans.{cond_case}
use Rattle.elements.specs.rules.Class as Class
use Rattle.syntax.specs.rules.Expression.{Expr, symbol, quoted, list, Exprs, none, and}
use Rattle.document.specs.rules.Document.{Tree, text, value, size, element, Trees, empty, holds, child, key_of, type_of, key_in, type_in, is_node, says, say_all}
use Rattle.document.specs.rules.Lead.{lead_class}
use Rattle.document.specs.reference.Meaning.{text_bytes, symbol_bytes, only_one, size_tree, value_tree, tree_of, list_tree, trees_of, places, list_places, all_places}
use Rattle.document.specs.rules.Table.{pool, pool_all}
use Rattle.reader.specs.internal.RunStands.{RunStands, ended, after_blank, after_line_end, a_symbol, a_string, a_list}
use Rattle.reader.specs.internal.Counts.{value_size, node_count, node_count_of_list, node_count_in, pool_bytes, pool_bytes_of_list, pool_bytes_in}
use Rattle.reader.proofs.lemmas.walk.FirstToken.{SymbolHere, symbol_here, StringHere, string_here}

-- ---- nodes

under_cond : (b : Bool) (at : ℕ) (l : List ℕ) (n : ℕ) → length l ≡ n → length (cond b (at ∷ l) []) ≡ cond b (suc n) 0
under_cond true at l n e = ap suc e
under_cond false at l n e = refl

mutual
  unfolding places node_count

  -- One place for each node.
  pub nodes_places : (e : Expr) → length (places e) ≡ node_count e
  nodes_places (symbol at s) = refl
  nodes_places (quoted at s) = refl
  nodes_places (list at es) = list_places_lem at es

  list_places_lem : (at : ℕ) (es : Exprs) → length (list_places at es) ≡ node_count_of_list es
  list_places_lem at none = refl
  list_places_lem at (and e es) = under_cond (Class.is_element (lead_class e)) at (all_places es) (node_count_in es) (all_places_lem es)

  pub all_places_lem : (es : Exprs) → length (all_places es) ≡ node_count_in es
  all_places_lem none = refl
  all_places_lem (and e es) = length-append (places e) (all_places es) ∙ cc (nodes_places e, all_places_lem es)

-- ---- pool bytes

-- A size is a size whatever the expressions are.
pub size_tree_lem : (es : Exprs) → (w : ℕ) × (h : ℕ) × (size_tree es ≡ size w h)
unfolding size_tree
size_tree_lem none = (_, _, refl)
size_tree_lem (and e none) = (_, _, refl)
size_tree_lem (and e (and e' none)) = (_, _, refl)
size_tree_lem (and e (and e' (and e'' es))) = (_, _, refl)

pub value_no_node : (c : ℕ) (es : Exprs) → is_node (value_tree c es) ≡ false
unfolding value_tree is_node
value_no_node c es = cond_case (λ (t : Tree). is_node t ≡ false) (eqb c Class.size) (λ e. let (w, h, p) = size_tree_lem es in rw p) (λ e. refl)

-- The pool bytes of a tree: a value's own, and those of the node that a text or an element says.
tree_size : Tree → ℕ
tree_size t = length (key_of t) + length (type_of t) + cond (is_node t) (length (pool (says t))) 0

trees_size : Trees → ℕ
trees_size ts = length (key_in ts) + length (type_in ts) + length (pool_all (say_all ts))

holds_size : (t : Tree) (ts : Trees) → trees_size (holds t ts) ≡ tree_size t + trees_size ts
unfolding trees_size tree_size key_in type_in says pool
holds_size t ts = go (is_node t)
  where
    go : (b : Bool) → length (key_of t ++ key_in ts) + length (type_of t ++ type_in ts) + length (pool_all (cond b (child (says t) (say_all ts)) (say_all ts)))
        ≡ length (key_of t) + length (type_of t) + cond b (length (pool (says t))) 0 + (length (key_in ts) + length (type_in ts) + length (pool_all (say_all ts)))
    go true = omega (arith, length-append (key_of t) (key_in ts), length-append (type_of t) (type_in ts), length-append (pool (says t)) (pool_all (say_all ts)))
    go false = omega (arith, length-append (key_of t) (key_in ts), length-append (type_of t) (type_in ts))

element_size : (k : ℕ) (ts : Trees) → tree_size (element k ts) ≡ trees_size ts
unfolding trees_size tree_size key_of type_of is_node says pool
element_size k ts =
    omega (arith, length-append (key_in ts) (type_in ts ++ ([] ++ pool_all (say_all ts))), length-append (type_in ts) ([] ++ pool_all (say_all ts)))

empty_size : trees_size empty ≡ 0
unfolding trees_size key_in type_in says pool
empty_size = refl

text_size : (s : List ℕ) → tree_size (text s) ≡ length s
unfolding tree_size key_of type_of is_node says pool
text_size s = omega (arith, length-append s [])

-- A node's pool bytes are all that its tree has.
node_size : (t : Tree) → T (is_node t) → length (pool (says t)) ≡ tree_size t
unfolding tree_size key_of type_of is_node
node_size (text s) t = omega arith
node_size (value c s) t = absurd t
node_size (size w h) t = absurd t
node_size (element k ts) t = omega arith

value_size_lem : (c : ℕ) (es : Exprs) → tree_size (value_tree c es) ≡ value_size c es
unfolding tree_size value_size
value_size_lem c es = rw (value_no_node c es) (omega arith)

list_size : (c : ℕ) (es : Exprs) (b : Bool) → trees_size (trees_of es) ≡ pool_bytes_in es
    → tree_size (cond b (element c (trees_of es)) (value_tree c es)) ≡ cond b (pool_bytes_in es) (value_size c es)
list_size c es true h = element_size c (trees_of es) ∙ h
list_size c es false h = value_size_lem c es

mutual
  unfolding tree_of pool_bytes

  tree_size_lem : (e : Expr) → tree_size (tree_of e) ≡ pool_bytes e
  tree_size_lem (symbol at s) = text_size s
  tree_size_lem (quoted at s) = text_size s
  tree_size_lem (list at es) = list_tree_size es

  list_tree_size : (es : Exprs) → tree_size (list_tree es) ≡ pool_bytes_of_list es
  list_tree_size none = element_size 0 empty ∙ empty_size
  list_tree_size (and e es) = list_size (lead_class e) es (Class.is_element (lead_class e)) (trees_size_lem es)

  trees_size_lem : (es : Exprs) → trees_size (trees_of es) ≡ pool_bytes_in es
  trees_size_lem none = empty_size
  trees_size_lem (and e es) = holds_size (tree_of e) (trees_of es) ∙ cc (tree_size_lem e, trees_size_lem es)

-- The pool of what an expression says has as many bytes as it brings.
pub bytes_pool : (e : Expr) → T (is_node (tree_of e)) → length (pool (says (tree_of e))) ≡ pool_bytes e
bytes_pool e t = node_size (tree_of e) t ∙ tree_size_lem e

-- ---- no more than the bytes read

-- The one text or symbol that a value holds is within what it is read from.
text_within : (e : Expr) → length (text_bytes e) ≤ pool_bytes e
unfolding text_bytes pool_bytes
text_within (symbol at s) = omega arith
text_within (quoted at s) = omega arith
text_within (list at es) = omega arith

symbol_within : (e : Expr) → length (symbol_bytes e) ≤ pool_bytes e
unfolding symbol_bytes pool_bytes
symbol_within (symbol at s) = omega arith
symbol_within (quoted at s) = omega arith
symbol_within (list at es) = omega arith

only_within : (f : Expr → List ℕ) → ((e : Expr) → length (f e) ≤ pool_bytes e) → (es : Exprs) → length (only_one f es) ≤ pool_bytes_in es
unfolding only_one pool_bytes
only_within f h none = omega arith
only_within f h (and e none) = omega (arith, h e)
only_within f h (and e (and e' es)) = omega arith

value_within : (c : ℕ) (es : Exprs) → value_size c es ≤ pool_bytes_in es
unfolding value_size value_tree key_of type_of
value_within c es =
    cond_case (λ (t : Tree). length (key_of t) + length (type_of t) ≤ pool_bytes_in es) (eqb c Class.size)
    (λ e. let (w, h, p) = size_tree_lem es in rw p (omega arith)) (λ e. go (eqb c Class.type))
  where
    go : (b : Bool) → let held : List ℕ = cond b (only_one symbol_bytes es) (only_one text_bytes es) in length (cond b [] held) + length (cond b held []) ≤ pool_bytes_in es
    go true = omega (arith, only_within symbol_bytes symbol_within es)
    go false = omega (arith, only_within text_bytes text_within es)

list_nodes : (es : Exprs) → node_count_of_list es ≤ suc (node_count_in es)
unfolding node_count
list_nodes none = omega arith
list_nodes (and e es) = cond_case (λ (n : ℕ). n ≤ suc (node_count e + node_count_in es)) (Class.is_element (lead_class e)) (λ x. omega arith) (λ x. omega arith)

list_bytes : (es : Exprs) → pool_bytes_of_list es ≤ pool_bytes_in es
unfolding pool_bytes
list_bytes none = omega arith
list_bytes (and e es) =
    let h : value_size (lead_class e) es ≤ pool_bytes_in es = value_within (lead_class e) es in
    cond_case (λ (n : ℕ). n ≤ pool_bytes e + pool_bytes_in es) (Class.is_element (lead_class e)) (λ x. omega arith) (λ x. omega arith)

-- At least the nodes and the pool bytes of an expression, and at most its bytes in the text; regrouping never adds to it.
unfoldable mutual
  pub weight : Expr → ℕ
  weight (symbol at s) = max 1 (length s)
  weight (quoted at s) = max 1 (length s)
  weight (list at es) = suc (weight_all es)

  pub weight_all : Exprs → ℕ
  weight_all none = 0
  weight_all (and e es) = weight e + weight_all es

mutual
  unfolding weight node_count pool_bytes

  pub weighed : (e : Expr) → (node_count e ≤ weight e) × (pool_bytes e ≤ weight e)
  weighed (symbol at s) = (omega arith, omega arith)
  weighed (quoted at s) = (omega arith, omega arith)
  weighed (list at es) = let (n, b) = all_weighed es in (omega (arith, list_nodes es), omega (arith, list_bytes es))

  all_weighed : (es : Exprs) → (node_count_in es ≤ weight_all es) × (pool_bytes_in es ≤ weight_all es)
  all_weighed none = (omega arith, omega arith)
  all_weighed (and e es) =
      let (n, b) = weighed e in
      let (n', b') = all_weighed es in
      (omega arith, omega arith)

pub stands_weight : {s : List ℕ} {i e : ℕ} {es : Exprs} → RunStands s i es e → i + weight_all es ≤ e
unfolding weight
stands_weight (ended h) = omega arith
stands_weight (after_blank h st) = omega (arith, stands_weight st)
stands_weight (after_line_end h g st) = omega (arith, stands_weight st)
stands_weight {s} (a_symbol {i = i} h st) =
    let r : SymbolHere s i = symbol_here s i h in omega (arith, stands_weight st)
stands_weight {s} (a_string {i = i} h g st) =
    let r : StringHere s i = string_here s i h g in omega (arith, stands_weight st)
stands_weight (a_list h st g st') = omega (arith, stands_weight st, stands_weight st')
