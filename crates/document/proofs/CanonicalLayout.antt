-- The canonical layout of a document keeps the rules and says the document. Document 01, "Canonical spelling".
use Prim.Native.Nat.{ℕ}
use mathlib.Core.Path.{◌≡◌, refl}
use mathlib.Core.Bool.{Bool, true, false, not, cond}
use native.Mathlib.Omega.{arith}
use lib.Dec.{T, eqb, eqb→eq}
use Rattle.base.proofs.Booleans.{cond_case, both, both_true, T_true, not-true}
use Rattle.elements.specs.rules.Class as Class
use Rattle.elements.specs.rules.Rules.{rule_of}
use Rattle.elements.specs.rules.Inside.{State, step, start}
use Rattle.document.specs.rules.Document.{Tree, text, value, size, element, Trees, empty, holds, tree_class, Node, node, child, key_of, type_of, width_or, height_or, is_node, says, say_all, Document}
use Rattle.document.specs.reference.RulesTest.{keeps_rules, keep_rules, is_document}
use Rattle.document.specs.rules.Canonical.{layout, layout_all, tree_levels}
use Rattle.document.proofs.RulesTest.{lawful_test}
use Rattle.document.proofs.NestedMeaning.{goes_on}
use Rattle.document.proofs.ValueOrder.{nodes_in, values_of, arranged_by, TreeAlike, alike_itself, TreesAlike, all_alike_itself, all_alike_on, first_kept, holds_alike, low_node, arranged}

-- The tree laid out anew, where it is a node.
unfoldable relaid : Tree → Tree
relaid t = cond (is_node t) (layout (says t)) t

unfoldable relaid_all : Trees → Trees
relaid_all empty = empty
relaid_all (holds t ts) = holds (relaid t) (relaid_all ts)

layout_node : (n : Node) → is_node (layout n) ≡ true
unfolding layout is_node
layout_node (node k key type string w h ns) = cond_case (λ (t : Tree). is_node t ≡ true) (eqb k Class.text) (λ e. refl) (λ e. refl)

relaid_nodes : (ts : Trees) → nodes_in (relaid_all ts) ≡ layout_all (say_all ts)
unfolding relaid_all relaid nodes_in says layout
relaid_nodes empty = refl
relaid_nodes (holds t ts) = by (is_node t) refl (relaid_nodes ts)
  where
    by : (b : Bool) → is_node t ≡ b → nodes_in (relaid_all ts) ≡ layout_all (say_all ts)
        → cond (is_node (cond b (layout (says t)) t)) (holds (cond b (layout (says t)) t) (nodes_in (relaid_all ts))) (nodes_in (relaid_all ts))
        ≡ layout_all (cond b (child (says t) (say_all ts)) (say_all ts))
    by true e h = rw (layout_node (says t), h)
    by false e h = rw (e, h)

element_no_text : (c : ℕ) → T (Class.is_element c) → eqb c Class.text ≡ false
unfolding Class.is_element
element_no_text c t = not-true (eqb c Class.text) (T_true _ (both (Class.is_kind c) (not (eqb c Class.text)) t).1)

-- The layout of what an element says.
layout_element : (c : ℕ) (ts : Trees) → T (Class.is_element c) → TreesAlike c (start c) ts (relaid_all ts)
    → layout (says (element c ts)) ≡ element c (arranged_by c (rule_of c).parameters (relaid_all ts))
unfolding layout says arranged_by values_of
layout_element c ts e a =
    rw (element_no_text c e, ← a.same_key, ← a.same_type, ← a.same_width, ← a.same_height, ← relaid_nodes ts)

element_alike : (k c : ℕ) (ts us : Trees) → T (Class.is_element c) → TreesAlike c (start c) ts us → TreeAlike k (element c ts) (element c us)
unfolding keeps_rules says tree_levels tree_class is_node key_of type_of width_or height_or
element_alike k c ts us e a =
    record {
      kept = both_true (Class.is_element c) (keep_rules c (start c) us) e a.kept;
      same_class = refl;
      same_sort = refl;
      same_key = refl;
      same_type = refl;
      same_width = λ n. refl;
      same_height = λ n. refl;
      same_said = cc (a.same_key, a.same_type, a.same_width, a.same_height, a.same_said);
      same_levels = cc a.same_levels;
    }

mutual
  unfolding relaid relaid_all keeps_rules is_node says layout

  -- A tree that keeps the rules is laid out as one that does and says the same.
  alike_relaid : (k : ℕ) (t : Tree) → T (keeps_rules k t) → TreeAlike k t (relaid t)
  alike_relaid k (text s) h = alike_itself k (text s) h
  alike_relaid k (value c s) h = alike_itself k (value c s) h
  alike_relaid k (size w v) h = alike_itself k (size w v) h
  alike_relaid k (element c ts) h =
      let (e, inside) = both (Class.is_element c) (keep_rules c (start c) ts) h in
      let a = all_alike_relaid c (start c) ts inside in
      rw (layout_element c ts e a) (element_alike k c ts _ e (all_alike_on a (arranged c (relaid_all ts) e a.kept)))

  all_alike_relaid : (k : ℕ) (s : State) (ts : Trees) → T (keep_rules k s ts) → TreesAlike k s ts (relaid_all ts)
  all_alike_relaid k s empty h = all_alike_itself k s empty h
  all_alike_relaid k s (holds t ts) h =
      let (here, on) = first_kept k s t ts h in
      let (s', e, later) = goes_on (step k s (tree_class t)) (λ s'. keep_rules k s' ts) on in
      holds_alike k s s' t (relaid t) ts (relaid_all ts) e (alike_relaid k t here) (all_alike_relaid k s' ts later)

-- So is the layout of what a node says.
pub layout_alike : (k : ℕ) (t : Tree) → T (keeps_rules k t) → T (is_node t) → TreeAlike k t (layout (says t))
unfolding relaid
layout_alike k t h i = rw (T_true (is_node t) i) at (alike_relaid k t h)

pub laid_out_node : (k : ℕ) (t : Tree) → T (keeps_rules k t) → T (is_node t) → T (keeps_rules k (layout (says t))) × (says (layout (says t)) ≡ says t)
laid_out_node k t h i = let a = layout_alike k t h i in (a.kept, a.same_said)

-- The tree of a document is a node.
pub document_node : (t : Tree) → T (is_document t) → T (keeps_rules 0 t) × T (is_node t)
unfolding is_document
document_node t h =
    let (e, kept) = both (eqb (tree_class t) Class.document) (keeps_rules 0 t) h in
    (kept, low_node 0 t (omega (arith, eqb→eq (tree_class t) Class.document e)) kept)

-- The layout of what a document's tree says keeps the rules and says the same.
pub tree_laid_out : (t : Tree) → T (is_document t) → T (is_document (layout (says t))) × (says (layout (says t)) ≡ says t)
unfolding is_document
tree_laid_out t h =
    let (kept, i) = document_node t h in
    let a = layout_alike 0 t kept i in
    let root : T (eqb (tree_class (layout (says t))) Class.document) = rw a.same_class (both (eqb (tree_class t) Class.document) (keeps_rules 0 t) h).0 in
    (both_true (eqb (tree_class (layout (says t))) Class.document) (keeps_rules 0 (layout (says t))) root a.kept, a.same_said)

-- The layout of a document keeps the rules and says the document.
pub laid_out : (d : Node) → Document d → T (is_document (layout d)) × (says (layout d) ≡ d)
laid_out d x = rw x.said at (tree_laid_out x.tree (lawful_test x.tree x.lawful))
