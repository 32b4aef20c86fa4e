-- The spelling of a node and of nodes side by side, in the order in which the code writes it.
use Prim.Native.Nat.{ℕ}
use mathlib.Core.Path.{◌≡◌, refl, sym, ap, ◌∙◌}
use mathlib.Core.Bool.{Bool, true, false, cond}
use mathlib.Core.List.{List, [], ◌∷◌, ◌++◌, append_assoc}
use lib.Dec.{eqb}
use borrow.Author.Tests.{ne_eqb}
use Rattle.elements.specs.rules.Class as Class
use Rattle.elements.specs.rules.Rules.{rule_of}
use Rattle.base.specs.rules.Limits.{missing}
use Rattle.document.specs.rules.Document.{Tree, text, value, size, element, Trees, empty, holds, Node, node, Nodes, childless, child}
use Rattle.document.specs.rules.Canonical.{layout, layout_all, place_values, node_first, key_class, value_before, size_before, quoted_before, brackets_before, spelled_before, inside_before, canonical}
use Rattle.printer.specs.internal.Inside.{trees_inside, inside_all, value_inside, size_inside, values_inside, children_first, children_after}
use Rattle.printer.proofs.Appended.{spelled_append, inside_append}

-- A tree, and a value, in front of trees.
inside_holds : (t : Tree) (ts : Trees) → trees_inside (holds t ts) ≡ (0x20 ∷ spelled_before t []) ++ trees_inside ts
unfolding trees_inside inside_before
inside_holds t ts = ap (λ (l : List ℕ). 0x20 ∷ l) (spelled_append t (inside_before ts []))

value_before_lem : (c : ℕ) (s : List ℕ) (ts : Trees) → trees_inside (value_before c s ts) ≡ value_inside c s ++ trees_inside ts
unfolding trees_inside value_inside value_before inside_before
value_before_lem c [] ts = refl
value_before_lem c (b ∷ s) ts = inside_holds (value c (b ∷ s)) ts

size_before_lem : (w h : ℕ) (ts : Trees) → trees_inside (size_before w h ts) ≡ size_inside w h ++ trees_inside ts
unfolding trees_inside size_inside size_before inside_before
size_before_lem w h ts = go (eqb w missing)
  where
    go : (b : Bool) → trees_inside (cond b ts (holds (size w h) ts)) ≡ trees_inside (cond b empty (holds (size w h) empty)) ++ trees_inside ts
    go true = refl
    go false = inside_holds (size w h) ts

values_before_lem : (k : ℕ) (key type : List ℕ) (w h : ℕ) (ts : Trees)
    → trees_inside (value_before (key_class k) key (size_before w h (value_before Class.type type ts))) ≡ values_inside k key type w h ++ trees_inside ts
unfolding values_inside
values_before_lem k key type w h ts =
    rw (value_before_lem (key_class k) key (size_before w h (value_before Class.type type ts)), size_before_lem w h (value_before Class.type type ts), value_before_lem Class.type type ts)
    (simp append_assoc)

-- Nodes side by side.
pub inside_child : (n : Node) (ns : Nodes) → inside_all (child n ns) ≡ (0x20 ∷ []) ++ (canonical n ++ inside_all ns)
unfolding inside_all trees_inside layout_all inside_before canonical
inside_child n ns = inside_holds (layout n) (layout_all ns)

pub inside_none : inside_all childless ≡ []
unfolding inside_all trees_inside layout_all inside_before
inside_none = refl

-- The values stand behind the first of the children or before them all.
placed : (b : Bool) (k : ℕ) (key type : List ℕ) (w h : ℕ) (ns : Nodes)
    → trees_inside (place_values b (λ ts. value_before (key_class k) key (size_before w h (value_before Class.type type ts))) (layout_all ns))
    ≡ inside_all (children_first b ns) ++ (values_inside k key type w h ++ inside_all (children_after b ns))
unfolding place_values layout_all children_first children_after inside_all trees_inside inside_before
placed false k key type w h ns = values_before_lem k key type w h (layout_all ns)
placed true k key type w h childless = values_before_lem k key type w h empty
placed true k key type w h (child n ns) =
    inside_holds (layout n) (value_before (key_class k) key (size_before w h (value_before Class.type type (layout_all ns))))
    ∙ ap (λ (l : List ℕ). (0x20 ∷ spelled_before (layout n) []) ++ l) (values_before_lem k key type w h (layout_all ns))

pub canonical_text : (key type string : List ℕ) (w h : ℕ) (ns : Nodes) → canonical (node Class.text key type string w h ns) ≡ quoted_before string []
unfolding canonical layout spelled_before
canonical_text key type string w h ns = refl

pub canonical_parts : (k : ℕ) (key type string : List ℕ) (w h : ℕ) (ns : Nodes) → (k ≡ Class.text → ⊥)
    → (0x5B ∷ [])
    ++ (Class.name_of k
    ++ (inside_all (children_first (node_first (rule_of k).parameters) ns)
    ++ (values_inside k key type w h ++ (inside_all (children_after (node_first (rule_of k).parameters) ns) ++ (0x5D ∷ [])))))
    ≡ canonical (node k key type string w h ns)
unfolding canonical layout spelled_before brackets_before trees_inside
canonical_parts k key type string w h ns e =
    let b : Bool = node_first (rule_of k).parameters in
    let ts : Trees = place_values b (λ r. value_before (key_class k) key (size_before w h (value_before Class.type type r))) (layout_all ns) in
    let parts : inside_before ts (0x5D ∷ []) ≡ inside_all (children_first b ns) ++ (values_inside k key type w h ++ (inside_all (children_after b ns) ++ (0x5D ∷ [])))
    = inside_append ts (0x5D ∷ [])
    ∙ ap (λ (l : List ℕ). l ++ (0x5D ∷ [])) (placed b k key type w h ns)
    ∙ append_assoc (inside_all (children_first b ns)) (values_inside k key type w h ++ inside_all (children_after b ns)) (0x5D ∷ [])
    ∙ ap (λ (l : List ℕ). inside_all (children_first b ns) ++ l) (append_assoc (values_inside k key type w h) (inside_all (children_after b ns)) (0x5D ∷ [])) in
    sym
    (ap (λ (t : Bool). spelled_before (cond t (text string) (element k ts)) []) (ne_eqb k Class.text e)
    ∙ ap (λ (l : List ℕ). 0x5B ∷ (Class.name_of k ++ l)) parts)

pub values_as : (c k m : ℕ) (key key' type type' : List ℕ) (w w' h h' : ℕ) → c ≡ key_class k → k ≡ m → key ≡ key' → w ≡ w' → h ≡ h' → type ≡ type'
    → value_inside c key ++ (size_inside w h ++ value_inside Class.type type) ≡ values_inside m key' type' w' h'
unfolding values_inside
values_as c k m key key' type type' w w' h h' a b d e f g = rw (a, b, d, e, f, g)
