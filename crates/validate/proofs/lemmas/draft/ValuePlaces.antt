-- What the trees inside an element say, where its values stand before its children's trees or behind the first.
use Prim.Native.Nat.{ℕ, max}
use mathlib.Core.Path.{◌≡◌, refl, sym, ap, ◌∙◌}
use mathlib.Core.Bool.{Bool, true, false, cond, ◌&&◌}
use mathlib.Core.List.{List, [], ◌∷◌, ◌++◌, append-nil}
use native.Mathlib.Omega.{arith}
use lib.Dec.{T, eqb, eqb-suc-zero}
use lib.ListN.{length}
use borrow.Author.Tests.{eqb-true}
use Rattle.base.proofs.Booleans.{cond_case, T_true}
use Rattle.elements.specs.rules.Class as Class
use Rattle.document.specs.rules.Document.{Tree, size, Trees, holds, key_of, type_of, width_or, height_or, key_in, type_in, width_in, height_in}
use Rattle.base.specs.rules.Limits.{missing}
use Rattle.document.specs.rules.Document.{Node, node, Nodes, childless, child, is_node, says, say_all}
use Rattle.document.specs.rules.Canonical.{key_class, value_before, size_before, place_values, layout, layout_all, tree_levels, most_levels_in}
use Rattle.document.proofs.ValueOrder.{node_no_value}

-- The trees say these values and these nodes, and nest so many levels.
pub record Say (key type : List ℕ) (w h : ℕ) (ns : Nodes) (levels : ℕ) (ts : Trees) : Type 0 where
  pub key_is : key_in ts ≡ key
  pub type_is : type_in ts ≡ type
  pub width_is : width_in ts ≡ w
  pub height_is : height_in ts ≡ h
  pub said : say_all ts ≡ ns
  pub levels_are : most_levels_in ts ≡ levels

-- A layout is a node's tree.
pub layout_node : (n : Node) → T (is_node (layout n))
unfolding layout is_node
layout_node (node k key type string w h ns) = cond_case (λ (t : Tree). T (is_node t)) (eqb k Class.text) (λ e. tt) (λ e. tt)

-- A node's tree before the others.
node_before : {key type : List ℕ} {w h : ℕ} {ns : Nodes} {l : ℕ} {ts : Trees} (n : Node) → Say key type w h ns l ts
    → Say key type w h (child (says (layout n)) ns) (max (tree_levels (layout n)) l) (holds (layout n) ts)
unfolding key_in type_in width_in height_in says most_levels_in
node_before n s =
    let i = layout_node n in
    let v = node_no_value (layout n) i in
    record {
      key_is = rw v.no_key s.key_is;
      type_is = rw v.no_type s.type_is;
      width_is = v.no_width _ ∙ s.width_is;
      height_is = v.no_height _ ∙ s.height_is;
      said = rw (T_true (is_node (layout n)) i) (ap (child (says (layout n))) s.said);
      levels_are = ap (max (tree_levels (layout n))) s.levels_are;
    }

-- The trees of nodes say no value.
pub nodes_say : (ns : Nodes) → Say [] [] missing missing (say_all (layout_all ns)) (most_levels_in (layout_all ns)) (layout_all ns)
unfolding layout key_in type_in width_in height_in says most_levels_in
nodes_say childless = record { key_is = refl; type_is = refl; width_is = refl; height_is = refl; said = refl; levels_are = refl }
nodes_say (child n ns) =
    let s = node_before n (nodes_say ns) in
    record { key_is = s.key_is; type_is = s.type_is; width_is = s.width_is; height_is = s.height_is; said = refl; levels_are = refl }

abbrev one : Bool → ℕ
one b = cond b 0 1

module _ {w h : ℕ} {ns : Nodes} {l : ℕ} {ts : Trees} where
  type_before : (s : List ℕ) → Say [] [] w h ns l ts → Say [] s w h ns (max (one (eqb (length s) 0)) l) (value_before Class.type s ts)
  unfolding value_before key_in type_in width_in height_in says most_levels_in key_of type_of width_or height_or is_node tree_levels
  type_before [] v = let e : max 0 l ≡ l = omega arith in rw e v
  type_before (b ∷ bs) v =
      record {
        key_is = v.key_is;
        type_is = ap (λ (t : List ℕ). (b ∷ bs) ++ t) v.type_is ∙ append-nil (b ∷ bs);
        width_is = v.width_is;
        height_is = v.height_is;
        said = v.said;
        levels_are = rw (eqb-suc-zero (length bs)) (ap (max 1) v.levels_are);
      }

  key_before : {type : List ℕ} (c : ℕ) (s : List ℕ) → eqb c Class.type ≡ false → Say [] type w h ns l ts
      → Say s type w h ns (max (one (eqb (length s) 0)) l) (value_before c s ts)
  unfolding value_before key_in type_in width_in height_in says most_levels_in key_of type_of width_or height_or is_node tree_levels
  key_before c [] n v = let e : max 0 l ≡ l = omega arith in rw e v
  key_before c (b ∷ bs) n v =
      record {
        key_is = rw n (ap (λ (t : List ℕ). (b ∷ bs) ++ t) v.key_is ∙ append-nil (b ∷ bs));
        type_is = rw n v.type_is;
        width_is = v.width_is;
        height_is = v.height_is;
        said = v.said;
        levels_are = rw (eqb-suc-zero (length bs)) (ap (max 1) v.levels_are);
      }

size_before_lem : {type : List ℕ} {ns : Nodes} {l : ℕ} {ts : Trees} (w h : ℕ) → Say [] type missing missing ns l ts
    → Say [] type w (cond (eqb w missing) missing h) ns (max (one (eqb w missing)) l) (size_before w h ts)
unfolding size_before key_in type_in width_in height_in says most_levels_in key_of type_of width_or height_or is_node tree_levels
size_before_lem {type} {ns} {l} {ts} w h v = go (eqb w missing) refl
  where
    go : (b : Bool) → eqb w missing ≡ b → Say [] type w (cond b missing h) ns (max (one b) l) (cond b ts (holds (size w h) ts))
    go true e =
        record {
          key_is = v.key_is;
          type_is = v.type_is;
          width_is = v.width_is ∙ sym (eqb-true w missing e);
          height_is = v.height_is;
          said = v.said;
          levels_are = v.levels_are ∙ omega arith;
        }
    go false e =
        record { key_is = v.key_is; type_is = v.type_is; width_is = refl; height_is = refl; said = v.said; levels_are = ap (max 1) v.levels_are }

-- A key's class is not that of a type.
key_no_type : (k : ℕ) → eqb (key_class k) Class.type ≡ false
unfolding key_class
key_no_type k = cond_case (λ (c : ℕ). eqb c Class.type ≡ false) (Class.is_block k) (λ e. refl) (λ e. refl)

-- An element's values in canonical order.
abbrev pub values_before : ℕ → List ℕ → List ℕ → ℕ → ℕ → Trees → Trees
values_before k key type w h ts = value_before (key_class k) key (size_before w h (value_before Class.type type ts))

module _ (k : ℕ) (key type : List ℕ) (w h : ℕ) where
  -- The levels of the values.
  abbrev pub levels_of : ℕ
  levels_of = cond (eqb (length key) 0 && (eqb (length type) 0 && eqb w missing)) 0 1

  values_say : {ns : Nodes} {l : ℕ} {ts : Trees} → Say [] [] missing missing ns l ts
      → Say key type w (cond (eqb w missing) missing h) ns (max levels_of l) (values_before k key type w h ts)
  values_say {l = l} v =
      rw (most (eqb (length key) 0) (eqb w missing) (eqb (length type) 0) l) at (key_before (key_class k) key (key_no_type k) (size_before_lem w h (type_before type v)))
    where
      most : (a b c : Bool) (l : ℕ) → max (one a) (max (one b) (max (one c) l)) ≡ max (one (a && (c && b))) l
      most true true true l = omega arith
      most true true false l = omega arith
      most true false true l = omega arith
      most true false false l = omega arith
      most false true true l = omega arith
      most false true false l = omega arith
      most false false true l = omega arith
      most false false false l = omega arith

  -- The values and the children's trees say both.
  pub inside_say : (b : Bool) (ns : Nodes)
      → Say key type w (cond (eqb w missing) missing h) (say_all (layout_all ns)) (max levels_of (most_levels_in (layout_all ns)))
      (place_values b (values_before k key type w h) (layout_all ns))
  unfolding place_values layout says most_levels_in
  inside_say false ns = values_say (nodes_say ns)
  inside_say true childless = values_say (nodes_say childless)
  inside_say true (child n ns) =
      let s = node_before n (values_say (nodes_say ns)) in
      record {
        key_is = s.key_is;
        type_is = s.type_is;
        width_is = s.width_is;
        height_is = s.height_is;
        said = s.said ∙ sym (node_before n (nodes_say ns)).said;
        levels_are = s.levels_are ∙ omega arith;
      }
