-- How deep the brackets of the canonical spelling nest: as deep as the tree's, and no deeper than the expression that writes it.
use Prim.Native.Nat.{ℕ, ◌≤◌}
use mathlib.Core.Path.{◌≡◌}
use mathlib.Core.List.{List}
use native.Mathlib.Omega.{arith}
use lib.Dec.{T}
use Rattle.syntax.specs.rules.Expression.{Expr, Exprs, none, and, depth, depth_all}
use Rattle.document.specs.rules.Document.{Tree, text, value, size, element, Trees, empty, holds, Node, is_node, says}
use Rattle.document.specs.reference.RulesTest.{keeps_rules, is_document}
use Rattle.document.specs.rules.Spelling.{Spelling, Writes, writes_text, writes_value, writes_type, writes_size, writes_element, WritesAll, writes_none, writes_and, Spells, WithinLimits}
use Rattle.document.specs.rules.Canonical.{layout, tree_levels, most_levels_in}
use Rattle.document.proofs.CanonicalLayout.{layout_alike, document_node}
use Rattle.document.proofs.RulesTest.{lawful_test}
use Rattle.document.proofs.NestedForms.{spelled_form, nested_depth}

-- The layout nests as deep as the tree.
pub layout_levels : (k : ℕ) (t : Tree) → T (keeps_rules k t) → T (is_node t) → tree_levels (layout (says t)) ≡ tree_levels t
layout_levels k t h i = (layout_alike k t h i).same_levels

pub document_levels : (t : Tree) → T (is_document t) → tree_levels (layout (says t)) ≡ tree_levels t
document_levels t h = let (kept, i) = document_node t h in layout_levels 0 t kept i

-- What is asked of the trees inside a tree.
abbrev LevelsInside : Tree → Type 0
LevelsInside (text s) = Unit {0}
LevelsInside (value c s) = Unit {0}
LevelsInside (size w h) = Unit {0}
LevelsInside (element c ts) = (es : Exprs) → WritesAll ts es → most_levels_in ts ≤ depth_all es

around : {t : Tree} {e : Expr} → Writes t e → LevelsInside t → tree_levels t ≤ depth e
unfolding tree_levels depth
around (writes_text w) i = omega arith
around (writes_value n w) i = omega arith
around writes_type i = omega arith
around (writes_size m n) i = omega arith
around (writes_element {es} ws) i = omega (arith, i es ws)

mutual
  unfolding tree_levels depth

  -- An expression nests at least as deep as the tree that it writes.
  pub written_levels : (t : Tree) (e : Expr) → Writes t e → tree_levels t ≤ depth e
  written_levels (text s) e w = around w tt
  written_levels (value c s) e w = around w tt
  written_levels (size v u) e w = around w tt
  written_levels (element c ts) e w = around w (λ es ws. all_written_levels ts es ws)

  all_written_levels : (ts : Trees) (es : Exprs) → WritesAll ts es → most_levels_in ts ≤ depth_all es
  all_written_levels empty none writes_none = omega arith
  all_written_levels empty (and e es) ws = elim ws [ ]
  all_written_levels (holds t ts) none ws = elim ws [ ]
  all_written_levels (holds t ts) (and e es) (writes_and w ws) = omega (arith, written_levels t e w, all_written_levels ts es ws)

-- The canonical spelling of a document that a text within the limits spells nests within 64 levels.
pub spelled_levels : (s : Spelling) (d : Node) (bytes : List ℕ) (x : Spells s d bytes) → WithinLimits s bytes x.forest → tree_levels (layout d) ≤ 64
spelled_levels s d bytes x l =
    let e : tree_levels (layout d) ≡ tree_levels x.tree = rw x.said at (document_levels x.tree (lawful_test x.tree x.lawful)) in
    omega (arith, written_levels x.tree (spelled_form x).expression (spelled_form x).writes, nested_depth x l)
