-- What `Flat` tells of an imperative run is what `flatten` makes of a nested expression that writes the same tree, with the same places.
use Prim.Native.Nat.{ℕ}
use mathlib.Core.Path.{◌≡◌, refl, sym, ap, ◌∙◌}
use mathlib.Core.Bool.{Bool, true, false, cond}
use mathlib.Core.List.{List, [], ◌∷◌, ◌++◌, append_assoc}
use native.Mathlib.Omega.{arith}
use lib.Dec.{T}
use Rattle.base.proofs.Booleans.{bool_case, cond_case, both, true_T, T_true, not_T_false}
use Rattle.elements.specs.rules.Class as Class
use Rattle.elements.specs.rules.Inside.{start}
use Rattle.syntax.specs.rules.Expression.{Expr, symbol, quoted, list, Exprs, none, and, place}
use Rattle.document.specs.rules.Document.{Tree, text, value, size, element, Trees, empty, holds, tree_class, is_node}
use Rattle.document.specs.reference.RulesTest.{keeps_rules, keep_rules}
use Rattle.document.specs.rules.Spelling.{as_symbol, as_string, Writes, writes_text, writes_value, writes_type, writes_size, writes_element, WritesAll}
use Rattle.document.specs.rules.Spelling.{writes_none, writes_and, bracketed, is_block_parameter, parameters_of, content_of, Bracketed, brackets_around}
use Rattle.document.specs.rules.Spelling.{Flat, flat_block, flat_other, FlatAll, flat_none, flat_and, places_of, places_of_all, flat_places, flat_places_all}
use Rattle.document.specs.rules.Lead.{lead_class, list_class, expr_class}
use Rattle.document.specs.reference.Meaning.{value_tree, tree_of, trees_of, places, all_places}
use Rattle.document.specs.reference.Imperative.{NestedOf, parameters, flatten, flatten_content}
use Rattle.document.specs.rules.Command.{join}
use Rattle.document.proofs.WrittenValues.{OfText, of_text}
use Rattle.document.proofs.NestedMeaning.{tree_class_lem, judge_complete}
use Rattle.document.proofs.BlockRules.{block_range}
use Rattle.document.proofs.BlockParts.{Kept, element_kept, parameters_kept, content_kept, Parts, no_more, one_more_lem, block_parts}
use Rattle.document.proofs.BlockExpressions.{join_join, flatten_child, flatten_leaf}

-- ---- what a tree that keeps the rules is written by

-- It has the tree's class.
pub written_class : (k : ℕ) (t : Tree) (e : Expr) → Writes t e → T (keeps_rules k t) → expr_class e ≡ tree_class t
written_class k t e w h = sym (tree_class_lem e) ∙ ap tree_class (judge_complete k t e w h).0

-- So the name in an element's brackets leads the element.
lead_class_lem : (k at p c : ℕ) (ts : Trees) (es : Exprs) → WritesAll ts es → T (keeps_rules k (element c ts)) → lead_class (symbol p (Class.name_of c)) ≡ c
unfolding expr_class list_class tree_class
lead_class_lem k at p c ts es ws h = written_class k (element c ts) (bracketed at p c es) (writes_element ws) h

-- A value is no block.
no_block_value : {c : ℕ} {s : List ℕ} {e : Expr} → Writes (value c s) e → T (Class.is_block c) → ⊥
no_block_value (writes_value {c} n w) b = let o : OfText c = of_text c n in let r = block_range c b in omega (arith, o.low)
no_block_value writes_type b = let r = block_range Class.type b in omega arith

-- ---- places

-- What says no node has no place.
no_node_places : (e : Expr) → is_node (tree_of e) ≡ false → places e ≡ []
unfolding is_node tree_of places
no_node_places (symbol at s) n = cc
no_node_places (quoted at s) n = cc
no_node_places (list at none) n = refl
no_node_places (list at (and e es)) n = go (Class.is_element (lead_class e)) n
  where
    go : (b : Bool) → is_node (cond b (element (lead_class e) (trees_of es)) (value_tree (lead_class e) es)) ≡ false → cond b (at ∷ all_places es) [] ≡ []
    go true n = cc
    go false n = refl

value_places : (k : ℕ) (t : Tree) (e : Expr) → Writes t e → T (keeps_rules k t) → is_node t ≡ false → [] ≡ places e
value_places k t e w h n = sym (no_node_places e (rw (judge_complete k t e w h).0 n))

-- What is asked of the trees inside a tree.
abbrev PlacesInside : Tree → Type 0
PlacesInside (text s) = Unit {0}
PlacesInside (value c s) = Unit {0}
PlacesInside (size w h) = Unit {0}
PlacesInside (element c ts) = (es : Exprs) (ws : WritesAll ts es) → Kept c ts → places_of_all ts es ws ≡ all_places es

around : (k : ℕ) {t : Tree} {e : Expr} (w : Writes t e) → PlacesInside t → T (keeps_rules k t) → places_of t e w ≡ places e
unfolding places_of places place keeps_rules is_node
around k (writes_text as_symbol) i h = refl
around k (writes_text as_string) i h = refl
around k (writes_value {c} {s} n w) i h = value_places k (value c s) _ (writes_value n w) h refl
around k (writes_type {s}) i h = value_places k (value Class.type s) _ writes_type h refl
around k (writes_size {w} {h = v} m n) i h = value_places k (size w v) _ (writes_size m n) h refl
around k (writes_element {at} {p} {k = c} {ts} {es} ws) i h =
    let is = T_true (Class.is_element c) (both (Class.is_element c) (keep_rules c (start c) ts) h).0 in
    rw (lead_class_lem k at p c ts es ws h, is) (ap (λ (l : List ℕ). at ∷ l) (i es ws (element_kept k c ts h)))

mutual
  unfolding places_of places keeps_rules

  -- The places of an expression are those of the nodes that it writes.
  pub written_places : (k : ℕ) (t : Tree) (e : Expr) (w : Writes t e) → T (keeps_rules k t) → places_of t e w ≡ places e
  written_places k (text s) e w h = around k w tt h
  written_places k (value c s) e w h = around k w tt h
  written_places k (size v u) e w h = around k w tt h
  written_places k (element c ts) e w h = around k w (λ es ws hs. all_places_lem c ts es ws hs) h

  all_places_lem : (k : ℕ) (ts : Trees) (es : Exprs) (ws : WritesAll ts es) → Kept k ts → places_of_all ts es ws ≡ all_places es
  all_places_lem k empty none writes_none h = refl
  all_places_lem k empty (and e es) ws h = elim ws [ ]
  all_places_lem k (holds t ts) none ws h = elim ws [ ]
  all_places_lem k (holds t ts) (and e es) (writes_and w ws) h = rw (written_places k t e w h.0, all_places_lem k ts es ws h.1)

-- ---- a block: from the nested expression to the run

written_parameters : (k : ℕ) (ts : Trees) (es : Exprs) → Kept k ts → WritesAll ts es → WritesAll (parameters_of ts) (parameters es)
unfolding parameters_of parameters
written_parameters k empty none h writes_none = writes_none
written_parameters k empty (and e es) h ws = elim ws [ ]
written_parameters k (holds t ts) none h ws = elim ws [ ]
written_parameters k (holds t ts) (and e es) h (writes_and w ws) =
    rw (written_class k t e w h.0) (go (is_block_parameter (tree_class t)) (written_parameters k ts es h.1 ws))
  where
    go : (b : Bool) → WritesAll (parameters_of ts) (parameters es)
        → WritesAll (cond b (holds t (parameters_of ts)) (parameters_of ts)) (cond b (and e (parameters es)) (parameters es))
    go true ih = writes_and w ih
    go false ih = ih

flat_element : (k c : ℕ) (ts : Trees) {e : Expr} (rest : Exprs) → T (keeps_rules k (element c ts)) → Class.is_block c ≡ true
    → ((es : Exprs) → WritesAll ts es → FlatAll (content_of ts) (join (flatten_content es) rest) rest)
    → Writes (element c ts) e → Flat (element c ts) (join (flatten e) rest) rest
unfolding join flatten
flat_element k c ts rest h b content (writes_element {at} {p} {es} ws) =
    rw (lead_class_lem k at p c ts es ws h, b)
    (flat_block (true_T b) brackets_around (written_parameters c ts es (element_kept k c ts h) ws) (content es ws))

-- ---- a block: from the run to the nested expression

-- What writes the parts writes the whole, with the places of both.
record Joined (ts : Trees) (es fs : Exprs) (ps : List ℕ) : Type 0 where
  writes : WritesAll ts (join es fs)
  places_are : places_of_all ts (join es fs) writes ≡ ps

joined : {ts ps cs : Trees} {es fs : Exprs} → Parts ts ps cs → (ws : WritesAll ps es) (vs : WritesAll cs fs)
    → Joined ts es fs (places_of_all ps es ws ++ places_of_all cs fs vs)
unfolding join places_of
joined no_more writes_none vs = record { writes = vs; places_are = refl }
joined (one_more_lem p) (writes_and w ws) vs =
    let j = joined p ws vs in
    record { writes = writes_and w j.writes; places_are = rw (j.places_are, append_assoc) }

-- Whether the expressions are parameters of a block: all of them, or none.
abbrev All : Bool → Exprs → Type 0
All b none = Unit {0}
All b (and e es) = (is_block_parameter (expr_class e) ≡ b) × All b es

parameters_joined : (es fs : Exprs) → All true es → All false fs → parameters (join es fs) ≡ es
unfolding parameters join
parameters_joined none none a b = refl
parameters_joined none (and f fs) a b = rw b.0 (parameters_joined none fs a b.1)
parameters_joined (and e es) fs a b = rw a.0 (ap (and e) (parameters_joined es fs a.1 b))

content_joined : (es fs : Exprs) → All true es → flatten_content (join es fs) ≡ flatten_content fs
unfolding flatten join
content_joined none fs a = refl
content_joined (and e es) fs a = rw a.0 (content_joined es fs a.1)

-- And whether trees are.
abbrev AllTrees : Bool → Trees → Type 0
AllTrees b empty = Unit {0}
AllTrees b (holds t ts) = (is_block_parameter (tree_class t) ≡ b) × AllTrees b ts

parameter_trees : (ts : Trees) → AllTrees true (parameters_of ts)
unfolding parameters_of
parameter_trees empty = tt
parameter_trees (holds t ts) =
    cond_case (AllTrees true) (is_block_parameter (tree_class t)) (λ p. (p, parameter_trees ts)) (λ p. parameter_trees ts)

content_trees : (ts : Trees) → AllTrees false (content_of ts)
unfolding content_of
content_trees empty = tt
content_trees (holds t ts) =
    cond_case (AllTrees false) (is_block_parameter (tree_class t)) (λ p. content_trees ts) (λ p. (p, content_trees ts))

written_all : (k : ℕ) (b : Bool) {ts : Trees} {es : Exprs} → WritesAll ts es → Kept k ts → AllTrees b ts → All b es
written_all k b writes_none h a = tt
written_all k b (writes_and {t} {e = e} w ws) (h, hs) (p, a) = (rw (written_class k t e w h) p, written_all k b ws hs a)

-- The same of a run for several trees.
record AllNestedOf {ts : Trees} {es rest : Exprs} (f : FlatAll ts es rest) : Type 0 where
  expressions : Exprs
  writes : WritesAll ts expressions
  run : es ≡ join (flatten_content expressions) rest
  same_places : places_of_all ts expressions writes ≡ flat_places_all f

block_nested : (k : ℕ) {c : ℕ} {ts : Trees} {e : Expr} {es fs rest : Exprs} → T (keeps_rules k (element c ts)) → (b : T (Class.is_block c))
    (x : Bracketed c es e) (ws : WritesAll (parameters_of ts) es) (f : FlatAll (content_of ts) fs rest) → AllNestedOf f
    → NestedOf (flat_block b x ws f)
unfolding places_of flat_places place flatten join
block_nested k {c} {ts} {es} {fs} {rest} h b (brackets_around {at} {p}) ws f n =
    let kept = element_kept k c ts h in
    let cs : Exprs = n.expressions in
    let j = joined (block_parts k c ts b h) ws n.writes in
    let first : All true es = written_all c true ws (parameters_kept c ts kept) (parameter_trees ts) in
    let then : All false cs = written_all c false n.writes (content_kept c ts kept) (content_trees ts) in
    record {
      expression = bracketed at p c (join es cs);
      writes = writes_element j.writes;
      run =
          rw (lead_class_lem k at p c ts (join es cs) j.writes h, T_true (Class.is_block c) b, parameters_joined es cs first then, content_joined es cs first)
          (ap (and (bracketed at p c es)) n.run);
      same_places = ap (λ (l : List ℕ). at ∷ l) (j.places_are ∙ rw n.same_places);
    }

run_joined : (e : Expr) (es more run rest : Exprs) → is_block_parameter (expr_class e) ≡ false → run ≡ join (flatten e) more → more ≡ join (flatten_content es) rest
    → run ≡ join (flatten_content (and e es)) rest
run_joined e es more run rest p r rs = r ∙ rw (rs, flatten_child e es p, join_join)

and_nested : (k : ℕ) {t : Tree} {ts : Trees} {es more rest : Exprs} → is_block_parameter (tree_class t) ≡ false → T (keeps_rules k t)
    → (f : Flat t es more) (fs : FlatAll ts more rest) → NestedOf f → AllNestedOf fs → AllNestedOf (flat_and f fs)
unfolding places_of flat_places
and_nested k {t} {es} {more} {rest} p h f fs n ns =
    let e : Expr = n.expression in
    record {
      expressions = and e ns.expressions;
      writes = writes_and n.writes ns.writes;
      run = run_joined e ns.expressions more es rest (rw (written_class k t e n.writes h) p) n.run ns.run;
      same_places = rw (n.same_places, ns.same_places);
    }

-- ---- trees

-- What is no block is itself the run.
alone : (k : ℕ) (t : Tree) (e : Expr) (rest : Exprs) → T (keeps_rules k t) → (T (Class.is_block (tree_class t)) → ⊥) → Writes t e
    → join (flatten e) rest ≡ and e rest
unfolding join
alone k t e rest h b w = rw (flatten_leaf e (rw (written_class k t e w h) (not_T_false _ b)))

mutual
  unfolding flat_places places_of flatten join

  -- A run for a tree that keeps the rules is what a nested expression flattens to.
  pub flat_nested : (k : ℕ) {t : Tree} {es rest : Exprs} → T (keeps_rules k t) → (f : Flat t es rest) → NestedOf f
  flat_nested k h (flat_block {k = c} {ts} b x ws f) = block_nested k h b x ws f (flat_nested_all c (content_kept c ts (element_kept k c ts h)) (content_trees ts) f)
  flat_nested k h (flat_other {t} {e} {rest} b w) = record { expression = e; writes = w; run = sym (alone k t e rest h b w); same_places = refl }

  flat_nested_all : (k : ℕ) {ts : Trees} {es rest : Exprs} → Kept k ts → AllTrees false ts → (f : FlatAll ts es rest) → AllNestedOf f
  flat_nested_all k h a flat_none = record { expressions = none; writes = writes_none; run = refl; same_places = refl }
  flat_nested_all k (h, hs) (p, a) (flat_and f fs) = and_nested k p h f fs (flat_nested k h f) (flat_nested_all k hs a fs)

flat_alone : (k : ℕ) (t : Tree) (e : Expr) (rest : Exprs) → T (keeps_rules k t) → (T (Class.is_block (tree_class t)) → ⊥) → Writes t e
    → Flat t (join (flatten e) rest) rest
flat_alone k t e rest h b w = rw (alone k t e rest h b w) (flat_other b w)

mutual
  unfolding join flatten content_of tree_class Class.is_block

  -- What a nested expression that writes such a tree flattens to is a run for the tree.
  pub nested_flat : (k : ℕ) (t : Tree) (e : Expr) (rest : Exprs) → T (keeps_rules k t) → Writes t e → Flat t (join (flatten e) rest) rest
  nested_flat k (text s) e rest h w = flat_alone k (text s) e rest h (λ b. b) w
  nested_flat k (value c s) e rest h w = flat_alone k (value c s) e rest h (no_block_value w) w
  nested_flat k (size u v) e rest h w = flat_alone k (size u v) e rest h (λ b. b) w
  nested_flat k (element c ts) e rest h w =
      bool_case (Class.is_block c)
      (λ b. flat_element k c ts rest h b (λ es ws. content_flat c ts es rest (element_kept k c ts h) ws) w)
      (λ b. flat_alone k (element c ts) e rest h (λ t. rw b at t) w)

  content_flat : (k : ℕ) (ts : Trees) (es rest : Exprs) → Kept k ts → WritesAll ts es → FlatAll (content_of ts) (join (flatten_content es) rest) rest
  content_flat k empty none rest h writes_none = flat_none
  content_flat k empty (and e es) rest h ws = elim ws [ ]
  content_flat k (holds t ts) none rest h ws = elim ws [ ]
  content_flat k (holds t ts) (and e es) rest h (writes_and w ws) =
      rw (written_class k t e w h.0)
      (cond_flat (is_block_parameter (tree_class t)) (nested_flat k t e (join (flatten_content es) rest) h.0 w) (content_flat k ts es rest h.1 ws))
    where
      cond_flat : (b : Bool) → Flat t (join (flatten e) (join (flatten_content es) rest)) (join (flatten_content es) rest)
          → FlatAll (content_of ts) (join (flatten_content es) rest) rest
          → FlatAll (cond b (content_of ts) (holds t (content_of ts))) (join (cond b (flatten_content es) (join (flatten e) (flatten_content es))) rest) rest
      cond_flat true f fs = fs
      cond_flat false f fs = rw join_join (flat_and f fs)
