-- The nested expression behind each spelling: there is one, it is determined by the text's expressions, and so is the document; of any text, also past the limits, and across the two spellings.
use Prim.Native.Nat.{ℕ, ◌≤◌}
use mathlib.Core.Path.{◌≡◌, refl, sym, ap, ◌∙◌}
use mathlib.Core.Bool.{Bool, true, false, cond}
use mathlib.Core.List.{List}
use native.Mathlib.Omega.{arith}
use lib.Dec.{T, eqb}
use Rattle.base.proofs.Booleans.{both}
use Rattle.elements.specs.rules.Class as Class
use Rattle.syntax.specs.rules.Syntax.{Forest, levels}
use Rattle.syntax.specs.rules.Expression.{Expr, symbol, quoted, list, Exprs, none, and, locate, depth, depth_all}
use Rattle.syntax.proofs.SyntaxAccepted.{same_bytes}
use Rattle.syntax.proofs.LocatedDepth.{located_depth}
use Rattle.document.specs.rules.Document.{Tree, tree_class, Node, says}
use Rattle.document.specs.reference.RulesTest.{keeps_rules, is_document}
use Rattle.document.specs.rules.Spelling.{Spelling, nested, imperative, most_levels, is_block_parameter, Writes, WritesIn, as_nested, as_imperative, Spells, WithinLimits, places_in}
use Rattle.document.specs.rules.Lead.{lead_class, expr_class}
use Rattle.document.specs.reference.Meaning.{fine, judge_root, tree_of, places}
use Rattle.document.specs.reference.Imperative.{parameters, flatten, flatten_content, spelled_as}
use Rattle.document.specs.rules.Command.{join}
use Rattle.document.proofs.NestedMeaning.{root_complete}
use Rattle.document.proofs.RulesTest.{lawful_test}
use Rattle.document.proofs.BlockExpressions.{join_none}
use Rattle.document.proofs.Flatten.{regroup_flatten}
use Rattle.document.proofs.ImperativeRuns.{flat_nested, nested_flat, written_places}
use Rattle.document.proofs.RegroupedDepth.{depth_regrouped}

-- A nested expression that writes the tree, is spelled by these expressions, and has the nodes at the same places.
pub record Form {s : Spelling} {t : Tree} {es : Exprs} (w : WritesIn s t es) : Type 0 where
  pub expression : Expr
  pub writes : Writes t expression
  pub expressions : es ≡ spelled_as s expression
  pub same_places : places expression ≡ places_in w

kept : (t : Tree) → T (is_document t) → T (keeps_rules 0 t)
unfolding is_document
kept t h = (both (eqb (tree_class t) Class.document) (keeps_rules 0 t) h).1

pub form_of : {s : Spelling} {t : Tree} {es : Exprs} (w : WritesIn s t es) → T (is_document t) → Form w
unfolding spelled_as places_in
form_of {t = t} (as_nested {e = e} w) h =
    record { expression = e; writes = w; expressions = refl; same_places = sym (written_places 0 t e w (kept t h)) }
form_of {t = t} (as_imperative f) h =
    let n = flat_nested 0 (kept t h) f in
    record {
      expression = n.expression;
      writes = n.writes;
      expressions = n.run ∙ join_none (flatten n.expression);
      same_places = sym (written_places 0 t n.expression n.writes (kept t h)) ∙ n.same_places;
    }

-- And the other way: an expression that writes a document's tree spells it.
pub in_form : (s : Spelling) (t : Tree) (e : Expr) → Writes t e → T (is_document t) → WritesIn s t (spelled_as s e)
unfolding spelled_as
in_form nested t e w h = as_nested w
in_form imperative t e w h = as_imperative (rw (join_none (flatten e)) at (nested_flat 0 t e none (kept t h) w))

-- Two expressions that are fine and are spelled alike are one.
pub one_form : (s : Spelling) (e e' : Expr) → judge_root e ≡ fine → judge_root e' ≡ fine → spelled_as s e ≡ spelled_as s e' → e ≡ e'
unfolding spelled_as
one_form nested e e' ok ok' q = cc
one_form imperative e e' ok ok' q =
    let (e₀, es₀, flat, re) = regroup_flatten e ok in
    let (e₁, es₁, flat', re') = regroup_flatten e' ok' in
    let same : and e₀ es₀ ≡ and e₁ es₁ = sym flat ∙ q ∙ flat' in
    let first : e₀ ≡ e₁ = cc in
    let rest : es₀ ≡ es₁ = cc in
    sym re ∙ rw (first, rest) re'

-- Whatever derivation says that expressions write a document's tree, the places are those of the nested expression.
pub places_in_lem : {s : Spelling} {t : Tree} {es : Exprs} (w : WritesIn s t es) → T (is_document t) → (e : Expr) → judge_root e ≡ fine → es ≡ spelled_as s e
    → places_in w ≡ places e
places_in_lem {s} {t} w h e ok q =
    let f = form_of w h in
    let (ok', _) = root_complete t f.expression f.writes h in
    let same : f.expression ≡ e = one_form s f.expression e ok' ok (sym f.expressions ∙ q) in
    sym f.same_places ∙ ap places same

-- The form of a text that spells a document.
pub spelled_form : {s : Spelling} {d : Node} {text : List ℕ} (sp : Spells s d text) → Form sp.writes
spelled_form sp = form_of sp.writes (lawful_test sp.tree sp.lawful)

complete : {s : Spelling} {d : Node} {text : List ℕ} (sp : Spells s d text)
    → (judge_root (spelled_form sp).expression ≡ fine) × (tree_of (spelled_form sp).expression ≡ sp.tree)
complete sp = root_complete sp.tree (spelled_form sp).expression (spelled_form sp).writes (lawful_test sp.tree sp.lawful)

pub spelled_fine : {s : Spelling} {d : Node} {text : List ℕ} (sp : Spells s d text) → judge_root (spelled_form sp).expression ≡ fine
spelled_fine sp = (complete sp).0

pub spelled_means : {s : Spelling} {d : Node} {text : List ℕ} (sp : Spells s d text) → says (tree_of (spelled_form sp).expression) ≡ d
spelled_means sp = ap says (complete sp).1 ∙ sp.said

-- Two texts with the same bytes have the same concrete syntax.
same_forest : {s s' : Spelling} {d d' : Node} {text : List ℕ} (a : Spells s d text) (b : Spells s' d' text) → a.forest ≡ b.forest
same_forest a b = same_bytes a.forest b.forest a.syntax b.syntax (a.spelled ∙ sym b.spelled)

-- Equal nested expressions mean one document.
same_meaning : {s s' : Spelling} {d d' : Node} {text : List ℕ} (a : Spells s d text) (b : Spells s' d' text)
    → (spelled_form a).expression ≡ (spelled_form b).expression → d ≡ d'
same_meaning a b e = sym (spelled_means a) ∙ ap (λ (x : Expr). says (tree_of x)) e ∙ spelled_means b

-- No text spells two documents.
pub spelled_once : {s : Spelling} {d d' : Node} {text : List ℕ} → Spells s d text → Spells s d' text → d ≡ d'
spelled_once {s} a b =
    same_meaning a b (one_form s _ _ (spelled_fine a) (spelled_fine b)
    (sym (spelled_form a).expressions ∙ ap (locate 0) (same_forest a b) ∙ (spelled_form b).expressions))

-- A run of expressions is not flattened to nothing.
flat_some : (e : Expr) → flatten e ≡ none → ⊥
unfolding flatten
flat_some (symbol at s) q = let z : ◌≡◌ {A = ℕ} 0 1 = cc in omega arith
flat_some (quoted at s) q = let z : ◌≡◌ {A = ℕ} 0 1 = cc in omega arith
flat_some (list at none) q = let z : ◌≡◌ {A = ℕ} 0 1 = cc in omega arith
flat_some (list at (and e es)) q = go (Class.is_block (lead_class e)) q
  where
    go : (b : Bool) → cond b (and (list at (and e (parameters es))) (flatten_content es)) (and (list at (and e es)) none) ≡ none → ⊥
    go true q = let z : ◌≡◌ {A = ℕ} 0 1 = cc in omega arith
    go false q = let z : ◌≡◌ {A = ℕ} 0 1 = cc in omega arith

join_nothing : (es fs : Exprs) → join es fs ≡ none → (es ≡ none) × (fs ≡ none)
unfolding join
join_nothing none fs q = (refl, q)
join_nothing (and e es) fs q = absurd (let z : ◌≡◌ {A = ℕ} 0 1 = cc in omega arith)

-- A block with no content has parameters only.
only_parameters : (es : Exprs) → flatten_content es ≡ none → parameters es ≡ es
unfolding parameters flatten
only_parameters none q = refl
only_parameters (and e es) q = go (is_block_parameter (expr_class e)) q (only_parameters es)
  where
    go : (b : Bool) → cond b (flatten_content es) (join (flatten e) (flatten_content es)) ≡ none → (flatten_content es ≡ none → parameters es ≡ es)
        → cond b (and e (parameters es)) (parameters es) ≡ and e es
    go true q next = ap (λ (x : Exprs). and e x) (next q)
    go false q next = absurd (flat_some e (join_nothing (flatten e) (flatten_content es) q).0)

-- What is flattened to one expression is that expression.
flat_alone : (e x : Expr) → flatten e ≡ and x none → e ≡ x
unfolding flatten
flat_alone (symbol at s) x q = cc
flat_alone (quoted at s) x q = cc
flat_alone (list at none) x q = cc
flat_alone (list at (and e es)) x q = go (Class.is_block (lead_class e)) q
  where
    go : (b : Bool) → cond b (and (list at (and e (parameters es))) (flatten_content es)) (and (list at (and e es)) none) ≡ and x none → list at (and e es) ≡ x
    go true q =
        let nothing : flatten_content es ≡ none = cc in
        let own : list at (and e (parameters es)) ≡ x = cc in
        ap (λ (y : Exprs). list at (and e y)) (sym (only_parameters es nothing)) ∙ own
    go false q = cc

-- And no text spells two documents in two spellings.
pub spelled_once_in_both : {d d' : Node} {text : List ℕ} → Spells nested d text → Spells imperative d' text → d ≡ d'
unfolding spelled_as
spelled_once_in_both a b =
    let one : flatten (spelled_form b).expression ≡ and (spelled_form a).expression none =
    sym (spelled_form b).expressions ∙ ap (locate 0) (sym (same_forest a b)) ∙ (spelled_form a).expressions in
    same_meaning a b (sym (flat_alone (spelled_form b).expression (spelled_form a).expression one))

-- The nested expression of a text within the limit of its spelling nests at most 64 deep.
depth_of : (s : Spelling) (f : Forest) (e : Expr) → judge_root e ≡ fine → locate 0 f ≡ spelled_as s e → levels f ≤ most_levels s → depth e ≤ 64
unfolding spelled_as most_levels depth
depth_of nested f e ok q most = omega (arith, located_depth 0 f, ap depth_all q)
depth_of imperative f e ok q most =
    let (e₀, es₀, flat, re) = regroup_flatten e ok in
    let within : depth_all (and e₀ es₀) ≤ 59 = omega (arith, located_depth 0 f, ap depth_all (q ∙ flat)) in
    rw re at (depth_regrouped e₀ es₀ (rw re ok) within)

pub nested_depth : {s : Spelling} {d : Node} {text : List ℕ} (sp : Spells s d text) → WithinLimits s text sp.forest → depth (spelled_form sp).expression ≤ 64
nested_depth {s} sp l = depth_of s sp.forest (spelled_form sp).expression (spelled_fine sp) (spelled_form sp).expressions l.nests
