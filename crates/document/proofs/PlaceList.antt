-- The place list of a text ties each node to the text: one place a node, ascending, and at each the node begins.
use Prim.Native.Nat.{ℕ, zero, suc, ◌+◌, ◌≤◌, ◌<◌}
use mathlib.Core.Path.{◌≡◌, refl, ap, ◌∙◌}
use mathlib.Core.Logic.{◌⊎◌, inl, inr}
use mathlib.Core.List.Memᴰ
use mathlib.Core.List.{List, [], ◌∷◌, ◌++◌, map, Memᴰ}
use native.Mathlib.Nat.{zero-add, le_refl, le_trans}
use native.Mathlib.Omega.{arith}
use lib.Dec.{T}
use lib.ListN.{length, get_or, drop, length-map}
use Rattle.base.proofs.Booleans.{both, T_true}
use Rattle.elements.specs.rules.Class as Class
use Rattle.elements.specs.rules.Inside.{start}
use Rattle.syntax.specs.rules.Syntax.{space, line_end, word, string, leaf_before, Before, a_symbol, another, after, Forest, end, leaf, brackets, Ok}
use Rattle.syntax.specs.rules.Expression.{Expr, symbol, Exprs, none, and, place, locate_leaf, locate}
use Rattle.syntax.proofs.ByteClasses.{FitsAfter}
use Rattle.syntax.proofs.ExpressionsInBytes.{SymbolAt, StringAt, Front, ListAt, Stands, StandAll, stands_forward, forest_stands}
use Rattle.base.specs.rules.Limits.{missing}
use Rattle.document.specs.rules.Document.{Tree, value, size, element, Trees, empty, holds, is_node, Node, says}
use Rattle.document.specs.reference.RulesTest.{keeps_rules, keep_rules}
use Rattle.document.specs.rules.Table.{count}
use Rattle.document.specs.rules.Visits.{node_kind, node_text, Visit, visits_of, up_from}
use Rattle.document.specs.rules.Spelling.{Spelling, as_symbol, as_string, Writes, writes_text, writes_value, writes_type, writes_size, writes_element, WritesAll}
use Rattle.document.specs.rules.Spelling.{writes_none, writes_and, parameters_of, content_of, Bracketed, brackets_around, Flat, flat_block, flat_other, FlatAll, flat_none}
use Rattle.document.specs.rules.Spelling.{flat_and, WritesIn, as_nested, as_imperative, Spells, places_of, places_of_all, flat_places, flat_places_all, places_in, node_places}
use Rattle.document.specs.rules.Placed.{Blank, SymbolEnds, Begins, Ascending, Placed}
use Rattle.document.proofs.BlockParts.{Kept, element_kept, parameters_kept, content_kept, block_parts}
use Rattle.document.proofs.NodeOrder.{nodes_of, visited_of, visits_nodes, tree_nodes, trees_nodes, holds_nodes, parts_nodes}
use Rattle.document.proofs.RulesTest.{lawful_test}
use Rattle.document.proofs.CanonicalLayout.{document_node}
use Rattle.document.proofs.Records.{visit_numbers_lem, visits_length}

-- The nodes begin at the places, which ascend from lo on and are below hi.
data Laid (s : List ℕ) : ℕ → List Node → List ℕ → ℕ → Type 0 where
  no_nodes : {lo hi : ℕ} → lo ≤ hi → Laid s lo [] [] hi
  one_node : {lo p hi : ℕ} {n : Node} {ns : List Node} {ps : List ℕ} → lo ≤ p → Begins n (drop p s) → Laid s (p + 1) ns ps hi → Laid s lo (n ∷ ns) (p ∷ ps) hi

laid_later : {s : List ℕ} {lo lo' hi : ℕ} {ns : List Node} {ps : List ℕ} → lo' ≤ lo → Laid s lo ns ps hi → Laid s lo' ns ps hi
laid_later l (no_nodes m) = no_nodes (le_trans l m)
laid_later l (one_node m b r) = one_node (le_trans l m) b r

laid_alone : {s : List ℕ} {lo p hi : ℕ} {n : Node} → lo ≤ p → p < hi → Begins n (drop p s) → Laid s lo (n ∷ []) (p ∷ []) hi
laid_alone {p} {hi} l m b = let n : p + 1 ≤ hi = omega arith in one_node l b (no_nodes n)

laid_both : {s : List ℕ} {lo mid hi : ℕ} {ns ms : List Node} {ps qs : List ℕ} → Laid s lo ns ps mid → Laid s mid ms qs hi → Laid s lo (ns ++ ms) (ps ++ qs) hi
laid_both (no_nodes l) b = laid_later l b
laid_both (one_node l x r) b = one_node l x (laid_both r b)

laid_length : {s : List ℕ} {lo hi : ℕ} {ns : List Node} {ps : List ℕ} → Laid s lo ns ps hi → length ps ≡ length ns
laid_length (no_nodes l) = refl
laid_length (one_node l x r) = ap suc (laid_length r)

laid_ascending : {s : List ℕ} {lo hi : ℕ} {ns : List Node} {ps : List ℕ} → Laid s lo ns ps hi → Ascending ps
unfolding Ascending
laid_ascending (no_nodes l) = tt
laid_ascending (one_node l x (no_nodes m)) = tt
laid_ascending (one_node l x (one_node m y r)) = (omega arith, laid_ascending (one_node m y r))

-- ---- nodes that begin where what writes them stands

symbol_ends : (k : List ℕ) → FitsAfter a_symbol k → SymbolEnds k
unfolding FitsAfter SymbolEnds
symbol_ends [] h = tt
symbol_ends (b ∷ k) h = rw h tt

-- What has no expression is a run of white space.
blank : (m : Before) (n : ℕ) (f : Forest) → Ok m f → locate n f ≡ none → Blank f
unfolding Ok Blank locate locate_leaf
blank m n end o h = tt
blank m n (leaf (space b) f) o h = (o.1, blank (after (space b)) (n + length (leaf_before (space b) [])) f o.2 h)
blank m n (leaf line_end f) o h = blank (after line_end) (n + length (leaf_before line_end [])) f o.2 h
blank m n (leaf (word b bs) f) o h = let z : ◌≡◌ {A = ℕ} 0 1 = cc in omega arith
blank m n (leaf (string p ps) f) o h = let z : ◌≡◌ {A = ℕ} 0 1 = cc in omega arith
blank m n (brackets b inside f) o h = let z : ◌≡◌ {A = ℕ} 0 1 = cc in omega arith

symbol_begins : (s : List ℕ) (at : ℕ) (bytes : List ℕ) → SymbolAt s at bytes → Begins (says (Tree.text bytes)) (drop at s)
unfolding says node_kind node_text
symbol_begins s at bytes h = rw h.split (Begins.as_symbol h.rest refl h.ordinary (symbol_ends h.rest h.ends))

string_begins : (s : List ℕ) (at : ℕ) (bytes : List ℕ) → StringAt s at bytes → Begins (says (Tree.text bytes)) (drop at s)
unfolding says node_kind node_text
string_begins s at bytes h = rw h.split (Begins.as_string h.first h.more h.rest refl h.pieces h.stands_for)

element_begins : (s : List ℕ) (k at p c : ℕ) (ts : Trees) (es : Exprs) → T (keeps_rules k (element c ts)) → ListAt s at (and (symbol p (Class.name_of c)) es)
    → SymbolAt s p (Class.name_of c) → Begins (says (element c ts)) (drop at s)
unfolding says node_kind keeps_rules Front place
element_begins s k at p c ts es h l n =
    let (white, is, split) = l.front in
    rw (l.split, split, n.split)
    (Begins.as_list l.bracket white n.rest (both (Class.is_element c) (keep_rules c (start c) ts) h).0 (blank another 0 white is.syntax (is.no_expression 0))
    (symbol_ends n.rest n.ends))

-- What is asked of the trees inside a tree.
abbrev LaidInside : List ℕ → Tree → Type 0
LaidInside s (Tree.text bytes) = Unit {0}
LaidInside s (value c bytes) = Unit {0}
LaidInside s (size w h) = Unit {0}
LaidInside s (element c ts) = (i j : ℕ) (es : Exprs) (ws : WritesAll ts es) → Kept c ts → StandAll s i es j → Laid s i (trees_nodes ts) (places_of_all ts es ws) j

around : (s : List ℕ) (k : ℕ) {t : Tree} {e : Expr} (w : Writes t e) → LaidInside s t → T (keeps_rules k t) → (i j : ℕ) → Stands s i e j → i ≤ j
    → Laid s i (tree_nodes t) (places_of t e w) j
unfolding places_of place tree_nodes trees_nodes nodes_of is_node says Stands
around s k (writes_text {s = bytes} (as_symbol {at})) inside h i j (l, m, st) on = laid_alone l m (symbol_begins s at bytes st)
around s k (writes_text {s = bytes} (as_string {at})) inside h i j (l, m, st) on = laid_alone l m (string_begins s at bytes st)
around s k (writes_value n w) inside h i j st on = no_nodes on
around s k writes_type inside h i j st on = no_nodes on
around s k (writes_size m n) inside h i j st on = no_nodes on
around s k (writes_element {at} {p} {k = c} {ts} {es} ws) inside h i j (l, here, (m, (low, high, name), st)) on =
    let behind : at + 1 ≤ m = omega arith in
    one_node l (element_begins s k at p c ts es h here name) (laid_later behind (inside m j es ws (element_kept k c ts h) st))

mutual
  unfolding places_of trees_nodes says nodes_of Stands

  -- What stands in the text lays the nodes of the tree that it writes.
  tree_laid : (s : List ℕ) (k : ℕ) (t : Tree) (e : Expr) (w : Writes t e) → T (keeps_rules k t) → (i j : ℕ) → Stands s i e j
      → Laid s i (tree_nodes t) (places_of t e w) j
  tree_laid s k (Tree.text bytes) e w h i j st = around s k w tt h i j st (stands_forward s i e j st)
  tree_laid s k (value c bytes) e w h i j st = around s k w tt h i j st (stands_forward s i e j st)
  tree_laid s k (size v u) e w h i j st = around s k w tt h i j st (stands_forward s i e j st)
  tree_laid s k (element c ts) e w h i j st = around s k w (λ i' j' es ws hs sts. trees_laid s c ts es ws hs i' j' sts) h i j st (stands_forward s i e j st)

  trees_laid : (s : List ℕ) (k : ℕ) (ts : Trees) (es : Exprs) (ws : WritesAll ts es) → Kept k ts → (i j : ℕ) → StandAll s i es j
      → Laid s i (trees_nodes ts) (places_of_all ts es ws) j
  trees_laid s k empty none writes_none h i j st = no_nodes st
  trees_laid s k empty (and e es) ws h i j st = elim ws [ ]
  trees_laid s k (holds t ts) none ws h i j st = elim ws [ ]
  trees_laid s k (holds t ts) (and e es) (writes_and w ws) h i j (m, st, sts) =
      rw (holds_nodes t ts) (laid_both (tree_laid s k t e w h.0 i m st) (trees_laid s k ts es ws h.1 m j sts))

-- ---- runs of an imperative text

-- The run lays the nodes at the places, up to where what follows it stands.
record LaidRun (s : List ℕ) (i : ℕ) (ns : List Node) (ps : List ℕ) (rest : Exprs) (j : ℕ) : Type 0 where
  ends : ℕ
  laid : Laid s i ns ps ends
  follow : StandAll s ends rest j

block_laid : (s : List ℕ) (k : ℕ) {c : ℕ} (ts : Trees) {e : Expr} {es fs rest : Exprs} → T (keeps_rules k (element c ts)) → (b : T (Class.is_block c))
    (x : Bracketed c es e) (ws : WritesAll (parameters_of ts) es) (f : FlatAll (content_of ts) fs rest) (i j : ℕ)
    → ((m : ℕ) → StandAll s m fs j → LaidRun s m (trees_nodes (content_of ts)) (flat_places_all f) rest j)
    → StandAll s i (and e fs) j → LaidRun s i (tree_nodes (element c ts)) (flat_places (flat_block b x ws f)) rest j
unfolding places_of flat_places place tree_nodes trees_nodes nodes_of is_node says Stands
block_laid s k {c} ts {es} h b (brackets_around {at} {p}) ws f i j content (n, (l, here, (m, (low, high, name), inside)), follow) =
    let kept = element_kept k c ts h in
    let after = content n follow in
    let behind : at + 1 ≤ m = omega arith in
    let first = trees_laid s c (parameters_of ts) es ws (parameters_kept c ts kept) m n inside in
    let all : Laid s m (trees_nodes ts) (places_of_all (parameters_of ts) es ws ++ flat_places_all f) after.ends
    = rw (parts_nodes (block_parts k c ts b h)) (laid_both first after.laid) in
    record { ends = after.ends; laid = one_node l (element_begins s k at p c ts es h here name) (laid_later behind all); follow = after.follow }

mutual
  unfolding flat_places trees_nodes says nodes_of Stands

  flat_laid : (s : List ℕ) (k : ℕ) {t : Tree} {es rest : Exprs} → T (keeps_rules k t) → (f : Flat t es rest) (i j : ℕ) → StandAll s i es j
      → LaidRun s i (tree_nodes t) (flat_places f) rest j
  flat_laid s k h (flat_block {k = c} {ts} b x ws f) i j st =
      block_laid s k ts h b x ws f i j (λ m sts. flat_laid_all s c (content_kept c ts (element_kept k c ts h)) f m j sts) st
  flat_laid s k h (flat_other {t} {e} b w) i j (m, st, sts) = record { ends = m; laid = tree_laid s k t e w h i m st; follow = sts }

  flat_laid_all : (s : List ℕ) (k : ℕ) {ts : Trees} {es rest : Exprs} → Kept k ts → (f : FlatAll ts es rest) (i j : ℕ) → StandAll s i es j
      → LaidRun s i (trees_nodes ts) (flat_places_all f) rest j
  flat_laid_all s k h flat_none i j st = record { ends = i; laid = no_nodes (le_refl i); follow = st }
  flat_laid_all s k (h, hs) (flat_and {t} {ts} f fs) i j st =
      let first = flat_laid s k h f i j st in
      let then = flat_laid_all s k hs fs first.ends j first.follow in
      record { ends = then.ends; laid = rw (holds_nodes t ts) (laid_both first.laid then.laid); follow = then.follow }

-- ---- a text that spells a document

text_laid : (s : List ℕ) {sp : Spelling} {t : Tree} {es : Exprs} (w : WritesIn sp t es) → T (keeps_rules 0 t) → (i j : ℕ) → StandAll s i es j
    → (e : ℕ) × Laid s i (tree_nodes t) (places_in w) e
unfolding places_in Stands
text_laid s (as_nested {t} {e} w) h i j (m, st, _) = (m, tree_laid s 0 t e w h i m st)
text_laid s (as_imperative f) h i j st = let r = flat_laid s 0 h f i j st in (r.ends, r.laid)

-- Numbered one by one, the visits begin at the places one by one.
visit_begins : (s : List ℕ) (vs : List Visit) (ps : List ℕ) (i n lo hi : ℕ) (v : Visit) → map (λ (v : Visit). v.number) vs ≡ up_from i n
    → Laid s lo (visited_of vs) ps hi → Memᴰ v vs → (m : ℕ) × (v.number ≡ i + m) × Begins v.visited (drop (get_or ps m 0) s)
unfolding up_from
visit_begins s [] ps i n lo hi v e l m = absurd (Memᴰ.not-nil m)
visit_begins s (u ∷ vs) ps i zero lo hi v e l m = absurd (let z : ◌≡◌ {A = ℕ} 0 1 = cc in omega arith)
visit_begins s (u ∷ vs) ps i (suc n) lo hi v e (one_node {p} {ps = qs} l b r) m =
    go (λ x. visit_begins s vs qs (suc i) n (p + 1) hi v (cc) r x) (Memᴰ.cases_cons m)
  where
    go : (Memᴰ v vs → (m : ℕ) × (v.number ≡ suc i + m) × Begins v.visited (drop (get_or qs m 0) s)) → (v ≡ u) ⊎ Memᴰ v vs
        → (m : ℕ) × (v.number ≡ i + m) × Begins v.visited (drop (get_or (p ∷ qs) m 0) s)
    go below (inl x) = (0, (let k : u.number ≡ i = cc in omega (arith, ap (λ (v : Visit). v.number) x)), rw x b)
    go below (inr x) = let (m, k, begins) = below x in (suc m, omega arith, begins)

placed : (s : List ℕ) (d : Node) (ps : List ℕ) (hi : ℕ) → Laid s 0 (nodes_of d) ps hi → Placed d s ps
unfolding visits_of
placed s d ps hi l =
    let laid : Laid s 0 (visited_of (visits_of d)) ps hi = rw (visits_nodes d 0 missing 0) l in
    record {
      one_each = laid_length laid ∙ length-map (visits_of d) (λ (v : Visit). v.visited) ∙ visits_length d 0 missing 0;
      ascending = laid_ascending laid;
      begins = λ v m.
          let (n, number, begins) = visit_begins s (visits_of d) ps 0 (count d) 0 hi v (visit_numbers_lem d 0 missing 0) laid m in
          rw (number, zero-add n) begins;
    }

-- Document 01, "The table": "The place list has one word a node, the offset of its first byte".
pub place_list : (s : Spelling) (d : Node) (text : List ℕ) (sp : Spells s d text) → Placed d text (node_places sp)
unfolding node_places tree_nodes
place_list s d text sp =
    let (kept, is-node) = document_node sp.tree (lawful_test sp.tree sp.lawful) in
    let (hi, laid) = text_laid text sp.writes kept 0 (length text) (forest_stands text sp.forest sp.syntax sp.spelled) in
    placed text d (node_places sp) hi (rw (T_true (is_node sp.tree) is-node, sp.said) at laid)
