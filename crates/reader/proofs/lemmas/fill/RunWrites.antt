-- Writing a run of expressions one after the other.
use Prim.Native.Nat.{ℕ, suc, ◌+◌, ◌*◌}
use mathlib.Core.Path.{◌≡◌, refl, sym, ap, ◌∙◌}
use mathlib.Core.Bool.{Bool, true, false, cond}
use mathlib.Core.List.{List, [], ◌∷◌, ◌++◌, append-nil, append_assoc}
use native.Mathlib.Nat.{add-zero}
use native.Mathlib.Numerals.{add-one}
use native.Mathlib.Omega.{arith}
use lib.ListN.{length, length-append}
use lib.Seq.{sets}
use Rattle.elements.specs.rules.Class as Class
use Rattle.syntax.specs.rules.Expression.{Expr, list, Exprs, none, and}
use Rattle.base.specs.rules.Limits.{missing}
use Rattle.document.specs.rules.Record.{record_length}
use Rattle.document.specs.rules.Document.{Trees, text, node, Nodes, childless, child, is_node, says, say_all, key_in, type_in, width_in, height_in}
use Rattle.document.specs.rules.Lead.{lead_class}
use Rattle.document.specs.reference.Meaning.{tree_of, trees_of, places, all_places}
use Rattle.document.specs.rules.Table.{count, count_all, pool, pool_all, rows, rows_all, offset}
use Rattle.document.proofs.Records.{rows_length_all}
use Rattle.reader.specs.internal.Counts.{node_count_in}
use Rattle.reader.specs.internal.Filling.{Filling, said_by, with_row}
use Rattle.reader.proofs.lemmas.walk.Counts.{value_no_node, all_places_lem}
use Rattle.reader.proofs.lemmas.fill.Stores.{sets_on}

-- Between a and z the run was written, its nodes under this parent.
pub record WroteRun (parent : ℕ) (es : Exprs) (a z : Filling) : Type 0 where
  pub counted : z.node ≡ a.node + count_all (said_by es)
  pub pooled : z.bytes ≡ a.bytes + length (pool_all (said_by es))
  pub placed : length (all_places es) ≡ count_all (said_by es)
  pub words_are : z.words ≡ sets a.words (record_length * a.node) (rows_all a.node parent a.bytes (said_by es))
  pub places_are : z.places ≡ sets a.places a.node (all_places es)
  pub pool_is : z.pool ≡ sets a.pool a.bytes (pool_all (said_by es))

-- Two runs of nodes.
unfoldable pub joined : Nodes → Nodes → Nodes
joined childless ms = ms
joined (child n ns) ms = child n (joined ns ms)

pub count_joined : (ns ms : Nodes) → count_all (joined ns ms) ≡ count_all ns + count_all ms
unfolding joined count_all
count_joined childless ms = omega arith
count_joined (child n ns) ms = omega (arith, count_joined ns ms)

pub pool_joined : (ns ms : Nodes) → pool_all (joined ns ms) ≡ pool_all ns ++ pool_all ms
unfolding joined pool_all
pool_joined childless ms = refl
pool_joined (child n ns) ms = rw (pool_joined ns ms) (sym (append_assoc (pool n) (pool_all ns) (pool_all ms)))

pub rows_joined : (i parent p : ℕ) (ns ms : Nodes)
    → rows_all i parent p (joined ns ms) ≡ rows_all i parent p ns ++ rows_all (i + count_all ns) parent (p + length (pool_all ns)) ms
unfolding joined rows_all count_all pool_all
rows_joined i parent p childless ms = rw (add-zero i, add-zero p)
rows_joined i parent p (child n ns) ms =
    let e : i + count n + count_all ns ≡ i + (count n + count_all ns) = omega arith in
    let f : p + length (pool n) + length (pool_all ns) ≡ p + length (pool n ++ pool_all ns) = rw length-append (omega arith) in
    rw (rows_joined (i + count n) parent (p + length (pool n)) ns ms, e, f, append_assoc)

said_joined : (x : Expr) (es : Exprs) → said_by (and x es) ≡ joined (said_by (and x none)) (said_by es)
unfolding said_by trees_of say_all joined
said_joined x es = by (is_node (tree_of x))
  where
    by : (b : Bool) → cond b (child (says (tree_of x)) (say_all (trees_of es))) (say_all (trees_of es))
        ≡ joined (cond b (child (says (tree_of x)) childless) childless) (say_all (trees_of es))
    by true = refl
    by false = refl

places_joined : (x : Expr) (es : Exprs) → all_places (and x es) ≡ all_places (and x none) ++ all_places es
unfolding all_places
places_joined x es = ap (λ (l : List ℕ). l ++ all_places es) (sym (append-nil (places x)))

-- An expression was written, and then those that follow it.
pub wrote_on : (parent : ℕ) (x : Expr) (es : Exprs) (a m z : Filling) → WroteRun parent (and x none) a m → WroteRun parent es m z
    → WroteRun parent (and x es) a z
wrote_on parent x es a m z v w =
    let ns : Nodes = said_by (and x none) in
    let ms : Nodes = said_by es in
    let k : count_all (said_by (and x es)) ≡ count_all ns + count_all ms = rw said_joined (count_joined ns ms) in
    let p : pool_all (said_by (and x es)) ≡ pool_all ns ++ pool_all ms = rw said_joined (pool_joined ns ms) in
    let q : length (pool_all (said_by (and x es))) ≡ length (pool_all ns) + length (pool_all ms) = ap length p ∙ length-append (pool_all ns) (pool_all ms) in
    let l : length (all_places (and x es)) ≡ length (all_places (and x none)) + length (all_places es) =
    ap length (places_joined x es) ∙ length-append (all_places (and x none)) (all_places es) in
    let i : record_length * m.node ≡ record_length * a.node + length (rows_all a.node parent a.bytes ns) =
    omega (arith, v.counted, rows_length_all ns a.node parent a.bytes) in
    let j : m.node ≡ a.node + length (all_places (and x none)) = omega (arith, v.counted, v.placed) in
    record {
      counted = omega (arith, v.counted, w.counted, k);
      pooled = omega (arith, v.pooled, w.pooled, q);
      placed = omega (arith, v.placed, w.placed, k, l);
      words_are = sets_on a.words m.words z.words (record_length * a.node) (record_length * m.node) (rows_all a.node parent a.bytes ns)
          (rows_all m.node parent m.bytes ms) (rows_all a.node parent a.bytes (said_by (and x es))) v.words_are w.words_are i
          (rw (said_joined x es, v.counted, v.pooled) (rows_joined a.node parent a.bytes ns ms));
      places_are = sets_on a.places m.places z.places a.node m.node (all_places (and x none)) (all_places es) (all_places (and x es))
          v.places_are w.places_are j (places_joined x es);
      pool_is = sets_on a.pool m.pool z.pool a.bytes m.bytes (pool_all ns) (pool_all ms) (pool_all (said_by (and x es)))
          v.pool_is w.pool_is v.pooled p;
    }

-- A list led by a value's name writes nothing.
value_said : (at : ℕ) (lead : Expr) (inner : Exprs) → Class.is_element (lead_class lead) ≡ false
    → said_by (and (list at (and lead inner)) none) ≡ childless
unfolding said_by trees_of say_all
value_said at lead inner i = rw (i, value_no_node (lead_class lead) inner)

value_places : (at : ℕ) (lead : Expr) (inner : Exprs) → Class.is_element (lead_class lead) ≡ false → all_places (and (list at (and lead inner)) none) ≡ []
unfolding all_places
value_places at lead inner i = rw i

-- Nothing is written where nothing is said.
wrote_nothing : (parent : ℕ) (es : Exprs) (a : Filling) → said_by es ≡ childless → all_places es ≡ [] → WroteRun parent es a a
unfolding count_all pool_all rows_all
wrote_nothing parent es a e f = record {
  counted = rw e (sym (add-zero a.node));
  pooled = rw e (sym (add-zero a.bytes));
  placed = rw (e, f);
  words_are = rw e;
  places_are = rw f;
  pool_is = rw e;
}

pub wrote_none : (parent : ℕ) (a : Filling) → WroteRun parent none a a
unfolding said_by trees_of say_all all_places
wrote_none parent a = wrote_nothing parent none a refl refl

pub wrote_value : (parent at : ℕ) (lead : Expr) (inner : Exprs) (a : Filling) → Class.is_element (lead_class lead) ≡ false
    → WroteRun parent (and (list at (and lead inner)) none) a a
wrote_value parent at lead inner a i = wrote_nothing parent _ a (value_said at lead inner i) (value_places at lead inner i)

text_said : (x : Expr) (s : List ℕ) → tree_of x ≡ text s → said_by (and x none) ≡ child (node Class.text [] [] s missing missing childless) childless
unfolding said_by trees_of say_all is_node
text_said x s e = rw e

one_place : (x : Expr) (p : ℕ) → places x ≡ p ∷ [] → all_places (and x none) ≡ p ∷ []
unfolding all_places
one_place x p f = rw f

element_said : (at : ℕ) (lead : Expr) (inner : Exprs) (c : ℕ) → Class.is_element (lead_class lead) ≡ true → lead_class lead ≡ c
    → said_by (and (list at (and lead inner)) none)
    ≡ child (node c (key_in (trees_of inner)) (type_in (trees_of inner)) [] (width_in (trees_of inner)) (height_in (trees_of inner)) (said_by inner)) childless
unfolding said_by trees_of say_all is_node
element_said at lead inner c i l = rw (i, l)

element_places : (at : ℕ) (lead : Expr) (inner : Exprs) → Class.is_element (lead_class lead) ≡ true
    → all_places (and (list at (and lead inner)) none) ≡ at ∷ all_places inner
unfolding all_places
element_places at lead inner i = rw (i, append-nil)

-- The eleven words of a text, and of an element before its end is known.
text_rows : (i parent p : ℕ) (s : List ℕ) → rows_all i parent p (child (node Class.text [] [] s missing missing childless) childless)
    ≡ 9 ∷ parent ∷ (i + 1) ∷ 0 ∷ 0 ∷ 0 ∷ 0 ∷ offset p s ∷ length s ∷ missing ∷ missing ∷ []
unfolding rows count_all offset
text_rows i parent p s = rw (add-zero p, add-zero p, add-one i)

element_rows : (i parent p k e : ℕ) (key type : List ℕ) (w h : ℕ) (ns : Nodes) → e ≡ i + suc (count_all ns)
    → rows_all i parent p (child (node k key type [] w h ns) childless)
    ≡ k ∷ parent ∷ e ∷ offset p key ∷ length key ∷ offset (p + length key) type ∷ length type ∷ 0 ∷ 0 ∷ w ∷ h ∷ rows_all (i + 1) i
    (p + length key + length type) ns
unfolding rows offset
element_rows i parent p k e key type w h ns q = rw (
  q,
  add-zero (p + length key + length type),
  append-nil
      (rows_all (i + 1) i (p + length key + length type) ns),
)

pub wrote_text : (parent p : ℕ) (x : Expr) (s : List ℕ) (a : Filling) → tree_of x ≡ text s → places x ≡ p ∷ []
    → WroteRun parent (and x none) a (with_row p Class.text parent (a.node + 1) missing missing [] [] s a)
unfolding count_all pool_all with_row offset
wrote_text parent p x s a e f =
    let said : said_by (and x none) ≡ child (node Class.text [] [] s missing missing childless) childless = text_said x s e in
    let at : all_places (and x none) ≡ p ∷ [] = one_place x p f in
    record {
      counted = rw said;
      pooled = rw (said, append-nil (s ++ []), append-nil s) (omega arith);
      placed = rw (said, at);
      words_are = rw (said, text_rows, add-zero a.bytes, add-zero a.bytes);
      places_are = rw at;
      pool_is = rw (said, append-nil (s ++ []), append-nil s);
    }

-- An element is written by its row and the rows of what it holds.
pub wrote_element : (parent at c : ℕ) (lead : Expr) (inner : Exprs) (a z : Filling) → Class.is_element (lead_class lead) ≡ true → lead_class lead ≡ c
    → WroteRun a.node inner (with_row at c parent (a.node + 1 + node_count_in inner) (width_in (trees_of inner)) (height_in (trees_of inner))
    (key_in (trees_of inner))
    (type_in (trees_of inner)) [] a) z
    → WroteRun parent (and (list at (and lead inner)) none) a z
unfolding count_all pool_all with_row offset
wrote_element parent at c lead inner a z i l v =
    let ts : Trees = trees_of inner in
    let key : List ℕ = key_in ts in
    let type : List ℕ = type_in ts in
    let w : ℕ = width_in ts in
    let h : ℕ = height_in ts in
    let ns : Nodes = said_by inner in
    let by : ℕ = a.bytes + length key + length type in
    let end : ℕ = a.node + 1 + node_count_in inner in
    let said : said_by (and (list at (and lead inner)) none) ≡ child (node c key type [] w h ns) childless = element_said at lead inner c i l in
    let ats : all_places (and (list at (and lead inner)) none) ≡ at ∷ all_places inner = element_places at lead inner i in
    let e : end ≡ a.node + suc (count_all ns) = omega (arith, v.placed, all_places_lem inner) in
    let front : List ℕ =
    c ∷ parent ∷ end ∷ offset a.bytes key ∷ length key ∷ offset (a.bytes + length key) type ∷ length type ∷ 0 ∷ 0 ∷ w ∷ h ∷ [] in
    let r : rows_all (a.node + 1) a.node (by + 0) ns ≡ rows_all (a.node + 1) a.node by ns = rw (add-zero by) in
    let q : length (key ++ (type ++ pool_all ns)) ≡ length key + length type + length (pool_all ns) = simp (length-append) (omega arith) in
    let kt : length (key ++ (type ++ [])) ≡ length key + length type = simp (length-append, append-nil) in
    record {
      counted = rw said (omega (arith, v.counted));
      pooled = rw (said, append-nil) (omega (arith, v.pooled, q));
      placed = rw (said, ats) (omega (arith, v.placed));
      words_are =
          rw (said, element_rows a.node parent a.bytes c end key type w h ns e)
          (sets_on a.words _ z.words (record_length * a.node) (record_length * (a.node + 1)) front (rows_all (a.node + 1) a.node (by + 0) ns)
          (c ∷ parent ∷ end ∷ offset a.bytes key ∷ length key ∷ offset (a.bytes + length key) type ∷ length type ∷ 0 ∷ 0 ∷ w ∷ h ∷ rows_all
          (a.node + 1) a.node by ns)
          refl v.words_are (omega arith) (rw r));
      places_are = rw ats (sets_on a.places _ z.places a.node (a.node + 1) (at ∷ []) (all_places inner) (at ∷ all_places inner) refl
          v.places_are refl refl);
      pool_is = rw (said, append-nil)
          (sets_on a.pool _ z.pool a.bytes (by + 0) (key ++ (type ++ [])) (pool_all ns) (key ++ (type ++ pool_all ns)) refl v.pool_is
          (omega (arith, kt)) (rw (append-nil type) (sym (append_assoc key type (pool_all ns)))));
    }
