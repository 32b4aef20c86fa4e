-- In a document the rows that a table's head binds are those of the table's body, so that rule 15 reads as document 01 puts it.
use Prim.Native.Nat.{ℕ, ◌+◌, ◌≤◌}
use mathlib.Core.Path.{◌≡◌, ◌∙◌, refl, sym, ap, subst}
use mathlib.Core.Bool.{Bool, true, false, not, cond, ◌&&◌, ◌||◌}
use mathlib.Core.Logic.{◌⊎◌, inl, inr}
use mathlib.Core.List.{List, [], ◌∷◌}
use native.Mathlib.Omega.{arith}
use lib.Dec.{T, eqb, eqb→eq}
use borrow.Author.Tests.{eqb-true, eqb-false, eq-eqb, ne_eqb}
use Rattle.base.proofs.Booleans.{cond_case, bool_case, both, or_true, not-true, T_true}
use Rattle.elements.specs.rules.Bytes.{among}
use Rattle.elements.specs.rules.Class as Class
use Rattle.elements.specs.rules.Rules.{Slot, must, may, id_type, Content, alternatives, exactly_one, alternatives_of, Rule, rules, rule_in, rule_of}
use Rattle.elements.specs.rules.Inside.{State, expecting, holding, Step, go, bad, is_include, some_has, allows, first_child_step, next_child_step, next_parameter, step, start}
use Rattle.elements.proofs.Alternatives.{chosen_case, some_has_lem}
use Rattle.document.specs.rules.Document.{Tree, text, value, size, element, Trees, empty, holds, tree_class, Node, node, Nodes, childless, child, is_node, says, say_all, Document}
use Rattle.document.specs.reference.RulesTest.{step_goes_on, keeps_rules, keep_rules}
use Rattle.document.specs.reference.Check.{Cells, exactly, head_cells, cells_in}
use Rattle.document.specs.rules.Visits.{child_count, node_kind, node_children}
use Rattle.document.specs.reference.Prose.{OneOf, In, InSome, RowAt, RowAmong, RowsMatch, RowsMatchHead}
use Rattle.document.proofs.RulesTest.{kept_test}

-- 1 if the two are the same class, else 0.
abbrev one : ℕ → ℕ → ℕ
one c n = cond (eqb c n) 1 0

-- How many parameters of class c may still come.
slot_count : ℕ → List Slot → ℕ
slot_count c [] = 0
slot_count c (must n ∷ ps) = one c n + slot_count c ps
slot_count c (may n ∷ ps) = one c n + slot_count c ps
slot_count c (id_type ∷ ps) = one c Class.id + one c Class.type + slot_count c ps

room : ℕ → State → ℕ
room c (expecting ps) = slot_count c ps
room c (holding ks) = 0

-- A step over an expression of class x leaves room for so many fewer of class c.
abbrev LeavesFewer : ℕ → ℕ → ℕ → Step → Type 0
LeavesFewer c x n (go s) = room c s + one c x ≤ n
LeavesFewer c x n (bad m) = Unit {0}

taken_less : (c x m n : ℕ) (s : Step) → m ≤ n → LeavesFewer c x m s → LeavesFewer c x n s
taken_less c x m n (go s) l h = omega arith
taken_less c x m n (bad e) l h = tt

one_other : (c x : ℕ) → (c ≡ x → ⊥) → one c x ≡ 0
one_other c x h = rw (ne_eqb c x h)

one_same : (c x n : ℕ) → x ≡ n → one c x ≡ one c n
one_same c x n e = rw e

one_is : (c x : ℕ) → c ≡ x → one c x ≡ 1
one_is c x e = rw (eq-eqb c x e)

one_most : (c x : ℕ) → one c x ≤ 1
one_most c x = cond_case (λ (n : ℕ). n ≤ 1) (eqb c x) (λ t. omega arith) (λ f. omega arith)

-- What the content does not allow is not taken as a child.
module _ (c x : ℕ) where
  none_taken : (t : Content) → allows t c ≡ false → allows t x ≡ true → one c x ≡ 0
  none_taken t f a = one_other c x (λ e. let z : ◌≡◌ {A = Bool} true false = sym a ∙ rw e at f in let y : ◌≡◌ {A = ℕ} 0 1 = cc in omega arith)

  first_taken : (t : Content) → allows t c ≡ false → LeavesFewer c x 0 (first_child_step t x)
  unfolding first_child_step room allows
  first_taken t f =
      cond_case (LeavesFewer c x 0) (is_include x) (λ i. tt)
      (λ i. chosen_case x (LeavesFewer c x 0) (alternatives_of t)
      (λ ks m a. omega (arith, none_taken t f (T_true (some_has (alternatives_of t) x) (some_has_lem x m a))))
      (λ a. tt))

  next_taken : (t : Content) (ks : List ℕ) → allows t c ≡ false → LeavesFewer c x 0 (next_child_step t ks x)
  unfolding next_child_step room allows alternatives_of
  next_taken (alternatives kss) ks f =
      cond_case (LeavesFewer c x 0) (is_include x) (λ i. tt)
      (λ i. cond_case (LeavesFewer c x 0) (some_has kss x)
      (λ a. cond_case (LeavesFewer c x 0) (among x ks) (λ e. omega (arith, none_taken (alternatives kss) f a)) (λ e. tt)) (λ a. tt))
  next_taken (exactly_one k) ks f = cond_case (LeavesFewer c x 0) (is_include x) (λ i. tt) (λ i. tt)

  parameter_taken : (ps : List Slot) (t : Content) → allows t c ≡ false → LeavesFewer c x (slot_count c ps) (next_parameter ps t x)
  unfolding next_parameter room slot_count
  parameter_taken [] t f = first_taken t f
  parameter_taken (must n ∷ ps) t f =
      cond_case (LeavesFewer c x (one c n + slot_count c ps)) (eqb x n) (λ e. omega (arith, one_same c x n (eqb-true x n e))) (λ e. tt)
  parameter_taken (may n ∷ ps) t f =
      cond_case (LeavesFewer c x (one c n + slot_count c ps)) (eqb x n) (λ e. omega (arith, one_same c x n (eqb-true x n e)))
      (λ e. taken_less c x (slot_count c ps) (one c n + slot_count c ps) (next_parameter ps t x) (omega arith) (parameter_taken ps t f))
  parameter_taken (id_type ∷ ps) t f =
      cond_case (LeavesFewer c x (one c Class.id + one c Class.type + slot_count c ps)) (eqb x Class.id)
      (λ e. omega (arith, one_same c x Class.id (eqb-true x Class.id e)))
      (λ e. cond_case (LeavesFewer c x (one c Class.id + one c Class.type + slot_count c ps)) (eqb x Class.type)
      (λ e'. omega (arith, one_same c x Class.type (eqb-true x Class.type e')))
      (λ e'. taken_less c x (slot_count c ps) (one c Class.id + one c Class.type + slot_count c ps) (next_parameter ps t x) (omega arith)
      (parameter_taken ps t f)))

  step_taken : (k : ℕ) (s : State) → allows (rule_of k).content c ≡ false → LeavesFewer c x (room c s) (step k s x)
  unfolding step room
  step_taken k (expecting ps) f = parameter_taken ps (rule_of k).content f
  step_taken k (holding ks) f = next_taken (rule_of k).content ks f

-- How many of these nodes are of kind c.
kind_count : ℕ → Nodes → ℕ
kind_count c childless = 0
kind_count c (child n ns) = one c (node_kind n) + kind_count c ns

-- A tree adds at most one node, of its own class.
count_said : (c : ℕ) (t : Tree) (ts : Trees) → kind_count c (say_all (holds t ts)) ≤ one c (tree_class t) + kind_count c (say_all ts)
unfolding kind_count says tree_class is_node node_kind
count_said c (text s) ts = omega arith
count_said c (value k s) ts = omega arith
count_said c (size w h) ts = omega arith
count_said c (element k us) ts = omega arith

goes_on : (s : Step) (rest : State → Bool) → T (step_goes_on s rest) → (s' : State) × (s ≡ go s') × T (rest s')
unfolding step_goes_on
goes_on (go s) rest t = (s, refl, t)
goes_on (bad n) rest t = absurd t

-- In an element of kind k, read so far to a state, at most as many children of class c follow as parameters of that class may still come.
children_bounded : (ts : Trees) (k c : ℕ) (s : State) → allows (rule_of k).content c ≡ false → T (keep_rules k s ts)
    → kind_count c (say_all ts) ≤ room c s
unfolding keeps_rules
children_bounded empty k c s f t = unfold says kind_count in omega arith
children_bounded (holds u ts) k c s f t =
    let (s', e, rest) = goes_on (step k s (tree_class u)) (λ (s' : State). keep_rules k s' ts) (both (keeps_rules k u) _ t).1 in
    let below : kind_count c (say_all ts) ≤ room c s' = children_bounded ts k c s' f rest in
    let l : room c s' + one c (tree_class u) ≤ room c s = subst (LeavesFewer c (tree_class u) (room c s)) e (step_taken c (tree_class u) k s f) in
    omega (arith, count_said c u ts)

-- A node of what lawful trees say has at most as many children of class c as its kind has parameters of that class, where its content does not allow c.
abbrev BoundedChildren : ℕ → Node → Type 0
BoundedChildren c t = allows (rule_of (node_kind t)).content c ≡ false → kind_count c (node_children t) ≤ room c (start (node_kind t))

mutual
  unfolding keeps_rules says In node_kind node_children kind_count

  tree_bounded : (u : Tree) (k c : ℕ) (t : Node) → T (keeps_rules k u) → In t (says u) → BoundedChildren c t
  tree_bounded (text s) k c t l (inl e) = rw e (λ f. omega arith)
  tree_bounded (text s) k c t l (inr x) = absurd x
  tree_bounded (value v s) k c t l (inl e) = rw e (λ f. omega arith)
  tree_bounded (value v s) k c t l (inr x) = absurd x
  tree_bounded (size w h) k c t l (inl e) = rw e (λ f. omega arith)
  tree_bounded (size w h) k c t l (inr x) = absurd x
  tree_bounded (element v ts) k c t l (inl e) = rw e (λ f. children_bounded ts v c (start v) f (both (Class.is_element v) _ l).1)
  tree_bounded (element v ts) k c t l (inr x) = trees_bounded ts v (start v) c t (both (Class.is_element v) _ l).1 x

  trees_bounded : (ts : Trees) (k : ℕ) (s : State) (c : ℕ) (t : Node) → T (keep_rules k s ts) → InSome t (say_all ts) → BoundedChildren c t
  trees_bounded empty k s c t l x = absurd x
  trees_bounded (holds u ts) k s c t l x =
      let (s', e, rest) = goes_on (step k s (tree_class u)) (λ (s' : State). keep_rules k s' ts) (both (keeps_rules k u) _ l).1 in
      pick (is_node u) (λ y. tree_bounded u k c t (both (keeps_rules k u) _ l).0 y) (λ y. trees_bounded ts k s' c t rest y) x
    where
      split : In t (says u) ⊎ InSome t (say_all ts) → (In t (says u) → BoundedChildren c t) → (InSome t (say_all ts) → BoundedChildren c t) → BoundedChildren c t
      split (inl y) own rest = own y
      split (inr y) own rest = rest y

      pick : (b : Bool) → (In t (says u) → BoundedChildren c t) → (InSome t (say_all ts) → BoundedChildren c t)
          → InSome t (cond b (child (says u) (say_all ts)) (say_all ts)) → BoundedChildren c t
      pick true own rest y = split y own rest
      pick false own rest y = rest y

-- A document's node has at most as many children of class c as its kind has parameters of that class, where its content does not allow c.
document_bounded : (d : Node) → Document d → (c : ℕ) (t : Node) → In t d → BoundedChildren c t
document_bounded d doc c t x = tree_bounded doc.tree 0 c t (kept_test 0 doc.tree doc.lawful.keeps) (rw doc.said x)

-- The root of a document is no part of a table.
tree_kind : (t : Tree) → tree_class t ≡ Class.document → node_kind (says t) ≤ Class.text
unfolding says node_kind tree_class
tree_kind (text s) e = omega arith
tree_kind (value c s) e = omega arith
tree_kind (size w h) e = omega arith
tree_kind (element k ts) e = omega arith

pub root_kind : (d : Node) → Document d → node_kind d ≤ Class.text
root_kind d doc = rw doc.said at (tree_kind doc.tree doc.lawful.root)

-- A node of a kind counts.
kind_counted : (ns : Nodes) (n : Node) (c : ℕ) → OneOf n ns → node_kind n ≡ c → 1 ≤ kind_count c ns
unfolding OneOf kind_count
kind_counted childless n c x e = absurd x
kind_counted (child m ns) n c (inl x) e = omega (arith, one_is c (node_kind m) (sym e ∙ ap node_kind x))
kind_counted (child m ns) n c (inr x) e = omega (arith, kind_counted ns n c x e)

no_kind : (ns : Nodes) (n : Node) (c : ℕ) → kind_count c ns ≤ 0 → OneOf n ns → node_kind n ≡ c → ⊥
no_kind ns n c l x e = omega (arith, kind_counted ns n c x e)

-- A table's head binds its rows, where it has one head only.
only_head : (ns : Nodes) (h : Node) → kind_count Class.head ns ≤ 1 → OneOf h ns → node_kind h ≡ Class.head
    → cells_in ns ≡ exactly (child_count (node_children h))
unfolding OneOf kind_count cells_in head_cells node_kind node_children
only_head childless h l x e = absurd x
only_head (child (node k key type words w g ms) ns) h l (inl x) e =
    let q : k ≡ Class.head = ap node_kind (sym x) ∙ e in
    rw (x, eq-eqb k Class.head q)
only_head (child (node k key type words w g ms) ns) h l (inr x) e =
    let c : 1 ≤ kind_count Class.head ns = kind_counted ns h Class.head x e in
    let q : k ≡ Class.head → ⊥ = (λ z. omega (arith, one_is Class.head k (sym z))) in
    rw (ne_eqb k Class.head q) (only_head ns h (omega arith) x e)

-- Where a number of cells is bound, there is a head of that many names.
pub some_head : (ns : Nodes) (n : ℕ) → cells_in ns ≡ exactly n
    → (h : Node) × OneOf h ns × (node_kind h ≡ Class.head) × (child_count (node_children h) ≡ n)
unfolding OneOf cells_in head_cells node_kind node_children
some_head childless n = λ e. absurd (let z : ◌≡◌ {A = ℕ} 0 1 = cc in omega arith)
some_head (child (node k key type words w g ms) ns) n =
    cond_case
    (λ (x : Cells). x ≡ exactly n → (h : Node) × OneOf h (child (node k key type words w g ms) ns) × (node_kind h ≡ Class.head)
    × (child_count (node_children h) ≡ n))
    (eqb k Class.head)
    (λ t e. (node k key type words w g ms, inl refl, eqb-true k Class.head t, cc))
    (λ f e. let (h, x, q, c) = some_head ns n e in (h, inr x, q, c))

-- A row among nodes none of which is one stands in a body among them; a row among nodes none of which is a body is one of them.
in_body : (ns : Nodes) (r : Node) → kind_count Class.row ns ≤ 0 → RowAmong r ns
    → (b : Node) × OneOf b ns × (node_kind b ≡ Class.body) × RowAmong r (node_children b)
unfolding OneOf RowAt kind_count node_kind node_children
in_body childless r l x = absurd x
in_body (child (node k key type words w g ms) ns) r l (inl (inl (q, e))) = absurd (omega (arith, one_is Class.row k (sym q)))
in_body (child (node k key type words w g ms) ns) r l (inl (inr (q, m))) = (node k key type words w g ms, inl refl, q, m)
in_body (child (node k key type words w g ms) ns) r l (inr x) =
    let (b, o, q, m) = in_body ns r (omega arith) x in
    (b, inr o, q, m)

own_row : (ns : Nodes) (r : Node) → kind_count Class.body ns ≤ 0 → RowAmong r ns → OneOf r ns × (node_kind r ≡ Class.row)
unfolding OneOf RowAt kind_count node_kind
own_row childless r l x = absurd x
own_row (child (node k key type words w g ms) ns) r l (inl (inl (q, e))) = (inl e, ap node_kind e ∙ q)
own_row (child (node k key type words w g ms) ns) r l (inl (inr (q, m))) = absurd (omega (arith, one_is Class.body k (sym q)))
own_row (child (node k key type words w g ms) ns) r l (inr x) =
    let (o, q) = own_row ns r (omega arith) x in
    (inr o, q)

-- The rows of a body of a table are bound by it.
row_bound : (ns : Nodes) (r : Node) → OneOf r ns → node_kind r ≡ Class.row → RowAmong r ns
unfolding OneOf RowAt node_kind
row_bound childless r x e = absurd x
row_bound (child (node k key type words w g ms) ns) r (inl x) e = inl (inl (ap node_kind (sym x) ∙ e, x))
row_bound (child (node k key type words w g ms) ns) r (inr x) e = inr (row_bound ns r x e)

body_bound : (ns : Nodes) (b r : Node) → OneOf b ns → node_kind b ≡ Class.body → RowAmong r (node_children b) → RowAmong r ns
unfolding OneOf RowAt node_kind node_children
body_bound childless b r x e m = absurd x
body_bound (child (node k key type words w g ms) ns) b r (inl x) e m =
    inl (inr (ap node_kind (sym x) ∙ e, subst (λ (n : Node). RowAmong r (node_children n)) x m))
body_bound (child (node k key type words w g ms) ns) b r (inr x) e m = inr (body_bound ns b r x e m)

-- A node stands in itself, and a child of a node that stands in d stands in d.
pub in_itself : (n : Node) → In n n
unfolding In
in_itself (node k key type words w h ns) = inl refl

one_in : (ns : Nodes) (b : Node) → OneOf b ns → InSome b ns
unfolding In OneOf
one_in childless b x = absurd x
one_in (child n ns) b (inl e) = inl (rw e (in_itself n))
one_in (child n ns) b (inr x) = inr (one_in ns b x)

mutual
  unfolding In node_children OneOf

  in_child : (d t b : Node) → In t d → OneOf b (node_children t) → In b d
  in_child (node k key type words w h ns) t b (inl e) o = inr (one_in ns b (subst (λ (n : Node). OneOf b (node_children n)) e o))
  in_child (node k key type words w h ns) t b (inr x) o = inr (in_children ns t b x o)

  in_children : (ns : Nodes) (t b : Node) → InSome t ns → OneOf b (node_children t) → InSome b ns
  in_children childless t b x o = absurd x
  in_children (child n ns) t b (inl x) o = inl (in_child n t b x o)
  in_children (child n ns) t b (inr x) o = inr (in_children ns t b x o)

-- What the rules say of tables and bodies.
table_rules : (allows (rule_of Class.table).content Class.row ≡ false) × (room Class.row (start Class.table) ≡ 0)
    × (allows (rule_of Class.table).content Class.head ≡ false) × (room Class.head (start Class.table) ≡ 1)
    × (allows (rule_of Class.body).content Class.body ≡ false) × (room Class.body (start Class.body) ≡ 0)
unfolding allows some_has alternatives_of rule_of rule_in rules room slot_count start among
table_rules = (refl, refl, refl, refl, refl, refl)

-- No rule but that of kind k lets an expression of class c stand.
none_in : ℕ → Rule → Bool
none_in c r = not (allows r.content c) && eqb (slot_count c r.parameters) 0

only_in : ℕ → ℕ → List Rule → Bool
only_in c k [] = true
only_in c k (r ∷ rs) = (eqb r.kind k || none_in c r) && only_in c k rs

only_in_lem : (rs : List Rule) (c k j : ℕ) → T (only_in c k rs) → (j ≡ k → ⊥) → (allows (rule_in rs j).content c ≡ false) × (slot_count c (rule_in rs j).parameters ≡ 0)
unfolding only_in none_in rule_in allows slot_count among some_has alternatives_of
only_in_lem [] c k j t other = (refl, refl)
only_in_lem (r ∷ rs) c k j t other =
    cond_case (λ (x : Rule). (allows x.content c ≡ false) × (slot_count c x.parameters ≡ 0)) (eqb j r.kind)
    (λ e. own (eqb-true j r.kind e) (or_true (eqb r.kind k) (none_in c r) (both (eqb r.kind k || none_in c r) _ t).0))
    (λ e. only_in_lem rs c k j (both (eqb r.kind k || none_in c r) _ t).1 other)
  where
    own : j ≡ r.kind → T (eqb r.kind k) ⊎ T (none_in c r) → (allows r.content c ≡ false) × (slot_count c r.parameters ≡ 0)
    own e (inl x) = absurd (other (e ∙ eqb→eq r.kind k x))
    own e (inr x) =
        let b = both (not (allows r.content c)) (eqb (slot_count c r.parameters) 0) x in
        (not-true _ (T_true _ b.0), eqb→eq _ _ b.1)

-- "head; body; row | none | names; rows; cells" and "table | summary, type?, head?, body | none": a row stands in a body only, a body in a table only.
rows_in_bodies : T (only_in Class.row Class.body rules)
unfolding only_in none_in allows rules slot_count among some_has alternatives_of
rows_in_bodies = tt

bodies_in_tables : T (only_in Class.body Class.table rules)
unfolding only_in none_in allows rules slot_count among some_has alternatives_of
bodies_in_tables = tt

module _ (d : Node) (doc : Document d) where
  bounded : (c k n : ℕ) (t : Node) → In t d → node_kind t ≡ k → allows (rule_of k).content c ≡ false → room c (start k) ≡ n
      → kind_count c (node_children t) ≤ n
  bounded c k n t x e f r =
      let l : kind_count c (node_children t) ≤ room c (start (node_kind t)) = document_bounded d doc c t x (rw e f) in
      let q : room c (start (node_kind t)) ≡ n = rw e r in
      omega arith

  -- A document's node that has a child of class c is of the one kind that lets it stand.
  holder_kind : (c k : ℕ) → T (only_in c k rules) → (t n : Node) → In t d → OneOf n (node_children t) → node_kind n ≡ c → node_kind t ≡ k
  unfolding room start rule_of
  holder_kind c k t u n x o e =
      bool_case (eqb (node_kind u) k) (λ y. eqb-true (node_kind u) k y) (λ y.
      let (f, r) = only_in_lem rules c k (node_kind u) t (eqb-false (node_kind u) k y) in
      absurd (no_kind (node_children u) n c (bounded c (node_kind u) 0 u x refl f r) o e))

  pub row_in_body : (b r : Node) → In b d → OneOf r (node_children b) → node_kind r ≡ Class.row → node_kind b ≡ Class.body
  row_in_body b r = holder_kind Class.row Class.body rows_in_bodies b r

  pub body_in_table : (t b : Node) → In t d → OneOf b (node_children t) → node_kind b ≡ Class.body → node_kind t ≡ Class.table
  body_in_table t b = holder_kind Class.body Class.table bodies_in_tables t b

  -- A table's head says how many cells its rows must have.
  pub head_binds : (t h : Node) → In t d → node_kind t ≡ Class.table → OneOf h (node_children t) → node_kind h ≡ Class.head
      → cells_in (node_children t) ≡ exactly (child_count (node_children h))
  head_binds t h x k o e =
      only_head (node_children t) h (bounded Class.head Class.table 1 t x k table_rules.2 table_rules.3) o e

  -- In a document the table's head binds just the rows of the table's body.
  pub rows_match_head : (RowsMatch d → RowsMatchHead d) × (RowsMatchHead d → RowsMatch d)
  unfolding RowsMatch RowsMatchHead
  rows_match_head = (to, from)
    where
      to : RowsMatch d → RowsMatchHead d
      to m t h b r x k oh kh ob kb or kr =
          m t r (child_count (node_children h)) x k (head_binds t h x k oh kh)
          (body_bound (node_children t) b r ob kb (row_bound (node_children b) r or kr))

      from : RowsMatchHead d → RowsMatch d
      from m t r n x k e a =
          let (h, oh, kh, ch) = some_head (node_children t) n e in
          let (b, ob, kb, ab) = in_body (node_children t) r (bounded Class.row Class.table 0 t x k table_rules.0 table_rules.1) a in
          let xb : In b d = in_child d t b x ob in
          let (or, kr) = own_row (node_children b) r (bounded Class.body Class.body 0 b xb kb table_rules.4 table_rules.5) ab in
          m t h b r x k oh kh ob kb or kr ∙ ch
