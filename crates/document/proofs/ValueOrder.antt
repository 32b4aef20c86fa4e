-- An element's values in the order of the canonical spelling: the trees inside an element that keeps the rules stand in that order already, but for a type before an id.
-- What is said of the rows of the rules is one test that antt computes over all kinds.
use Prim.Native.Nat.{ℕ, ◌≤◌}
use mathlib.Core.Path.{◌≡◌, refl, sym, ◌∙◌, ap, subst}
use mathlib.Core.Bool.{Bool, true, false, not, cond, ◌&&◌, ◌||◌}
use mathlib.Core.List.{List, [], ◌∷◌, append-nil}
use mathlib.Core.Logic.{◌⊎◌, inl, inr}
use native.Mathlib.Omega.{arith}
use lib.Dec.{T, eqb, leb, leb→le, eqb→eq}
use borrow.Author.Tests.{eqb-true, ne_eqb}
use Rattle.base.proofs.Booleans.{cond_case, both, both_true, true_T, T_true, or_true, or_left}
use Rattle.base.proofs.Tables.{below, each_below}
use Rattle.elements.specs.rules.Class as Class
use Rattle.elements.specs.rules.Rules.{Slot, must, may, id_type, rules, rule_in, rule_of}
use Rattle.elements.specs.rules.Inside.{State, expecting, Step, go, step, start, ended, none_required, next_parameter}
use Rattle.elements.specs.rules.Characters.{type_character, id_character}
use Rattle.document.specs.rules.Value.{non_empty, every, target_character, is_value, is_size}
use Rattle.base.specs.rules.Limits.{missing}
use Rattle.document.specs.rules.Document.{Tree, text, value, size, element, Trees, empty, holds, tree_class, key_of, type_of}
use Rattle.document.specs.rules.Document.{width_or, height_or, key_in, type_in, width_in, height_in, is_node, says, say_all}
use Rattle.document.specs.reference.RulesTest.{step_goes_on, keeps_rules, keep_rules}
use Rattle.document.specs.rules.Canonical.{value_before, size_before, key_class, node_first, place_values, tree_levels, most_levels_in}
use Rattle.document.specs.rules.Faults.{Next, Begun, due, children, Taken}
use Rattle.document.proofs.ElementSteps.{begun_of, stepped}
use Rattle.document.proofs.RuleClasses.{is_child, allowed_child, chosen_child}
use Rattle.document.proofs.NestedMeaning.{goes_on}

-- The trees that are nodes.
unfoldable pub nodes_in : Trees → Trees
nodes_in empty = empty
nodes_in (holds t ts) = cond (is_node t) (holds t (nodes_in ts)) (nodes_in ts)

-- The values of `ts` before `us`, in the canonical order.
unfoldable pub values_of : ℕ → Trees → Trees → Trees
values_of k ts us =
    value_before (key_class k) (key_in ts) (size_before (width_in ts) (height_in ts) (value_before Class.type (type_in ts) us))

-- The trees inside an element of kind k with these parameters, its values in the canonical order.
unfoldable pub arranged_by : ℕ → List Slot → Trees → Trees
arranged_by k ps ts = place_values (node_first ps) (values_of k ts) (nodes_in ts)

-- A tree is like another that keeps the rules.
pub record TreeAlike (k : ℕ) (t u : Tree) : Type 0 where
  pub kept : T (keeps_rules k u)
  pub same_class : tree_class u ≡ tree_class t
  pub same_sort : is_node u ≡ is_node t
  pub same_key : key_of u ≡ key_of t
  pub same_type : type_of u ≡ type_of t
  pub same_width : (n : ℕ) → width_or n u ≡ width_or n t
  pub same_height : (n : ℕ) → height_or n u ≡ height_or n t
  pub same_said : says u ≡ says t
  pub same_levels : tree_levels u ≡ tree_levels t

pub alike_itself : (k : ℕ) (t : Tree) → T (keeps_rules k t) → TreeAlike k t t
alike_itself k t h =
    record {
      kept = h;
      same_class = refl;
      same_sort = refl;
      same_key = refl;
      same_type = refl;
      same_width = λ n. refl;
      same_height = λ n. refl;
      same_said = refl;
      same_levels = refl;
    }

-- The trees inside an element of kind k, from the state s on, are like others that keep the rules.
pub record TreesAlike (k : ℕ) (s : State) (ts us : Trees) : Type 0 where
  pub kept : T (keep_rules k s us)
  pub same_key : key_in us ≡ key_in ts
  pub same_type : type_in us ≡ type_in ts
  pub same_width : width_in us ≡ width_in ts
  pub same_height : height_in us ≡ height_in ts
  pub same_said : say_all us ≡ say_all ts
  pub same_levels : most_levels_in us ≡ most_levels_in ts

pub all_alike_itself : (k : ℕ) (s : State) (ts : Trees) → T (keep_rules k s ts) → TreesAlike k s ts ts
all_alike_itself k s ts h =
    record { kept = h; same_key = refl; same_type = refl; same_width = refl; same_height = refl; same_said = refl; same_levels = refl }

pub all_alike_on : {k : ℕ} {s : State} {ts us vs : Trees} → TreesAlike k s ts us → TreesAlike k s us vs → TreesAlike k s ts vs
all_alike_on a b =
    record {
      kept = b.kept;
      same_key = b.same_key ∙ a.same_key;
      same_type = b.same_type ∙ a.same_type;
      same_width = b.same_width ∙ a.same_width;
      same_height = b.same_height ∙ a.same_height;
      same_said = b.same_said ∙ a.same_said;
      same_levels = b.same_levels ∙ a.same_levels;
    }

-- What follows keeps the rules from where a step leads.
abbrev pub Onward : ℕ → Trees → Step → Type 0
Onward k ts st = T (step_goes_on st (λ s'. keep_rules k s' ts))

pub first_kept : (k : ℕ) (s : State) (t : Tree) (ts : Trees) → T (keep_rules k s (holds t ts)) → T (keeps_rules k t) × Onward k ts (step k s (tree_class t))
unfolding keeps_rules
first_kept k s t ts h = both (keeps_rules k t) (step_goes_on (step k s (tree_class t)) (λ s'. keep_rules k s' ts)) h

both_kept : (k : ℕ) (s : State) (t : Tree) (ts : Trees) → T (keeps_rules k t) → Onward k ts (step k s (tree_class t)) → T (keep_rules k s (holds t ts))
unfolding keeps_rules
both_kept k s t ts h on = both_true (keeps_rules k t) (step_goes_on (step k s (tree_class t)) (λ s'. keep_rules k s' ts)) h on

pub holds_alike : (k : ℕ) (s s' : State) (t u : Tree) (ts us : Trees) → step k s (tree_class t) ≡ go s' → TreeAlike k t u → TreesAlike k s' ts us
    → TreesAlike k s (holds t ts) (holds u us)
unfolding keeps_rules step_goes_on key_in type_in width_in height_in says tree_levels
holds_alike k s s' t u ts us e a b =
    let c : step k s (tree_class u) ≡ go s' = ap (step k s) a.same_class ∙ e in
    record {
      kept = both_kept k s u us a.kept (rw c b.kept);
      same_key = cc (a.same_key, b.same_key);
      same_type = cc (a.same_type, b.same_type);
      same_width = a.same_width (width_in us) ∙ ap (λ (n : ℕ). width_or n t) b.same_width;
      same_height = a.same_height (height_in us) ∙ ap (λ (n : ℕ). height_or n t) b.same_height;
      same_said = cc (a.same_sort, a.same_said, b.same_said);
      same_levels = cc (a.same_levels, b.same_levels);
    }

-- What a node leaves out.
pub record NoValue (t : Tree) : Type 0 where
  pub no_key : key_of t ≡ []
  pub no_type : type_of t ≡ []
  pub no_width : (n : ℕ) → width_or n t ≡ n
  pub no_height : (n : ℕ) → height_or n t ≡ n

pub node_no_value : (t : Tree) → T (is_node t) → NoValue t
unfolding is_node key_of type_of width_or height_or
node_no_value (text s) i = record { no_key = refl; no_type = refl; no_width = λ n. refl; no_height = λ n. refl }
node_no_value (value c s) i = absurd i
node_no_value (size w h) i = absurd i
node_no_value (element c ts) i = record { no_key = refl; no_type = refl; no_width = λ n. refl; no_height = λ n. refl }

-- The values stand before the nodes in the canonical order, and those before the r-th place (id or target, size, type) are missing.
record InOrder (k r : ℕ) (ts : Trees) : Type 0 where
  in_order : values_of k ts (nodes_in ts) ≡ ts
  no_key : 1 ≤ r → key_in ts ≡ []
  no_size : 2 ≤ r → width_in ts ≡ missing
  no_type : 3 ≤ r → type_in ts ≡ []

weaken : {k : ℕ} {ts : Trees} (q r : ℕ) → r ≤ q → InOrder k q ts → InOrder k r ts
weaken q r l o =
    record {
      in_order = o.in_order;
      no_key = λ h. o.no_key (omega arith);
      no_size = λ h. o.no_size (omega arith);
      no_type = λ h. o.no_type (omega arith);
    }

empty_in_order : (k r : ℕ) → InOrder k r empty
unfolding values_of nodes_in key_in type_in width_in value_before size_before
empty_in_order k r = record { in_order = refl; no_key = λ h. refl; no_size = λ h. refl; no_type = λ h. refl }

key_class_lem : (k : ℕ) → (key_class k ≡ Class.id) ⊎ (key_class k ≡ Class.target)
unfolding key_class
key_class_lem k =
    cond_case (λ (c : ℕ). (c ≡ Class.id) ⊎ (c ≡ Class.target)) (Class.is_block k) (λ b. inl refl) (λ b. inr refl)

-- Where no value comes any more, only nodes follow.
only_nodes : {k : ℕ} {ts : Trees} → InOrder k 3 ts → nodes_in ts ≡ ts
unfolding values_of value_before size_before
only_nodes o =
    rw (o.no_key (omega arith), o.no_size (omega arith), o.no_type (omega arith)) at o.in_order

add_node : (k : ℕ) (t : Tree) (ts : Trees) → T (is_node t) → InOrder k 3 ts → InOrder k 3 (holds t ts)
unfolding values_of value_before size_before key_in type_in width_in nodes_in
add_node k t ts i o =
    let n = node_no_value t i in
    let e1 : key_in (holds t ts) ≡ [] = rw (n.no_key, o.no_key (omega arith)) in
    let e2 : width_in (holds t ts) ≡ missing = n.no_width (width_in ts) ∙ o.no_size (omega arith) in
    let e3 : type_in (holds t ts) ≡ [] = rw (n.no_type, o.no_type (omega arith)) in
    let e4 : is_node t ≡ true = T_true (is_node t) i in
    record {
      in_order = rw (e1, e2, e3, e4) (ap (holds t) (only_nodes o));
      no_key = λ h. e1;
      no_size = λ h. e2;
      no_type = λ h. e3;
    }

key_no_type : (k : ℕ) → eqb (key_class k) Class.type ≡ false
key_no_type k = by (key_class_lem k)
  where
    by : (key_class k ≡ Class.id) ⊎ (key_class k ≡ Class.target) → eqb (key_class k) Class.type ≡ false
    by (inl e) = rw e
    by (inr e) = rw e

add_key : (k : ℕ) (s : List ℕ) (ts : Trees) → T (non_empty s) → InOrder k 1 ts → InOrder k 0 (holds (value (key_class k) s) ts)
unfolding values_of value_before key_in type_in width_in height_in nodes_in is_node key_of type_of width_or height_or non_empty
add_key k [] ts n o = absurd n
add_key k (b ∷ s) ts n o =
    let e : key_in ts ≡ [] = o.no_key (omega arith) in
    record {
      in_order = rw (key_no_type k, e, append-nil s) (ap (holds (value (key_class k) (b ∷ s))) (rw e at o.in_order));
      no_key = λ h. absurd (omega arith);
      no_size = λ h. absurd (omega arith);
      no_type = λ h. absurd (omega arith);
    }

size_small : (w h : ℕ) → T (is_size w h) → eqb w missing ≡ false
unfolding is_size
size_small w h t =
    let l : w ≤ 65535 = leb→le w 65535 (both (leb w 65535) (leb h 65535) t).0 in
    ne_eqb w missing (λ e. omega arith)

add_size : (k w h : ℕ) (ts : Trees) → T (is_size w h) → InOrder k 2 ts → InOrder k 1 (holds (size w h) ts)
unfolding values_of value_before size_before key_in type_in width_in height_in nodes_in is_node key_of type_of width_or height_or
add_size k w h ts s o =
    let e1 : key_in ts ≡ [] = o.no_key (omega arith) in
    let e2 : width_in ts ≡ missing = o.no_size (omega arith) in
    record {
      in_order = rw (e1, size_small w h s) (ap (holds (size w h)) (rw (e1, e2) at o.in_order));
      no_key = λ h. e1;
      no_size = λ h. absurd (omega arith);
      no_type = λ h. absurd (omega arith);
    }

add_type : (k : ℕ) (s : List ℕ) (ts : Trees) → T (non_empty s) → InOrder k 3 ts → InOrder k 2 (holds (value Class.type s) ts)
unfolding values_of value_before size_before key_in type_in width_in height_in nodes_in is_node key_of type_of width_or height_or non_empty
add_type k [] ts n o = absurd n
add_type k (b ∷ s) ts n o =
    let e1 : key_in ts ≡ [] = o.no_key (omega arith) in
    let e2 : width_in ts ≡ missing = o.no_size (omega arith) in
    let e3 : type_in ts ≡ [] = o.no_type (omega arith) in
    record {
      in_order = rw (e1, e2, e3, append-nil s) (ap (holds (value Class.type (b ∷ s))) (only_nodes o));
      no_key = λ h. e1;
      no_size = λ h. e2;
      no_type = λ h. absurd (omega arith);
    }

-- An expression of class c comes where values from the r-th place on may come, and leaves those from the next place on.
data ComesInOrder (k r c : ℕ) : ℕ → Type 0 where
  as_key : c ≡ key_class k → r ≤ 0 → ComesInOrder k r c 1
  as_size : c ≡ Class.size → r ≤ 1 → ComesInOrder k r c 2
  as_type : c ≡ Class.type → r ≤ 2 → ComesInOrder k r c 3
  as_node : T (is_child c) → r ≤ 3 → ComesInOrder k r c 3

key_class_range : (k : ℕ) → (26 ≤ key_class k) × (key_class k ≤ 28)
key_class_range k = by (key_class_lem k)
  where
    by : (key_class k ≡ Class.id) ⊎ (key_class k ≡ Class.target) → (26 ≤ key_class k) × (key_class k ≤ 28)
    by (inl e) = omega arith
    by (inr e) = omega arith

-- The classes of elements and texts are below those of values.
child_low : (c : ℕ) → T (is_child c) → c ≤ 25
unfolding Class.is_element Class.is_kind
child_low c t = by (or_true (Class.is_element c) (eqb c Class.text) t)
  where
    by : T (Class.is_element c) ⊎ T (eqb c Class.text) → c ≤ 25
    by (inl e) = leb→le c 25 (both (leb 1 c) (leb c 25) (both (leb 1 c && leb c 25) (not (eqb c Class.text)) e).0).1
    by (inr e) = omega (arith, eqb→eq c Class.text e)

element_low : (c : ℕ) (ts : Trees) → T (Class.is_element c && keep_rules c (start c) ts) → c ≤ 25
element_low c ts h = child_low c (or_left (Class.is_element c) (eqb c Class.text) (both (Class.is_element c) (keep_rules c (start c) ts) h).0)

value_range : (k c : ℕ) (s : List ℕ) → T (is_value k c s) → T (non_empty s) × (26 ≤ c) × (c ≤ 28)
unfolding is_value
value_range k c s t =
    let (some, h) = both (non_empty s) _ t in
    let (low, high) = by h in
    (some, low, high)
  where
    by : T (cond (eqb c Class.type) (every type_character s) (cond (eqb c Class.id) (every id_character s) (cond (eqb c Class.target) (every (target_character k) s) false)))
        → (26 ≤ c) × (c ≤ 28)
    by =
        cond_case (λ (b : Bool). T b → (26 ≤ c) × (c ≤ 28)) (eqb c Class.type)
        (λ e x. omega (arith, eqb-true c Class.type e))
        (λ f. cond_case (λ (b : Bool). T b → (26 ≤ c) × (c ≤ 28)) (eqb c Class.id)
        (λ e x. omega (arith, eqb-true c Class.id e))
        (λ f. cond_case (λ (b : Bool). T b → (26 ≤ c) × (c ≤ 28)) (eqb c Class.target)
        (λ e x. omega (arith, eqb-true c Class.target e))
        (λ f x. absurd x)))

-- A tree that keeps the rules comes in its turn.
placed : (k r q : ℕ) (t : Tree) (ts : Trees) → T (keeps_rules k t) → ComesInOrder k r (tree_class t) q → InOrder k q ts → InOrder k r (holds t ts)
unfolding keeps_rules tree_class is_node
placed k r q (text s) ts h (as_key e l) o = absurd (omega (arith, key_class_range k))
placed k r q (text s) ts h (as_size e l) o = absurd (omega arith)
placed k r q (text s) ts h (as_type e l) o = absurd (omega arith)
placed k r q (text s) ts h (as_node c l) o = weaken 3 r l (add_node k (text s) ts tt o)
placed k r q (value c s) ts h (as_key e l) o =
    weaken 0 r l (subst (λ (c : ℕ). InOrder k 0 (holds (value c s) ts)) (sym e) (add_key k s ts (value_range k c s h).0 o))
placed k r q (value c s) ts h (as_size e l) o = absurd (omega (arith, (value_range k c s h).2))
placed k r q (value c s) ts h (as_type e l) o =
    weaken 2 r l (subst (λ (c : ℕ). InOrder k 2 (holds (value c s) ts)) (sym e) (add_type k s ts (value_range k c s h).0 o))
placed k r q (value c s) ts h (as_node i l) o = absurd (omega (arith, (value_range k c s h).1, child_low c i))
placed k r q (size w v) ts h (as_key e l) o = absurd (omega (arith, key_class_range k))
placed k r q (size w v) ts h (as_size e l) o = weaken 1 r l (add_size k w v ts h o)
placed k r q (size w v) ts h (as_type e l) o = absurd (omega arith)
placed k r q (size w v) ts h (as_node i l) o = absurd (omega (arith, child_low Class.size i))
placed k r q (element c us) ts h (as_key e l) o = absurd (omega (arith, key_class_range k, element_low c us h))
placed k r q (element c us) ts h (as_size e l) o = absurd (omega (arith, element_low c us h))
placed k r q (element c us) ts h (as_type e l) o = absurd (omega (arith, element_low c us h))
placed k r q (element c us) ts h (as_node i l) o = weaken 3 r l (add_node k (element c us) ts tt o)

-- What may come where no parameter is left: children.
abbrev settled : Begun → Bool
settled (due []) = true
settled (due (p ∷ ps)) = false
settled (children ks) = true

no_next : {ps qs : List Slot} {c : ℕ} → Next ps c qs → T (settled (due ps)) → ⊥
no_next Next.required t = t
no_next Next.optional t = t
no_next Next.id_first t = t
no_next Next.type_first t = t
no_next (Next.passed_over e r) t = t
no_next (Next.both_passed_over e f r) t = t

taken_child : {k c : ℕ} {b b' : Begun} → Taken k c b b' → T (settled b) → T (is_child c) × T (settled b')
taken_child (Taken.parameter r) t = absurd (no_next r t)
taken_child {k} (Taken.first_child d i a) t = (chosen_child k a, tt)
taken_child {k} (Taken.next_child i a e) t = (allowed_child k a, tt)

children_in_order : (ts : Trees) (k : ℕ) (s : State) → T (settled (begun_of s)) → T (keep_rules k s ts) → InOrder k 3 ts
unfolding keeps_rules
children_in_order empty k s f h = empty_in_order k 3
children_in_order (holds t ts) k s f h =
    let (here, on) = first_kept k s t ts h in
    let (s', e, later) = goes_on (step k s (tree_class t)) (λ s'. keep_rules k s' ts) on in
    let taken : Taken k (tree_class t) (begun_of s) (begun_of s') = rw e at (stepped k s (tree_class t)) in
    let (child, f') = taken_child taken f in
    placed k 3 3 t ts here (as_node child (omega arith)) (children_in_order ts k s' f' later)

-- A parameter of class c stands in its turn among those of a row.
abbrev in_turn : ℕ → ℕ → ℕ → (ℕ → Bool) → Bool
in_turn k r c after =
    cond (eqb c (key_class k)) (leb r 0 && after 1)
    (cond (eqb c Class.size) (leb r 1 && after 2)
    (cond (eqb c Class.type) (leb r 2 && after 3)
    (Class.is_element c && (leb r 3 && after 3))))

abbrev ordered : ℕ → ℕ → List Slot → Bool
ordered k r [] = leb r 3
ordered k r (must n ∷ ps) = in_turn k r n (λ q. ordered k q ps)
ordered k r (may n ∷ ps) = in_turn k r n (λ q. ordered k q ps)
ordered k r (id_type ∷ ps) = false

in_turn_lem : (k r c : ℕ) (after : ℕ → Bool) → T (in_turn k r c after) → (q : ℕ) × ComesInOrder k r c q × T (after q)
in_turn_lem k r c after =
    cond_case P (eqb c (key_class k)) (λ e t. let (l, a) = both (leb r 0) (after 1) t in (1, as_key (eqb-true _ _ e) (leb→le r 0 l), a))
    (λ f. cond_case P (eqb c Class.size) (λ e t. let (l, a) = both (leb r 1) (after 2) t in (2, as_size (eqb-true _ _ e) (leb→le r 1 l), a))
    (λ f. cond_case P (eqb c Class.type) (λ e t. let (l, a) = both (leb r 2) (after 3) t in (3, as_type (eqb-true _ _ e) (leb→le r 2 l), a))
    (λ f t.
    let (i, t') = both (Class.is_element c) (leb r 3 && after 3) t in
    let (l, a) = both (leb r 3) (after 3) t' in
    (3, as_node (or_left (Class.is_element c) (eqb c Class.text) i) (leb→le r 3 l), a))))
  where
    P : Bool → Type 0
    P b = T b → (q : ℕ) × ComesInOrder k r c q × T (after q)

fits_up : {k r c q : ℕ} → ComesInOrder k r c q → r ≤ q
fits_up (as_key e l) = omega arith
fits_up (as_size e l) = omega arith
fits_up (as_type e l) = omega arith
fits_up (as_node i l) = l

-- Where the parameters of a row stand in order, so do the values of an element that keeps the rules.
trees_in_order : (ps : List Slot) (k r : ℕ) (ts : Trees) → T (ordered k r ps) → T (keep_rules k (expecting ps) ts) → InOrder k r ts
unfolding keeps_rules ended none_required step next_parameter step_goes_on
trees_in_order [] k r ts o h = weaken 3 r (leb→le r 3 o) (children_in_order ts k (expecting []) tt h)
trees_in_order (must n ∷ ps) k r empty o h = absurd h
trees_in_order (must n ∷ ps) k r (holds t ts) o h =
    let (q, f, o') = in_turn_lem k r n (λ q. ordered k q ps) o in
    let (here, on) = first_kept k (expecting (must n ∷ ps)) t ts h in
    cond_case (λ (st : Step). Onward k ts st → InOrder k r (holds t ts)) (eqb (tree_class t) n)
    (λ e g. placed k r q t ts here (rw (eqb-true (tree_class t) n e) f) (trees_in_order ps k q ts o' g))
    (λ e g. absurd g)
    on
trees_in_order (may n ∷ ps) k r empty o h = empty_in_order k r
trees_in_order (may n ∷ ps) k r (holds t ts) o h =
    let (q, f, o') = in_turn_lem k r n (λ q. ordered k q ps) o in
    let (here, on) = first_kept k (expecting (may n ∷ ps)) t ts h in
    cond_case (λ (st : Step). Onward k ts st → InOrder k r (holds t ts)) (eqb (tree_class t) n)
    (λ e g. placed k r q t ts here (rw (eqb-true (tree_class t) n e) f) (trees_in_order ps k q ts o' g))
    (λ e g. weaken q r (fits_up f)
    (trees_in_order ps k q (holds t ts) o' (both_kept k (expecting ps) t ts here g)))
    on
trees_in_order (id_type ∷ ps) k r ts o h = absurd o

in_order_alike : (k : ℕ) (s : State) (ts : Trees) → T (keep_rules k s ts) → InOrder k 0 ts → TreesAlike k s ts (values_of k ts (nodes_in ts))
in_order_alike k s ts h o = subst (λ (us : Trees). TreesAlike k s ts us) (sym o.in_order) (all_alike_itself k s ts h)

-- A tree of a value's class is that value.
value_tree_lem : (k : ℕ) (t : Tree) (c : ℕ) → 26 ≤ c → c ≤ 28 → tree_class t ≡ c → T (keeps_rules k t) → (s : List ℕ) × (t ≡ value c s)
unfolding keeps_rules tree_class
value_tree_lem k (text s) c low high e h = absurd (omega arith)
value_tree_lem k (value d s) c low high e h = (s, ap (λ (n : ℕ). value n s) e)
value_tree_lem k (size w v) c low high e h = absurd (omega arith)
value_tree_lem k (element d ts) c low high e h = absurd (omega (arith, element_low d ts h))

-- A block's id and type, in either order.
module _ (k : ℕ) (b : T (Class.is_block k)) where
  id_key : key_class k ≡ Class.id
  unfolding key_class
  id_key = rw (T_true (Class.is_block k) b)

  abbrev Arranged : List Slot → Trees → Type 0
  Arranged ps ts = TreesAlike k (expecting ps) ts (values_of k ts (nodes_in ts))

  swapped : (s u : List ℕ) (ts : Trees) → T (is_value k Class.type s) → T (is_value k Class.id u) → T (keep_rules k (expecting []) ts)
      → Arranged (id_type ∷ []) (holds (value Class.type s) (holds (value Class.id u) ts))
  unfolding keeps_rules step_goes_on step next_parameter tree_class key_in type_in width_in height_in key_of type_of width_or height_or says is_node tree_levels nodes_in values_of
  swapped s u ts hs hu h =
      let us : Trees = holds (value Class.type s) ts in
      let kept : T (keep_rules k (expecting (id_type ∷ [])) (holds (value Class.id u) us)) = both_true (is_value k Class.id u) _ hu (both_true (is_value k Class.type s) _ hs h) in
      let later : InOrder k 1 us = placed k 1 3 (value Class.type s) ts hs (as_type refl (omega arith)) (children_in_order ts k (expecting []) tt h) in
      let o : InOrder k 0 (holds (value Class.id u) us) = placed k 0 1 (value Class.id u) us hu (as_key (sym id_key) (omega arith)) later in
      let a = in_order_alike k (expecting (id_type ∷ [])) (holds (value Class.id u) us) kept o in
      record {
        kept = a.kept;
        same_key = a.same_key;
        same_type = a.same_type;
        same_width = a.same_width;
        same_height = a.same_height;
        same_said = a.same_said;
        same_levels = a.same_levels;
      }

  type_first : (s : List ℕ) (ts : Trees) → T (is_value k Class.type s) → T (keep_rules k (expecting (may Class.id ∷ [])) ts)
      → T (keep_rules k (expecting (id_type ∷ [])) (holds (value Class.type s) ts)) → Arranged (id_type ∷ []) (holds (value Class.type s) ts)
  unfolding keeps_rules step_goes_on step next_parameter tree_class
  type_first s empty hs h all =
      in_order_alike k (expecting (id_type ∷ [])) (holds (value Class.type s) empty) all
      (placed k 0 3 (value Class.type s) empty hs (as_type refl (omega arith)) (empty_in_order k 3))
  type_first s (holds u us) hs h all =
      let ts : Trees = holds u us in
      let (here, on) = first_kept k (expecting (may Class.id ∷ [])) u us h in
      cond_case (λ (st : Step). Onward k us st → Arranged (id_type ∷ []) (holds (value Class.type s) ts)) (eqb (tree_class u) Class.id)
      (λ e g.
      let (v, is) = value_tree_lem k u Class.id (omega arith) (omega arith) (eqb-true (tree_class u) Class.id e) here in
      rw is (swapped s v us hs (rw is at here) g))
      (λ e g.
      let nodes : InOrder k 3 ts = children_in_order ts k (expecting []) tt (both_kept k (expecting []) u us here g) in
      in_order_alike k (expecting (id_type ∷ [])) (holds (value Class.type s) ts) all
      (placed k 0 3 (value Class.type s) ts hs (as_type refl (omega arith)) nodes))
      on

  either_order_lem : (ts : Trees) → T (keep_rules k (expecting (id_type ∷ [])) ts) → Arranged (id_type ∷ []) ts
  unfolding keeps_rules step_goes_on step next_parameter
  either_order_lem empty h = in_order_alike k (expecting (id_type ∷ [])) empty h (empty_in_order k 0)
  either_order_lem (holds t ts) h =
      let (here, on) = first_kept k (expecting (id_type ∷ [])) t ts h in
      cond_case P (eqb (tree_class t) Class.id)
      (λ e g.
      let type : T (ordered k 1 (may Class.type ∷ [])) = rw id_key tt in
      in_order_alike k (expecting (id_type ∷ [])) (holds t ts) h
      (placed k 0 1 t ts here (as_key (eqb-true _ _ e ∙ sym id_key) (omega arith)) (trees_in_order (may Class.type ∷ []) k 1 ts type g)))
      (λ f. cond_case P (eqb (tree_class t) Class.type)
      (λ e g.
      let (s, is) = value_tree_lem k t Class.type (omega arith) (omega arith) (eqb-true (tree_class t) Class.type e) here in
      rw is (type_first s ts (rw is at here) g (rw is at h)))
      (λ f' g. in_order_alike k (expecting (id_type ∷ [])) (holds t ts) h
      (weaken 3 0 (omega arith) (children_in_order (holds t ts) k (expecting []) tt (both_kept k (expecting []) t ts here g)))))
      on
    where
      P : Step → Type 0
      P st = Onward k ts st → Arranged (id_type ∷ []) (holds t ts)

-- The parameters of a row without a leading title or summary.
abbrev regular : ℕ → List Slot → Bool
regular k [] = true
regular k (must n ∷ ps) = ordered k 0 (must n ∷ ps)
regular k (may n ∷ ps) = ordered k 0 (may n ∷ ps)
regular k (id_type ∷ []) = Class.is_block k
regular k (id_type ∷ (p ∷ ps)) = false

regular_alike : (k : ℕ) (ps : List Slot) (ts : Trees) → T (regular k ps) → T (keep_rules k (expecting ps) ts)
    → TreesAlike k (expecting ps) ts (values_of k ts (nodes_in ts))
regular_alike k [] ts r h = in_order_alike k (expecting []) ts h (trees_in_order [] k 0 ts tt h)
regular_alike k (must n ∷ ps) ts r h = in_order_alike k (expecting (must n ∷ ps)) ts h (trees_in_order (must n ∷ ps) k 0 ts r h)
regular_alike k (may n ∷ ps) ts r h = in_order_alike k (expecting (may n ∷ ps)) ts h (trees_in_order (may n ∷ ps) k 0 ts r h)
regular_alike k (id_type ∷ []) ts r h = either_order_lem k r ts h
regular_alike k (id_type ∷ (p ∷ ps)) ts r h = absurd r

-- The parameters of a row.
abbrev arrangeable : ℕ → List Slot → Bool
arrangeable k [] = true
arrangeable k (must n ∷ ps) = cond (eqb n Class.title || eqb n Class.summary) (regular k ps) (regular k (must n ∷ ps))
arrangeable k (may n ∷ ps) = regular k (may n ∷ ps)
arrangeable k (id_type ∷ ps) = regular k (id_type ∷ ps)

-- A tree below the classes of values is a node.
pub low_node : (k : ℕ) (t : Tree) → tree_class t ≤ 25 → T (keeps_rules k t) → T (is_node t)
unfolding keeps_rules tree_class is_node
low_node k (text s) l h = tt
low_node k (value c s) l h = absurd (omega (arith, (value_range k c s h).1))
low_node k (size w v) l h = absurd (omega arith)
low_node k (element c ts) l h = tt

behind_node : (k : ℕ) (t : Tree) (ts : Trees) → T (is_node t)
    → place_values true (values_of k (holds t ts)) (nodes_in (holds t ts)) ≡ holds t (values_of k ts (nodes_in ts))
unfolding place_values values_of nodes_in key_in type_in width_in height_in
behind_node k t ts i =
    let n = node_no_value t i in
    rw (T_true (is_node t) i, n.no_key, n.no_type, n.no_width (width_in ts), n.no_height (height_in ts))

led_by_node : (k n : ℕ) (ps : List Slot) (ts : Trees) → n ≤ 25 → T (regular k ps) → T (keep_rules k (expecting (must n ∷ ps)) ts)
    → TreesAlike k (expecting (must n ∷ ps)) ts (place_values true (values_of k ts) (nodes_in ts))
unfolding keeps_rules ended none_required step next_parameter step_goes_on
led_by_node k n ps empty l r h = absurd h
led_by_node k n ps (holds t ts) l r h =
    let (here, on) = first_kept k (expecting (must n ∷ ps)) t ts h in
    cond_case P (eqb (tree_class t) n)
    (λ e g.
    let i : T (is_node t) = low_node k t (omega (arith, eqb-true (tree_class t) n e)) here in
    rw (behind_node k t ts i) (holds_alike k (expecting (must n ∷ ps)) (expecting ps) t t ts (values_of k ts (nodes_in ts)) (rw e) (alike_itself k t here) (regular_alike k ps ts r g)))
    (λ e g. absurd g)
    on
  where
    P : Step → Type 0
    P st = Onward k ts st
        → TreesAlike k (expecting (must n ∷ ps)) (holds t ts) (place_values true (values_of k (holds t ts)) (nodes_in (holds t ts)))

leads_low : (n : ℕ) → T (eqb n Class.title || eqb n Class.summary) → n ≤ 25
leads_low n t = by (or_true (eqb n Class.title) (eqb n Class.summary) t)
  where
    by : T (eqb n Class.title) ⊎ T (eqb n Class.summary) → n ≤ 25
    by (inl e) = omega (arith, eqb→eq n Class.title e)
    by (inr e) = omega (arith, eqb→eq n Class.summary e)

arranged_by_lem : (k : ℕ) (ps : List Slot) (ts : Trees) → T (arrangeable k ps) → T (keep_rules k (expecting ps) ts) → TreesAlike k (expecting ps) ts (arranged_by k ps ts)
unfolding arranged_by node_first place_values
arranged_by_lem k [] ts a h = regular_alike k [] ts tt h
arranged_by_lem k (must n ∷ ps) ts a h = by (eqb n Class.title || eqb n Class.summary) refl a
  where
    by : (b : Bool) → eqb n Class.title || eqb n Class.summary ≡ b → T (cond b (regular k ps) (regular k (must n ∷ ps)))
        → TreesAlike k (expecting (must n ∷ ps)) ts (place_values b (values_of k ts) (nodes_in ts))
    by true e r = led_by_node k n ps ts (leads_low n (true_T e)) r h
    by false e r = regular_alike k (must n ∷ ps) ts r h
arranged_by_lem k (may n ∷ ps) ts a h = regular_alike k (may n ∷ ps) ts a h
arranged_by_lem k (id_type ∷ ps) ts a h = regular_alike k (id_type ∷ ps) ts a h

-- The test of every row.
all_arrangeable : T (below (λ k. arrangeable k (rule_of k).parameters) 26)
unfolding rules rule_in rule_of key_class Class.is_block Class.is_element Class.is_kind
all_arrangeable = tt

-- The trees inside an element that keeps the rules keep them in the canonical order too, and say the same.
pub arranged : (k : ℕ) (ts : Trees) → T (Class.is_element k) → T (keep_rules k (start k) ts)
    → TreesAlike k (start k) ts (arranged_by k (rule_of k).parameters ts)
unfolding start
arranged k ts e h =
    let low : k ≤ 25 = child_low k (or_left (Class.is_element k) (eqb k Class.text) e) in
    arranged_by_lem k (rule_of k).parameters ts (each_below (λ k. arrangeable k (rule_of k).parameters) 26 k (omega arith) all_arrangeable) h
