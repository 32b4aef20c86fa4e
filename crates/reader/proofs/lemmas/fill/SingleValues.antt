-- In an element that is fine at most one list of each sort of value stands.
use Prim.Native.Nat.{ℕ, ◌≤◌}
use mathlib.Core.Path.{◌≡◌, refl}
use mathlib.Core.Bool.{Bool, true, false, not, cond, ◌&&◌, ◌||◌}
use mathlib.Core.Logic.{◌⊎◌, inl, inr, ⊎_elim}
use mathlib.Core.List.{List, [], ◌∷◌}
use lib.Dec.{T, eqb, eqb→eq, T_not}
use native.Mathlib.Omega.{arith}
use borrow.Author.Tests.{eqb-true, eqb-false, ne_eqb}
use Rattle.base.proofs.Booleans.{cond_case, bool_case, both, both_true, or_true, or_false, true_T, T_true, not_T_false}
use Rattle.base.proofs.Tables.{every}
use Rattle.elements.specs.rules.Bytes.{among}
use Rattle.elements.specs.rules.Class as Class
use Rattle.elements.specs.rules.Rules.{Slot, must, may, id_type, Content, alternatives, exactly_one, alternatives_of, Rule, rules, rule_of}
use Rattle.elements.specs.rules.Inside.{State, expecting, holding, Step, go, is_include, some_has, allows, first_child_step, next_child_step, next_parameter, step, start}
use Rattle.elements.proofs.EachRow.{each_kind}
use Rattle.elements.proofs.Alternatives.{chosen_case, some_has_lem}
use Rattle.syntax.specs.rules.Expression.{Expr, symbol, quoted, list, Exprs, none, and}
use Rattle.document.specs.rules.Lead.{lead_class, list_class, expr_class}
use Rattle.document.specs.rules.Value.{non_empty, is_value}
use Rattle.document.specs.rules.Document.{Tree}
use Rattle.document.specs.reference.RulesTest.{keeps_rules}
use Rattle.document.specs.reference.Meaning.{fine, fault, judge, judge_list, judge_value, text_bytes, symbol_bytes, only_one, value_tree}
use Rattle.document.proofs.NestedMeaning.{not_fine}
use Rattle.document.proofs.BlockExpressions.{EndsFine, read_on}

-- Each expression of the run is fine inside, in an element of kind k.
abbrev pub EachFine : ℕ → Exprs → Type 0
EachFine k none = Unit {0}
EachFine k (and e es) = (judge k e ≡ fine) × EachFine k es

-- Nothing, or one symbol or string.
pub data OneText : Exprs → Type 0 where
  no_text : OneText none
  one_symbol : {at : ℕ} {s : List ℕ} → OneText (and (symbol at s) none)
  one_string : {at : ℕ} {s : List ℕ} → OneText (and (quoted at s) none)

-- No expression of the run is of class a or b.
abbrev pub Without : ℕ → ℕ → Exprs → Type 0
Without a b none = Unit {0}
Without a b (and e es) = (expr_class e ≡ a → ⊥) × (expr_class e ≡ b → ⊥) × Without a b es

-- At most one is, and it is a list.
pub data Single (a b : ℕ) : Exprs → Type 0 where
  nowhere : {es : Exprs} → Without a b es → Single a b es
  here : {at : ℕ} {lead : Expr} {inner es : Exprs} → (lead_class lead ≡ a) ⊎ (lead_class lead ≡ b) → Without a b es
      → Single a b (and (list at (and lead inner)) es)
  later : {e : Expr} {es : Exprs} → (expr_class e ≡ a → ⊥) → (expr_class e ≡ b → ⊥) → Single a b es → Single a b (and e es)

abbrev is : ℕ → ℕ → ℕ → Bool
is a b c = eqb c a || eqb c b

-- A parameter of class a or b may still come.
unfoldable takes : ℕ → ℕ → List Slot → Bool
takes a b [] = false
takes a b (must n ∷ ps) = is a b n || takes a b ps
takes a b (may n ∷ ps) = is a b n || takes a b ps
takes a b (id_type ∷ ps) = is a b Class.id || (is a b Class.type || takes a b ps)

-- After a parameter of class n none of a or b comes, if n is one of them.
unfoldable last : ℕ → ℕ → ℕ → List Slot → Bool
last a b n ps = cond (is a b n) (not (takes a b ps)) true

unfoldable single : ℕ → ℕ → List Slot → Bool
single a b [] = true
single a b (must n ∷ ps) = last a b n ps && single a b ps
single a b (may n ∷ ps) = last a b n ps && single a b ps
single a b (id_type ∷ ps) =
    last a b Class.id (may Class.type ∷ ps)
    && (last a b Class.type (may Class.id ∷ ps) && ((last a b Class.type ps && last a b Class.id ps) && single a b ps))

unfoldable fits : ℕ → ℕ → Rule → Bool
fits a b r = single a b r.parameters && (not (allows r.content a) && not (allows r.content b))

-- The pairs of classes that are looked for: keys, types, sizes.
pub data ValueClasses : ℕ → ℕ → Type 0 where
  keys : ValueClasses Class.id Class.target
  types : ValueClasses Class.type Class.type
  sizes : ValueClasses Class.size Class.size

-- The computed test over the table of elements.
fits_table : {a b : ℕ} → ValueClasses a b → T (every (fits a b) rules)
unfolding fits single last takes allows some_has alternatives_of among rules
fits_table keys = tt
fits_table types = tt
fits_table sizes = tt

abbrev takes_in : ℕ → ℕ → State → Bool
takes_in a b (expecting ps) = takes a b ps
takes_in a b (holding ks) = false

abbrev single_in : ℕ → ℕ → State → Bool
single_in a b (expecting ps) = single a b ps
single_in a b (holding ks) = true

-- What holds after an expression of class c, by whether one of a or b could come before it.
record After (a b : ℕ) (before : Bool) (c : ℕ) (s : State) : Type 0 where
  pub taken : is a b c ≡ true → takes_in a b s ≡ false
  pub on : T (single_in a b s)
  pub none_left : before ≡ false → (is a b c ≡ false) × (takes_in a b s ≡ false)

of_last : (a b n : ℕ) (ps : List Slot) → T (last a b n ps) → is a b n ≡ true → takes a b ps ≡ false
unfolding last
of_last a b n ps t e = not_T_false (takes a b ps) (T_not (takes a b ps) (rw e at t))

-- The parameter n is taken, and these parameters are left.
took : (a b n c : ℕ) (ps : List Slot) (before : Bool) (s : State) → T (last a b n ps) → T (single a b ps)
    → (before ≡ false → (is a b n ≡ false) × (takes a b ps ≡ false)) → c ≡ n → go (expecting ps) ≡ go s → After a b before c s
took a b n c ps before s l t f e g =
    let h = of_last a b n ps l in
    let i : expecting ps ≡ s = cc in
    rw (e, ← i) (record { taken = h; on = t; none_left = f })

weaker : (a b : ℕ) (before after : Bool) (c : ℕ) (s : State) → (before ≡ false → after ≡ false) → After a b after c s → After a b before c s
weaker a b before after c s f h = record { taken = h.taken; on = h.on; none_left = λ e. h.none_left (f e) }

three : (i y p : Bool) → i || (y || p) ≡ false → (y ≡ false) × (i || p ≡ false)
three true y p e = (cc, e)
three false y p e = or_false y p e

-- A child is taken.
module _ (a b : ℕ) (t : Content) (na : T (not (allows t a))) (nb : T (not (allows t b))) where
  other : (c : ℕ) → allows t c ≡ true → is a b c ≡ false
  other c e =
      rw (
        ne_eqb c a (λ i. T_not (allows t a) na (rw i at (true_T e))),
        ne_eqb c b (λ i. T_not (allows t b) nb (rw i at (true_T e))),
      )

  child_taken : (before : Bool) (c : ℕ) (ks : List ℕ) (s : State) → allows t c ≡ true → go (holding ks) ≡ go s → After a b before c s
  child_taken before c ks s e g =
      let i : holding ks ≡ s = cc in
      let o : is a b c ≡ false = other c e in
      rw (← i) (record { taken = λ h. refl; on = tt; none_left = λ h. (o, refl) })

  first_taken : (before : Bool) (c : ℕ) (s : State) → first_child_step t c ≡ go s → After a b before c s
  unfolding first_child_step allows
  first_taken before c s =
      cond_case (λ (r : Step). r ≡ go s → After a b before c s) (is_include c) (λ i g. cc)
      (λ i. chosen_case c (λ (r : Step). r ≡ go s → After a b before c s) (alternatives_of t)
      (λ ks m h g. child_taken before c ks s (T_true (some_has (alternatives_of t) c) (some_has_lem c m h)) g)
      (λ e g. cc))

  -- An expression of class c is taken where these parameters may come.
  parameter_taken : (ps : List Slot) (c : ℕ) (s : State) → T (single a b ps) → next_parameter ps t c ≡ go s → After a b (takes a b ps) c s
  unfolding next_parameter single takes
  parameter_taken [] c s o g = first_taken false c s g
  parameter_taken (must n ∷ ps) c s o g =
      let o' = both (last a b n ps) (single a b ps) o in
      cond_case (λ (r : Step). r ≡ go s → After a b (is a b n || takes a b ps) c s) (eqb c n)
      (λ e. took a b n c ps (is a b n || takes a b ps) s o'.0 o'.1 (or_false (is a b n) (takes a b ps)) (eqb-true c n e))
      (λ e g. cc) g
  parameter_taken (may n ∷ ps) c s o g =
      let o' = both (last a b n ps) (single a b ps) o in
      cond_case (λ (r : Step). r ≡ go s → After a b (is a b n || takes a b ps) c s) (eqb c n)
      (λ e. took a b n c ps (is a b n || takes a b ps) s o'.0 o'.1 (or_false (is a b n) (takes a b ps)) (eqb-true c n e))
      (λ e g. weaker a b (is a b n || takes a b ps) (takes a b ps) c s (λ f. (or_false (is a b n) (takes a b ps) f).1) (parameter_taken ps c s o'.1 g)) g
  parameter_taken (id_type ∷ ps) c s o g =
      let i : Bool = is a b Class.id in
      let y : Bool = is a b Class.type in
      let p : Bool = takes a b ps in
      let o₁ = both (last a b Class.id (may Class.type ∷ ps))
      (last a b Class.type (may Class.id ∷ ps) && ((last a b Class.type ps && last a b Class.id ps) && single a b ps)) o in
      let o₂ = both (last a b Class.type (may Class.id ∷ ps)) ((last a b Class.type ps && last a b Class.id ps) && single a b ps) o₁.1 in
      let o₃ = both (last a b Class.type ps && last a b Class.id ps) (single a b ps) o₂.1 in
      let o₄ = both (last a b Class.type ps) (last a b Class.id ps) o₃.0 in
      cond_case (λ (r : Step). r ≡ go s → After a b (i || (y || p)) c s) (eqb c Class.id)
      (λ e. took a b Class.id c (may Class.type ∷ ps) (i || (y || p)) s o₁.0 (both_true (last a b Class.type ps) (single a b ps) o₄.0 o₃.1)
      (or_false i (y || p)) (eqb-true c Class.id e))
      (λ e. cond_case (λ (r : Step). r ≡ go s → After a b (i || (y || p)) c s) (eqb c Class.type)
      (λ e. took a b Class.type c (may Class.id ∷ ps) (i || (y || p)) s o₂.0 (both_true (last a b Class.id ps) (single a b ps) o₄.1 o₃.1)
      (three i y p) (eqb-true c Class.type e))
      (λ e g. weaker a b (i || (y || p)) p c s (λ f. (or_false y p (or_false i (y || p) f).1).1) (parameter_taken ps c s o₃.1 g))) g

-- A further child is taken.
next_taken : (a b : ℕ) (t : Content) → T (not (allows t a)) → T (not (allows t b)) → (before : Bool) (ks : List ℕ) (c : ℕ) (s : State) → next_child_step t ks c ≡ go s
    → After a b before c s
unfolding next_child_step allows alternatives_of
next_taken a b (alternatives kss) na nb before ks c s =
    cond_case (λ (r : Step). r ≡ go s → After a b before c s) (is_include c) (λ i g. cc)
    (λ i. cond_case (λ (r : Step). r ≡ go s → After a b before c s) (some_has kss c)
    (λ e. cond_case (λ (r : Step). r ≡ go s → After a b before c s) (among c ks)
    (λ f g. child_taken a b (alternatives kss) na nb before c ks s e g) (λ f g. cc))
    (λ e g. cc))
next_taken a b (exactly_one k) na nb before ks c s =
    cond_case (λ (r : Step). r ≡ go s → After a b before c s) (is_include c) (λ i g. cc) (λ i g. cc)

-- What the table says of the row of kind k.
row_of : {a b : ℕ} → ValueClasses a b → (k : ℕ)
    → T (single a b (rule_of k).parameters) × T (not (allows (rule_of k).content a)) × T (not (allows (rule_of k).content b))
unfolding fits single allows some_has alternatives_of
row_of {a} {b} w k =
    let t = both (single a b (rule_of k).parameters) (not (allows (rule_of k).content a) && not (allows (rule_of k).content b))
    (each_kind (fits a b) (fits_table w) k tt) in
    let u = both (not (allows (rule_of k).content a)) (not (allows (rule_of k).content b)) t.1 in
    (t.0, u.0, u.1)

-- An expression of class c is taken in an element of kind k.
step_taken : {a b : ℕ} → ValueClasses a b → (k : ℕ) (s : State) (c : ℕ) (s' : State) → T (single_in a b s) → step k s c ≡ go s'
    → After a b (takes_in a b s) c s'
unfolding step
step_taken {a} {b} w k (expecting ps) c s' o g =
    let r = row_of w k in parameter_taken a b (rule_of k).content r.1 r.2 ps c s' o g
step_taken {a} {b} w k (holding ks) c s' o g =
    let r = row_of w k in next_taken a b (rule_of k).content r.1 r.2 false ks c s' g

-- What is inside a value that keeps the rules.
text_single : (es : Exprs) → T (non_empty (only_one text_bytes es)) → OneText es
unfolding only_one text_bytes non_empty
text_single none t = absurd t
text_single (and (symbol at s) none) t = one_symbol
text_single (and (quoted at s) none) t = one_string
text_single (and (list at fs) none) t = absurd t
text_single (and e (and e' es)) t = absurd t

pub symbol_single : (es : Exprs) → T (non_empty (only_one symbol_bytes es)) → OneText es × (only_one symbol_bytes es ≡ only_one text_bytes es)
unfolding only_one symbol_bytes text_bytes non_empty
symbol_single none t = absurd t
symbol_single (and (symbol at s) none) t = (one_symbol, refl)
symbol_single (and (quoted at s) none) t = absurd t
symbol_single (and (list at fs) none) t = absurd t
symbol_single (and e (and e' es)) t = absurd t

some : (k c : ℕ) (s : List ℕ) → T (is_value k c s) → T (non_empty s)
unfolding is_value
some k c s t = (both (non_empty s) _ t).0

pub one_text : (k c : ℕ) (es : Exprs) → eqb c Class.size ≡ false → T (keeps_rules k (value_tree c es)) → OneText es
unfolding value_tree keeps_rules
one_text k c es z t =
    cond_case (λ (s : List ℕ). T (is_value k c s) → OneText es) (eqb c Class.type)
    (λ f t. (symbol_single es (some k c (only_one symbol_bytes es) t)).0) (λ f t. text_single es (some k c (only_one text_bytes es) t)) (rw z at t)

value_fine : (k at : ℕ) (t : Tree) → judge_value k at t ≡ fine → T (keeps_rules k t)
unfolding judge_value
value_fine k at t = by (keeps_rules k t)
  where
    by : (b : Bool) → cond b fine (fault 10 at) ≡ fine → T b
    by true e = tt
    by false e = absurd (not_fine 10 at e)

-- A list that is fine is an element read to its end, or a value that keeps the rules.
pub element_fine : (k at : ℕ) (lead : Expr) (es : Exprs) → Class.is_element (lead_class lead) ≡ true → judge_list k at (and lead es) ≡ fine
    → EndsFine at (lead_class lead) (start (lead_class lead)) es
unfolding judge
element_fine k at lead es i h = rw i at h

pub value_keeps : (k at : ℕ) (lead : Expr) (es : Exprs) → Class.is_element (lead_class lead) ≡ false → judge_list k at (and lead es) ≡ fine
    → T (keeps_rules k (value_tree (lead_class lead) es))
unfolding judge
value_keeps k at lead es i h = value_fine k at (value_tree (lead_class lead) es) (rw i at h)

apart : (a b c : ℕ) → is a b c ≡ false → (c ≡ a → ⊥) × (c ≡ b → ⊥)
apart a b c e = let h = or_false (eqb c a) (eqb c b) e in (eqb-false c a h.0, eqb-false c b h.1)

run_without : {a b : ℕ} → ValueClasses a b → (at k : ℕ) (s : State) → takes_in a b s ≡ false → T (single_in a b s) → (es : Exprs) → EndsFine at k s es → Without a b es
run_without w at k s n o none h = tt
run_without {a} {b} w at k s n o (and e es) h =
    let on = read_on at k s e es h in
    let x = step_taken w k s (expr_class e) on.0 o on.1 in
    let m = x.none_left n in
    let i = apart a b (expr_class e) m.0 in
    (i.0, i.1, run_without w at k on.0 m.1 x.on es on.3)

-- What is looked for is a list.
high : {a b : ℕ} → ValueClasses a b → (26 ≤ a) × (26 ≤ b)
high keys = (omega arith, omega arith)
high types = (omega arith, omega arith)
high sizes = (omega arith, omega arith)

first_single : {a b : ℕ} → ValueClasses a b → (e : Expr) (es : Exprs) → (expr_class e ≡ a) ⊎ (expr_class e ≡ b) → Without a b es → Single a b (and e es)
unfolding expr_class list_class
first_single w (symbol at s) es o u = let (h, h') = high w in absurd (⊎_elim (λ e. omega arith) (λ e. omega arith) o)
first_single w (quoted at s) es o u = let (h, h') = high w in absurd (⊎_elim (λ e. omega arith) (λ e. omega arith) o)
first_single w (list at none) es o u = let (h, h') = high w in absurd (⊎_elim (λ e. omega arith) (λ e. omega arith) o)
first_single w (list at (and lead inner)) es o u = here o u

run_single : {a b : ℕ} → ValueClasses a b → (at k : ℕ) (s : State) → T (single_in a b s) → (es : Exprs) → EndsFine at k s es → Single a b es
run_single w at k s o none h = nowhere tt
run_single {a} {b} w at k s o (and e es) h =
    let on = read_on at k s e es h in
    let x = step_taken w k s (expr_class e) on.0 o on.1 in
    bool_case (is a b (expr_class e))
    (λ i. first_single w e es
    (⊎_elim (λ t. inl (eqb→eq _ _ t)) (λ t. inr (eqb→eq _ _ t)) (or_true (eqb (expr_class e) a) (eqb (expr_class e) b) (true_T i)))
    (run_without w at k on.0 (x.taken i) x.on es on.3))
    (λ i. let n = apart a b (expr_class e) i in later n.0 n.1 (run_single w at k on.0 x.on es on.3))

pub read_single : {a b : ℕ} → ValueClasses a b → (at k : ℕ) (es : Exprs) → EndsFine at k (start k) es → Single a b es
unfolding start
read_single w at k es h = run_single w at k (start k) (row_of w k).0 es h

-- Each expression of a run that is read to the end is fine inside.
pub read_each : (at k : ℕ) (s : State) (es : Exprs) → EndsFine at k s es → EachFine k es
read_each at k s none h = tt
read_each at k s (and e es) h = let on = read_on at k s e es h in (on.2, read_each at k on.0 es on.3)
