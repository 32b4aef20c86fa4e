-- The nested meaning is fine exactly when the expression writes a tree that keeps the rules, and then it is that tree.
-- Document 01, "Numbers answered" and "Spelling".
use Prim.Native.Nat.{ℕ, ◌≤◌}
use mathlib.Core.Path.{◌≡◌, refl, sym, ap, ◌∙◌}
use mathlib.Core.Bool.{Bool, true, false, not, cond, ◌&&◌}
use mathlib.Core.List.{List}
use lib.Dec.{T, eqb, leb, leb→le, T_not, lit≤}
use native.Mathlib.Omega.{arith}
use borrow.Author.Tests.{eqb-true, eq-eqb, lt-leb}
use Rattle.base.proofs.Booleans.{cond_case, both, both_true, and_false, true_T, T_true}
use Rattle.elements.specs.rules.Class as Class
use Rattle.elements.specs.rules.Inside.{State, Step, go, bad, step, start, ended}
use Rattle.syntax.specs.rules.Expression.{Expr, symbol, quoted, list, Exprs, none, and, place}
use Rattle.syntax.specs.rules.Atoms.{AtomsOf, AllAtoms}
use Rattle.document.specs.rules.Value.{non_empty, is_value}
use Rattle.document.specs.reference.RulesTest.{is_text, step_goes_on, keeps_rules, keep_rules, is_document}
use Rattle.document.specs.rules.Document.{Tree, text, value, size, element, Trees, empty, holds, tree_class}
use Rattle.document.specs.rules.Spelling.{Writes, writes_text, writes_value, writes_type, writes_size, writes_element}
use Rattle.document.specs.rules.Spelling.{WritesAll, writes_none, writes_and, WritesText, as_symbol, as_string, bracketed}
use Rattle.document.specs.rules.Lead.{lead_class, list_class, expr_class}
use Rattle.document.specs.reference.Meaning.{text_bytes, only_one, size_tree, value_tree, tree_of, list_tree, trees_of, Verdict, fine, fault}
use Rattle.document.specs.reference.Meaning.{Progress, fault_at, advance, finish, judge_value, judge, judge_list, run, judge_root}
use Rattle.document.proofs.LeadingNames.{by_lead}
use Rattle.document.proofs.WrittenValues.{value_written, OfText, of_text, text_bytes_lem, type_tree, size_tree_lem}
use Rattle.elements.proofs.Names.{name_of_class}

-- Every symbol and quoted string, at any depth, is a text: one or more code points.
abbrev pub AllText : Expr → Type 0
AllText e = AtomsOf (λ (s : List ℕ). T (is_text s)) e

abbrev pub AllTexts : Exprs → Type 0
AllTexts es = AllAtoms (λ (s : List ℕ). T (is_text s)) es

size_class : (es : Exprs) → tree_class (size_tree es) ≡ Class.size
unfolding tree_class size_tree
size_class none = refl
size_class (and e none) = refl
size_class (and e (and e' none)) = refl
size_class (and e (and e' (and e'' es))) = refl

value_class : (c : ℕ) (es : Exprs) → tree_class (value_tree c es) ≡ c
unfolding tree_class value_tree
value_class c es =
    cond_case (λ (t : Tree). tree_class t ≡ c) (eqb c Class.size) (λ e. size_class es ∙ sym (eqb-true c Class.size e)) (λ e. refl)

-- The tree of an expression has the expression's class.
pub tree_class_lem : (e : Expr) → tree_class (tree_of e) ≡ expr_class e
unfolding tree_class tree_of expr_class list_class
tree_class_lem (symbol at s) = refl
tree_class_lem (quoted at s) = refl
tree_class_lem (list at none) = refl
tree_class_lem (list at (and e es)) =
    cond_case (λ (t : Tree). tree_class t ≡ lead_class e) (Class.is_element (lead_class e)) (λ i. refl) (λ i. value_class (lead_class e) es)

pub not_fine : (n p : ℕ) → fault n p ≡ fine → ⊥
not_fine n p e = let z : ◌≡◌ {A = ℕ} 0 1 = cc in omega arith

fine_cond : (b : Bool) (n p : ℕ) → cond b fine (fault n p) ≡ fine → b ≡ true
fine_cond true n p e = refl
fine_cond false n p e = cc

-- Reading goes on past an expression only where its step is one and what is inside it is fine.
pub passed : (at k p : ℕ) (st : Step) (v : Verdict) (next : State → Progress) → finish at k (advance at p st v next) ≡ fine
    → (s : State) × (st ≡ go s) × (v ≡ fine) × (finish at k (next s) ≡ fine)
unfolding finish advance fault_at
passed at k p (bad n) v next e =
    absurd (cond_case (λ (r : Progress). finish at k r ≡ fine → ⊥) (eqb n 9) (λ b. not_fine n at) (λ b. not_fine n p) e)
passed at k p (go s) fine next e = (s, refl, refl, e)
passed at k p (go s) (fault n q) next e = absurd (not_fine n q e)

-- A tree and the trees that follow it keep the rules, if the step of the one leads to where the others do.
kept_on : (k : ℕ) (s s' : State) (t : Tree) (ts : Trees) → step k s (tree_class t) ≡ go s' → T (keeps_rules k t) → T (keep_rules k s' ts)
    → T (keep_rules k s (holds t ts))
unfolding keeps_rules step_goes_on
kept_on k s s' t ts e h hs = both_true (keeps_rules k t) (step_goes_on (step k s (tree_class t)) (λ s'. keep_rules k s' ts)) h (rw e hs)

-- The class of an element, or of a value that keeps the rules, is a name's.
element_class : (c : ℕ) → T (Class.is_element c) → c ≡ 0 → ⊥
unfolding Class.is_element Class.is_kind
element_class c t e = rw e at t

pub value_class_some : (k c : ℕ) (es : Exprs) → T (keeps_rules k (value_tree c es)) → c ≡ 0 → ⊥
unfolding value_tree keeps_rules is_value
value_class_some k c es t e = (both (non_empty (only_one text_bytes es)) false (rw e at t)).1

-- A list led by a name, by whether it is an element's.
list_case : (k at c : ℕ) (e : Expr) (es : Exprs) (b : Bool) → lead_class e ≡ c → Class.is_element c ≡ b
    → (finish at c (run at c (start c) es) ≡ fine → T (keep_rules c (start c) (trees_of es)) × WritesAll (trees_of es) es)
    → cond b (finish at c (run at c (start c) es)) (judge_value k at (value_tree c es)) ≡ fine
    → T (keeps_rules k (cond b (element c (trees_of es)) (value_tree c es))) × Writes (cond b (element c (trees_of es)) (value_tree c es)) (list at (and e es))
unfolding judge_value keeps_rules
list_case k at c e es true l i inside f =
    let h = inside f in (
      both_true (Class.is_element c) (keep_rules c (start c) (trees_of es)) (true_T i) h.0,
      by_lead (element c (trees_of es)) at c e es l (element_class c (true_T i)) (λ p. writes_element h.1),
    )
list_case k at c e es false l i inside f =
    let t : T (keeps_rules k (value_tree c es)) = true_T (fine_cond (keeps_rules k (value_tree c es)) 10 at f) in
    (t, by_lead (value_tree c es) at c e es l (value_class_some k c es t) (λ p. value_written k c at p es t))

mutual
  unfolding AtomsOf judge tree_of keeps_rules finish

  -- What is fine writes its tree, which keeps the rules.
  pub judge_sound : (k : ℕ) (e : Expr) → AllText e → judge k e ≡ fine → T (keeps_rules k (tree_of e)) × Writes (tree_of e) e
  judge_sound k (symbol at s) a f = (a, writes_text as_symbol)
  judge_sound k (quoted at s) a f = (a, writes_text as_string)
  judge_sound k (list at es) a f = list_sound k at es a f

  list_sound : (k at : ℕ) (es : Exprs) → AllTexts es → judge_list k at es ≡ fine → T (keeps_rules k (list_tree es)) × Writes (list_tree es) (list at es)
  list_sound k at none a f = absurd (not_fine 8 at f)
  list_sound k at (and e es) a f =
      let c : ℕ = lead_class e in
      list_case k at c e es (Class.is_element c) refl refl (λ g. run_sound at c (start c) es a.1 g) f

  -- An element whose reading comes to a fine end writes its trees, which keep the rules.
  pub run_sound : (at k : ℕ) (s : State) (es : Exprs) → AllTexts es → finish at k (run at k s es) ≡ fine
      → T (keep_rules k s (trees_of es)) × WritesAll (trees_of es) es
  run_sound at k s none a f = (true_T (fine_cond (ended k s) 9 at f), writes_none)
  run_sound at k s (and e es) a f =
      let on = passed at k (place e) (step k s (expr_class e)) (judge k e) (λ s'. run at k s' es) f in
      let h = judge_sound k e a.0 on.2 in
      let hs = run_sound at k on.0 es a.1 on.3 in
      (kept_on k s on.0 (tree_of e) (trees_of es) (rw (tree_class_lem e) on.1) h.0 hs.0, writes_and h.1 hs.1)

pub goes_on : (st : Step) (rest : State → Bool) → T (step_goes_on st rest) → (s : State) × (st ≡ go s) × T (rest s)
unfolding step_goes_on
goes_on (go s) rest t = (s, refl, t)
goes_on (bad n) rest t = absurd t

element_named : (c : ℕ) → T (Class.is_element c) → Class.class_of (Class.name_of c) ≡ c
unfolding Class.is_element Class.is_kind
element_named c t =
    let t₁ = both (leb 1 c && leb c 25) (not (eqb c Class.text)) t in
    let t₂ = both (leb 1 c) (leb c 25) t₁.0 in
    let low : 1 ≤ c = leb→le 1 c t₂.0 in
    let high : c ≤ 25 = leb→le c 25 t₂.1 in
    name_of_class c low (omega arith) (λ e. T_not (eqb c Class.text) t₁.1 (true_T (eq-eqb c Class.text e)))

no_element : (c : ℕ) → 26 ≤ c → Class.is_element c ≡ false
unfolding Class.is_element Class.is_kind
no_element c low = rw (lt-leb c 25 low, and_false (leb 1 c))

-- Brackets around the name of the class c.
module _ (k at p c : ℕ) (es : Exprs) where
  named_tree : Class.class_of (Class.name_of c) ≡ c → tree_of (bracketed at p c es) ≡ cond (Class.is_element c) (element c (trees_of es)) (value_tree c es)
  unfolding tree_of lead_class
  named_tree n = rw n

  named_judged : Class.class_of (Class.name_of c) ≡ c
      → judge k (bracketed at p c es) ≡ cond (Class.is_element c) (finish at c (run at c (start c) es)) (judge_value k at (value_tree c es))
  unfolding judge lead_class
  named_judged n = rw n

  value_complete : (t : Tree) → 26 ≤ c → c ≤ 31 → value_tree c es ≡ t → T (keeps_rules k t)
      → (tree_of (bracketed at p c es) ≡ t) × (judge k (bracketed at p c es) ≡ fine)
  unfolding judge_value
  value_complete t low high e h =
      let n : Class.class_of (Class.name_of c) ≡ c = name_of_class c (omega arith) high (λ i. omega arith) in
      (named_tree n ∙ rw (no_element c low, e), named_judged n ∙ rw (no_element c low, e, T_true (keeps_rules k t) h))

  element_complete : (ts : Trees) → T (Class.is_element c) → trees_of es ≡ ts → finish at c (run at c (start c) es) ≡ fine
      → (tree_of (bracketed at p c es) ≡ element c ts) × (judge k (bracketed at p c es) ≡ fine)
  element_complete ts t e f =
      let n : Class.class_of (Class.name_of c) ≡ c = element_named c t in
      let i : Class.is_element c ≡ true = T_true (Class.is_element c) t in
      (named_tree n ∙ rw (i, e), named_judged n ∙ rw (i, f))

text_complete : (k : ℕ) {s : List ℕ} {e : Expr} → WritesText s e → (tree_of e ≡ text s) × (judge k e ≡ fine)
unfolding judge tree_of
text_complete k as_symbol = (refl, refl)
text_complete k as_string = (refl, refl)

-- What is asked of the trees inside a tree.
abbrev FineInside : Tree → Type 0
FineInside (text s) = Unit {0}
FineInside (value c s) = Unit {0}
FineInside (size w h) = Unit {0}
FineInside (element c ts) =
    (at : ℕ) (es : Exprs) → WritesAll ts es → T (keep_rules c (start c) ts) → (trees_of es ≡ ts) × (finish at c (run at c (start c) es) ≡ fine)

around : (k : ℕ) {t : Tree} {e : Expr} → Writes t e → FineInside t → T (keeps_rules k t) → (tree_of e ≡ t) × (judge k e ≡ fine)
unfolding keeps_rules
around k (writes_text w) i h = text_complete k w
around k (writes_value {c} {at} {p} {s} {e} n w) i h =
    let o : OfText c = of_text c n in
    value_complete k at p c (and e none) (value c s) o.low o.high (o.tree (and e none) ∙ ap (value c) (text_bytes_lem w)) h
around k (writes_type {at} {p} {q} {s}) i h =
    value_complete k at p Class.type (and (symbol q s) none) (value Class.type s) (lit≤ tt) (lit≤ tt) (type_tree q s) h
around k (writes_size {at} {p} {q} {r} {w} {h = v} {ds} {es} m n) i h =
    value_complete k at p Class.size (and (symbol q ds) (and (symbol r es) none)) (size w v) (lit≤ tt) (lit≤ tt) (size_tree_lem q r m n) h
around k (writes_element {at} {p} {k = c} {ts} {es} ws) i h =
    let h' : T (Class.is_element c) × T (keep_rules c (start c) ts) = both (Class.is_element c) (keep_rules c (start c) ts) h in
    let ws' = i at es ws h'.1 in
    element_complete k at p c es ts h'.0 ws'.0 ws'.1

mutual
  unfolding judge tree_of keeps_rules finish advance

  -- A tree that keeps the rules is the tree of whatever writes it, which is fine.
  pub judge_complete : (k : ℕ) (t : Tree) (e : Expr) → Writes t e → T (keeps_rules k t) → (tree_of e ≡ t) × (judge k e ≡ fine)
  judge_complete k (text s) e w h = around k w tt h
  judge_complete k (value c s) e w h = around k w tt h
  judge_complete k (size v u) e w h = around k w tt h
  judge_complete k (element c ts) e w h = around k w (λ at es ws hs. run_complete at c (start c) ts es ws hs) h

  -- Trees that keep the rules are read, from what writes them, to a fine end.
  pub run_complete : (at k : ℕ) (s : State) (ts : Trees) (es : Exprs) → WritesAll ts es → T (keep_rules k s ts)
      → (trees_of es ≡ ts) × (finish at k (run at k s es) ≡ fine)
  run_complete at k s empty none writes_none h = (refl, rw (T_true (ended k s) h))
  run_complete at k s empty (and e es) ws h = elim ws [ ]
  run_complete at k s (holds t ts) none ws h = elim ws [ ]
  run_complete at k s (holds t ts) (and e es) (writes_and w ws) h =
      let h' = both (keeps_rules k t) (step_goes_on (step k s (tree_class t)) (λ s'. keep_rules k s' ts)) h in
      let on = goes_on (step k s (tree_class t)) (λ s'. keep_rules k s' ts) h'.1 in
      let w' = judge_complete k t e w h'.0 in
      let ws' = run_complete at k on.0 ts es ws on.2 in
      let c : expr_class e ≡ tree_class t = sym (tree_class_lem e) ∙ ap tree_class w'.0 in
      (cc (w'.0, ws'.0), rw (c, on.1, w'.1) ws'.1)

-- A root that is fine writes a document's tree.
pub root_sound : (e : Expr) → AllText e → judge_root e ≡ fine → T (is_document (tree_of e)) × Writes (tree_of e) e
unfolding judge_root is_document
root_sound e a =
    cond_case
    (λ (v : Verdict). v ≡ fine → T (eqb (tree_class (tree_of e)) Class.document && keeps_rules 0 (tree_of e)) × Writes (tree_of e) e)
    (eqb (expr_class e) Class.document)
    (λ c f.
    let h = judge_sound 0 e a f in
    (both_true (eqb (tree_class (tree_of e)) Class.document) (keeps_rules 0 (tree_of e)) (rw (tree_class_lem e) (true_T c)) h.0, h.1))
    (λ c f. absurd (not_fine 8 (place e) f))

-- A document's tree is the tree of whatever writes it, which is fine as a root.
pub root_complete : (t : Tree) (e : Expr) → Writes t e → T (is_document t) → (judge_root e ≡ fine) × (tree_of e ≡ t)
unfolding judge_root is_document
root_complete t e w h =
    let h' = both (eqb (tree_class t) Class.document) (keeps_rules 0 t) h in
    let w' = judge_complete 0 t e w h'.1 in
    let c : expr_class e ≡ tree_class t = sym (tree_class_lem e) ∙ ap tree_class w'.0 in
    (rw (c, T_true (eqb (tree_class t) Class.document) h'.0) w'.1, w'.0)

-- An expression writes one tree at most that keeps the rules.
pub written_once : (t t' : Tree) (e : Expr) (k : ℕ) → Writes t e → Writes t' e → T (keeps_rules k t) → T (keeps_rules k t') → t ≡ t'
written_once t t' e k w w' h h' = sym (judge_complete k t e w h).0 ∙ (judge_complete k t' e w' h').0
