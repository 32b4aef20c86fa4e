-- The rules for faults name the fault that the judge answers, and no other. Document 01, "Numbers answered".
use Prim.Native.Nat.{ℕ}
use mathlib.Core.Path.{◌≡◌, refl, sym, ◌∙◌}
use mathlib.Core.Bool.{false, not}
use mathlib.Core.Logic.{⊎_elim}
use lib.Dec.{T, eqb, T_not}
use native.Mathlib.Omega.{arith}
use borrow.Author.Tests.{eqb-true, eqb-false, eq-eqb, ne_eqb}
use Rattle.base.proofs.Booleans.{both, cond_case, true_T, T_true, or_true, not_T_false, false_not_T}
use Rattle.elements.specs.rules.Class as Class
use Rattle.elements.specs.rules.Rules.{rule_of}
use Rattle.elements.specs.rules.Inside.{State, Step, go, bad, step, start, ended}
use Rattle.syntax.specs.rules.Expression.{Expr, symbol, quoted, list, Exprs, none, and, place}
use Rattle.syntax.specs.rules.Atoms.{AtomsOf}
use Rattle.document.specs.reference.RulesTest.{keeps_rules}
use Rattle.document.specs.rules.Lead.{lead_class, list_class, expr_class}
use Rattle.document.specs.reference.Meaning.{Verdict, fine, fault, Progress, reached, fault_at, advance, finish, judge_value, value_tree, judge, judge_list, run, judge_root, tree_of}
use Rattle.document.specs.rules.Faults.{Begun, due, Taken, Fine, FaultIn, FaultOf, fault_of, RootFault, no_document, in_document}
use Rattle.document.proofs.LeadingNames.{by_lead}
use Rattle.document.proofs.RulesTest.{kept_test, test_kept}
use Rattle.document.proofs.WrittenValues.{value_written}
use Rattle.document.proofs.NestedMeaning.{AllText, AllTexts, not_fine, judge_sound, judge_complete}
use Rattle.document.proofs.ElementSteps.{begun_of, state_of, Refused, Stepped, stepped, taken_go, refused_bad, ended_may, may_ended}
use Rattle.document.proofs.RuleClasses.{leads, Leading, start_leading, next_leads, taken_leading, is_child, allowed_child, chosen_child, lead_no_text}

fine_sound : (k : ℕ) (e : Expr) → AllText e → judge k e ≡ fine → Fine k e
fine_sound k e a f = let h = judge_sound k e a f in record { tree = tree_of e; writes = h.1; lawful = test_kept k (tree_of e) h.0 }

fine_complete : (k : ℕ) (e : Expr) → Fine k e → judge k e ≡ fine
fine_complete k e f = (judge_complete k f.tree e f.writes (kept_test k f.tree f.lawful)).1

-- What is wrong with an expression in an element of kind k that its class alone does not say.
data Wrong (k : ℕ) : Expr → ℕ → ℕ → Type 0 where
  element : {e : Expr} {n p : ℕ} → FaultOf e n p → Wrong k e n p
  value : {at : ℕ} {e : Expr} {es : Exprs} → Class.is_element (lead_class e) ≡ false → (Fine k (list at (and e es)) → ⊥) → Wrong k (list at (and e es)) 10 at
  bare : {at : ℕ} → Wrong k (list at none) 8 at

abbrev WrongBy : ℕ → Expr → Verdict → Type 0
WrongBy k e fine = Unit {0}
WrongBy k e (fault n p) = Wrong k e n p

abbrev FaultBy : ℕ → ℕ → Begun → Exprs → Verdict → Type 0
FaultBy at k b es fine = Unit {0}
FaultBy at k b es (fault n p) = FaultIn at k b es n p

-- A list whose class is a child's is an element.
child_element : (e : Expr) → T (is_child (lead_class e)) → Class.is_element (lead_class e) ≡ false → ⊥
child_element e t n =
    ⊎_elim (false_not_T n) (T_not (eqb (lead_class e) Class.text) (lead_no_text e)) (or_true (Class.is_element (lead_class e)) (eqb (lead_class e) Class.text) t)

-- Where an expression is taken, what is wrong with it is the fault there.
wrong_in : {at k : ℕ} {b b' : Begun} {e : Expr} {es : Exprs} {n p : ℕ} → Leading b → Taken k (expr_class e) b b' → Wrong k e n p
    → FaultIn at k b (and e es) n p
unfolding expr_class list_class place Class.is_element Class.is_kind
wrong_in l t (element f) = FaultIn.inside t f
wrong_in l (Taken.parameter r) (value n w) = FaultIn.malformed r n w
wrong_in {k} l (Taken.first_child d i a) (value {e} n w) = absurd (child_element e (chosen_child k a) n)
wrong_in {k} l (Taken.next_child i a s) (value {e} n w) = absurd (child_element e (allowed_child k a) n)
wrong_in l (Taken.parameter r) bare = absurd (next_leads r l)
wrong_in {k} l (Taken.first_child d i a) bare = absurd (chosen_child k a)
wrong_in {k} l (Taken.next_child i a s) bare = absurd (allowed_child k a)

refused_in : (at k : ℕ) {b : Begun} (e : Expr) (es : Exprs) {n : ℕ} → Refused k (expr_class e) b n
    → FaultBy at k b (and e es) (finish at k (fault_at n at (place e)))
unfolding finish fault_at
refused_in at k e es (Refused.included p i) = FaultIn.included p i
refused_in at k e es (Refused.not_allowed p i a) = FaultIn.not_allowed p i a
refused_in at k e es (Refused.other_sort p i a s) = FaultIn.other_sort p i a s
refused_in at k e es (Refused.absent r) = FaultIn.absent r

later_by : (at k : ℕ) {b b' : Begun} (e : Expr) (es : Exprs) (v : Verdict) → Taken k (expr_class e) b b' → Fine k e → FaultBy at k b' es v
    → FaultBy at k b (and e es) v
later_by at k e es fine t f h = tt
later_by at k e es (fault n p) t f h = FaultIn.later t f h

element_by : (at k : ℕ) (e : Expr) (es : Exprs) (v : Verdict) → T (Class.is_element (lead_class e))
    → FaultBy at (lead_class e) (due (rule_of (lead_class e)).parameters) es v → WrongBy k (list at (and e es)) v
element_by at k e es fine i h = tt
element_by at k e es (fault n p) i h = element (fault_of i h)

value_judged : (k at : ℕ) (e : Expr) (es : Exprs) → Class.is_element (lead_class e) ≡ false
    → judge k (list at (and e es)) ≡ judge_value k at (value_tree (lead_class e) es)
unfolding judge
value_judged k at e es n = rw n

-- A list led by a name that is no element's is malformed where the judge answers a fault.
value_by : (k at : ℕ) (e : Expr) (es : Exprs) → Class.is_element (lead_class e) ≡ false
    → WrongBy k (list at (and e es)) (judge_value k at (value_tree (lead_class e) es))
unfolding judge_value
value_by k at e es n =
    cond_case (WrongBy k (list at (and e es))) (keeps_rules k (value_tree (lead_class e) es)) (λ _. tt)
    (λ w. value n (λ f. not_fine 10 at (sym (value_judged k at e es n ∙ rw w) ∙ fine_complete k (list at (and e es)) f)))

-- One expression further: the step's refusal, or what is wrong inside, or what follows.
advanced : (at k : ℕ) (b : Begun) (e : Expr) (es : Exprs) (t : Step) (v : Verdict) (next : State → Progress) → Leading b
    → Stepped k (expr_class e) b t → WrongBy k e v → (v ≡ fine → Fine k e)
    → ((s : State) → Leading (begun_of s) → FaultBy at k (begun_of s) es (finish at k (next s)))
    → FaultBy at k b (and e es) (finish at k (advance at (place e) t v next))
unfolding advance finish
advanced at k b e es (bad n) v next l r w f h = refused_in at k e es r
advanced at k b e es (go s) fine next l r w f h = later_by at k e es (finish at k (next s)) r (f refl) (h s (taken_leading r l))
advanced at k b e es (go s) (fault n p) next l r w f h = wrong_in l r w

ended_by : (at k : ℕ) (s : State) → FaultBy at k (begun_of s) none (finish at k (reached s))
unfolding finish
ended_by at k s =
    cond_case (FaultBy at k (begun_of s) none) (ended k s) (λ _. tt)
    (λ e. FaultIn.unfinished (λ m. false_not_T e (true_T (may_ended k s m))))

mutual
  unfolding AtomsOf judge start

  -- Whatever fault the judge answers is what is wrong with the expression, or the fault of those that follow in an element.
  wrong : (k : ℕ) (e : Expr) → AllText e → WrongBy k e (judge k e)
  wrong k (symbol at s) a = tt
  wrong k (quoted at s) a = tt
  wrong k (list at es) a = wrong_list k at es a

  wrong_list : (k at : ℕ) (es : Exprs) → AllTexts es → WrongBy k (list at es) (judge_list k at es)
  wrong_list k at none a = bare
  wrong_list k at (and e es) a =
      let c : ℕ = lead_class e in
      cond_case (WrongBy k (list at (and e es))) (Class.is_element c)
      (λ i. element_by at k e es (finish at c (run at c (start c) es)) (true_T i) (wrong_run at c (start c) es a.1 (start_leading c)))
      (λ i. value_by k at e es i)

  wrong_run : (at k : ℕ) (s : State) (es : Exprs) → AllTexts es → Leading (begun_of s) → FaultBy at k (begun_of s) es (finish at k (run at k s es))
  wrong_run at k s none a l = ended_by at k s
  wrong_run at k s (and e es) a l =
      advanced at k (begun_of s) e es (step k s (expr_class e)) (judge k e) (λ s'. run at k s' es) l (stepped k s (expr_class e))
      (wrong k e a.0) (fine_sound k e a.0) (λ s' l'. wrong_run at k s' es a.1 l')

-- A list that is no element's, and not fine, is answered 10.
malformed_judged : (k : ℕ) (e : Expr) → T (leads (expr_class e)) → Class.is_element (expr_class e) ≡ false → (Fine k e → ⊥) → judge k e ≡ fault 10 (place e)
unfolding expr_class list_class place judge_value
malformed_judged k (symbol at s) l n w = absurd l
malformed_judged k (quoted at s) l n w = absurd l
malformed_judged k (list at none) l n w = absurd l
malformed_judged k (list at (and e es)) l n w =
    let c : ℕ = lead_class e in
    let some : c ≡ 0 → ⊥ = λ z. T_not (eqb c 0) (both (not (eqb c 0)) (not (eqb c Class.text)) l).0 (true_T (eq-eqb c 0 z)) in
    let sound : T (keeps_rules k (value_tree c es)) → Fine k (list at (and e es)) =
    λ t. record { tree = value_tree c es; writes = by_lead (value_tree c es) at c e es refl some (λ p. value_written k c at p es t); lawful = test_kept k (value_tree c es) t } in
    let no : keeps_rules k (value_tree c es) ≡ false = not_T_false (keeps_rules k (value_tree c es)) (λ t. w (sound t)) in
    value_judged k at e es n ∙ rw no

refused_judged : (at k : ℕ) (e : Expr) (es : Exprs) {b : Begun} {n : ℕ} → Refused k (expr_class e) b n
    → finish at k (run at k (state_of b) (and e es)) ≡ finish at k (fault_at n at (place e))
unfolding run advance
refused_judged at k e es r = rw (refused_bad k r)

taken_judged : (at k : ℕ) (e : Expr) (es : Exprs) {b b' : Begun} {n p : ℕ} → Taken k (expr_class e) b b' → judge k e ≡ fault n p
    → finish at k (run at k (state_of b) (and e es)) ≡ fault n p
unfolding run advance finish
taken_judged at k e es r f = rw (taken_go k r, f)

-- What is inside an element that has a fault.
abbrev InList : ℕ → Exprs → ℕ → ℕ → Type 0
InList at none n p = ⊥
InList at (and e es) n p = T (Class.is_element (lead_class e)) × FaultIn at (lead_class e) (due (rule_of (lead_class e)).parameters) es n p

abbrev InExpr : Expr → ℕ → ℕ → Type 0
InExpr (symbol at s) n p = ⊥
InExpr (quoted at s) n p = ⊥
InExpr (list at es) n p = InList at es n p

within : {e : Expr} {n p : ℕ} → FaultOf e n p → InExpr e n p
within (fault_of i h) = (i, h)

none_judged : {at k : ℕ} {b : Begun} {n p : ℕ} → FaultIn at k b none n p → finish at k (run at k (state_of b) none) ≡ fault n p
unfolding run finish
none_judged {k} {b} (FaultIn.unfinished m) =
    rw (not_T_false (ended k (state_of b)) (λ t. m (ended_may k b (T_true (ended k (state_of b)) t))))

-- One expression further, with the judge's answers for what is inside it and for what follows.
and_judged : (at k : ℕ) (e : Expr) (es : Exprs) {b : Begun} {n p : ℕ} → FaultIn at k b (and e es) n p → Leading b
    → (FaultOf e n p → judge k e ≡ fault n p)
    → ((b' : Begun) → FaultIn at k b' es n p → Leading b' → finish at k (run at k (state_of b') es) ≡ fault n p)
    → finish at k (run at k (state_of b) (and e es)) ≡ fault n p
unfolding run finish fault_at advance
and_judged at k e es (FaultIn.included p i) l f h = refused_judged at k e es (Refused.included p i)
and_judged at k e es (FaultIn.not_allowed p i a) l f h = refused_judged at k e es (Refused.not_allowed p i a)
and_judged at k e es (FaultIn.other_sort p i a s) l f h = refused_judged at k e es (Refused.other_sort p i a s)
and_judged at k e es (FaultIn.absent r) l f h = refused_judged at k e es (Refused.absent r)
and_judged at k e es (FaultIn.malformed r n w) l f h = taken_judged at k e es (Taken.parameter r) (malformed_judged k e (next_leads r l) n w)
and_judged at k e es (FaultIn.inside r w) l f h = taken_judged at k e es r (f w)
and_judged at k e es (FaultIn.later {b'} r w i) l f h = rw (taken_go k r, fine_complete k e w) (h b' i (taken_leading r l))

mutual
  unfolding judge start

  -- A fault that the rules name is the one that the judge answers, in an element of whatever kind the expression stands.
  of_judged : (k : ℕ) (e : Expr) (n p : ℕ) → FaultOf e n p → judge k e ≡ fault n p
  of_judged k (symbol at s) n p f = absurd (within f)
  of_judged k (quoted at s) n p f = absurd (within f)
  of_judged k (list at es) n p f = list_judged k at es n p (within f)

  list_judged : (k at : ℕ) (es : Exprs) (n p : ℕ) → InList at es n p → judge_list k at es ≡ fault n p
  list_judged k at none n p f = absurd f
  list_judged k at (and e es) n p f =
      let c : ℕ = lead_class e in
      rw (T_true (Class.is_element c) f.0) (run_judged at c (due (rule_of c).parameters) es n p f.1 (start_leading c))

  run_judged : (at k : ℕ) (b : Begun) (es : Exprs) (n p : ℕ) → FaultIn at k b es n p → Leading b → finish at k (run at k (state_of b) es) ≡ fault n p
  run_judged at k b none n p f l = none_judged f
  run_judged at k b (and e es) n p f l = and_judged at k e es f l (λ g. of_judged k e n p g) (λ b' g l'. run_judged at k b' es n p g l')

root_element : T (Class.is_element Class.document)
unfolding Class.is_element Class.is_kind
root_element = tt

-- What is wrong with a document is a fault inside it.
wrong_element : {k : ℕ} {e : Expr} {n p : ℕ} → expr_class e ≡ Class.document → Wrong k e n p → FaultOf e n p
unfolding expr_class list_class
wrong_element c (element f) = f
wrong_element c (value n w) = absurd (false_not_T n (rw c root_element))
wrong_element c bare = absurd (let z : ◌≡◌ {A = ℕ} 0 1 = c in omega arith)

-- The fault that reading a nested expression answers is the one that the rules name.
pub fault_named : (e : Expr) (n p : ℕ) → AllText e → judge_root e ≡ fault n p → RootFault e n p
unfolding judge_root
fault_named e n p a =
    cond_case (λ (v : Verdict). v ≡ fault n p → RootFault e n p) (eqb (expr_class e) Class.document)
    (λ c f.
    let d : expr_class e ≡ Class.document = eqb-true (expr_class e) Class.document c in
    in_document d (wrong_element {k = 0} d (rw f at (wrong 0 e a))))
    (λ c f.
    let g : ◌≡◌ {A = ℕ} 8 n = cc in
    let h : place e ≡ p = cc in
    rw (← g, ← h) (no_document (eqb-false (expr_class e) Class.document c)))

-- The fault that the rules name is the one that reading a nested expression answers.
pub named_fault : (e : Expr) (n p : ℕ) → RootFault e n p → judge_root e ≡ fault n p
unfolding judge_root
named_fault e n p (no_document d) = rw (ne_eqb (expr_class e) Class.document d)
named_fault e n p (in_document d f) = rw (eq-eqb (expr_class e) Class.document d) (of_judged 0 e n p f)
