-- Which numbers a refusal can have: the scan answers 3 to 6, the walk 8 to 12, the check 15 to 18.
use Prim.Native.Nat.{ℕ, ◌≤◌}
use mathlib.Core.Path.{◌≡◌, refl}
use mathlib.Core.Logic.{◌⊎◌, inl, inr}
use mathlib.Core.List.{List, [], ◌∷◌}
use native.Mathlib.Omega.{arith}
use lib.Dec.{eqb}
use Rattle.base.proofs.Booleans.{cond_case}
use Rattle.elements.specs.rules.Bytes.{among}
use Rattle.elements.specs.rules.Class as Class
use Rattle.elements.specs.rules.Rules.{Slot, must, may, id_type, Content, alternatives, exactly_one, alternatives_of, rule_of}
use Rattle.elements.specs.rules.Inside.{State, expecting, holding, Step, go, bad, step, start, ended, first_child_step, next_child_step, next_parameter, is_include, some_has}
use Rattle.elements.proofs.Alternatives.{chosen_case}
use Rattle.syntax.specs.rules.Expression.{Expr, symbol, quoted, list, Exprs, none, and, place}
use Rattle.syntax.specs.rules.Fault.{Opened, Hit, control, lone_return, no_escape, empty_string, unclosed_string, unopened, other_partner, left_open, too_deep}
use Rattle.document.specs.rules.Document.{Node}
use Rattle.document.specs.reference.RulesTest.{keeps_rules}
use Rattle.document.specs.rules.Faults.{RootFault}
use Rattle.document.specs.rules.Account as Account
use Rattle.document.specs.rules.Account.{RefusedFor}
use Rattle.document.specs.rules.WellFormed.{FirstFault, bad_row, repeated_id, unknown_link, unknown_footnote}
use Rattle.document.proofs.Faults.{named_fault}
use Rattle.document.specs.rules.Spelling.{Spelling}
use Rattle.document.specs.rules.Lead.{lead_class, expr_class}
use Rattle.document.specs.reference.Meaning.{Verdict, fine, fault, Progress, reached, stopped, fault_at, advance, finish, judge_value, judge, judge_root, value_tree}

abbrev pub OfWalk : ℕ → Type 0
OfWalk n = (8 ≤ n) × (n ≤ 12)

abbrev StepNumber : Step → Type 0
StepNumber (go s) = Unit {0}
StepNumber (bad n) = OfWalk n

first_child : (t : Content) (c : ℕ) → StepNumber (first_child_step t c)
unfolding first_child_step
first_child t c =
    cond_case StepNumber (is_include c) (λ _. omega arith) (λ _. chosen_case c StepNumber (alternatives_of t) (λ _ _ _. tt) (λ _. omega arith))

next_child : (t : Content) (ks : List ℕ) (c : ℕ) → StepNumber (next_child_step t ks c)
unfolding next_child_step
next_child (alternatives kss) ks c =
    cond_case StepNumber (is_include c) (λ _. omega arith)
    (λ _. cond_case StepNumber (some_has kss c)
    (λ _. cond_case StepNumber (among c ks) (λ _. tt) (λ _. omega arith))
    (λ _. omega arith))
next_child (exactly_one k) ks c = cond_case StepNumber (is_include c) (λ _. omega arith) (λ _. omega arith)

next_parameter_lem : (ps : List Slot) (t : Content) (c : ℕ) → StepNumber (next_parameter ps t c)
unfolding next_parameter
next_parameter_lem [] t c = first_child t c
next_parameter_lem (must n ∷ ps) t c = cond_case StepNumber (eqb c n) (λ _. tt) (λ _. omega arith)
next_parameter_lem (may n ∷ ps) t c = cond_case StepNumber (eqb c n) (λ _. tt) (λ _. next_parameter_lem ps t c)
next_parameter_lem (id_type ∷ ps) t c =
    cond_case StepNumber (eqb c Class.id) (λ _. tt)
    (λ _. cond_case StepNumber (eqb c Class.type) (λ _. tt) (λ _. next_parameter_lem ps t c))

step_number : (k : ℕ) (s : State) (c : ℕ) → StepNumber (step k s c)
unfolding step
step_number k (expecting ps) c = next_parameter_lem ps (rule_of k).content c
step_number k (holding ks) c = next_child (rule_of k).content ks c

abbrev pub VerdictNumber : Verdict → Type 0
VerdictNumber fine = Unit {0}
VerdictNumber (fault n p) = OfWalk n

abbrev ProgressNumber : Progress → Type 0
ProgressNumber (reached s) = Unit {0}
ProgressNumber (stopped n p) = OfWalk n

fault_at_lem : (n at e : ℕ) → OfWalk n → ProgressNumber (fault_at n at e)
unfolding fault_at
fault_at_lem n at e h = cond_case ProgressNumber (eqb n 9) (λ _. h) (λ _. h)

advanced : (at e : ℕ) (t : Step) (v : Verdict) (next : State → Progress) → StepNumber t → VerdictNumber v → ((s : State) → ProgressNumber (next s))
    → ProgressNumber (advance at e t v next)
unfolding advance
advanced at e (bad n) v next h i j = fault_at_lem n at e h
advanced at e (go s) fine next h i j = j s
advanced at e (go s) (fault n p) next h i j = i

finished : (at k : ℕ) (p : Progress) → ProgressNumber p → VerdictNumber (finish at k p)
unfolding finish
finished at k (stopped n p) h = h
finished at k (reached s) h = cond_case VerdictNumber (ended k s) (λ _. tt) (λ _. omega arith)

mutual
  unfolding judge judge_value

  pub judge_number : (k : ℕ) (e : Expr) → VerdictNumber (judge k e)
  judge_number k (symbol at s) = tt
  judge_number k (quoted at s) = tt
  judge_number k (list at es) = list_number k at es

  list_number : (k at : ℕ) (es : Exprs) → VerdictNumber (Rattle.document.specs.reference.Meaning.judge_list k at es)
  list_number k at none = omega arith
  list_number k at (and e es) =
      cond_case VerdictNumber (Class.is_element (lead_class e))
      (λ _. finished at (lead_class e) _ (run_number at (lead_class e) (start (lead_class e)) es))
      (λ _. cond_case VerdictNumber (keeps_rules k (value_tree (lead_class e) es)) (λ _. tt) (λ _. omega arith))

  run_number : (at k : ℕ) (s : State) (es : Exprs) → ProgressNumber (Rattle.document.specs.reference.Meaning.run at k s es)
  run_number at k s none = tt
  run_number at k s (and e es) =
      advanced at (place e) (step k s (expr_class e)) (judge k e) _ (step_number k s (expr_class e)) (judge_number k e) (λ s'. run_number at k s' es)

pub root_number : (e : Expr) → VerdictNumber (judge_root e)
unfolding judge_root
root_number e = cond_case VerdictNumber (eqb (expr_class e) Class.document) (λ _. judge_number 0 e) (λ _. omega arith)

-- The numbers of the other groups.
hit_number : {room : ℕ} {o : Opened} {rest : List ℕ} {n p : ℕ} → Hit room o rest n p → (3 ≤ n) × (n ≤ 6)
hit_number (control c) = omega arith
hit_number (lone_return c) = omega arith
hit_number (no_escape ps s a e) = omega arith
hit_number empty_string = omega arith
hit_number (unclosed_string ps a) = omega arith
hit_number (unopened b) = omega arith
hit_number (other_partner c e) = omega arith
hit_number left_open = omega arith
hit_number (too_deep b e) = omega arith

root_fault_number : (e : Expr) (n p : ℕ) → RootFault e n p → OfWalk n
root_fault_number e n p f =
    let h : VerdictNumber (fault n p) = rw (named_fault e n p f) at (root_number e) in
    h

-- 3 to 12, or 19.
pub refused_number : {s : Spelling} {text : List ℕ} {n p : ℕ} → RefusedFor s text n p → (3 ≤ n) × ((n ≤ 14) ⊎ (n ≡ 19))
refused_number (Account.no_syntax f) = (omega (arith, hit_number f.hit), inl (omega (arith, hit_number f.hit)))
refused_number (Account.no_expression x) = (omega arith, inl (omega arith))
refused_number (Account.second_expression e x) = (omega arith, inl (omega arith))
refused_number (Account.against_rules {e = e} {n = n} {p = p} x form f) =
    let h = root_fault_number e n p f in (omega (arith, h), inl (omega (arith, h)))
refused_number (Account.too_deep i x form w l deep) = (omega arith, inr refl)

-- The faults of a document are numbered 15 to 18.
pub fault_number : {d : Node} {n i : ℕ} → FirstFault d n i → (15 ≤ n) × (n ≤ 18)
fault_number (bad_row f) = omega arith
fault_number (repeated_id r f) = omega arith
fault_number (unknown_link r s f) = omega arith
fault_number (unknown_footnote r s l f) = omega arith
