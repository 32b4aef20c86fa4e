-- A fault's place lies in the text.
use Prim.Native.Nat.{ℕ, ◌≤◌}
use lib.Dec.{eqb}
use Rattle.base.proofs.Booleans.{cond_case}
use Rattle.elements.specs.rules.Class as Class
use Rattle.elements.specs.rules.Inside.{State, Step, go, bad, step, start, ended}
use Rattle.syntax.specs.rules.Expression.{Expr, symbol, quoted, list, Exprs, none, and, place}
use Rattle.document.specs.reference.RulesTest.{keeps_rules}
use Rattle.document.specs.rules.Lead.{lead_class, expr_class}
use Rattle.document.specs.reference.Meaning.{Verdict, fine, fault, Progress, reached, stopped, fault_at, advance, finish, judge_value, judge, judge_list, run, judge_root, value_tree}

module _ (most : ℕ) where
  -- Every expression, at any depth, stands at a place up to there.
  unfoldable mutual
    pub Placed : Expr → Type 0
    Placed (symbol at s) = at ≤ most
    Placed (quoted at s) = at ≤ most
    Placed (list at es) = (at ≤ most) × AllPlaced es

    pub AllPlaced : Exprs → Type 0
    AllPlaced none = Unit {0}
    AllPlaced (and e es) = Placed e × AllPlaced es

  pub placed : (e : Expr) → Placed e → place e ≤ most
  unfolding Placed place
  placed (symbol at s) h = h
  placed (quoted at s) h = h
  placed (list at es) h = h.0

  abbrev pub VerdictIn : Verdict → Type 0
  VerdictIn fine = Unit {0}
  VerdictIn (fault n p) = p ≤ most

  abbrev ProgressIn : Progress → Type 0
  ProgressIn (reached s) = Unit {0}
  ProgressIn (stopped n p) = p ≤ most

  advanced : (at e : ℕ) (t : Step) (v : Verdict) (next : State → Progress) → at ≤ most → e ≤ most → VerdictIn v → ((s : State) → ProgressIn (next s))
      → ProgressIn (advance at e t v next)
  unfolding advance fault_at
  advanced at e (bad n) v next h i j k = cond_case ProgressIn (eqb n 9) (λ _. h) (λ _. i)
  advanced at e (go s) fine next h i j k = k s
  advanced at e (go s) (fault n p) next h i j k = j

  finished : (at k : ℕ) (p : Progress) → at ≤ most → ProgressIn p → VerdictIn (finish at k p)
  unfolding finish
  finished at k (stopped n p) h i = i
  finished at k (reached s) h i = cond_case VerdictIn (ended k s) (λ _. tt) (λ _. h)

  mutual
    unfolding judge judge_value Placed

    pub judge_within : (k : ℕ) (e : Expr) → Placed e → VerdictIn (judge k e)
    judge_within k (symbol at s) h = tt
    judge_within k (quoted at s) h = tt
    judge_within k (list at es) h = list_within k at es h.0 h.1

    list_within : (k at : ℕ) (es : Exprs) → at ≤ most → AllPlaced es → VerdictIn (judge_list k at es)
    list_within k at none h i = h
    list_within k at (and e es) h i =
        cond_case VerdictIn (Class.is_element (lead_class e))
        (λ _. finished at (lead_class e) _ h (run_within at (lead_class e) (start (lead_class e)) es h i.1))
        (λ _. cond_case VerdictIn (keeps_rules k (value_tree (lead_class e) es)) (λ _. tt) (λ _. h))

    run_within : (at k : ℕ) (s : State) (es : Exprs) → at ≤ most → AllPlaced es → ProgressIn (run at k s es)
    run_within at k s none h i = tt
    run_within at k s (and e es) h i =
        advanced at (place e) (step k s (expr_class e)) (judge k e) _ h (placed e i.0) (judge_within k e i.0) (λ s'. run_within at k s' es h i.1)

  pub root_within : (e : Expr) → Placed e → VerdictIn (judge_root e)
  unfolding judge_root
  root_within e h = cond_case VerdictIn (eqb (expr_class e) Class.document) (λ _. judge_within 0 e h) (λ _. placed e h)
