-- The nested form of an imperative text whose brackets nest at most 59 deep nests at most 64 deep, if the nested meaning accepts it.
use Prim.Native.Nat.{ℕ, suc, ◌+◌, ◌≤◌, max}
use mathlib.Core.Path.{◌≡◌, refl}
use mathlib.Core.Bool.{false}
use native.Mathlib.Omega.{arith}
use lib.Dec.{T}
use Rattle.base.proofs.Booleans.{bool_case, true_T, T_true}
use Rattle.elements.specs.rules.Class as Class
use Rattle.elements.specs.rules.Inside.{State, expecting, holding, start}
use Rattle.syntax.specs.rules.Expression.{Expr, symbol, quoted, list, Exprs, none, and, depth, depth_all}
use Rattle.document.specs.rules.Spelling.{is_block_parameter}
use Rattle.document.specs.reference.Imperative.{parameters, flatten, flatten_content, regroup}
use Rattle.document.specs.rules.Command.{join}
use Rattle.document.specs.rules.Lead.{lead_class, list_class, expr_class}
use Rattle.document.specs.reference.Meaning.{fine, judge, judge_list, judge_root}
use Rattle.document.proofs.BlockRules.{BlockChild, BlockState, LeadsTo, BlockStep, step_takes, start_within}
use Rattle.document.proofs.BlockExpressions.{EndsFine, read_on, inside_block, root_document, flatten_leaf}
use Rattle.document.proofs.Regroup.{flatten_regroup}

depth_join : (es fs : Exprs) → depth_all (join es fs) ≡ max (depth_all es) (depth_all fs)
unfolding depth join
depth_join none fs = omega arith
depth_join (and e es) fs = let h = depth_join es fs in omega arith

-- How deep an expression may nest against the expressions that it flattens to.
Shallow : Expr → Type 0
Shallow e = depth e ≤ suc (Class.significance (expr_class e)) + depth_all (flatten e)

-- And how deep what stands in a block of kind k may.
ShallowIn : ℕ → Exprs → Type 0
ShallowIn k es = depth_all es ≤ max (depth_all (parameters es)) (Class.significance k + depth_all (flatten_content es))

leaf_shallow : (e : Expr) → Class.is_block (expr_class e) ≡ false → depth e ≤ depth_all (flatten e)
unfolding depth
leaf_shallow e b = rw (flatten_leaf e b) (omega arith)

-- A child in a block of kind k: it is a block of lesser significance, or flattens to itself.
child_shallow : (k : ℕ) (e : Expr) → BlockChild k (expr_class e) → Shallow e → depth e ≤ Class.significance k + depth_all (flatten e)
unfolding Shallow
child_shallow k e c h =
    bool_case (Class.is_block (expr_class e))
    (λ b. omega (arith, c.lesser (true_T b)))
    (λ b. omega (arith, leaf_shallow e b))

-- What follows an expression that the block takes.
next_shallow : (k : ℕ) (e : Expr) (es : Exprs) (s' : State) → LeadsTo k (expr_class e) s' → Shallow e → ShallowIn k es → ShallowIn k (and e es)
unfolding ShallowIn LeadsTo depth parameters flatten
next_shallow k e es (expecting ps) l h hs = rw (T_true (is_block_parameter (expr_class e)) l) (omega arith)
next_shallow k e es (holding q) (c, _) h hs =
    let a = child_shallow k e c h in
    let b = depth_join (flatten e) (flatten_content es) in
    rw c.no_parameter (omega arith)

block_shallow : (at : ℕ) (e : Expr) (es : Exprs) → T (Class.is_block (lead_class e)) → ShallowIn (lead_class e) es → Shallow (list at (and e es))
unfolding Shallow ShallowIn depth flatten expr_class list_class
block_shallow at e es b h = rw (T_true (Class.is_block (lead_class e)) b) (omega arith)

other_shallow : (e : Expr) → Class.is_block (expr_class e) ≡ false → Shallow e
unfolding Shallow
other_shallow e b = omega (arith, leaf_shallow e b)

-- What is fine nests no deeper than its flat form and one level for each significance.
mutual
  unfolding judge depth expr_class list_class Class.is_block ShallowIn BlockStep

  shallow : (e : Expr) (k : ℕ) → judge k e ≡ fine → Shallow e
  shallow (symbol at s) k h = other_shallow (symbol at s) refl
  shallow (quoted at s) k h = other_shallow (quoted at s) refl
  shallow (list at es) k h = shallow_list es k at h

  shallow_list : (es : Exprs) (k at : ℕ) → judge_list k at es ≡ fine → Shallow (list at es)
  shallow_list none k at h = other_shallow (list at none) refl
  shallow_list (and e es) k at h =
      bool_case (Class.is_block (lead_class e))
      (λ b. block_shallow at e es (true_T b)
      (shallow_all es at (lead_class e) (start (lead_class e)) (true_T b) (start_within (lead_class e) (true_T b)) (inside_block k at e es (true_T b) h)))
      (λ b. other_shallow (list at (and e es)) b)

  shallow_all : (es : Exprs) (at k : ℕ) (s : State) → T (Class.is_block k) → BlockState s → EndsFine at k s es → ShallowIn k es
  shallow_all none at k s b w h = omega arith
  shallow_all (and e es) at k s b w h =
      let (s', taken, f, r) = read_on at k s e es h in
      let (w', l, _) = rw taken at (step_takes k b s w (expr_class e)) in
      next_shallow k e es s' l (shallow e k f) (shallow_all es at k s' b w' r)

-- Number 19 does not occur.
pub depth_regrouped : (e : Expr) (es : Exprs) → judge_root (regroup e es) ≡ fine → depth_all (and e es) ≤ 59 → depth (regroup e es) ≤ 64
unfolding Shallow Class.significance
depth_regrouped e es h d =
    let (root, f) = root_document (regroup e es) h in
    let flat : depth_all (flatten (regroup e es)) ≤ 59 = rw (flatten_regroup e es h) d in
    let document : Class.significance (expr_class (regroup e es)) ≡ 4 = rw root in
    omega (arith, shallow (regroup e es) 0 f)
