-- Regrouping an imperative text brings nothing into it: what holds of all its expressions, and any bound on what they hold together, holds of its nested form.
use Prim.Native.Nat.{ℕ, ◌+◌, ◌≤◌}
use mathlib.Core.Path.{◌≡◌}
use mathlib.Core.Bool.{◌||◌}
use mathlib.Core.List.{List, [], ◌∷◌, map}
use native.Mathlib.Omega.{arith}
use lib.Dec.{eqb, leb}
use Rattle.base.proofs.Booleans.{cond_case}
use Rattle.elements.specs.rules.Class as Class
use Rattle.syntax.specs.rules.Expression.{Expr, symbol, quoted, list, Exprs, none, and}
use Rattle.document.specs.rules.Spelling.{is_block_parameter}
use Rattle.document.specs.reference.Imperative.{still_open, child_of, opened, at_innermost, contents_of, innermost, regroup}
use Rattle.document.specs.rules.Command.{join, as_not_allowed, in_command, loose, is_command, block}
use Rattle.document.specs.rules.Lead.{expr_class}

-- The laws of a property of expressions, `P n e`, and of runs of them, `Ps n es`, within a bound n that runs share out.
pub record Laws (P : ℕ → Expr → Type 0) (Ps : ℕ → Exprs → Type 0) : Type 0 where
  pub nothing : Ps 0 none
  pub put : (m n : ℕ) (e : Expr) (es : Exprs) → P m e → Ps n es → Ps (m + n) (and e es)
  pub apart : (n : ℕ) (e : Expr) (es : Exprs) → Ps n (and e es) → (a : ℕ) × (b : ℕ) × (a + b ≡ n) × P a e × Ps b es
  pub wider : (m n : ℕ) (e : Expr) → m ≤ n → P m e → P n e
  pub all_wider : (m n : ℕ) (es : Exprs) → m ≤ n → Ps m es → Ps n es
  pub not_allowed : (n : ℕ) (e : Expr) → P n e → P n (as_not_allowed e)
  pub relist : (n at : ℕ) (es : Exprs) → P n (list at es) → (k : ℕ) × Ps k es × ((m : ℕ) (fs : Exprs) → Ps (k + m) fs → P (n + m) (list at fs))

module _ (P : ℕ → Expr → Type 0) (Ps : ℕ → Exprs → Type 0) (laws : Laws P Ps) where
  all_join : (m n : ℕ) (es fs : Exprs) → Ps m es → Ps n fs → Ps (m + n) (join es fs)
  unfolding join
  all_join m n none fs t u = laws.all_wider n (m + n) fs (omega arith) u
  all_join m n (and e es) fs t u =
      let (a, b, s, p, q) = laws.apart m e es t in
      laws.all_wider (a + (b + n)) (m + n) _ (omega arith) (laws.put a (b + n) e (join es fs) p (all_join b n es fs q u))

  all_in_command : (n : ℕ) (es : Exprs) → Ps n es → Ps n (in_command es)
  unfolding in_command
  all_in_command n none t = t
  all_in_command n (and e es) t =
      let (a, b, s, p, q) = laws.apart n e es t in
      rw (← s)
      (laws.put a b _ (in_command es)
      (cond_case (P a) (is_block_parameter (expr_class e)) (λ _. p) (λ _. laws.not_allowed a e p)) (all_in_command b es q))

  one_loose : (n : ℕ) (e : Expr) → P n e → P n (loose e)
  unfolding loose
  one_loose n e t =
      cond_case (P n) (is_block_parameter (expr_class e) || eqb (expr_class e) Class.document) (λ _. laws.not_allowed n e t) (λ _. t)

  one_block : (m n : ℕ) (e : Expr) (content : Exprs) → P m e → Ps n content → P (m + n) (block e content)
  unfolding block
  one_block m n (symbol at s) content t u = laws.wider m (m + n) (symbol at s) (omega arith) t
  one_block m n (quoted at s) content t u = laws.wider m (m + n) (quoted at s) (omega arith) t
  one_block m n (list at none) content t u = laws.wider m (m + n) (list at none) (omega arith) t
  one_block m n (list at (and e es)) content t u =
      let (k, inside, again) = laws.relist m at (and e es) t in
      let (a, b, s, p, q) = laws.apart k e es inside in
      again n (and e (join (in_command es) content))
      (laws.all_wider (a + (b + n)) (k + n) _ (omega arith)
      (laws.put a (b + n) e (join (in_command es) content) p (all_join b n (in_command es) content (all_in_command b es q) u)))

  -- The contents of the open blocks share the bound out.
  abbrev AllContents : ℕ → List Exprs → Type 0
  AllContents n [] = Unit {0}
  AllContents n (es ∷ others) = (a : ℕ) × (b : ℕ) × (a + b ≡ n) × Ps a es × AllContents b others

  one_child : (m n : ℕ) (e : Expr) (contents : List Exprs) → P m e → AllContents n contents → AllContents (m + n) (child_of e contents)
  unfolding child_of at_innermost
  one_child m n e [] t u = tt
  one_child m n e (inside ∷ []) t u = tt
  one_child m n e (inside ∷ (rest ∷ others)) t (a, b, s, p, (c, d, s', q, us)) =
      (m + a + c, d, omega arith, laws.put (m + a) c (block e inside) rest (one_block m a e inside t p) q, us)

  one_opened : (m n s : ℕ) (e : Expr) (contents : List Exprs) (blocks : List ℕ) → P m e → AllContents n contents
      → AllContents (m + n) (opened s e contents blocks)
  unfolding opened
  one_opened m n s e contents [] t u = tt
  one_opened m n s e contents (o ∷ blocks) t u =
      cond_case (AllContents (m + n)) (leb o s) (λ _. (0, m + n, omega arith, laws.nothing, one_opened m n s e contents blocks t u))
      (λ _. one_child m n e contents t u)

  at_innermost_lem : (m n : ℕ) (e : Expr) (contents : List Exprs) → P m e → AllContents n contents → AllContents (m + n) (at_innermost e contents)
  unfolding at_innermost
  at_innermost_lem m n e [] t u = tt
  at_innermost_lem m n e (es ∷ others) t (a, b, s, p, us) = (m + a, b, omega arith, laws.put m a e es t p, us)

  all_empty : (n : ℕ) (blocks : List ℕ) → AllContents n (map (λ (o : ℕ). none) blocks)
  all_empty n [] = tt
  all_empty n (o ∷ blocks) = (0, n, omega arith, laws.nothing, all_empty n blocks)

  all_contents : (n : ℕ) (blocks : List ℕ) (es : Exprs) → Ps n es → AllContents n (contents_of blocks es)
  unfolding contents_of
  all_contents n blocks none t = all_empty n blocks
  all_contents n blocks (and e es) t =
      let s = Class.significance (expr_class e) in
      let (a, b, is, p, q) = laws.apart n e es t in
      rw (← is)
      (cond_case (AllContents (a + b)) (is_command e)
      (λ _. one_opened a b s e (contents_of (s ∷ still_open s blocks) es) blocks p (all_contents b (s ∷ still_open s blocks) es q))
      (λ _. at_innermost_lem a b (loose e) (contents_of blocks es) (one_loose a e p) (all_contents b blocks es q)))

  all_innermost : (n : ℕ) (contents : List Exprs) → AllContents n contents → Ps n (innermost contents)
  unfolding innermost
  all_innermost n [] u = laws.all_wider 0 n none (omega arith) laws.nothing
  all_innermost n (es ∷ others) (a, b, s, p, us) = laws.all_wider a n es (omega arith) p

  -- What holds of a text's expressions holds of its nested form.
  pub regrouped_all : (n : ℕ) (e : Expr) (es : Exprs) → Ps n (and e es) → P n (regroup e es)
  unfolding regroup
  regrouped_all n e es t =
      let (a, b, s, p, q) = laws.apart n e es t in
      let blocks : List ℕ = Class.significance Class.document ∷ [] in
      rw (← s)
      (one_block a b e (innermost (contents_of blocks es)) p (all_innermost b (contents_of blocks es) (all_contents b blocks es q)))
