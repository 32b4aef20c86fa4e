-- Joining, flattening and judging of blocks: what both directions of regrouping use.
use Prim.Native.Nat.{ℕ}
use mathlib.Core.Path.{◌≡◌, refl, ap}
use mathlib.Core.Bool.{true, false}
use native.Mathlib.Omega.{arith}
use lib.Dec.{T, eqb}
use borrow.Author.Tests.{eqb-true, le-leb, ne_eqb}
use Rattle.base.proofs.Booleans.{cond_case}
use Rattle.elements.specs.rules.Class as Class
use Rattle.elements.specs.rules.Inside.{State, go, step, start}
use Rattle.syntax.specs.rules.Expression.{Expr, symbol, quoted, list, Exprs, none, and, place}
use Rattle.document.specs.rules.Spelling.{is_block_parameter}
use Rattle.document.specs.reference.Imperative.{parameters, flatten, flatten_content}
use Rattle.document.specs.rules.Command.{join}
use Rattle.document.specs.rules.Lead.{lead_class, list_class, expr_class}
use Rattle.document.specs.reference.Meaning.{Verdict, fine, finish, judge, judge_list, run, judge_root}
use Rattle.document.proofs.NestedMeaning.{not_fine, passed}
use Rattle.document.proofs.BlockRules.{block_range}

pub join_none : (es : Exprs) → join es none ≡ es
unfolding join
join_none none = refl
join_none (and e es) = ap (and e) (join_none es)

pub join_join : (es fs gs : Exprs) → join (join es fs) gs ≡ join es (join fs gs)
unfolding join
join_join none fs gs = refl
join_join (and e es) fs gs = ap (and e) (join_join es fs gs)

-- The expressions `es` are read to the element's end without a fault.
abbrev pub EndsFine : ℕ → ℕ → State → Exprs → Type 0
EndsFine at k s es = finish at k (run at k s es) ≡ fine

-- Reading goes on past an expression: its step is one, and what is inside it is fine.
pub read_on : (at k : ℕ) (s : State) (e : Expr) (es : Exprs) → EndsFine at k s (and e es)
    → (s' : State) × (step k s (expr_class e) ≡ go s') × (judge k e ≡ fine) × EndsFine at k s' es
unfolding judge
read_on at k s e es h = passed at k (place e) (step k s (expr_class e)) (judge k e) (λ s'. run at k s' es) h

pub block_element : (c : ℕ) → T (Class.is_block c) → Class.is_element c ≡ true
unfolding Class.is_element Class.is_kind
block_element c b =
    let h = block_range c b in
    rw (le-leb 1 c h.0, le-leb c 25 (omega arith), ne_eqb c Class.text (λ e. omega arith))

-- A block that is fine was read to its end.
pub inside_block : (k at : ℕ) (e : Expr) (es : Exprs) → T (Class.is_block (lead_class e))
    → judge_list k at (and e es) ≡ fine → EndsFine at (lead_class e) (start (lead_class e)) es
unfolding judge
inside_block k at e es b h = rw (block_element (lead_class e) b) at h

-- The root is a document.
pub root_document : (e : Expr) → judge_root e ≡ fine → (expr_class e ≡ Class.document) × (judge 0 e ≡ fine)
unfolding judge_root
root_document e =
    cond_case (λ (v : Verdict). v ≡ fine → (expr_class e ≡ Class.document) × (judge 0 e ≡ fine)) (eqb (expr_class e) Class.document)
    (λ c f. (eqb-true _ _ c, f)) (λ c f. absurd (not_fine 8 (place e) f))

pub block_no_parameter : (c : ℕ) → T (Class.is_block c) → is_block_parameter c ≡ false
unfolding is_block_parameter
block_no_parameter c b =
    let h = block_range c b in
    rw (ne_eqb c Class.title (λ e. omega arith), ne_eqb c Class.id (λ e. omega arith), ne_eqb c Class.type (λ e. omega arith))

-- A child is no parameter of the block around it, and flattens before what follows it.
pub parameters_child : (e : Expr) (es : Exprs) → is_block_parameter (expr_class e) ≡ false → parameters (and e es) ≡ parameters es
unfolding parameters
parameters_child e es p = rw p

pub flatten_child : (e : Expr) (es : Exprs) → is_block_parameter (expr_class e) ≡ false
    → flatten_content (and e es) ≡ join (flatten e) (flatten_content es)
unfolding flatten
flatten_child e es p = rw p

-- What is no block flattens to itself.
pub flatten_leaf : (e : Expr) → Class.is_block (expr_class e) ≡ false → flatten e ≡ and e none
unfolding flatten expr_class list_class
flatten_leaf (symbol at s) b = refl
flatten_leaf (quoted at s) b = refl
flatten_leaf (list at none) b = refl
flatten_leaf (list at (and e es)) b = rw b
