-- Regrouping what flattening made gives back the expression that was flattened, if the nested meaning accepts it.
use Prim.Native.Nat.{ℕ, ◌≤◌, ◌<◌}
use mathlib.Core.Path.{◌≡◌, refl, ap, ◌∙◌}
use mathlib.Core.Bool.{true, false, cond}
use mathlib.Core.List.{List, [], ◌∷◌}
use native.Mathlib.Omega.{arith}
use lib.Dec.{T, eqb, leb}
use borrow.Author.Tests.{le-leb, lt-leb}
use Rattle.base.proofs.Booleans.{bool_case, true_T, T_true}
use Rattle.elements.specs.rules.Bytes.{among}
use Rattle.elements.specs.rules.Class as Class
use Rattle.elements.specs.rules.Inside.{State, expecting, holding, go, start}
use Rattle.syntax.specs.rules.Expression.{Expr, symbol, quoted, list, Exprs, none, and}
use Rattle.document.specs.rules.Spelling.{is_block_parameter}
use Rattle.document.specs.reference.Imperative.{parameters, flatten, flatten_content, still_open, child_of, opened, at_innermost, contents_of, innermost, regroup}
use Rattle.document.specs.rules.Command.{join, in_command, loose, is_command, block}
use Rattle.document.specs.rules.Lead.{lead_class, list_class, expr_class}
use Rattle.document.specs.reference.Meaning.{fine, judge, judge_list, judge_root}
use Rattle.document.proofs.NestedMeaning.{not_fine}
use Rattle.document.proofs.BlockRules.{BlockChild, Level, BlockState, LeadsTo, Follows, BlockStep, step_takes, start_within}
use Rattle.document.proofs.BlockExpressions.{join_none, join_join, EndsFine, read_on, inside_block, root_document, flatten_child, flatten_leaf}

-- What follows ends an open block of significance s: nothing, or a command of no lesser significance.
EndsBlock : ℕ → Exprs → Type 0
EndsBlock s none = Unit {0}
EndsBlock s (and e es) = (is_command e ≡ true) × (s ≤ Class.significance (expr_class e))

ends_lesser : (s t : ℕ) (r : Exprs) → t ≤ s → EndsBlock s r → EndsBlock t r
unfolding EndsBlock
ends_lesser s t none l h = tt
ends_lesser s t (and e es) l h = (h.0, let m : s ≤ Class.significance (expr_class e) = h.1 in omega arith)

-- A block that is ended at once gets nothing.
ended_empty : (s : ℕ) (blocks : List ℕ) (r : Exprs) → EndsBlock s r → contents_of (s ∷ blocks) r ≡ none ∷ contents_of blocks r
unfolding EndsBlock contents_of opened still_open
ended_empty s blocks none h = refl
ended_empty s blocks (and e es) h =
    let t = Class.significance (expr_class e) in
    let l : leb s t ≡ true = le-leb s t h.1 in
    let o : still_open t (s ∷ blocks) ≡ still_open t blocks = rw l in
    cc

-- A command in the content of a block of greater significance opens a child there.
open_child : (s : ℕ) (blocks : List ℕ) (e : Expr) (es : Exprs) → is_command e ≡ true → Class.significance (expr_class e) < s
    → contents_of (s ∷ blocks) (and e es) ≡ child_of e (contents_of (Class.significance (expr_class e) ∷ s ∷ blocks) es)
unfolding contents_of opened still_open
open_child s blocks e es c l = rw (c, lt-leb s (Class.significance (expr_class e)) l)

-- Reading a block goes on past an expression that it takes.
taken : (k : ℕ) → T (Class.is_block k) → (at : ℕ) (s : State) → BlockState s → (e : Expr) (es : Exprs) → EndsFine at k s (and e es)
    → (s' : State) × BlockState s' × LeadsTo k (expr_class e) s' × Follows s s' × (judge k e ≡ fine) × EndsFine at k s' es
unfolding BlockStep
taken k b at s w e es h =
    let (s', went, f, r) = read_on at k s e es h in
    let t : BlockStep k s (expr_class e) (go s') = rw went at (step_takes k b s w (expr_class e)) in
    (s', t.0, t.1, t.2, f, r)

-- What follows the parameters of a block.
content : Exprs → Exprs
content none = none
content (and e es) = cond (is_block_parameter (expr_class e)) (content es) (and e (content es))

-- Where an alternative is held no parameter follows.
no_more_parameters : (es : Exprs) (at k : ℕ) → T (Class.is_block k) → (ks : List ℕ) → Level ks → EndsFine at k (holding ks) es
    → (parameters es ≡ none) × (content es ≡ es)
unfolding content parameters BlockState LeadsTo Follows
no_more_parameters none at k b ks w h = (refl, refl)
no_more_parameters (and e es) at k b ks w h =
    let (s', _, l, same, _, r) = taken k b at (holding ks) w e es h in
    let leads : LeadsTo k (expr_class e) (holding ks) = rw (← same) at l in
    let (ps, es-same) = no_more_parameters es at k b ks w (rw (← same) at r) in
    (rw leads.0.no_parameter ps, rw (leads.0.no_parameter, es-same))

-- The parameters stand before the content.
parameters_first : (es : Exprs) (at k : ℕ) → T (Class.is_block k) → (s : State) → BlockState s → EndsFine at k s es
    → join (parameters es) (content es) ≡ es
unfolding content parameters join BlockState LeadsTo
parameters_first none at k b s w h = refl
parameters_first (and e es) at k b s w h =
    let (s', w', l, _, _, r) = taken k b at s w e es h in
    split s' w' l r (parameters_first es at k b s' w' r)
  where
    split : (s' : State) → BlockState s' → LeadsTo k (expr_class e) s' → EndsFine at k s' es → join (parameters es) (content es) ≡ es
        → join (parameters (and e es)) (content (and e es)) ≡ and e es
    split (expecting ps) w l r ih = rw (T_true (is_block_parameter (expr_class e)) l) (ap (and e) ih)
    split (holding ks) w l r ih =
        let (ps, es-same) = no_more_parameters es at k b ks w r in
        rw (l.0.no_parameter, ps, es-same)

-- In a command all parameters may stand.
in_command_lem : (es : Exprs) → in_command (parameters es) ≡ parameters es
unfolding in_command parameters
in_command_lem none = refl
in_command_lem (and e es) =
    bool_case (is_block_parameter (expr_class e))
    (λ p. rw (p, p) (ap (and e) (in_command_lem es)))
    (λ p. rw p (in_command_lem es))

is_command_lem : (e : Expr) → T (Class.is_block (expr_class e)) → eqb (expr_class e) Class.document ≡ false → is_command e ≡ true
unfolding is_command
is_command_lem e b d = rw (T_true (Class.is_block (expr_class e)) b, d)

-- A block flattens to a command of its class and what follows that.
command_first : (e : Expr) → T (Class.is_block (expr_class e)) → (c : Expr) × (es : Exprs) × (flatten e ≡ and c es) × (expr_class c ≡ expr_class e)
unfolding flatten expr_class list_class Class.is_block
command_first (symbol at s) b = absurd b
command_first (quoted at s) b = absurd b
command_first (list at none) b = absurd b
command_first (list at (and e es)) b =
    (list at (and e (parameters es)), flatten_content es, rw (T_true (Class.is_block (lead_class e)) b), refl)

-- After a block of class t among its siblings, which are of its alternative, there follows what ends it.
siblings_end : (es : Exprs) (at k : ℕ) → T (Class.is_block k) → (ks : List ℕ) → Level ks → (t : ℕ) → T (among t ks)
    → Class.significance t < Class.significance k → EndsFine at k (holding ks) es
    → (r : Exprs) → EndsBlock (Class.significance k) r → EndsBlock (Class.significance t) (join (flatten_content es) r)
unfolding BlockState LeadsTo Follows join flatten EndsBlock
siblings_end none at k b ks w t a less h r ends = ends_lesser (Class.significance k) (Class.significance t) r (omega arith) ends
siblings_end (and e es) at k b ks w t a less h r ends =
    let (s', _, l, same, _, _) = taken k b at (holding ks) w e es h in
    let (c, of) : LeadsTo k (expr_class e) (holding ks) = rw (← same) at l in
    let level : Class.significance (expr_class e) ≡ Class.significance t = w t (expr_class e) a of in
    bool_case (Class.is_block (expr_class e))
    (λ is.
    let (first, rest, flat-same, class_same) = command_first e (true_T is) in
    rw (flatten_child e es c.no_parameter, flat-same)
    (is_command_lem first (rw class_same (true_T is)) (rw class_same c.no_document), rw (class_same, level) (omega arith)))
    (λ is_none. absurd (let z : Class.significance k ≡ 0 = c.alone is_none in omega arith))

-- The laws of a child, and of the content of a block: each block gets back what was flattened out of it.
abbrev ChildLaw : ℕ → Expr → List ℕ → Exprs → Type 0
ChildLaw s e blocks r = contents_of (s ∷ blocks) (join (flatten e) r) ≡ at_innermost e (contents_of (s ∷ blocks) r)

abbrev ContentLaw : ℕ → Exprs → List ℕ → Exprs → Type 0
ContentLaw s es blocks r = contents_of (s ∷ blocks) (join (flatten_content es) r) ≡ content es ∷ contents_of blocks r

leaf_law : (e : Expr) (k : ℕ) → BlockChild k (expr_class e) → Class.is_block (expr_class e) ≡ false → (blocks : List ℕ) (r : Exprs)
    → ChildLaw (Class.significance k) e blocks r
unfolding contents_of join is_command loose
leaf_law e k c b blocks r = rw (flatten_leaf e b) (rw (b, c.no_parameter, c.no_document))

block_law : (at k : ℕ) (e : Expr) (es : Exprs) → BlockChild k (lead_class e) → T (Class.is_block (lead_class e)) → join (parameters es) (content es) ≡ es
    → (blocks : List ℕ) (r : Exprs) → ContentLaw (Class.significance (lead_class e)) es (Class.significance k ∷ blocks) r
    → ChildLaw (Class.significance k) (list at (and e es)) blocks r
unfolding flatten join expr_class list_class block child_of
block_law at k e es c b parts blocks r law =
    let command = list at (and e (parameters es)) in
    rw (T_true (Class.is_block (lead_class e)) b)
    (open_child (Class.significance k) blocks command _ (is_command_lem command b c.no_document) (c.lesser b)
    ∙ rw (law, in_command_lem, parts))

flatten_parameter : (e : Expr) (es : Exprs) → is_block_parameter (expr_class e) ≡ true → flatten_content (and e es) ≡ flatten_content es
unfolding flatten
flatten_parameter e es p = rw p

-- From the law of the first expression and that of those that follow it to that of them all.
content_step_lem : (at k : ℕ) → T (Class.is_block k) → (e : Expr) (es : Exprs) (s : State) → BlockState s → LeadsTo k (expr_class e) s → EndsFine at k s es
    → (blocks : List ℕ) (r : Exprs) → EndsBlock (Class.significance k) r
    → (BlockChild k (expr_class e) → (T (Class.is_block (expr_class e)) → EndsBlock (Class.significance (expr_class e)) (join (flatten_content es) r))
    → ChildLaw (Class.significance k) e blocks (join (flatten_content es) r))
    → ContentLaw (Class.significance k) es blocks r → ContentLaw (Class.significance k) (and e es) blocks r
unfolding BlockState LeadsTo content
content_step_lem at k b e es (expecting ps) w l h blocks r ends child_law law =
    let is = T_true (is_block_parameter (expr_class e)) l in
    rw (flatten_parameter e es is, is) law
content_step_lem at k b e es (holding ks) w l h blocks r ends child_law law =
    let (c, of) = l in
    rw (flatten_child e es c.no_parameter, c.no_parameter, join_join)
    (child_law c (λ is. siblings_end es at k b ks w (expr_class e) of (c.lesser is) h r ends) ∙ (rw law (unfold at_innermost in refl)))

-- A child that is fine is regrouped, and so is what is inside a block.
mutual
  unfolding judge flatten expr_class list_class join content Class.is_block

  child_law : (e : Expr) (k : ℕ) → BlockChild k (expr_class e) → judge k e ≡ fine → (blocks : List ℕ) (r : Exprs)
      → (T (Class.is_block (expr_class e)) → EndsBlock (Class.significance (expr_class e)) r) → ChildLaw (Class.significance k) e blocks r
  child_law (symbol at s) k c f blocks r ends = leaf_law (symbol at s) k c refl blocks r
  child_law (quoted at s) k c f blocks r ends = leaf_law (quoted at s) k c refl blocks r
  child_law (list at es) k c f blocks r ends = list_law es at k c f blocks r ends

  list_law : (es : Exprs) (at k : ℕ) → BlockChild k (list_class es) → judge_list k at es ≡ fine → (blocks : List ℕ) (r : Exprs)
      → (T (Class.is_block (list_class es)) → EndsBlock (Class.significance (list_class es)) r) → ChildLaw (Class.significance k) (list at es) blocks r
  list_law none at k c f blocks r ends = absurd (not_fine 8 at f)
  list_law (and e es) at k c f blocks r ends =
      bool_case (Class.is_block (lead_class e))
      (λ is.
      let b = true_T is in
      let h = inside_block k at e es b f in
      let w = start_within (lead_class e) b in
      block_law at k e es c b (parameters_first es at (lead_class e) b (start (lead_class e)) w h) blocks r
      (content_law es at (lead_class e) b (start (lead_class e)) w h (Class.significance k ∷ blocks) r (ends b)))
      (λ is_none. leaf_law (list at (and e es)) k c is_none blocks r)

  content_law : (es : Exprs) (at k : ℕ) → T (Class.is_block k) → (s : State) → BlockState s → EndsFine at k s es
      → (blocks : List ℕ) (r : Exprs) → EndsBlock (Class.significance k) r → ContentLaw (Class.significance k) es blocks r
  content_law none at k b s w h blocks r ends = ended_empty (Class.significance k) blocks r ends
  content_law (and e es) at k b s w h blocks r ends =
      let (s', w', l, _, f, h') = taken k b at s w e es h in
      content_step_lem at k b e es s' w' l h' blocks r ends (λ c ends'. child_law e k c f blocks (join (flatten_content es) r) ends')
      (content_law es at k b s' w' h' blocks r ends)

document_regroup : (e : Expr) → expr_class e ≡ Class.document → judge 0 e ≡ fine
    → (e₀ : Expr) × (es₀ : Exprs) × (flatten e ≡ and e₀ es₀) × (regroup e₀ es₀ ≡ e)
unfolding judge expr_class list_class flatten regroup innermost block EndsBlock
document_regroup (symbol at s) c f = absurd (let z : ◌≡◌ {A = ℕ} 9 1 = c in omega arith)
document_regroup (quoted at s) c f = absurd (let z : ◌≡◌ {A = ℕ} 9 1 = c in omega arith)
document_regroup (list at none) c f = absurd (let z : ◌≡◌ {A = ℕ} 0 1 = c in omega arith)
document_regroup (list at (and e es)) c f =
    let b : T (Class.is_block (lead_class e)) = rw c (unfold Class.is_block in tt) in
    let h = inside_block 0 at e es b f in
    let w = start_within (lead_class e) b in
    let parts = parameters_first es at (lead_class e) b (start (lead_class e)) w h in
    let law = rw (c, join_none) at (content_law es at (lead_class e) b (start (lead_class e)) w h [] none tt) in
    (list at (and e (parameters es)), flatten_content es, rw (T_true (Class.is_block (lead_class e)) b), rw (law, in_command_lem, parts))

-- What is accepted is regrouped from what it flattens to.
pub regroup_flatten : (e : Expr) → judge_root e ≡ fine → (e₀ : Expr) × (es₀ : Exprs) × (flatten e ≡ and e₀ es₀) × (regroup e₀ es₀ ≡ e)
regroup_flatten e h = let (document, f) = root_document e h in document_regroup e document f
