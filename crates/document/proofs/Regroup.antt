-- Flattening what regrouping made gives back the expressions that were regrouped, if the nested meaning accepts it.
use Prim.Native.Nat.{ℕ, suc, ◌≤◌, ◌<◌}
use mathlib.Core.Path.{◌≡◌, refl, sym, ap, ◌∙◌}
use mathlib.Core.Bool.{true, false, not, ◌||◌}
use mathlib.Core.List.{List, [], ◌∷◌, map}
use native.Mathlib.Omega.{arith}
use lib.Dec.{T, eqb, leb, lit<}
use lib.ListN.{length}
use borrow.Author.Tests.{leb-true, ne_eqb}
use Rattle.base.proofs.Booleans.{cond_case, bool_case, both, and_true, or_false, true_T, T_true, not-true}
use Rattle.elements.specs.rules.Bytes.{among}
use Rattle.elements.specs.rules.Class as Class
use Rattle.elements.specs.rules.Inside.{State, start}
use Rattle.syntax.specs.rules.Expression.{Expr, symbol, quoted, list, Exprs, none, and}
use Rattle.document.specs.rules.Spelling.{is_block_parameter}
use Rattle.document.specs.reference.Imperative.{parameters, flatten, flatten_content, still_open, child_of, opened, at_innermost, contents_of, innermost, regroup}
use Rattle.document.specs.rules.Command.{join, as_not_allowed, in_command, loose, is_command, block}
use Rattle.document.specs.rules.Lead.{lead_class, list_class, expr_class}
use Rattle.document.specs.reference.Meaning.{fine, judge, judge_list, judge_root}
use Rattle.document.proofs.NestedMeaning.{not_fine}
use Rattle.document.proofs.BlockExpressions.{join_none, join_join, EndsFine, read_on, inside_block, root_document, block_no_parameter, parameters_child, flatten_child, flatten_leaf}

-- No empty list stands in a block, at any depth: what may not stand there is put as one.
mutual
  NoneEmpty : Expr → Type 0
  NoneEmpty (symbol at s) = Unit {0}
  NoneEmpty (quoted at s) = Unit {0}
  NoneEmpty (list at es) = NoneEmptyList es

  NoneEmptyList : Exprs → Type 0
  NoneEmptyList none = ⊥
  NoneEmptyList (and e es) = T (Class.is_block (lead_class e)) → NoneEmptyAll es

  NoneEmptyAll : Exprs → Type 0
  NoneEmptyAll none = Unit {0}
  NoneEmptyAll (and e es) = NoneEmpty e × NoneEmptyAll es

-- What is fine is kept.
mutual
  unfolding judge NoneEmpty

  kept : (e : Expr) (k : ℕ) → judge k e ≡ fine → NoneEmpty e
  kept (symbol at s) k h = tt
  kept (quoted at s) k h = tt
  kept (list at es) k h = kept_list es k at h

  kept_list : (es : Exprs) (k at : ℕ) → judge_list k at es ≡ fine → NoneEmptyList es
  kept_list none k at h = not_fine 8 at h
  kept_list (and e es) k at h = λ b. kept_all es at (lead_class e) (start (lead_class e)) (inside_block k at e es b h)

  kept_all : (es : Exprs) (at k : ℕ) (s : State) → EndsFine at k s es → NoneEmptyAll es
  kept_all none at k s h = tt
  kept_all (and e es) at k s h =
      let (s', _, f, r) = read_on at k s e es h in
      (kept e k f, kept_all es at k s' r)

-- From a block that is kept its command's parameters and its content are told apart again.
command_kept : (ps inside : Exprs) → NoneEmptyAll (join (in_command ps) inside) → parameters inside ≡ none
    → (parameters (join (in_command ps) inside) ≡ ps) × (flatten_content (join (in_command ps) inside) ≡ flatten_content inside) × NoneEmptyAll inside
unfolding join in_command parameters flatten NoneEmpty as_not_allowed
command_kept none inside h bare = (bare, refl, h)
command_kept (and p ps) inside h bare =
    let es = join (in_command ps) inside in
    cond_case
    (λ (x : Expr). NoneEmptyAll (and x es)
    → (parameters (and x es) ≡ and p ps) × (flatten_content (and x es) ≡ flatten_content inside) × NoneEmptyAll inside)
    (is_block_parameter (expr_class p))
    (λ e (_, k). let (ps-same, inside-same, k') = command_kept ps inside k bare in (rw (e, ps-same), rw (e, inside-same), k'))
    (λ e (k, _). absurd k)
    h

pub block_class : (e : Expr) (inside : Exprs) → expr_class (block e inside) ≡ expr_class e
unfolding expr_class list_class block
block_class (symbol at s) inside = refl
block_class (quoted at s) inside = refl
block_class (list at none) inside = refl
block_class (list at (and e es)) inside = refl

-- Flattening a block gives its command, and its content after it.
block_flatten : (e : Expr) (inside : Exprs) → T (Class.is_block (expr_class e)) → NoneEmpty (block e inside) → parameters inside ≡ none
    → (flatten (block e inside) ≡ and e (flatten_content inside)) × NoneEmptyAll inside
unfolding flatten NoneEmpty block expr_class list_class Class.is_block
block_flatten (symbol at s) inside b k bare = absurd b
block_flatten (quoted at s) inside b k bare = absurd b
block_flatten (list at none) inside b k bare = absurd b
block_flatten (list at (and e ps)) inside b k bare =
    let (ps-same, inside-same, k') = command_kept ps inside (k b) bare in
    (rw (T_true (Class.is_block (lead_class e)) b, ps-same, inside-same), k')

command_block : (e : Expr) → is_command e ≡ true → T (Class.is_block (expr_class e)) × (eqb (expr_class e) Class.document ≡ false)
unfolding is_command
command_block e c =
    let (b, d) = both (Class.is_block (expr_class e)) (not (eqb (expr_class e) Class.document)) (true_T c) in
    (b, not-true _ (T_true _ d))

below_document : (c : ℕ) → eqb c Class.document ≡ false → Class.significance c < 4
unfolding Class.significance
below_document c d =
    rw d
    (cond_case (λ (n : ℕ). n < 4) (eqb c Class.part) (λ _. lit< tt)
    (λ _. cond_case (λ (n : ℕ). n < 4) (eqb c Class.section) (λ _. lit< tt)
    (λ _. cond_case (λ (n : ℕ). n < 4) (eqb c Class.subsection) (λ _. lit< tt) (λ _. lit< tt))))

loose_bare : (e : Expr) → is_block_parameter (expr_class (loose e)) ≡ false
unfolding loose as_not_allowed expr_class list_class
loose_bare e =
    let p = is_block_parameter (expr_class e) in
    cond_case (λ (x : Expr). is_block_parameter (expr_class x) ≡ false) (p || eqb (expr_class e) Class.document)
    (λ _. unfold is_block_parameter in refl)
    (λ o. (or_false p _ o).0)

-- A loose expression that is kept is itself, and no document.
loose_kept : (e : Expr) → NoneEmpty (loose e) → (loose e ≡ e) × (eqb (expr_class e) Class.document ≡ false)
unfolding loose as_not_allowed NoneEmpty
loose_kept e =
    let p = is_block_parameter (expr_class e) in
    cond_case (λ (x : Expr). NoneEmpty x → (x ≡ e) × (eqb (expr_class e) Class.document ≡ false)) (p || eqb (expr_class e) Class.document)
    (λ _ k. absurd k)
    (λ o k. (refl, (or_false p _ o).1))

-- The contents of every open block: each is kept, none holds a parameter, and all of them flattened one after another.
NoneEmptyIn : List Exprs → Type 0
NoneEmptyIn [] = Unit {0}
NoneEmptyIn (c ∷ cs) = NoneEmptyAll c × NoneEmptyIn cs

NoParameters : List Exprs → Type 0
NoParameters [] = Unit {0}
NoParameters (c ∷ cs) = (parameters c ≡ none) × NoParameters cs

flat : List Exprs → Exprs
flat [] = none
flat (c ∷ cs) = join (flatten_content c) (flat cs)

-- The contents `cs` of n open blocks: none holds a parameter, and where nothing was refused they are the expressions `es`, one after another.
record Regrouped (n : ℕ) (es : Exprs) (cs : List Exprs) : Type 0 where
  many : length cs ≡ n
  bare : NoParameters cs
  same : NoneEmptyIn cs → flat cs ≡ es

regrouped_more : {n : ℕ} {es : Exprs} {cs : List Exprs} → Regrouped n es cs → Regrouped (suc n) es (none ∷ cs)
unfolding NoneEmptyIn NoParameters flat parameters join flatten
regrouped_more r = record { many = ap suc r.many; bare = (refl, r.bare); same = λ k. r.same k.1 }

-- At the end nothing is left to be content.
regrouped_none : (blocks : List ℕ) → Regrouped (length blocks) none (map (λ o. none) blocks)
unfolding NoParameters flat
regrouped_none [] = record { many = refl; bare = tt; same = λ k. refl }
regrouped_none (o ∷ os) = regrouped_more (regrouped_none os)

-- An expression that is no command is the first of the innermost content.
regrouped_content : (e : Expr) (es : Exprs) (n : ℕ) (cs : List Exprs) → is_command e ≡ false
    → Regrouped (suc n) es cs → Regrouped (suc n) (and e es) (at_innermost (loose e) cs)
unfolding at_innermost NoneEmptyIn NoParameters flat NoneEmpty is_command join
regrouped_content e es n [] command r = absurd (let z : 0 ≡ suc n = r.many in omega arith)
regrouped_content e es n (c ∷ cs) command r = record {
  many = r.many;
  bare = (parameters_child (loose e) c (loose_bare e) ∙ r.bare.0, r.bare.1);
  same = λ k.
      let (self, no_document) = loose_kept e k.0.0 in
      let leaf : Class.is_block (expr_class e) ≡ false = sym (and_true _) ∙ (rw no_document at command) in
      rw (flatten_child (loose e) c (loose_bare e), self, flatten_leaf e leaf) (ap (and e) (r.same (k.0.1, k.1)));
}

-- A command is the first of its parent's content, with the new block's content inside.
regrouped_child : (e : Expr) (es : Exprs) (n : ℕ) (cs : List Exprs) → is_command e ≡ true
    → Regrouped (suc (suc n)) es cs → Regrouped (suc n) (and e es) (child_of e cs)
unfolding child_of at_innermost NoneEmptyIn NoParameters flat NoneEmpty join
regrouped_child e es n [] command r = absurd (let z : 0 ≡ suc (suc n) = r.many in omega arith)
regrouped_child e es n (c ∷ []) command r = absurd (let z : 1 ≡ suc (suc n) = r.many in omega arith)
regrouped_child e es n (c ∷ (d ∷ cs)) command r =
    let (b, _) = command_block e command in
    let no_parameter : is_block_parameter (expr_class (block e c)) ≡ false = rw block_class (block_no_parameter (expr_class e) b) in
    record {
      many = (let z : suc (suc (length cs)) ≡ suc (suc n) = r.many in omega arith);
      bare = (parameters_child (block e c) d no_parameter ∙ r.bare.1.0, r.bare.1.1);
      same = λ k.
          let (command_first, k') = block_flatten e c b k.0.0 r.bare.0 in
          rw (flatten_child (block e c) d no_parameter, command_first, join_join) (ap (and e) (r.same (k', (k.0.1, k.1))));
    }

-- The blocks that it ends get nothing more.
regrouped_opened : (e : Expr) (es : Exprs) (s : ℕ) (blocks : List ℕ) (cs : List Exprs) → is_command e ≡ true → s < 4 → T (among 4 blocks)
    → Regrouped (suc (length (still_open s blocks))) es cs → Regrouped (length blocks) (and e es) (opened s e cs blocks)
unfolding opened still_open among
regrouped_opened e es s [] cs command l h r = absurd h
regrouped_opened e es s (o ∷ os) cs command l h r =
    bool_case (leb o s)
    (λ q. let le : o ≤ s = leb-true o s q in
    rw q (regrouped_more (regrouped_opened e es s os cs command l (rw (ne_eqb 4 o (λ z. omega arith)) at h) (rw q at r))))
    (λ q. rw q (regrouped_child e es (length os) cs command (rw q at r)))

-- The document stays open.
document_open : (s : ℕ) (blocks : List ℕ) → s < 4 → T (among 4 blocks) → T (among 4 (still_open s blocks))
unfolding still_open among
document_open s [] l h = h
document_open s (o ∷ os) l h =
    bool_case (leb o s)
    (λ q. let le : o ≤ s = leb-true o s q in rw q (document_open s os l (rw (ne_eqb 4 o (λ z. omega arith)) at h)))
    (λ q. rw q h)

-- The contents that the open blocks get are the expressions that follow, where a document is open.
regrouped : (es : Exprs) (blocks : List ℕ) → T (among 4 blocks) → Regrouped (length blocks) es (contents_of blocks es)
unfolding contents_of among
regrouped none blocks h = regrouped_none blocks
regrouped (and e es) [] h = absurd h
regrouped (and e es) (o ∷ os) h =
    let s = Class.significance (expr_class e) in
    cond_case (Regrouped (suc (length os)) (and e es)) (is_command e)
    (λ c.
    let l : s < 4 = below_document (expr_class e) (command_block e c).1 in
    regrouped_opened e es s (o ∷ os) _ c l h
    (regrouped es (s ∷ still_open s (o ∷ os)) (rw (ne_eqb 4 s (λ z. omega arith)) (document_open s (o ∷ os) l h))))
    (λ c. regrouped_content e es (length os) _ c (regrouped es (o ∷ os) h))

regroup_kept : (e : Expr) (es : Exprs) (cs : List Exprs) → T (Class.is_block (expr_class e)) → Regrouped 1 es cs → NoneEmpty (block e (innermost cs))
    → flatten (block e (innermost cs)) ≡ and e es
unfolding innermost NoneEmptyIn NoParameters flat
regroup_kept e es [] b r k = absurd (let z : 0 ≡ 1 = r.many in omega arith)
regroup_kept e es (c ∷ []) b r k =
    let (command_first, k') = block_flatten e c b k r.bare.0 in
    command_first ∙ ap (and e) (sym (join_none _) ∙ r.same (k', tt))
regroup_kept e es (c ∷ (d ∷ cs)) b r k = absurd (let z : suc (suc (length cs)) ≡ 1 = r.many in omega arith)

-- What is accepted after regrouping flattens to the expressions that were regrouped.
pub flatten_regroup : (e : Expr) (es : Exprs) → judge_root (regroup e es) ≡ fine → flatten (regroup e es) ≡ and e es
unfolding regroup Class.significance among
flatten_regroup e es h =
    let (root, f) = root_document (regroup e es) h in
    let document : expr_class e ≡ Class.document = sym (block_class e _) ∙ root in
    regroup_kept e es (contents_of (4 ∷ []) es) (rw document (unfold Class.is_block in tt)) (regrouped es (4 ∷ []) tt) (kept (regroup e es) 0 f)
