-- A block takes what `contents_of` gives it, and every run of expressions is taken in some way; so the nested form of an imperative text is what `regroup` makes of it.
use Prim.Native.Nat.{ℕ, zero, suc, ◌≤◌, ◌<◌}
use mathlib.Core.Path.{◌≡◌, refl}
use mathlib.Core.Bool.{Bool, true, false, not}
use mathlib.Core.List.{List, [], ◌∷◌}
use native.Mathlib.Omega.{arith}
use borrow.Author.Tests.{le-leb, lt-leb, leb-true, leb-false}
use lib.Dec.{eqb, leb}
use Rattle.base.proofs.Booleans.{cond_case, both, true_T, T_true, not-true}
use Rattle.elements.specs.rules.Class as Class
use Rattle.syntax.specs.rules.Expression.{Expr, Exprs, none, and}
use Rattle.document.specs.rules.Lead.{expr_class}
use Rattle.document.specs.reference.Imperative.{still_open, child_of, opened, at_innermost, contents_of, innermost, regroup}
use Rattle.document.specs.rules.Command.{is_command, loose, block}
use Rattle.document.specs.rules.Takes.{Takes, at_end, at_command, expression, a_block}

pub takes_contents : {s : ℕ} {es content rest : Exprs} (blocks : List ℕ) → Takes s es content rest
    → contents_of (s ∷ blocks) es ≡ content ∷ contents_of blocks rest
unfolding contents_of opened still_open child_of at_innermost
takes_contents blocks at_end = refl
takes_contents blocks (at_command {s = s} {x = x} c h) =
    let t = Class.significance (expr_class x) in
    let l : leb s t ≡ true = le-leb s t h in
    let o : still_open t (s ∷ blocks) ≡ still_open t blocks = rw l in
    cc
takes_contents blocks (expression {s = s} c t) = rw (c, takes_contents blocks t)
takes_contents blocks (a_block {s = s} {x = x} c h t u) =
    rw (c, lt-leb s (Class.significance (expr_class x)) h, takes_contents (s ∷ blocks) t, takes_contents blocks u)

-- How many expressions a run has.
unfoldable pub size_of : Exprs → ℕ
size_of none = 0
size_of (and x es) = suc (size_of es)

pub record ContentTaken (s : ℕ) (es : Exprs) : Type 0 where
  pub content : Exprs
  pub rest : Exprs
  pub takes : Takes s es content rest
  pub fewer : size_of rest ≤ size_of es

abbrev Shorter : ℕ → Type 0
Shorter n = (t : ℕ) (es : Exprs) → size_of es ≤ n → ContentTaken t es

nothing : (s : ℕ) (es : Exprs) → size_of es ≤ 0 → ContentTaken s es
unfolding size_of
nothing s none h = record { content = none; rest = none; takes = at_end; fewer = omega arith }
nothing s (and x es) h = absurd (omega arith)

more : (n s : ℕ) (es : Exprs) → size_of es ≤ suc n → Shorter n → ContentTaken s es
unfolding size_of
more n s none h next = record { content = none; rest = none; takes = at_end; fewer = omega arith }
more n s (and x es) h next = go (is_command x) refl (leb s (Class.significance (expr_class x))) refl
  where
    go : (b : Bool) → is_command x ≡ b → (d : Bool) → leb s (Class.significance (expr_class x)) ≡ d → ContentTaken s (and x es)
    go false c d e =
        let r = next s es (omega arith) in
        record { content = and (loose x) r.content; rest = r.rest; takes = expression c r.takes; fewer = omega (arith, r.fewer) }
    go true c true e =
        record { content = none; rest = and x es; takes = at_command c (leb-true s (Class.significance (expr_class x)) e); fewer = omega arith }
    go true c false e =
        let q = next (Class.significance (expr_class x)) es (omega arith) in
        let r = next s q.rest (omega (arith, q.fewer)) in
        record {
          content = and (block x q.content) r.content;
          rest = r.rest;
          takes = a_block c (leb-false s (Class.significance (expr_class x)) e) q.takes r.takes;
          fewer = omega (arith, q.fewer, r.fewer);
        }

taken_within : (n : ℕ) → Shorter n
taken_within zero s es h = nothing s es h
taken_within (suc n) s es h = more n s es h (taken_within n)

pub taken : (s : ℕ) (es : Exprs) → ContentTaken s es
taken s es = taken_within (size_of es) s es (omega arith)

-- A command is of lesser significance than the document.
command_lesser : (x : Expr) → is_command x ≡ true → Class.significance (expr_class x) < 4
unfolding is_command Class.significance
command_lesser x c =
    let other : eqb (expr_class x) Class.document ≡ false
    = not-true _ (T_true _ (both (Class.is_block (expr_class x)) (not (eqb (expr_class x) Class.document)) (true_T c)).1) in
    rw other
    (cond_case (λ (n : ℕ). n < 4) (eqb (expr_class x) Class.part) (λ _. omega arith)
    (λ _. cond_case (λ (n : ℕ). n < 4) (eqb (expr_class x) Class.section) (λ _. omega arith)
    (λ _. cond_case (λ (n : ℕ). n < 4) (eqb (expr_class x) Class.subsection) (λ _. omega arith) (λ _. omega arith))))

-- So the document's block takes all.
pub all_taken : {s : ℕ} {es content rest : Exprs} → 4 ≤ s → Takes s es content rest → rest ≡ none
all_taken h at_end = refl
all_taken h (at_command {x = x} c l) = absurd (omega (arith, command_lesser x c))
all_taken h (expression c t) = all_taken h t
all_taken h (a_block c l t u) = all_taken h u

pub document_takes : (es : Exprs) → (content : Exprs) × Takes (Class.significance Class.document) es content none
unfolding Class.significance
document_takes es =
    let t = taken (Class.significance Class.document) es in
    (t.content, rw (all_taken (omega arith) t.takes) at t.takes)

pub takes_regroup : {es content : Exprs} (e : Expr) → Takes (Class.significance Class.document) es content none → block e content ≡ regroup e es
unfolding regroup innermost
takes_regroup e t = rw (takes_contents [] t)
