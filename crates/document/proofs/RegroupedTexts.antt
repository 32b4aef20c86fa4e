-- Regrouping an imperative text brings nothing into it: where all its symbols and strings are texts, so are those of its nested form.
use Prim.Native.Nat.{ℕ}
use native.Mathlib.Omega.{arith}
use Rattle.syntax.specs.rules.Expression.{Expr, Exprs, and}
use Rattle.syntax.specs.rules.Atoms.{AtomsOf}
use Rattle.document.specs.reference.Imperative.{regroup}
use Rattle.document.specs.rules.Command.{as_not_allowed}
use Rattle.document.proofs.NestedMeaning.{AllText, AllTexts}
use Rattle.document.proofs.RegroupedAll.{Laws, regrouped_all}

laws : Laws (λ (n : ℕ) (e : Expr). AllText e) (λ (n : ℕ) (es : Exprs). AllTexts es)
unfolding AtomsOf as_not_allowed
laws =
    record {
      nothing = tt;
      put = λ m n e es t u. (t, u);
      apart = λ n e es t. (0, n, omega arith, t.0, t.1);
      wider = λ m n e h t. t;
      all_wider = λ m n es h t. t;
      not_allowed = λ n e t. tt;
      relist = λ n at es t. (0, t, λ m fs u. u);
    }

pub regrouped_text : (e : Expr) (es : Exprs) → AllTexts (and e es) → AllText (regroup e es)
regrouped_text e es t = regrouped_all (λ (n : ℕ) (e : Expr). AllText e) (λ (n : ℕ) (es : Exprs). AllTexts es) laws 0 e es t
