-- A list whose lead has a class is led by that class's own name.
use Prim.Native.Nat.{ℕ}
use mathlib.Core.Path.{◌≡◌, sym}
use Rattle.elements.proofs.Names.{named}
use Rattle.syntax.specs.rules.Expression.{Expr, symbol, quoted, list, Exprs, and}
use Rattle.document.specs.rules.Document.{Tree}
use Rattle.document.specs.rules.Spelling.{Writes, bracketed}
use Rattle.document.specs.rules.Lead.{lead_class}

-- What is written by brackets around the name of the lead's class is written by the list itself.
pub by_lead : (t : Tree) (at c : ℕ) (e : Expr) (es : Exprs) → lead_class e ≡ c → (c ≡ 0 → ⊥) → ((p : ℕ) → Writes t (bracketed at p c es))
    → Writes t (list at (and e es))
unfolding lead_class
by_lead t at c (symbol p s) es l h w = rw (named s c l h) at (w p)
by_lead t at c (quoted p s) es l h w = absurd (h (sym l))
by_lead t at c (list p fs) es l h w = absurd (h (sym l))
