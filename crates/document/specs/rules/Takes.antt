-- Which block an expression of an imperative text belongs to: what a block takes of the expressions that follow its command, and what it leaves. Document 01, "Imperative":
-- "A command ends each open block of lesser or equal significance, then opens a child of the innermost block left. Other expressions .. are content of the innermost open block".
-- That the stack of `regroup` finds the same blocks is proved in `proofs/BlockContents.antt`.
use Rattle.std.specs.Prelude.{ℕ, ◌≤◌, ◌<◌, ◌≡◌, true, false}
use Rattle.elements.specs.rules.Class as Class
use Rattle.syntax.specs.rules.Expression.{Expr, Exprs, none, and}
use Rattle.document.specs.rules.Lead.{expr_class}
use Rattle.document.specs.rules.Command.{is_command, loose, block}

-- A block of significance s takes `content` of the expressions es and leaves `rest`: it ends at the text's end or at a command of no lesser significance;
-- a command of lesser significance opens a block in it, and any other expression is content.
pub data Takes : ℕ → Exprs → Exprs → Exprs → Type 0 where
  at_end : {s : ℕ} → Takes s none none none
  at_command : {s : ℕ} {x : Expr} {es : Exprs} → is_command x ≡ true → s ≤ Class.significance (expr_class x) → Takes s (and x es) none (and x es)
  expression : {s : ℕ} {x : Expr} {es content rest : Exprs} → is_command x ≡ false → Takes s es content rest
      → Takes s (and x es) (and (loose x) content) rest
  a_block : {s : ℕ} {x : Expr} {es inside after content rest : Exprs} → is_command x ≡ true → Class.significance (expr_class x) < s
      → Takes (Class.significance (expr_class x)) es inside after → Takes s after content rest → Takes s (and x es) (and (block x inside) content) rest
