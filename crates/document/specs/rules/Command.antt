-- Commands of the imperative spelling, and the expressions that stand for a block and for what stands loose in one. Document 01, "Imperative".
use Rattle.std.specs.Prelude.{Bool, not, cond, ◌&&◌, ◌||◌, eqb}
use Rattle.elements.specs.rules.Class as Class
use Rattle.syntax.specs.rules.Expression.{Expr, symbol, quoted, list, Exprs, none, and, place}
use Rattle.document.specs.rules.Spelling.{is_block_parameter}
use Rattle.document.specs.rules.Lead.{expr_class}

unfoldable pub is_command : Expr → Bool
is_command e = Class.is_block (expr_class e) && not (eqb (expr_class e) Class.document)

-- The empty list is allowed nowhere.
unfoldable pub as_not_allowed : Expr → Expr
as_not_allowed e = list (place e) none

-- "Other expressions, a loose `[id x]` too, are content of the innermost open block and never parameters", and "a second document command" is 8.
unfoldable pub loose : Expr → Expr
loose e = cond (is_block_parameter (expr_class e) || eqb (expr_class e) Class.document) (as_not_allowed e) e

-- A command "holds its parameters only; anything more in it is 8 there, include and import too".
unfoldable pub in_command : Exprs → Exprs
in_command none = none
in_command (and e es) = and (cond (is_block_parameter (expr_class e)) e (as_not_allowed e)) (in_command es)

unfoldable pub join : Exprs → Exprs → Exprs
join none fs = fs
join (and e es) fs = and e (join es fs)

-- The nested form of a command whose block holds `content`.
unfoldable pub block : Expr → Exprs → Expr
block (symbol at s) content = symbol at s
block (quoted at s) content = quoted at s
block (list at none) content = list at none
block (list at (and e es)) content = list at (and e (join (in_command es) content))
