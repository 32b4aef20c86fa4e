-- What leads an expression. Document 01, "Elements": "every other kind is a list led by the symbol of its name".
use Rattle.std.specs.Prelude.{ℕ}
use Rattle.elements.specs.rules.Class as Class
use Rattle.syntax.specs.rules.Expression.{Expr, symbol, quoted, list, Exprs, none, and}

-- The class of an expression: a text's, or that of the name that leads a list; 0 for any other list. "a list led by the symbol of its name".
unfoldable pub lead_class : Expr → ℕ
lead_class (symbol at s) = Class.class_of s
lead_class (quoted at s) = 0
lead_class (list at es) = 0

unfoldable pub list_class : Exprs → ℕ
list_class none = 0
list_class (and e es) = lead_class e

unfoldable pub expr_class : Expr → ℕ
expr_class (symbol at s) = Class.text
expr_class (quoted at s) = Class.text
expr_class (list at es) = list_class es
