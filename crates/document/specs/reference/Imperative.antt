-- The run of expressions for a nested one, and back: the nested expression that an imperative text stands for. They need not be believed: that the one is what `Flat` tells is proved in
-- `proofs/ImperativeRuns.antt`, and the other what `Takes` tells in `proofs/BlockContents.antt`. Document 01, "Imperative": each command takes what follows it, up to the next command that ends it;
-- what may not stand where it stands is put as an expression that is allowed nowhere, so that the nested meaning refuses it at its own place.
use Rattle.std.specs.Prelude.{ℕ, ◌≡◌, cond, List, [], ◌∷◌, map, leb}
use Rattle.elements.specs.rules.Class as Class
use Rattle.syntax.specs.rules.Expression.{Expr, symbol, quoted, list, Exprs, none, and}
use Rattle.document.specs.rules.Document.{Tree}
use Rattle.document.specs.rules.Spelling.{Spelling, nested, imperative, is_block_parameter, Writes, Flat, places_of, flat_places}
use Rattle.document.specs.rules.Lead.{lead_class, expr_class}
use Rattle.document.specs.rules.Command.{block, is_command, loose, join}

unfoldable pub parameters : Exprs → Exprs
parameters none = none
parameters (and e es) = cond (is_block_parameter (expr_class e)) (and e (parameters es)) (parameters es)

-- The run of expressions for a nested one. "Imperative, kinds 1 to 7 close before their content, which follows."
unfoldable mutual
  pub flatten : Expr → Exprs
  flatten (symbol at s) = and (symbol at s) none
  flatten (quoted at s) = and (quoted at s) none
  flatten (list at es) = flatten_list at es

  pub flatten_list : ℕ → Exprs → Exprs
  flatten_list at none = and (list at none) none
  flatten_list at (and e es) =
      cond (Class.is_block (lead_class e)) (and (list at (and e (parameters es))) (flatten_content es)) (and (list at (and e es)) none)

  pub flatten_content : Exprs → Exprs
  flatten_content none = none
  flatten_content (and e es) = cond (is_block_parameter (expr_class e)) (flatten_content es) (join (flatten e) (flatten_content es))

unfoldable pub spelled_as : Spelling → Expr → Exprs
spelled_as nested e = and e none
spelled_as imperative e = flatten e

-- A nested expression that writes the tree, flattens to the run, and has its nodes at the same places.
pub record NestedOf {t : Tree} {es rest : Exprs} (f : Flat t es rest) : Type 0 where
  pub expression : Expr
  pub writes : Writes t expression
  pub run : es ≡ join (flatten expression) rest
  pub same_places : places_of t expression writes ≡ flat_places f

-- "A command ends each open block of lesser or equal significance": those left, by their significance, the innermost first.
unfoldable pub still_open : ℕ → List ℕ → List ℕ
still_open s [] = []
still_open s (o ∷ os) = cond (leb o s) (still_open s os) (o ∷ os)

-- An expression is put in front of what the innermost block gets.
unfoldable pub at_innermost : Expr → List Exprs → List Exprs
at_innermost e [] = []
at_innermost e (es ∷ others) = and e es ∷ others

-- "then opens a child of the innermost block left": `contents` are those of the new block, of the innermost left, and so on outwards.
unfoldable pub child_of : Expr → List Exprs → List Exprs
child_of e [] = []
child_of e (inside ∷ others) = at_innermost (block e inside) others

unfoldable pub opened : ℕ → Expr → List Exprs → List ℕ → List Exprs
opened s e contents [] = []
opened s e contents (o ∷ os) = cond (leb o s) (none ∷ opened s e contents os) (child_of e contents)

-- What each open block gets of the expressions that follow, the innermost first.
unfoldable pub contents_of : List ℕ → Exprs → List Exprs
contents_of blocks none = map (λ o. none) blocks
contents_of blocks (and e es) =
    let s = Class.significance (expr_class e) in
    let command = opened s e (contents_of (s ∷ still_open s blocks) es) blocks in
    let content = at_innermost (loose e) (contents_of blocks es) in
    cond (is_command e) command content

unfoldable pub innermost : List Exprs → Exprs
innermost [] = none
innermost (es ∷ others) = es

-- The nested form of a text whose first expression is e: the document is open from there to the end.
unfoldable pub regroup : Expr → Exprs → Expr
regroup e es = block e (innermost (contents_of (Class.significance Class.document ∷ []) es))
