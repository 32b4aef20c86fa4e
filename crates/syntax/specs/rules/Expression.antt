-- Expressions with the place of each: what is left of the concrete syntax without white space and escapes.
use Rattle.std.specs.Prelude.{ℕ, suc, ◌+◌, max, List, [], ◌∷◌, length}
use Rattle.syntax.specs.rules.Syntax.{Leaf, space, line_end, word, string, leaf_before, Forest, end, leaf, brackets, bytes_of, pieces_value}

mutual
  pub data Expr : Type 0 where
    symbol quoted : ℕ → List ℕ → Expr
    list : ℕ → Exprs → Expr

  pub data Exprs : Type 0 where
    none : Exprs
    and : Expr → Exprs → Exprs

unfoldable pub place : Expr → ℕ
place (symbol at s) = at
place (quoted at s) = at
place (list at es) = at

-- The expressions of a leaf at place n, in front of those that follow.
unfoldable pub locate_leaf : ℕ → Leaf → Exprs → Exprs
locate_leaf n (space b) es = es
locate_leaf n line_end es = es
locate_leaf n (word b bs) es = and (symbol n (b ∷ bs)) es
locate_leaf n (string p ps) es = and (quoted n (pieces_value (p ∷ ps))) es

-- The expressions of a run whose first byte is at place n.
unfoldable pub locate : ℕ → Forest → Exprs
locate n end = none
locate n (leaf l f) = locate_leaf n l (locate (n + length (leaf_before l [])) f)
locate n (brackets b inside f) =
    and (list n (locate (n + 1) inside)) (locate (n + (1 + length (bytes_of inside) + 1)) f)

-- How deep lists nest.
unfoldable mutual
  pub depth : Expr → ℕ
  depth (symbol at s) = 0
  depth (quoted at s) = 0
  depth (list at es) = suc (depth_all es)

  pub depth_all : Exprs → ℕ
  depth_all none = 0
  depth_all (and e es) = max (depth e) (depth_all es)
