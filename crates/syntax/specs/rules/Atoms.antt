-- What holds of every symbol and quoted string of a text, and that each is one or more code points.
use Rattle.std.specs.Prelude.{ℕ, ◌≡◌, List, []}
use Rattle.utf8.specs.rules.Scalar.{IsUtf8}
use Rattle.syntax.specs.rules.Expression.{Expr, symbol, quoted, list, Exprs, none, and}

-- One or more code points, as UTF-8.
pub record IsText (s : List ℕ) : Type 0 where
  pub not_empty : s ≡ [] → ⊥
  pub is_utf8 : IsUtf8 s

-- The bytes of each symbol and of each quoted string, at any depth, are so.
unfoldable mutual
  pub AtomsOf : (P : List ℕ → Type 0) → Expr → Type 0
  AtomsOf P (symbol at s) = P s
  AtomsOf P (quoted at s) = P s
  AtomsOf P (list at es) = AllAtoms P es

  pub AllAtoms : (P : List ℕ → Type 0) → Exprs → Type 0
  AllAtoms P none = Unit {0}
  AllAtoms P (and e es) = AtomsOf P e × AllAtoms P es
