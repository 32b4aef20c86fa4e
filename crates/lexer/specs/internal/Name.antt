-- The names that lead lists, told by their first bytes.
use Rattle.std.specs.Prelude.{ℕ, ◌+◌, ◌/◌, ◌%◌, ◌≡◌, Bool, true, ◌&&◌, List, [], ◌∷◌, eqb, get_or}
use Rattle.lexer.specs.Token.{lead_class_at, lead_length}

-- These bytes stand at place i of a text.
unfoldable pub stands : List ℕ → ℕ → List ℕ → Bool
stands text i [] = true
stands text i (b ∷ w) = eqb (get_or text i 0) b && stands text (i + 1) w

-- A number that is not 0 is 32 times the length of the name that leads a list, whose bracket stands before the bytes s, and its class.
pub record NameTold (s : List ℕ) (r : ℕ) : Type 0 where
  pub class_is : (r ≡ 0 → ⊥) → r % 32 ≡ lead_class_at s
  pub length_is : (r ≡ 0 → ⊥) → r / 32 ≡ lead_length s
