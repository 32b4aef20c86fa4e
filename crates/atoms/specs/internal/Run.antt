-- Runs of the bytes of a string.
use Rattle.std.specs.Prelude.{ℕ, cond, List, [], ◌∷◌}
use Rattle.syntax.specs.rules.Byte.{is_raw}

-- The bytes at the front that stand for themselves in a string: those before the first quote or backslash.
unfoldable pub plain_run : List ℕ → List ℕ
plain_run [] = []
plain_run (b ∷ s) = cond (is_raw b) (b ∷ plain_run s) []
