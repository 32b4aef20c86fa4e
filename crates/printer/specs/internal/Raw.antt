-- Bytes of a string that stand for themselves: definitions that serve the contracts of private functions.
use Rattle.std.specs.Prelude.{ℕ, ◌-◌, ◌≤◌, ◌≡◌, List, [], length, take, drop}
use Rattle.document.specs.rules.Canonical.{bytes_before}

-- A string's bytes are written as they are.
unfoldable pub Raw : List ℕ → Type 0
Raw s = bytes_before s [] ≡ s

-- Those from one index to another are.
pub record RawTo (s : List ℕ) (from to : ℕ) : Type 0 where
  pub in_order : from ≤ to
  pub within : to ≤ length s
  pub raw : Raw (take (to - from) (drop from s))
