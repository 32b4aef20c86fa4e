-- The line of a fault: of a text that is read, that of a refusal at the place of its node.
use Prim.Native.Nat.{ℕ, ◌≤◌, ◌<◌}
use mathlib.Core.Path.{◌≡◌}
use mathlib.Core.List.{List}
use borrow.Author.Tests.{lt-ltb, le-ltb}
use lib.ListN.{length, get_or}
use Rattle.utf8.specs.rules.Position.{line_of, column_of}
use Rattle.listing.specs.Listing.{longest_text, too_long, refused_line, fault_line}

module _ (text places : List ℕ) (number node : ℕ) where
  pub fault_too_long : longest_text < length text → fault_line text places number node ≡ too_long
  unfolding fault_line
  fault_too_long h = rw (lt-ltb longest_text (length text) h)

  pub fault_refused : length text ≤ longest_text
      → fault_line text places number node ≡ refused_line number (line_of text (get_or places node 0)) (column_of text (get_or places node 0))
  unfolding fault_line
  fault_refused h = rw (le-ltb longest_text (length text) h)
