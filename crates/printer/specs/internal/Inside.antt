-- The parts of an element's spelling: definitions that serve the contracts of private functions.
use Rattle.std.specs.Prelude.{ℕ, ◌≡◌, Bool, true, false, Option, None, Some, cond, eqb, List, [], ◌++◌}
use Rattle.elements.specs.rules.Class as Class
use Rattle.base.specs.rules.Limits.{missing}
use Rattle.document.specs.rules.Record as Word
use Rattle.document.specs.rules.Document.{size, Trees, empty, holds, Nodes, childless, child}
use Rattle.document.specs.rules.Canonical.{layout_all, value_before, size_before, key_class, inside_before}
use Rattle.table.specs.Stored.{word_at}

-- Trees inside an element, a space before each.
unfoldable pub trees_inside : Trees → List ℕ
trees_inside ts = inside_before ts []

unfoldable pub inside_all : Nodes → List ℕ
inside_all ns = trees_inside (layout_all ns)

unfoldable pub value_inside : ℕ → List ℕ → List ℕ
value_inside c s = trees_inside (value_before c s empty)

unfoldable pub size_inside : ℕ → ℕ → List ℕ
size_inside w h = trees_inside (size_before w h empty)

-- Width and height, where the width is not missing; and the same inside an element.
unfoldable pub size_of : ℕ → ℕ → Option (ℕ × ℕ)
size_of w h = cond (eqb w missing) None (Some (w, h))

unfoldable pub size_shown : Option (ℕ × ℕ) → List ℕ
size_shown None = []
size_shown (Some s) = trees_inside (holds (size s.0 s.1) empty)

-- The values of an element: "id before type", with an image's size between target and type.
unfoldable pub values_inside : ℕ → List ℕ → List ℕ → ℕ → ℕ → List ℕ
values_inside k key type w h = value_inside (key_class k) key ++ (size_inside w h ++ value_inside Class.type type)

-- The record of node i has no value: its key and its type have no bytes, and its width is missing.
pub record Valueless (words : List ℕ) (i : ℕ) : Type 0 where
  pub key : word_at words i Word.key_length ≡ 0
  pub type : word_at words i Word.type_length ≡ 0
  pub width : word_at words i Word.width ≡ missing

-- The children that are spelled before the values: the first where that is a title or a summary.
unfoldable pub children_first : Bool → Nodes → Nodes
children_first false ns = childless
children_first true childless = childless
children_first true (child n ns) = child n childless

unfoldable pub children_after : Bool → Nodes → Nodes
children_after false ns = ns
children_after true childless = childless
children_after true (child n ns) = ns
