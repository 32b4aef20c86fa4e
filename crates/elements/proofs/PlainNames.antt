-- The names and numbers of `Class` agree with the plain text of `specs/examples/PlainNames.antt`, by computation.
use Prim.Native.Nat.{ℕ}
use mathlib.Core.Path.{◌≡◌, refl}
use mathlib.Core.Bool.{Bool, cond}
use mathlib.Core.List.{List, [], ◌∷◌, ◌++◌, map}
use lib.Dec.{T, eqb}
use lib.ListN.{get_or, take, replicate}
use Rattle.base.proofs.Tables.{every, below}
use Rattle.elements.specs.rules.Bytes.{same}
use Rattle.elements.specs.rules.Class.{names, class_in, class_of, is_kind, is_element, kind_of, is_block, significance}
use Rattle.elements.specs.examples.PlainNames.{in_order, classes, misspelled, beginnings, endings, beginning, ending, marked, marked_by}

-- Each name has its number.
pub names_in_order : map class_of in_order ≡ classes
unfolding in_order classes same names class_in class_of
names_in_order = refl

-- The kinds that they lead: those of parameters, include and import lead none.
pub kinds_in_order : map kind_of in_order ≡ take 25 classes ++ replicate 6 0
unfolding in_order classes same names class_in class_of is_kind kind_of
kinds_in_order = refl

abbrev no_name : List ℕ → Bool
no_name w = eqb (class_of w) 0

abbrev exact : List ℕ → Bool
exact w = every no_name (misspelled w)

-- No name has a character more or less, or a capital.
pub names_exact : T (every exact in_order)
unfolding in_order misspelled same names class_in class_of
names_exact = tt

-- The classes of these words that are not 0.
abbrev named : List (List ℕ) → List ℕ
named [] = []
named (w ∷ ws) = let others = named ws in cond (no_name w) others (class_of w ∷ others)

abbrev all_named : (List ℕ → List (List ℕ)) → List (List ℕ) → List ℕ
all_named f [] = []
all_named f (w ∷ ws) = named (f w) ++ all_named f ws

-- A name is read as the shorter one that it begins or ends with only where that is all that stands there.
pub names_begin : all_named beginnings in_order ≡ beginning
unfolding in_order beginnings beginning same names class_in class_of
names_begin = refl

pub names_end : all_named endings in_order ≡ ending
unfolding in_order endings ending same names class_in class_of
names_end = refl

-- Each number has its marks.
abbrev as_marked : ℕ → Bool
as_marked n = same (map (λ (f : ℕ → ℕ). f n) marked_by) (map (λ (marks : List ℕ). get_or marks n 0) marked)

pub numbers_marked : T (below as_marked 33)
unfolding same marked marked_by significance is_kind is_element is_block
numbers_marked = tt
