-- What may stand inside an element, read from left to right as the classes of the expressions there.
-- Document 01, "Elements": "Parameters are taken in order: an expression is the next one if it is a list led by that name. What follows the last one taken is content."
use Rattle.std.specs.Prelude.{ℕ, Bool, true, false, cond, ◌||◌, List, [], ◌∷◌, eqb}
use Rattle.base.specs.rules.Numbers as Number
use Rattle.elements.specs.rules.Bytes.{among}
use Rattle.elements.specs.rules.Class as Class
use Rattle.elements.specs.rules.Rules.{Slot, must, may, id_type, Content, alternatives, exactly_one, alternatives_of, rule_of}

-- How far an element is read: these parameters may still come (with none left, the first child), or it holds children of this alternative of its row, the
-- first child's, and those that follow must be of it too.
pub data State : Type 0 where
  expecting : List Slot → State
  holding : List ℕ → State

-- An expression is taken, or has the fault of that number: 8, 9, 11 or 12.
pub data Step : Type 0 where
  go : State → Step
  bad : ℕ → Step

unfoldable pub is_include : ℕ → Bool
is_include c = eqb c Class.include || eqb c Class.import

unfoldable pub some_has : List (List ℕ) → ℕ → Bool
some_has [] c = false
some_has (ks ∷ kss) c = among c ks || some_has kss c

-- A child of class c may stand in this content: some alternative has it.
unfoldable pub allows : Content → ℕ → Bool
allows t c = some_has (alternatives_of t) c

-- The first alternative that has c is held from here on. If none has it, "8 expression not allowed as content here".
unfoldable pub chosen : List (List ℕ) → ℕ → Step
chosen [] c = bad Number.not_allowed
chosen (ks ∷ kss) c = cond (among c ks) (go (holding ks)) (chosen kss c)

-- The first child: 12, then 8.
unfoldable pub first_child_step : Content → ℕ → Step
first_child_step t c = cond (is_include c) (bad Number.include) (chosen (alternatives_of t) c)

-- A further child, with the alternative ks held: 12, then 8, then "11 child of the other sort than the first child". After the one text of a verbatim none follows.
unfoldable pub next_child_step : Content → List ℕ → ℕ → Step
next_child_step (alternatives kss) ks c =
    cond (is_include c) (bad Number.include) (cond (some_has kss c) (cond (among c ks) (go (holding ks)) (bad Number.other_sort)) (bad Number.not_allowed))
next_child_step (exactly_one k) ks c = cond (is_include c) (bad Number.include) (bad Number.not_allowed)

-- With these parameters still to come: the expression is the next one, or an optional one is passed over, or a required one is absent, which is 9.
unfoldable pub next_parameter : List Slot → Content → ℕ → Step
next_parameter [] t c = first_child_step t c
next_parameter (must n ∷ ps) t c = cond (eqb c n) (go (expecting ps)) (bad Number.absent)
next_parameter (may n ∷ ps) t c = cond (eqb c n) (go (expecting ps)) (next_parameter ps t c)
next_parameter (id_type ∷ ps) t c =
    cond (eqb c Class.id) (go (expecting (may Class.type ∷ ps)))
    (cond (eqb c Class.type) (go (expecting (may Class.id ∷ ps)))
    (next_parameter ps t c))

-- An expression of class c in an element of kind k.
unfoldable pub step : ℕ → State → ℕ → Step
step k (expecting ps) c = next_parameter ps (rule_of k).content c
step k (holding ks) c = next_child_step (rule_of k).content ks c

unfoldable pub start : ℕ → State
start k = expecting (rule_of k).parameters

unfoldable pub none_required : List Slot → Bool
none_required [] = true
none_required (must n ∷ ps) = false
none_required (may n ∷ ps) = none_required ps
none_required (id_type ∷ ps) = none_required ps

unfoldable pub may_be_empty : Content → Bool
may_be_empty (alternatives kss) = true
may_be_empty (exactly_one k) = false

-- The element may end here: else a required parameter is absent or a verbatim has no content, which is 9.
unfoldable pub ended : ℕ → State → Bool
ended k (expecting ps) = cond (none_required ps) (may_be_empty (rule_of k).content) false
ended k (holding ks) = true
