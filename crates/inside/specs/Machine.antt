-- The states of `Inside` as numbers, for code: the parameters still to come are those of the kind's row from a place on; after one of `id?/type?` the other may
-- come; and an element that holds children has `holds_from` and the first child's significance, which tells the alternatives of a row apart.
use Rattle.std.specs.Prelude.{ℕ, ◌+◌, ◌-◌, ◌≡◌, Bool, false, cond, ◌||◌, List, [], ◌∷◌, eqb, ltb, drop}
use Rattle.std.specs.Prelude.{Result, Ok, Err}
use Rattle.base.specs.declared.refusal.Refusal.{Refusal}
use Rattle.base.specs.Refusals.{number}
use Rattle.elements.specs.rules.Class as Class
use Rattle.elements.specs.rules.Rules.{Slot, must, may, id_type, alternatives_of, rule_of}
use Rattle.elements.specs.rules.Inside.{State, expecting, holding, Step, go, bad}

-- The rows have at most four parameters, so this is the place at which none has a parameter left.
abbrev pub most_parameters : ℕ
most_parameters = 4

-- The states after one of `id?/type?`.
abbrev pub after_id : ℕ
after_id = 5

abbrev pub after_type : ℕ
after_type = 6

-- The first of the states of an element that holds children.
abbrev pub holds_from : ℕ
holds_from = 7

-- A kind of this alternative has the significance n; then all its kinds have it (`one_significance` of `elements/proofs/Significance.antt`).
unfoldable pub has_significance : ℕ → List ℕ → Bool
has_significance n [] = false
has_significance n (k ∷ ks) = eqb (Class.significance k) n || has_significance n ks

-- The alternative whose kinds have the significance n; where there is none the empty one, to which nothing belongs.
unfoldable pub alternative_of : ℕ → List (List ℕ) → List ℕ
alternative_of n [] = []
alternative_of n (ks ∷ kss) = cond (has_significance n ks) ks (alternative_of n kss)

unfoldable pub state_of : ℕ → ℕ → State
state_of k n =
    cond (ltb n after_id) (expecting (drop n (rule_of k).parameters))
    (cond (eqb n after_id) (expecting (may Class.type ∷ []))
    (cond (eqb n after_type) (expecting (may Class.id ∷ []))
    (holding (alternative_of (n - holds_from) (alternatives_of (rule_of k).content)))))

-- A step of an element of kind k in numbers: fault 0 and the next state, or the fault's number.
unfoldable pub step_of : ℕ → ℕ → ℕ → Step
step_of k fault n = cond (eqb fault 0) (go (state_of k n)) (bad fault)

-- The number of the state that a first child of class c leads to.
unfoldable pub with_child : ℕ → ℕ
with_child c = holds_from + Class.significance c

-- The number of the state that an expression of class c leads to, with the parameters ps from the place i on still to come: the place after the parameter that it
-- is, or `after_id` or `after_type` if it is one of `id?/type?`, or the state of a first child.
unfoldable pub after_place : ℕ → List Slot → ℕ → ℕ
after_place i [] c = with_child c
after_place i (must n ∷ ps) c = i + 1
after_place i (may n ∷ ps) c = cond (eqb c n) (i + 1) (after_place (i + 1) ps c)
after_place i (id_type ∷ ps) c = cond (eqb c Class.id) after_id (cond (eqb c Class.type) after_type (after_place (i + 1) ps c))

-- With the parameter m alone still to come: the place at which no row has a parameter left, or the state of a first child.
unfoldable pub after_last : ℕ → ℕ → ℕ
after_last m c = cond (eqb c m) most_parameters (with_child c)

-- The number of the state that an expression of class c leads to in the state n of an element of kind k. One that holds children stays as it is.
unfoldable pub next_state : ℕ → ℕ → ℕ → ℕ
next_state k n c =
    cond (ltb n after_id) (after_place n (drop n (rule_of k).parameters) c)
    (cond (eqb n after_id) (after_last Class.type c)
    (cond (eqb n after_type) (after_last Class.id c) n))

unfoldable pub fault_of : Step → ℕ
fault_of (go s) = 0
fault_of (bad n) = n

-- The code answers a step by the next state or by a refusal: the two numbers of that answer.
abbrev pub fault_number : Result ℕ Refusal → ℕ
fault_number (Ok n) = 0
fault_number (Err f) = number f

abbrev pub state_number : Result ℕ Refusal → ℕ
state_number (Ok n) = n
state_number (Err f) = 0

-- The two numbers of a step s that leads to the state of number `next`: the fault, 0 for none, and the state, 0 under a fault. They stand for the step.
pub record InNumbers (k : ℕ) (s : Step) (next fault state : ℕ) : Type 0 where
  pub fault_is : fault ≡ fault_of s
  pub state_is : state ≡ cond (eqb fault 0) next 0
  pub stands : step_of k fault state ≡ s
