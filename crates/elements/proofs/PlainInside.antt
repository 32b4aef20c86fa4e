-- The steps of `Inside` are those of the lines of `specs/examples/PlainInside.antt`, by computation: for every line and every class, and no line is missing.
use Prim.Native.Nat.{ℕ}
use mathlib.Core.Bool.{Bool, false, not, cond, ◌&&◌, ◌||◌}
use mathlib.Core.List.{List, [], ◌∷◌, ◌++◌}
use lib.Dec.{T, eqb}
use Rattle.base.proofs.Tables.{every, below, alike}
use Rattle.elements.specs.rules.Bytes.{same, among}
use Rattle.elements.specs.rules.Class.{significance}
use Rattle.elements.specs.rules.Rules.{alternatives_of, rules, rule_in, rule_of}
use Rattle.elements.specs.rules.Inside.{expecting, holding, Step, go, bad, step, start, ended, none_required, may_be_empty, next_parameter, next_child_step, first_child_step, allows, chosen, some_has, is_include}
use Rattle.elements.specs.examples.PlainInside.{LineEntry, entries, said}

-- The next step from where one leads.
abbrev then : ℕ → ℕ → Step → Step
then k c (go s) = step k s c
then k c (bad n) = bad n

-- Where the steps lead that take these classes.
abbrev all_then : ℕ → List ℕ → Step → Step
all_then k [] r = r
all_then k (c ∷ cs) r = all_then k cs (then k c r)

abbrev reached : LineEntry → Step
reached e =
    let r = all_then e.kind e.taken (go (start e.kind)) in
    cond (eqb e.first 0) r (then e.kind e.first r)

-- 0 where an expression is taken, or the number of its fault.
abbrev number : Step → ℕ
number (go s) = 0
number (bad n) = n

-- The line says of each class what the step gives, and of the end what `ended` gives. A line for what cannot be taken agrees with nothing.
abbrev agrees_at : LineEntry → Step → Bool
agrees_at e (go s) = below (λ c. eqb (number (step e.kind s c)) (said e c)) 32 && alike (ended e.kind s) e.ends
agrees_at e (bad n) = false

abbrev agrees : LineEntry → Bool
agrees e = agrees_at e (reached e)

pub lines_agree : T (every agrees entries)
unfolding entries said significance rules rule_in rule_of step start ended none_required may_be_empty next_parameter next_child_step first_child_step allows chosen some_has alternatives_of is_include
lines_agree = tt

-- Both lead to children of one sort, so that the same may follow.
abbrev one_sort : Step → Step → Bool
one_sort (go (holding s)) (go (holding t)) = same s t
one_sort (go (holding s)) (go (expecting ps)) = false
one_sort (go (holding s)) (bad n) = false
one_sort (go (expecting ps)) r = false
one_sort (bad n) r = false

abbrev some_line : (LineEntry → Bool) → Bool
some_line test = not (every (λ e. not (test e)) entries)

-- The line is for these parameters in an element of kind k, before its first child.
abbrev after : ℕ → List ℕ → LineEntry → Bool
after k cs e = eqb k e.kind && eqb e.first 0 && same cs e.taken

-- The line is for a first child of class c in an element of kind k, where r leads.
abbrev after_first : ℕ → ℕ → Step → LineEntry → Bool
after_first k c r e = eqb k e.kind && eqb c e.first && one_sort r (reached e)

-- Wherever the line's steps lead there is a line: after a parameter, after a first child, and after a further child, which changes nothing.
abbrev leads_at : LineEntry → Step → Bool
leads_at e (go s) =
    every (λ c. some_line (after e.kind (e.taken ++ (c ∷ [])))) e.parameters
    && every
    (λ c. let r = step e.kind s c in
    cond (eqb e.first 0) (some_line (after_first e.kind c r)) (one_sort r (go s)))
    e.children
leads_at e (bad n) = false

abbrev leads : LineEntry → Bool
leads e = leads_at e (reached e)

-- Each kind has a line for its beginning.
abbrev begins : ℕ → Bool
begins k = eqb k 0 || some_line (after k [])

pub lines_complete : T (below begins 26 && every leads entries)
unfolding entries same significance rules rule_in rule_of step start next_parameter next_child_step first_child_step allows chosen some_has alternatives_of is_include among
lines_complete = tt
