-- Which classes the table of rules and the names of the language have: a parameter is led by a name, a child is an element or a text, and no name is a text's.
-- Each is one test that antt computes over the whole table.
use Prim.Native.Nat.{ℕ}
use mathlib.Core.Bool.{Bool, true, not, ◌&&◌, ◌||◌}
use mathlib.Core.List.{List, [], ◌∷◌}
use lib.Dec.{T, eqb}
use Rattle.base.proofs.Booleans.{cond_case, both}
use Rattle.base.proofs.Tables.{every, each}
use Rattle.elements.specs.rules.Bytes.{same}
use Rattle.elements.specs.rules.Class as Class
use Rattle.elements.specs.rules.Class.{Named, names, class_in, class_of}
use Rattle.elements.specs.rules.Rules.{Slot, must, may, id_type, Content, alternatives, exactly_one, Rule, rules, rule_of}
use Rattle.elements.proofs.Same.{each_among}
use Rattle.elements.proofs.EachRow.{each_kind}
use Rattle.syntax.specs.rules.Expression.{Expr, symbol, quoted, list}
use Rattle.document.specs.rules.Lead.{lead_class}
use Rattle.document.specs.rules.Faults.{Next, Begun, due, children, Allowed, Chooses, Taken}

-- The class may be that of a list led by a name.
abbrev pub leads : ℕ → Bool
leads c = not (eqb c 0) && not (eqb c Class.text)

abbrev pub all_lead : List Slot → Bool
all_lead [] = true
all_lead (must n ∷ ps) = leads n && all_lead ps
all_lead (may n ∷ ps) = leads n && all_lead ps
all_lead (id_type ∷ ps) = all_lead ps

-- The class may be a child's.
abbrev pub is_child : ℕ → Bool
is_child c = Class.is_element c || eqb c Class.text

abbrev all_children : Content → Bool
all_children (alternatives kss) = every (every is_child) kss
all_children (exactly_one k) = is_child k

abbrev sensible : Rule → Bool
sensible r = all_lead r.parameters && all_children r.content

all_sensible : T (every sensible rules)
unfolding rules Class.is_element Class.is_kind
all_sensible = tt

rule_of_lem : (k : ℕ) → T (all_lead (rule_of k).parameters) × T (all_children (rule_of k).content)
rule_of_lem k = both (all_lead (rule_of k).parameters) (all_children (rule_of k).content) (each_kind sensible all_sensible k tt)

-- Every parameter that may still come is led by a name.
abbrev pub Leading : Begun → Type 0
Leading (due ps) = T (all_lead ps)
Leading (children ks) = Unit {0}

pub start_leading : (k : ℕ) → Leading (due (rule_of k).parameters)
start_leading k = (rule_of_lem k).0

next_leading : {ps qs : List Slot} {c : ℕ} → Next ps c qs → T (all_lead ps) → T (leads c) × T (all_lead qs)
next_leading {c} (Next.required {ps}) t = both (leads c) (all_lead ps) t
next_leading {c} (Next.optional {ps}) t = both (leads c) (all_lead ps) t
next_leading Next.id_first t = (tt, t)
next_leading Next.type_first t = (tt, t)
next_leading (Next.passed_over {n} {ps} e r) t = next_leading r (both (leads n) (all_lead ps) t).1
next_leading (Next.both_passed_over e f r) t = next_leading r t

pub next_leads : {ps qs : List Slot} {c : ℕ} → Next ps c qs → T (all_lead ps) → T (leads c)
next_leads r t = (next_leading r t).0

pub taken_leading : {k c : ℕ} {b b' : Begun} → Taken k c b b' → Leading b → Leading b'
taken_leading (Taken.parameter r) t = (next_leading r t).1
taken_leading (Taken.first_child d i a) t = tt
taken_leading (Taken.next_child i a e) t = tt

allowed_in : {t : Content} {c : ℕ} {b : Begun} → Allowed c t b → T (all_children t) → T (is_child c)
allowed_in {c} (Allowed.one_of {ks = ks} m a) t = each_among is_child c ks a (each (every is_child) m t)
allowed_in Allowed.the_one t = t

-- What an element's content allows is an element or a text, and what its first child is.
pub allowed_child : (k : ℕ) {c : ℕ} {b : Begun} → Allowed c (rule_of k).content b → T (is_child c)
allowed_child k a = allowed_in a (rule_of_lem k).1

pub chosen_allowed : {t : Content} {c : ℕ} {ks : List ℕ} {ps : List Slot} → Chooses c t ks → Allowed c t (due ps)
chosen_allowed (Chooses.one_of m a) = Allowed.one_of m a
chosen_allowed Chooses.the_one = Allowed.the_one

pub chosen_child : (k : ℕ) {c : ℕ} {ks : List ℕ} → Chooses c (rule_of k).content ks → T (is_child c)
chosen_child k a = allowed_child k (chosen_allowed {ps = []} a)

-- No list is led by the class of a text.
abbrev pub no_text : ℕ → Bool
no_text c = not (eqb c Class.text)

class_in_lem : (ns : List Named) (s : List ℕ) → T (every (λ (n : Named). no_text n.class) ns) → T (no_text (class_in ns s))
unfolding class_in
class_in_lem [] s t = tt
class_in_lem (n ∷ ns) s t =
    let t' = both (no_text n.class) (every (λ (n : Named). no_text n.class) ns) t in
    cond_case (λ (c : ℕ). T (no_text c)) (same s n.spelled) (λ e. t'.0) (λ e. class_in_lem ns s t'.1)

pub lead_no_text : (e : Expr) → T (no_text (lead_class e))
unfolding lead_class class_of names
lead_no_text (symbol at s) = class_in_lem names s tt
lead_no_text (quoted at s) = tt
lead_no_text (list at es) = tt
