-- The steps through an element against the rules' relations: which expression is the next parameter, which is a child, and which is refused and why.
use Prim.Native.Nat.{ℕ}
use mathlib.Core.Path.{◌≡◌, refl, ◌∙◌}
use mathlib.Core.Bool.{Bool, true, false, cond, ◌||◌}
use mathlib.Core.Logic.{⊎_elim}
use mathlib.Core.List.Memᴰ
use mathlib.Core.List.{List, [], ◌∷◌, Memᴰ}
use lib.Dec.{T, eqb, eqb_refl, eqb→eq}
use borrow.Author.Tests.{eqb-true, eqb-false, ne_eqb}
use Rattle.base.proofs.Booleans.{cond_case, bool_case, or_true, or_left, true_T, T_true, not_T_false, false_not_T}
use Rattle.elements.specs.rules.Bytes.{among}
use Rattle.elements.specs.rules.Class as Class
use Rattle.elements.specs.rules.Rules.{Slot, must, may, id_type, Content, alternatives, exactly_one, alternatives_of, Rule, rules, rule_of}
use Rattle.elements.specs.rules.Inside.{State, expecting, holding, Step, go, bad, step, ended, none_required, may_be_empty, first_child_step, next_child_step, next_parameter, is_include, some_has, chosen}
use Rattle.elements.proofs.EachRow.{each_kind}
use Rattle.elements.proofs.Alternatives.{chosen_case, one_has, some_has_lem, apart, chosen_one}
use Rattle.document.specs.rules.Faults.{Next, NoneDue, Absent, Begun, due, children, ContentPlace, Allowed, Chooses, SameSort, Taken, NoneRequired, MayEnd}
use Rattle.document.proofs.RuleClasses.{chosen_allowed}

abbrev pub begun_of : State → Begun
begun_of (expecting ps) = due ps
begun_of (holding ks) = children ks

abbrev pub state_of : Begun → State
state_of (due ps) = expecting ps
state_of (children ks) = holding ks

-- Why an expression of class c is refused in an element of kind k that has begun so, and by which number.
pub data Refused (k c : ℕ) : Begun → ℕ → Type 0 where
  included : {b : Begun} → ContentPlace c b → T (is_include c) → Refused k c b 12
  not_allowed : {b : Begun} → ContentPlace c b → (T (is_include c) → ⊥) → (Allowed c (rule_of k).content b → ⊥) → Refused k c b 8
  other_sort : {b : Begun} → ContentPlace c b → (T (is_include c) → ⊥) → Allowed c (rule_of k).content b → (SameSort c b → ⊥) → Refused k c b 11
  absent : {ps : List Slot} → Absent ps c → Refused k c (due ps) 9

-- What a step says of the rules.
abbrev pub Stepped : ℕ → ℕ → Begun → Step → Type 0
Stepped k c b (go s) = Taken k c b (begun_of s)
Stepped k c b (bad n) = Refused k c b n

-- An expression is the next parameter, or a required one is absent, or it stands at a content place.
data Place (c : ℕ) (ps : List Slot) : Type 0 where
  parameter : (qs : List Slot) → Next ps c qs → Place c ps
  missing : Absent ps c → Place c ps
  content : NoneDue ps c → Place c ps

behind_may : {c n : ℕ} {ps : List Slot} → (c ≡ n → ⊥) → Place c ps → Place c (may n ∷ ps)
behind_may e (parameter qs r) = parameter qs (Next.passed_over e r)
behind_may e (missing r) = missing (Absent.passed_over e r)
behind_may e (content r) = content (NoneDue.passed_over e r)

behind_both : {c : ℕ} {ps : List Slot} → (c ≡ Class.id → ⊥) → (c ≡ Class.type → ⊥) → Place c ps → Place c (id_type ∷ ps)
behind_both e f (parameter qs r) = parameter qs (Next.both_passed_over e f r)
behind_both e f (missing r) = missing (Absent.both_passed_over e f r)
behind_both e f (content r) = content (NoneDue.both_passed_over e f r)

placed : (ps : List Slot) (c : ℕ) → Place c ps
placed [] c = content NoneDue.no_more
placed (must n ∷ ps) c =
    bool_case (eqb c n)
    (λ e. parameter ps (rw (eqb-true c n e) Next.required))
    (λ e. missing (Absent.here (eqb-false c n e)))
placed (may n ∷ ps) c =
    bool_case (eqb c n)
    (λ e. parameter ps (rw (eqb-true c n e) Next.optional))
    (λ e. behind_may (eqb-false c n e) (placed ps c))
placed (id_type ∷ ps) c =
    bool_case (eqb c Class.id)
    (λ e. parameter (may Class.type ∷ ps) (rw (eqb-true c Class.id e) Next.id_first))
    (λ e. bool_case (eqb c Class.type)
    (λ f. parameter (may Class.id ∷ ps) (rw (eqb-true c Class.type f) Next.type_first))
    (λ f. behind_both (eqb-false c Class.id e) (eqb-false c Class.type f) (placed ps c)))

-- The next parameter is taken, and leaves those that the rules leave.
next_go : {ps qs : List Slot} {c : ℕ} (t : Content) → Next ps c qs → next_parameter ps t c ≡ go (expecting qs)
unfolding next_parameter
next_go {c} t Next.required = rw (T_true (eqb c c) (eqb_refl c))
next_go {c} t Next.optional = rw (T_true (eqb c c) (eqb_refl c))
next_go t Next.id_first = refl
next_go t Next.type_first = refl
next_go t (Next.passed_over {c} {n} e r) = rw (ne_eqb c n e) (next_go t r)
next_go t (Next.both_passed_over {c} e f r) = rw (ne_eqb c Class.id e, ne_eqb c Class.type f) (next_go t r)

-- Where a required parameter is absent, the step answers 9.
absent_bad : {ps : List Slot} {c : ℕ} (t : Content) → Absent ps c → next_parameter ps t c ≡ bad 9
unfolding next_parameter
absent_bad t (Absent.here {c} {n} e) = rw (ne_eqb c n e)
absent_bad t (Absent.passed_over {c} {n} e r) = rw (ne_eqb c n e) (absent_bad t r)
absent_bad t (Absent.both_passed_over {c} e f r) = rw (ne_eqb c Class.id e, ne_eqb c Class.type f) (absent_bad t r)

-- Where none is due, the expression is the first child.
none_due_first : {ps : List Slot} {c : ℕ} (t : Content) → NoneDue ps c → next_parameter ps t c ≡ first_child_step t c
unfolding next_parameter
none_due_first t NoneDue.no_more = refl
none_due_first t (NoneDue.passed_over {c} {n} e r) = rw (ne_eqb c n e) (none_due_first t r)
none_due_first t (NoneDue.both_passed_over {c} e f r) = rw (ne_eqb c Class.id e, ne_eqb c Class.type f) (none_due_first t r)

-- No class is in two alternatives of a row.
abbrev row_apart : Rule → Bool
row_apart r = apart (alternatives_of r.content)

alternatives_apart : (k : ℕ) → T (apart (alternatives_of (rule_of k).content))
unfolding rules alternatives_of some_has among
alternatives_apart k = each_kind row_apart tt k tt

-- The alternative that a first child chooses is one of the content's, and has it.
chosen_is : {t : Content} {c : ℕ} {ks : List ℕ} → Chooses c t ks → Memᴰ ks (alternatives_of t) × T (among c ks)
unfolding alternatives_of among
chosen_is (Chooses.one_of m a) = (m, a)
chosen_is {c} Chooses.the_one = (Memᴰ.head refl, or_left (eqb c c) false (eqb_refl c))

is_chosen : (t : Content) (c : ℕ) {ks : List ℕ} → Memᴰ ks (alternatives_of t) → T (among c ks) → Chooses c t ks
unfolding alternatives_of among
is_chosen (alternatives kss) c m a = Chooses.one_of m a
is_chosen (exactly_one k) c {ks} m a =
    let only : ks ≡ k ∷ [] = Memᴰ.eq_of_singleton m in
    let same : c ≡ k = ⊎_elim (eqb→eq c k) (λ f. absurd f) (or_true (eqb c k) false (rw only at a)) in
    rw (only, ← same) Chooses.the_one

first_allowed : {t : Content} {c : ℕ} {ps : List Slot} → Allowed c t (due ps) → T (some_has (alternatives_of t) c)
unfolding alternatives_of some_has among
first_allowed {c} (Allowed.one_of m a) = some_has_lem c m a
first_allowed {c} Allowed.the_one = or_left (eqb c c || false) false (or_left (eqb c c) false (eqb_refl c))

-- The test of what may follow a first child.
abbrev may_follow : Content → ℕ → Bool
may_follow (alternatives kss) c = some_has kss c
may_follow (exactly_one k) c = false

allowed_test : {t : Content} {c : ℕ} {ks : List ℕ} → Allowed c t (children ks) → T (may_follow t c)
allowed_test {c} (Allowed.one_of m a) = some_has_lem c m a

test_allowed : (t : Content) (c : ℕ) {ks : List ℕ} → T (may_follow t c) → Allowed c t (children ks)
test_allowed (alternatives kss) c a = let (hs, m, h) = one_has c kss a in Allowed.one_of m h
test_allowed (exactly_one k) c a = absurd a

same_sort : {c : ℕ} {ks : List ℕ} → SameSort c (children ks) → T (among c ks)
same_sort (SameSort.as_first a) = a

-- At a content place three tests judge a child: 12, 8, then 11.
abbrev child_step : Content → Begun → ℕ → Step
child_step t (due ps) c = chosen (alternatives_of t) c
child_step t (children ks) c = cond (may_follow t c) (cond (among c ks) (go (holding ks)) (bad 11)) (bad 8)

abbrev content_step : Content → Begun → ℕ → Step
content_step t b c = cond (is_include c) (bad 12) (child_step t b c)

next_content : (t : Content) (ks : List ℕ) (c : ℕ) → next_child_step t ks c ≡ content_step t (children ks) c
unfolding next_child_step
next_content (alternatives kss) ks c = refl
next_content (exactly_one k) ks c = refl

content_step_lem : (k : ℕ) {c : ℕ} {b : Begun} → ContentPlace c b → step k (state_of b) c ≡ content_step (rule_of k).content b c
unfolding step first_child_step
content_step_lem k (ContentPlace.first d) = none_due_first (rule_of k).content d
content_step_lem k {c} (ContentPlace.further {ks}) = next_content (rule_of k).content ks c

child_stepped : (k : ℕ) {c : ℕ} {b : Begun} → ContentPlace c b → (T (is_include c) → ⊥) → Stepped k c b (child_step (rule_of k).content b c)
child_stepped k {c} (ContentPlace.first {ps} d) i =
    let t = (rule_of k).content in
    chosen_case c (Stepped k c (due ps)) (alternatives_of t)
    (λ ks m a. Taken.first_child d i (is_chosen t c m a))
    (λ n. Refused.not_allowed (ContentPlace.first d) i (λ h. false_not_T n (first_allowed h)))
child_stepped k {c} (ContentPlace.further {ks}) i =
    let t = (rule_of k).content in
    cond_case (Stepped k c (children ks)) (may_follow t c)
    (λ f. cond_case (Stepped k c (children ks)) (among c ks)
    (λ a. Taken.next_child i (test_allowed t c (true_T f)) (SameSort.as_first (true_T a)))
    (λ a. Refused.other_sort ContentPlace.further i (test_allowed t c (true_T f)) (λ h. false_not_T a (same_sort h))))
    (λ f. Refused.not_allowed ContentPlace.further i (λ h. false_not_T f (allowed_test h)))

content_stepped : (k : ℕ) {c : ℕ} {b : Begun} → ContentPlace c b → Stepped k c b (content_step (rule_of k).content b c)
content_stepped k {c} {b} p =
    cond_case (Stepped k c b) (is_include c) (λ i. Refused.included p (true_T i)) (λ i. child_stepped k p (false_not_T i))

-- What the step answers is what the rules say: the expression is taken, or refused for that reason.
pub stepped : (k : ℕ) (s : State) (c : ℕ) → Stepped k c (begun_of s) (step k s c)
unfolding step
stepped k (expecting ps) c = by_place (placed ps c)
  where
    by_place : Place c ps → Stepped k c (due ps) (next_parameter ps (rule_of k).content c)
    by_place (parameter qs r) = rw (next_go (rule_of k).content r) (Taken.parameter r)
    by_place (missing r) = rw (absent_bad (rule_of k).content r) (Refused.absent r)
    by_place (content r) = rw (content_step_lem k (ContentPlace.first r)) (content_stepped k (ContentPlace.first r))
stepped k (holding ks) c = rw (next_content (rule_of k).content ks c) (content_stepped k ContentPlace.further)

-- What may stand is taken.
pub taken_go : (k : ℕ) {c : ℕ} {b b' : Begun} → Taken k c b b' → step k (state_of b) c ≡ go (state_of b')
unfolding step
taken_go k (Taken.parameter r) = next_go (rule_of k).content r
taken_go k {c} (Taken.first_child d i h) =
    let (m, a) = chosen_is h in
    content_step_lem k (ContentPlace.first d) ∙ rw (not_T_false (is_include c) i) (chosen_one c (alternatives_apart k) m a)
taken_go k {c} (Taken.next_child {ks} i h s) =
    content_step_lem k ContentPlace.further
    ∙ rw (not_T_false (is_include c) i, T_true (may_follow (rule_of k).content c) (allowed_test h), T_true (among c ks) (same_sort s))

-- A child that the content does not allow has 8, and one of the other sort 11.
not_allowed_bad : (t : Content) {c : ℕ} {b : Begun} → ContentPlace c b → (Allowed c t b → ⊥) → child_step t b c ≡ bad 8
not_allowed_bad t {c} (ContentPlace.first {ps} d) a =
    chosen_case c (λ (s : Step). s ≡ bad 8) (alternatives_of t) (λ ks m h. absurd (a (chosen_allowed (is_chosen t c m h)))) (λ n. refl)
not_allowed_bad t {c} ContentPlace.further a = rw (not_T_false (may_follow t c) (λ f. a (test_allowed t c f)))

other_bad : (t : Content) {c : ℕ} {b : Begun} → ContentPlace c b → Allowed c t b → (SameSort c b → ⊥) → child_step t b c ≡ bad 11
other_bad t (ContentPlace.first d) a h = absurd (h SameSort.the_first)
other_bad t {c} (ContentPlace.further {ks}) a h =
    rw (T_true (may_follow t c) (allowed_test a), not_T_false (among c ks) (λ f. h (SameSort.as_first f)))

-- What may not stand is refused by the number of the reason.
pub refused_bad : (k : ℕ) {c n : ℕ} {b : Begun} → Refused k c b n → step k (state_of b) c ≡ bad n
unfolding step
refused_bad k {c} (Refused.included p i) = content_step_lem k p ∙ rw (T_true (is_include c) i)
refused_bad k {c} (Refused.not_allowed p i a) = content_step_lem k p ∙ rw (not_T_false (is_include c) i) (not_allowed_bad (rule_of k).content p a)
refused_bad k {c} (Refused.other_sort p i a h) = content_step_lem k p ∙ rw (not_T_false (is_include c) i) (other_bad (rule_of k).content p a h)
refused_bad k (Refused.absent r) = absent_bad (rule_of k).content r

required_none : (ps : List Slot) → T (none_required ps) → NoneRequired ps
unfolding none_required
required_none [] t = NoneRequired.no_more
required_none (must n ∷ ps) t = absurd t
required_none (may n ∷ ps) t = NoneRequired.optional (required_none ps t)
required_none (id_type ∷ ps) t = NoneRequired.both_optional (required_none ps t)

none_required_lem : {ps : List Slot} → NoneRequired ps → none_required ps ≡ true
unfolding none_required
none_required_lem NoneRequired.no_more = refl
none_required_lem (NoneRequired.optional r) = none_required_lem r
none_required_lem (NoneRequired.both_optional r) = none_required_lem r

empty_may : (k : ℕ) (t : Content) {ps : List Slot} → (rule_of k).content ≡ t → NoneRequired ps → may_be_empty t ≡ true → MayEnd k (due ps)
unfolding may_be_empty
empty_may k (alternatives kss) c r e = MayEnd.no_child r c
empty_may k (exactly_one n) c r e = absurd (true_T e)

-- An element that the test lets end may end.
pub ended_may : (k : ℕ) (b : Begun) → ended k (state_of b) ≡ true → MayEnd k b
unfolding ended
ended_may k (children ks) e = MayEnd.some_child
ended_may k (due ps) e =
    cond_case (λ (b : Bool). b ≡ true → MayEnd k (due ps)) (none_required ps)
    (λ r. empty_may k (rule_of k).content refl (required_none ps (true_T r)))
    (λ r f. absurd (true_T f))
    e

-- One that may end is let end by the test.
pub may_ended : (k : ℕ) (s : State) → MayEnd k (begun_of s) → ended k s ≡ true
unfolding ended may_be_empty
may_ended k (expecting ps) (MayEnd.no_child r e) = rw (none_required_lem r, e)
may_ended k (holding ks) MayEnd.some_child = refl
