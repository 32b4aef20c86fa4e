-- One turn of a walk: what follows from what is seen at a place.
use Prim.Native.Nat.{ℕ, zero, suc, ◌+◌, ◌≤◌, ◌<◌}
use mathlib.Core.Path.{◌≡◌, refl, sym, ◌∙◌}
use mathlib.Core.Bool.{Bool, true, false, cond}
use mathlib.Core.List.{List, [], ◌∷◌}
use native.Mathlib.Omega.{arith}
use native.Mathlib.Nat.{add-zero, add_assoc}
use lib.Dec.{T, eqb, ltb}
use lib.ListN.{length, drop}
use borrow.Author.Tests.{ne_eqb}
use Rattle.base.proofs.Booleans.{cond_case, both}
use Rattle.elements.specs.rules.Class as Class
use Rattle.elements.specs.rules.Rules.{Slot, must, may, id_type, rule_of}
use Rattle.elements.specs.rules.Inside.{State, expecting, holding, Step, go, bad, step as stepped, ended}
use Rattle.inside.specs.Machine.{state_of, step_of}
use Rattle.syntax.specs.rules.Expression.{Expr, symbol, quoted, list, Exprs, and, place}
use Rattle.lexer.specs.Token.{Seen, seen}
use Rattle.document.specs.rules.Lead.{expr_class}
use Rattle.document.specs.rules.Faults.{Begun, Taken, Allowed}
use Rattle.document.specs.reference.Meaning.{Verdict, fine, fault, stopped, fault_at, advance, finish, run, judge}
use Rattle.document.proofs.RuleClasses.{all_lead, leads, Leading, start_leading, next_leads, allowed_child, chosen_allowed}
use Rattle.document.proofs.ElementSteps.{begun_of, stepped as step-says}
use Rattle.reader.specs.internal.RunStands.{RunStands}
use Rattle.reader.specs.internal.Counts.{node_count, node_count_in, pool_bytes, pool_bytes_in}
use Rattle.reader.specs.internal.WalkAnswer.{Walked, walked_to, Bounded}
use Rattle.reader.specs.internal.Walks.{Refuses, by_step, stuck, TakenAs}
use Rattle.reader.specs.internal.Tape.{Tape, entered, taped, taped_all}
use Rattle.reader.specs.internal.Walk.{run_answer, AnswersFrom, NamedListFirst, StepTakes}
use Rattle.reader.proofs.lemmas.walk.SeenExpressions.{seen_bounds, SeenAs, saw_end, saw_symbol, saw_string, saw_list, look_stands}

-- Of the expressions es, which end at e, those from place j on are left, and the answer and the tape are those from there, in the state and with the
-- counts and the tape there.
pub record Remaining (s : List ℕ) (at k st n p node : ℕ) (t : Tape) (j st' n' p' : ℕ) (t' : Tape) (es : Exprs) (e : ℕ) : Type 0 where
  pub others : Exprs
  pub stands : RunStands s j others e
  pub same : run_answer at k st' n' p' e others ≡ run_answer at k st n p e es
  pub kept : taped_all t' n' node others ≡ taped_all t n node es

-- From place i on a walk has gone to place j.
pub record Goes (s : List ℕ) (at k i st n p node : ℕ) (t : Tape) (j st' n' p' : ℕ) (t' : Tape) : Type 0 where
  pub left : (es : Exprs) (e : ℕ) → RunStands s i es e → Remaining s at k st n p node t j st' n' p' t' es e

-- From place i on a list led by a name stands first, and it is taken.
pub record TakesList (s : List ℕ) (k i st place c j st' : ℕ) : Type 0 where
  pub taken : StepTakes k st c st'
  pub opened : (es : Exprs) (e : ℕ) → RunStands s i es e → NamedListFirst s place c j es e

-- A step that is no fault leads to a state; any other is the fault.
pub step_goes : (k f st : ℕ) (r : Step) → f ≡ 0 → step_of k f st ≡ r → r ≡ go (state_of k st)
unfolding step_of
step_goes k f st r z e = sym e ∙ rw z

pub step_bad : (k f st : ℕ) (r : Step) → (f ≡ 0 → ⊥) → step_of k f st ≡ r → r ≡ bad f
unfolding step_of
step_bad k f st r z e = sym e ∙ rw (ne_eqb f 0 z)

-- Whatever number a state has, every parameter that may still come is led by a name.
lead_drop : (n : ℕ) (ps : List Slot) → T (all_lead ps) → T (all_lead (drop n ps))
lead_drop zero ps t = t
lead_drop (suc n) [] t = tt
lead_drop (suc n) (must c ∷ ps) t = lead_drop n ps (both (leads c) (all_lead ps) t).1
lead_drop (suc n) (may c ∷ ps) t = lead_drop n ps (both (leads c) (all_lead ps) t).1
lead_drop (suc n) (id_type ∷ ps) t = lead_drop n ps t

state_leading : (k n : ℕ) → Leading (begun_of (state_of k n))
unfolding state_of
state_leading k n =
    cond_case (λ (s : State). Leading (begun_of s)) (ltb n 5)
    (λ h. lead_drop n (rule_of k).parameters (start_leading k))
    (λ h. cond_case (λ (s : State). Leading (begun_of s)) (eqb n 5)
    (λ h. tt)
    (λ h. cond_case (λ (s : State). Leading (begun_of s)) (eqb n 6) (λ h. tt) (λ h. tt)))

-- What is led by no name is no child.
no_child : (k : ℕ) {b : Begun} → Allowed 0 (rule_of k).content b → ⊥
unfolding Class.is_element Class.is_kind
no_child k a = allowed_child k a

-- What is led by no name is never taken.
pub none_taken : (k st st' : ℕ) → StepTakes k st 0 st' → ⊥
none_taken k st st' e =
    taken_none (state_of k st) (state_of k st') (state_leading k st) (rw e at (step-says k (state_of k st) 0))
  where
    taken_none : (s s' : State) → Leading (begun_of s) → Taken k 0 (begun_of s) (begun_of s') → ⊥
    taken_none (expecting ps) (expecting qs) t (Taken.parameter r) = next_leads r t
    taken_none (expecting ps) (holding ks) t (Taken.first_child d i a) = no_child k (chosen_allowed {ps = ps} a)
    taken_none (holding ks) (expecting qs) t x3 = elim x3 [ ]
    taken_none (holding ks) (holding ks') t (Taken.next_child i a f) = no_child k a

-- A state of number 0 is the first.
fault_placed : (at k f q e n p : ℕ) (b : Bool)
    → walked_to 0 0 0 (fault f (cond b at q)) ≡ walked_to e n p (finish at k (cond b (stopped f at) (stopped f q)))
unfolding walked_to finish
fault_placed at k f q e n p true = refl
fault_placed at k f q e n p false = refl

module _ (at k st n p e : ℕ) where
  -- The first expression is not taken.
  pub run_bad : (x : Expr) (es : Exprs) (f : ℕ) → stepped k (state_of k st) (expr_class x) ≡ bad f
      → walked_to 0 0 0 (fault f (cond (eqb f 9) at (place x))) ≡ run_answer at k st n p e (and x es)
  unfolding run_answer run advance finish fault_at walked_to
  run_bad x es f h = rw h (fault_placed at k f (place x) e (n + node_count_in (and x es)) (p + pool_bytes_in (and x es)) (eqb f 9))

  -- The first expression is taken, and nothing inside it is at fault.
  pub run_fine : (x : Expr) (es : Exprs) (st' : ℕ) → StepTakes k st (expr_class x) st' → judge k x ≡ fine
      → run_answer at k st' (n + node_count x) (p + pool_bytes x) e es ≡ run_answer at k st n p e (and x es)
  unfolding run_answer run advance node_count_in pool_bytes_in
  run_fine x es st' h j = rw (h, j, add_assoc n, add_assoc p)

  -- The first expression is taken, and something inside it is at fault.
  pub run_fault : (x : Expr) (es : Exprs) (st' f q : ℕ) (m a b : ℕ) → StepTakes k st (expr_class x) st' → judge k x ≡ fault f q
      → walked_to m a b (fault f q) ≡ run_answer at k st n p e (and x es)
  unfolding run_answer run advance finish walked_to
  run_fault x es st' f q m a b h j = rw (h, j)

-- What is seen from place i on, in numbers.
abbrev pub Looked : List ℕ → ℕ → ℕ → ℕ → ℕ → ℕ → ℕ → Type 0
Looked s i sort q c j l =
    (sort ≡ (seen i (drop i s)).sort) × (q ≡ (seen i (drop i s)).place) × (c ≡ (seen i (drop i s)).class)
    × (j ≡ (seen i (drop i s)).next) × (l ≡ (seen i (drop i s)).length)

-- The run ends at place i itself.
pub ended_here : (s : List ℕ) (i : ℕ) → ((seen i (drop i s)).sort ≡ 0) × ((seen i (drop i s)).place ≡ i)
    → Looked s i 0 i (seen i (drop i s)).class (seen i (drop i s)).next (seen i (drop i s)).length
ended_here s i e = (sym e.0, sym e.1, refl, refl, refl)

module _ {s : List ℕ} {r : Seen} where
  answer_end : (at k st n p : ℕ) {es : Exprs} {e : ℕ} → SeenAs s r es e → r.sort ≡ 0
      → walked_to r.place n p (cond (ended k (state_of k st)) fine (fault 9 at)) ≡ run_answer at k st n p e es
  unfolding run_answer run finish node_count_in pool_bytes_in
  answer_end at k st n p (saw_end h) z = rw (add-zero n, add-zero p)
  answer_end at k st n p (saw_symbol h c l f t) z = cc
  answer_end at k st n p (saw_string h c l f t) z = cc
  answer_end at k st n p (saw_list x h c f t d b u) z = cc

  answer_fault : (at k st n p f : ℕ) {es : Exprs} {e : ℕ} → SeenAs s r es e → (r.sort ≡ 0 → ⊥) → stepped k (state_of k st) r.class ≡ bad f
      → walked_to 0 0 0 (fault f (cond (eqb f 9) at r.place)) ≡ run_answer at k st n p e es
  unfolding place expr_class
  answer_fault at k st n p f (saw_end h) z b = absurd (z h)
  answer_fault at k st n p f (saw_symbol {es} {e} h c l g t) z b = run_bad at k st n p e (symbol r.place _) es f (rw c at b)
  answer_fault at k st n p f (saw_string {es} {e} h c l g t) z b = run_bad at k st n p e (quoted r.place _) es f (rw c at b)
  answer_fault at k st n p f (saw_list {inner} {es} {m} {e} x h c g t d u v) z b = run_bad at k st n p e (list r.place inner) es f (rw c at b)

  -- Where expressions stand, what is seen takes some bytes.
  pub seen_forward : {es : Exprs} {e : ℕ} → SeenAs s r es e → (r.sort ≡ 0 → ⊥) → r.place < r.next
  seen_forward (saw_end h) z = absurd (z h)
  seen_forward (saw_symbol h c l f t) z = f
  seen_forward (saw_string h c l f t) z = f
  seen_forward (saw_list x h c f t d b u) z = f

  pass_atom : (at k st n p node : ℕ) (t : Tape) (st' : ℕ) (t' : Tape) {es : Exprs} {e : ℕ} → SeenAs s r es e → (r.sort ≡ 0 → ⊥)
      → (r.sort ≡ 3 → ⊥)
      → StepTakes k st r.class st' → (t' ≡ entered t n r.place Class.text node (n + 1))
      → Remaining s at k st n p node t r.next st' (n + 1) (p + r.length) t' es e
  unfolding expr_class node_count pool_bytes judge taped
  pass_atom at k st n p node t st' t' (saw_end h) z a b y = absurd (z h)
  pass_atom at k st n p node t st' t' (saw_symbol {es} {e} h c l f u) z a b y =
      record {
        others = es;
        stands = u;
        same = rw l (run_fine at k st n p e (symbol r.place _) es st' (rw c at b) refl);
        kept = rw y;
      }
  pass_atom at k st n p node t st' t' (saw_string {es} {e} h c l f u) z a b y =
      record {
        others = es;
        stands = u;
        same = rw l (run_fine at k st n p e (quoted r.place _) es st' (rw c at b) refl);
        kept = rw y;
      }
  pass_atom at k st n p node t st' t' (saw_list x h c f u d b v) z a g y = absurd (a h)

  -- Nothing stands where nothing is seen, and the tape is as it was.
  tapes_end : (n node : ℕ) (t : Tape) {es : Exprs} {e : ℕ} → SeenAs s r es e → r.sort ≡ 0 → t ≡ taped_all t n node es
  unfolding taped_all
  tapes_end n node t (saw_end h) z = refl
  tapes_end n node t (saw_symbol h c l f u) z = let o : ◌≡◌ {A = ℕ} 0 1 = cc in absurd (omega arith)
  tapes_end n node t (saw_string h c l f u) z = let o : ◌≡◌ {A = ℕ} 0 1 = cc in absurd (omega arith)
  tapes_end n node t (saw_list x h c f u d b v) z = let o : ◌≡◌ {A = ℕ} 0 1 = cc in absurd (omega arith)

  pub open_list : {es : Exprs} {e : ℕ} → SeenAs s r es e → r.sort ≡ 3 → (r.class ≡ 0 → ⊥) → NamedListFirst s r.place r.class r.next es e
  open_list (saw_end h) z a = let w : ◌≡◌ {A = ℕ} 0 1 = cc in absurd (omega arith)
  open_list (saw_symbol h c l f t) z a = let w : ◌≡◌ {A = ℕ} 0 1 = cc in absurd (omega arith)
  open_list (saw_string h c l f t) z a = let w : ◌≡◌ {A = ℕ} 0 1 = cc in absurd (omega arith)
  open_list (saw_list {inner} {es} {m} {e} x h c f t d b u) z a =
      let l = d a in
      record {
        lead = l.lead;
        rest = l.rest;
        others = es;
        end = m;
        bracket = x;
        made = rw l.made refl;
        of_class = l.of_class;
        follows = l.follows;
        closed = b;
        goes_on = u;
      }

-- What is seen, if it takes any bytes, is within the text.
pub seen_within : (s : List ℕ) (i : ℕ) {sort q c j l : ℕ} → Looked s i sort q c j l → i ≤ length s → (sort ≡ 0 → ⊥) → i < j
    → (j ≤ length s) × (i + l ≤ j)
seen_within s i looked within some h =
    let b = seen_bounds s i within in
    let g = b.forward (λ e. some (looked.0 ∙ e)) (rw looked.3 at h) in
    omega (arith, g, b.place_from, looked.3, looked.4)

-- The ways through a turn.
module _ {s : List ℕ} {k i st sort q c j l : ℕ} (looked : Looked s i sort q c j l) (within : i ≤ length s) where
  pub turn_end : {at n p node : ℕ} {t : Tape} → n ≤ i → p ≤ i → sort ≡ 0
      → Bounded s i (walked_to q n p (cond (ended k (state_of k st)) fine (fault 9 at)))
      × AnswersFrom s at k i st n p node t t (walked_to q n p (cond (ended k (state_of k st)) fine (fault 9 at)))
  unfolding walked_to
  turn_end {at} {n} {p} {node} {t} nodes pool z =
      let b = seen_bounds s i within in (
        cond_case (λ (v : Verdict). Bounded s i (walked_to q n p v)) (ended k (state_of k st))
            (λ e. record { bounds = λ e. omega (arith, b.place_from, b.place_within, looked.1) })
            (λ e. record { bounds = λ e. omega (arith, e) }),
        record {
          answers = λ es e u. rw looked.1 (answer_end at k st n p (look_stands s i e es u) (sym looked.0 ∙ z));
          tapes = λ es e u y. tapes_end n node t (look_stands s i e es u) (sym looked.0 ∙ z);
        },
      )

  -- It is refused, or nothing is passed: not where expressions stand.
  pub turn_refused : {at n p node : ℕ} {t z : Tape} {w : Walked} → (sort ≡ 0 → ⊥) → Refuses at i q j c k st w
      → Bounded s i w × AnswersFrom s at k i st n p node t z w
  unfolding walked_to
  turn_refused {at} {n} {p} some (by_step f h e g) = rw g (
    record { bounds = λ y. absurd (h y) },
    record {
      answers = λ es m u. rw looked.1 (answer_fault at k st n p f (look_stands s i m es u) (λ z. some (looked.0 ∙ z)) (rw looked.2 at e));
      tapes = λ es m u y. absurd (h y);
    },
  )
  turn_refused some (stuck h g) = rw g (
    record { bounds = λ y. omega (arith, y) },
    record {
      answers = λ es m u.
          absurd (omega (arith, (seen_bounds s i within).place_from, looked.3, seen_forward (look_stands s i m es u) (λ z. some (looked.0 ∙ z))));
      tapes = λ es m u y. absurd (omega (arith, y));
    },
  )

  -- It is taken.
  module _ {j' st' : ℕ} (some : sort ≡ 0 → ⊥) (taking : TakenAs i j c k st j' st') where
    pub turn_atom : {at n p node n' p' : ℕ} {t t' : Tape} → n ≤ i → p ≤ i → (sort ≡ 3 → ⊥) → n' ≡ n + 1 → p' ≡ p + l
        → (t' ≡ entered t n q Class.text node (n + 1))
        → ((i < j') × (j' ≤ length s) × (n' ≤ j') × (p' ≤ j')) × Goes s at k i st n p node t j' st' n' p' t'
    turn_atom {at} {n} {p} {node} {t = t} {t' = t'} nodes pool a g b stored = (
      omega (arith, seen_within s i looked within some taking.forward, taking),
      record {
        left = λ es e u.
            rw (taking.next, looked.3, g, b, looked.4)
            (pass_atom at k st n p node t st' t' (look_stands s i e es u) (λ e. some (looked.0 ∙ e)) (λ e. a (looked.0 ∙ e))
            (rw looked.2 at taking.taken)
            (rw looked.1 at stored));
      },
    )

    pub turn_list : {q' c' : ℕ} → sort ≡ 3 → q' ≡ q → c' ≡ c
        → ((i < j') × (j' ≤ length s) × (q' ≤ length s)) × TakesList s k i st q' c' j' st'
    turn_list a f g = (
      omega (arith, seen_within s i looked within some taking.forward, (seen_bounds s i within).place_within, looked.1, taking),
      record {
        taken = rw g taking.taken;
        opened = λ es e u.
            rw (f, g, taking.next, looked.1, looked.2, looked.3)
            (open_list (look_stands s i e es u) (sym looked.0 ∙ a) (λ e. none_taken k st st' (rw (looked.2 ∙ e) at taking.taken)));
      },
    )
