-- How a walk goes on: the invariant of its loop, kept by each way through the loop's body.
use Prim.Native.Nat.{ℕ, ◌+◌, ◌≤◌, ◌<◌}
use mathlib.Core.Path.{◌≡◌, refl, ap, sym, ◌∙◌}
use mathlib.Core.Bool.{true, false, cond}
use mathlib.Core.List.{List}
use native.Mathlib.Omega.{arith}
use native.Mathlib.Numerals.{add-one}
use native.Mathlib.Nat.{suc-add, add-suc, add-zero}
use lib.Dec.{eqb, leb}
use lib.ListN.{length}
use borrow.Author.Tests.{ne_eqb, lt-leb, eqb-true, eqb-false, leb-false}
use Rattle.base.proofs.Booleans.{bool_case}
use Rattle.base.specs.rules.Limits.{most_bytes}
use Rattle.elements.specs.rules.Class as Class
use Rattle.elements.specs.rules.Class.{is_element}
use Rattle.elements.specs.rules.Inside.{start, ended}
use Rattle.inside.specs.Machine.{state_of}
use Rattle.lexer.specs.Token.{a_list}
use Rattle.inside.proofs.Steps.{start_state}
use Rattle.syntax.specs.rules.Expression.{Expr, list, Exprs, and}
use Rattle.document.specs.rules.Lead.{expr_class, list_class}
use Rattle.document.specs.reference.Meaning.{Verdict, fine, fault, finish, run, judge, judge_value, value_tree}
use Rattle.reader.specs.internal.RunStands.{RunStands}
use Rattle.reader.specs.internal.Counts.{node_count, node_count_in, pool_bytes, pool_bytes_in, value_size}
use Rattle.reader.specs.declared.walk.Reached.{Reached}
use Rattle.reader.specs.declared.walk.Element.{Element}
use Rattle.reader.specs.internal.WalkAnswer.{Walked, walked_to, Bounded, PoolBound}
use Rattle.reader.specs.internal.Walks.{Refuses, TakenAs}
use Rattle.reader.specs.internal.Tape.{Tape, entered, left, taped}
use Rattle.reader.specs.internal.ParameterValue.{Notes}
use Rattle.reader.specs.internal.Walk.{run_answer, AnswersFrom, Finishes, NamedListFirst, JudgesList, verdict_of, past_bracket}
use Rattle.reader.proofs.lemmas.tape.AfterWalk.{taped_first, element_tape_lem}
use Rattle.reader.proofs.lemmas.walk.SeenExpressions.{seen_bounds}
use Rattle.reader.proofs.lemmas.walk.OneTurn.{Remaining, Goes, TakesList, run_fine, run_fault, Looked, seen_within, turn_end, turn_refused, turn_atom, turn_list}

-- The invariant: the walk that began at `from` has got to i, and the tape t₀ is t.
pub record Walking (s : List ℕ) (at k node from nodes pool : ℕ) (t₀ : Tape) (i st n p : ℕ) (t : Tape) : Type 0 where
  pub forward : from ≤ i
  pub within : i ≤ length s
  pub nodes_within : n ≤ i
  pub pool_within : PoolBound p i
  pub goes : Goes s at k from 0 nodes pool node t₀ i st n p t

-- The same of an element and how far the walk has come.
abbrev pub WalkingIn : List ℕ → Element → Reached → Tape → Reached → ℕ → Tape → Type 0
WalkingIn s x from t₀ r st t = Walking s x.at x.kind x.node from.place from.nodes from.pool t₀ r.place st r.nodes r.pool t

pub begun : {s : List ℕ} {t : Tape} {at k node from nodes pool : ℕ} → from ≤ length s → nodes ≤ from → pool ≤ from
    → Walking s at k node from nodes pool t from 0 nodes pool t
begun h a b =
    record {
      forward = omega arith;
      within = h;
      nodes_within = a;
      pool_within = b;
      goes = record { left = λ es e u. record { others = es; stands = u; same = refl; kept = refl } };
    }

-- The answer from where a walk has got to is the answer of the walk.
answered : {s : List ℕ} {t₀ t z : Tape} {at k node from nodes pool i st n p : ℕ} {w : Walked} → Walking s at k node from nodes pool t₀ i st n p t
    → Bounded s i w × AnswersFrom s at k i st n p node t z w → Bounded s from w × AnswersFrom s at k from 0 nodes pool node t₀ z w
answered {t₀ = t₀} {t = t} {node = node} {nodes = nodes} {n = n} v a = (
  record { bounds = λ y. omega (arith, a.0.bounds y, v.forward) },
  record {
    answers = λ es e u. let g = v.goes.left es e u in a.1.answers g.others e g.stands ∙ g.same;
    tapes = λ es e u y.
        let g = v.goes.left es e u in a.1.tapes g.others e g.stands y ∙ g.kept;
  },
)

-- A walk goes on.
gone_on : {s : List ℕ} {t₀ t t' : Tape} {at k node from nodes pool i st n p j st' n' p' : ℕ} → Walking s at k node from nodes pool t₀ i st n p t
    → (i < j) × (j ≤ length s) × (n' ≤ j) × (p' ≤ j) → Goes s at k i st n p node t j st' n' p' t'
    → Walking s at k node from nodes pool t₀ j st' n' p' t'
gone_on {t₀ = t₀} {t = t} {node = node} {nodes = nodes} {n = n} v b h =
    record {
      forward = omega (arith, v.forward, b);
      within = b.1;
      nodes_within = b.2;
      pool_within = b.3;
      goes = record {
        left = λ es e u.
            let g = v.goes.left es e u in
            let g' = h.left g.others e g.stands in
            record {
              others = g'.others;
              stands = g'.stands;
              same = g'.same ∙ g.same;
              kept = g'.kept ∙ g.kept;
            };
      };
    }

-- Past a list's closing bracket with no fault: there was none before, and the bracket is within the text.
pub past_none : (m : ℕ) (w r : Walked) → r ≡ past_bracket m w → r.number ≡ 0
    → (w.number ≡ 0) × (w.next < m) × (r ≡ walked_to (w.next + 1) w.nodes w.pool fine)
unfolding past_bracket walked_to
past_none m w r e n =
    bool_case (eqb w.number 0)
    (λ z. bool_case (leb m w.next)
    (λ h. absurd (omega (arith, ap (λ (w : Walked). w.number) (rw (z, h) at e))))
    (λ h. (eqb-true w.number 0 z, leb-false m w.next h, rw (z, h) at e)))
    (λ z. absurd (eqb-false w.number 0 z (sym (ap (λ (w : Walked). w.number) (rw z at e)) ∙ n)))

pub past_fault : (m : ℕ) (w : Walked) → (w.number ≡ 0 → ⊥) → past_bracket m w ≡ w
unfolding past_bracket
past_fault m w z = rw (ne_eqb w.number 0 z)

pub past_fine : (m e a b : ℕ) → e < m → past_bracket m (walked_to e a b fine) ≡ walked_to (e + 1) a b fine
unfolding past_bracket walked_to
past_fine m e a b h = rw (lt-leb m e h)

-- The nodes that are counted where there is no fault.
pub nodes_counted : {s : List ℕ} {j : ℕ} {w : Walked} (e n p : ℕ) (v : Verdict) → Bounded s j w → 0 < j → w ≡ walked_to e n p v → w.number ≡ 0
    → w.nodes ≡ n
unfolding walked_to
nodes_counted e n p fine b h g y = ap (λ (w : Walked). w.nodes) g
nodes_counted e n p (fault f q) b h g y = absurd (omega (arith, b.bounds y, ap (λ (w : Walked). w.next) g))

pub to_start : {s : List ℕ} {t z : Tape} {at k i n p node : ℕ} {w : Walked} → Bounded s i w × AnswersFrom s at k i 0 n p node t z w
    → Bounded s i w × Finishes s at k i n p node t z w
unfolding run_answer
to_start {k = k} h = (h.0, (λ es e u. h.1.answers es e u ∙ rw (start_state k), h.1.tapes))

element_lem : {s : List ℕ} {t t₁ t₂ z : Tape} {at k c j n p node : ℕ} {w : Walked} → is_element c ≡ true → 0 < j
    → Bounded s j w × Finishes s at c j (n + 1) p n t₁ t₂ w → (t₁ ≡ entered t n at c node 0)
    → (w.number ≡ 0 → z ≡ left t₂ n w.nodes) → Bounded s j w × JudgesList s at j k c n p node t z w
unfolding verdict_of
element_lem {t = t} {t₁ = t₁} {t₂ = t₂} {z = z} {at = at} {c = c} {n = n} {p = p} {node = node} {w = w} e some h before after = (
  h.0,
  record {
    judged = λ es m u. rw e (h.1.0 es m u ∙ rw (add-one n, suc-add n, ← add-suc n));
    tapes = λ es m u y.
        rw e
        (element_tape_lem t t₁ t₂ z n node at c w.nodes es before (h.1.1 es m u y) (after y)
        (nodes_counted m (n + 1 + node_count_in es) (p + pool_bytes_in es) (finish at c (run at c (start c) es)) h.0 some (h.1.0 es m u) y));
  },
)

-- An element's answer is that of the list that it is. Its node is entered before its content is walked, and left after it.
pub element_judges : {s : List ℕ} {t t₁ t₂ z : Tape} {at k c j n p node : ℕ} {w : Walked} (x : Element) (inner : Reached)
    → x ≡ record { at = at; kind = c; node = n } → inner ≡ record { place = j; nodes = n + 1; pool = p }
    → is_element c ≡ true → 0 < j → Bounded s inner.place w × Finishes s x.at x.kind inner.place inner.nodes inner.pool x.node t₁ t₂ w
    → (t₁ ≡ entered t n at c node 0) → (w.number ≡ 0 → z ≡ left t₂ x.node w.nodes)
    → Bounded s j w × JudgesList s at j k c n p node t z w
element_judges {s} {t} {t₁} {t₂} {z} {at} {k} {c} {j} {n} {p} {node} {w} x inner f g e some h before after =
    element_lem e some (rw (f, g) at h) before (rw f at after)

pub item_judges : {s : List ℕ} {t t₁ t₂ z : Tape} {at k c j n p node : ℕ} {w : Walked} (x : Element) (inner : Reached)
    → x ≡ record { at = at; kind = c; node = n } → inner ≡ record { place = j; nodes = n + 1; pool = p }
    → c ≡ 18 → 0 < j → Bounded s inner.place w × AnswersFrom s x.at x.kind inner.place 0 inner.nodes inner.pool x.node t₁ t₂ w
    → (t₁ ≡ entered t n at c node 0) → (w.number ≡ 0 → z ≡ left t₂ x.node w.nodes)
    → Bounded s j w × JudgesList s at j k c n p node t z w
unfolding is_element Class.is_kind
item_judges x inner f g e some h before after = element_judges x inner f g (rw e) some (to_start h) before after

-- And so is a value's.
pub value_judges : {s : List ℕ} {t z : Tape} {at k c j n p node : ℕ} {w : Walked} → is_element c ≡ false
    → Bounded s j w × (((es : Exprs) (m : ℕ) → RunStands s j es m → w ≡ walked_to m n (p + value_size c es) (judge_value k at (value_tree c es)))
    × Notes s j c node t w z)
    → Bounded s j w × JudgesList s at j k c n p node t z w
unfolding verdict_of
value_judges {n = n} e h = (
  h.0,
  record { judged = λ es m u. rw (e, add-zero n) (h.1.0 es m u); tapes = λ es m u y. rw e (h.1.1.notes es m u y) },
)

-- A walk that has got to i takes a list, of which j is the place after its name.
pub record ListTaken (s : List ℕ) (at k node from nodes pool : ℕ) (t₀ : Tape) (i st n p : ℕ) (t : Tape) (place c j st' : ℕ) : Type 0 where
  pub walking : Walking s at k node from nodes pool t₀ i st n p t
  pub within : (i < j) × (j ≤ length s) × (place ≤ length s)
  pub takes : TakesList s k i st place c j st'

-- What is seen where a walk has got to: the run ends there, or it is refused, or it is passed.
module _ {s : List ℕ} {t₀ t : Tape} {at k node from nodes pool i st n p sort q c j l : ℕ}
    (walking : Walking s at k node from nodes pool t₀ i st n p t) (looked : Looked s i sort q c j l) where
  -- It may be passed.
  pub may_turn : (sort ≡ 0 → ⊥) → length s ≤ most_bytes → (n ≤ i) × (i < j → PoolBound (p + l) j) × (i ≤ most_bytes) × (q ≤ most_bytes)
  may_turn some short = (
    walking.nodes_within,
    λ h. omega (arith, seen_within s i looked walking.within some h, walking.pool_within),
    omega (arith, walking.within),
    omega (arith, (seen_bounds s i walking.within).place_within, looked.1),
  )

  pub end_answered : sort ≡ 0 → {w : Walked} → w ≡ walked_to q n p (cond (ended k (state_of k st)) fine (fault 9 at))
      → Bounded s from w × AnswersFrom s at k from 0 nodes pool node t₀ t w
  end_answered z e = answered walking (rw e (turn_end looked walking.within walking.nodes_within walking.pool_within z))

  pub refusal_answered : (sort ≡ 0 → ⊥) → {z : Tape} {w : Walked} → Refuses at i q j c k st w
      → Bounded s from w × AnswersFrom s at k from 0 nodes pool node t₀ z w
  refusal_answered some r = answered walking (turn_refused looked walking.within some r)

  module _ (some : sort ≡ 0 → ⊥) {j' st' n' p' : ℕ} {t' : Tape} where
    -- It goes on after a symbol or string.
    pub passed : TakenAs i j c k st j' st' × (sort ≡ a_list → ⊥) × (n' ≡ n + 1) × (p' ≡ p + l)
        × (t' ≡ entered t n q Class.text node (n + 1))
        → Walking s at k node from nodes pool t₀ j' st' n' p' t'
    passed (taking, a, g, b, stored) =
        let turn = turn_atom looked walking.within some taking walking.nodes_within walking.pool_within a g b stored in
        gone_on walking turn.0 turn.1

    -- A list is opened, and nothing else has changed.
    pub list_taken : {q' c' : ℕ} → TakenAs i j c k st j' st' × (sort ≡ a_list) × (q' ≡ q) × (c' ≡ c) × (n' ≡ n) × (p' ≡ p) × (t' ≡ t)
        → ListTaken s at k node from nodes pool t₀ i st n' p' t' q' c' j' st'
    list_taken (taking, a, f, g, x, y, z) =
        let turn = turn_list looked walking.within some taking a f g in
        record { walking = rw (x, y, z) walking; within = turn.0; takes = turn.1 }

-- A list that is taken, in a walk that has got to i: w is its answer, r that past its closing bracket, and t' the tape with it.
module _ {s : List ℕ} {t₀ t t' : Tape} {at k node from nodes pool i st n p place c j st' : ℕ} {w r : Walked}
    (opened : ListTaken s at k node from nodes pool t₀ i st n p t place c j st')
    (child : Bounded s j w × JudgesList s place j k c n p node t t' w)
    (e : r ≡ past_bracket (length s) w) where
  abbrev listed : {es : Exprs} {m : ℕ} → NamedListFirst s place c j es m → Expr
  listed o = list place (and o.lead o.rest)

  -- The answer is by the verdict of what is inside the list.
  by_verdict : {es : Exprs} {m : ℕ} (o : NamedListFirst s place c j es m)
      → w ≡ walked_to o.end (n + node_count (listed o)) (p + pool_bytes (listed o)) (judge k (listed o))
  unfolding verdict_of node_count pool_bytes judge
  by_verdict o = rw o.of_class (child.1.judged o.rest o.end o.follows)

  after_fine : {es : Exprs} {m : ℕ} (o : NamedListFirst s place c j es m) → judge k (listed o) ≡ fine
      → r ≡ walked_to (o.end + 1) (n + node_count (listed o)) (p + pool_bytes (listed o)) fine
  after_fine o h = e ∙ ap (past_bracket (length s)) (rw h at (by_verdict o)) ∙ past_fine (length s) o.end _ _ o.closed.inside

  -- A fault has a number that is not 0.
  after_fault : {es : Exprs} {m : ℕ} (o : NamedListFirst s place c j es m) (f q : ℕ) → judge k (listed o) ≡ fault f q
      → (r.number ≡ 0 → ⊥) × (r ≡ walked_to 0 0 0 (fault f q))
  unfolding walked_to
  after_fault o f q h =
      let g = rw h at (by_verdict o) in
      let z : w.number ≡ 0 → ⊥ = λ z. omega (arith, child.0.bounds z, opened.within, ap (λ (w : Walked). w.next) g) in
      let kept = e ∙ past_fault (length s) w z in
      (λ y. z (rw kept at y), kept ∙ g)

  -- Something inside the list is at fault, and the answer is that.
  fault_inside : (r.number ≡ 0 → ⊥) → {es : Exprs} {m : ℕ} (o : NamedListFirst s place c j es m) (v : Verdict) → judge k (listed o) ≡ v
      → r ≡ run_answer at k st n p m (and (listed o) o.others)
  unfolding walked_to expr_class list_class
  fault_inside z o fine h = absurd (z (ap (λ (w : Walked). w.number) (after_fine o h)))
  fault_inside z {m} o (fault f q) h =
      (after_fault o f q h).1 ∙ run_fault at k st n p m (listed o) o.others st' f q 0 0 0 (rw o.of_class opened.takes.taken) h

  pub list_answered : (r.number ≡ 0 → ⊥) → Bounded s from r × AnswersFrom s at k from 0 nodes pool node t₀ t' r
  list_answered z =
      answered opened.walking (
        record { bounds = λ x. absurd (z x) },
        record {
          answers = λ es m u. let o = opened.takes.opened es m u in rw o.made (fault_inside z o (judge k (listed o)) refl);
          tapes = λ es m u y. absurd (z y);
        },
      )

  -- The list is on the tape.
  list_tape : r.number ≡ 0 → {es : Exprs} {m : ℕ} (o : NamedListFirst s place c j es m) → t' ≡ taped t n node (listed o)
  unfolding taped
  list_tape z o =
      rw o.of_class (child.1.tapes o.rest o.end o.follows (past_none (length s) w r e z).0)

  -- Nothing inside the list is at fault, and the walk goes on after it.
  fine_inside : r.number ≡ 0 → {es : Exprs} {m : ℕ} (o : NamedListFirst s place c j es m) (v : Verdict) → judge k (listed o) ≡ v
      → Remaining s at k st n p node t r.next st' r.nodes r.pool t' (and (listed o) o.others) m
  unfolding walked_to expr_class list_class
  fine_inside z {m} o fine h =
      rw (after_fine o h)
      (record {
        others = o.others;
        stands = o.goes_on;
        same = run_fine at k st n p m (listed o) o.others st' (rw o.of_class opened.takes.taken) h;
        kept = taped_first t t' n node (listed o) o.others (list_tape z o);
      })
  fine_inside z o (fault f q) h = absurd ((after_fault o f q h).0 z)

  pub list_forward : r.number ≡ 0 → (i < r.next) × (r.next ≤ length s) × (r.nodes ≤ r.next) × (r.pool ≤ r.next)
  unfolding walked_to
  list_forward z =
      let h = past_none (length s) w r e z in
      rw h.2 (omega (arith, child.0.bounds h.0, opened.within, h.1))

  pub list_gone_on : r.number ≡ 0 → Walking s at k node from nodes pool t₀ r.next st' r.nodes r.pool t'
  list_gone_on z =
      gone_on opened.walking (list_forward z)
      (record { left = λ es m u. let o = opened.takes.opened es m u in rw o.made (fine_inside z o (judge k (listed o)) refl) })

-- The list is refused itself.
pub child_refused : {s : List ℕ} {t₀ t t' : Tape} {at k node from nodes pool i st n p place c j st' : ℕ} {w : Walked}
    → ListTaken s at k node from nodes pool t₀ i st n p t place c j st' → Bounded s j w × JudgesList s place j k c n p node t t' w
    → (w.number ≡ 0 → ⊥) → Bounded s from w × AnswersFrom s at k from 0 nodes pool node t₀ t' w
child_refused {s} {w = w} opened child z = list_answered opened child (sym (past_fault (length s) w z)) z
