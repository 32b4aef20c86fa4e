-- What a walk over the blocks of an imperative text answers, by what it answers from the next expression on.
use Prim.Native.Nat.{ℕ, ◌+◌, ◌≤◌, ◌<◌}
use mathlib.Core.Path.{◌≡◌, refl, ap, sym, ◌∙◌}
use mathlib.Core.Bool.{true, false, cond}
use mathlib.Core.List.{List}
use native.Mathlib.Omega.{arith}
use native.Mathlib.Nat.{add-zero, suc-add, add-suc}
use native.Mathlib.Numerals.{add-one}
use lib.Dec.{eqb, leb}
use lib.ListN.{length, drop}
use borrow.Author.Tests.{eqb-true, eqb-false, leb-true}
use Rattle.std.specs.Prelude.{Result, Ok, Err}
use Rattle.std.specs.Result.{IsErrAnd}
use Rattle.std.proofs.lemmas.Result.{err_from_is_err_and}
use Rattle.base.proofs.Booleans.{cond_case, bool_case, both, true_T, T_true}
use Rattle.elements.specs.rules.Class as Class
use Rattle.elements.specs.rules.Inside.{ended}
use Rattle.inside.specs.Machine.{state_of}
use Rattle.inside.proofs.Steps.{start_state}
use Rattle.syntax.specs.rules.Byte.{Bracket, closing}
use Rattle.syntax.specs.rules.Expression.{Expr, list, Exprs, none, and, place}
use Rattle.lexer.specs.Token.{Seen, seen}
use Rattle.document.specs.rules.Spelling.{is_block_parameter}
use Rattle.document.specs.rules.Command.{join, in_command}
use Rattle.document.specs.rules.Command.{is_command, block}
use Rattle.document.specs.rules.Lead.{lead_class, expr_class, list_class}
use Rattle.document.specs.reference.Meaning.{Verdict, fine, fault, finish, run, judge}
use Rattle.document.proofs.BlockExpressions.{block_element}
use Rattle.reader.specs.internal.RunStands.{Has, RunStands}
use Rattle.reader.specs.internal.Counts.{node_count, node_count_in, pool_bytes, pool_bytes_in}
use Rattle.reader.specs.internal.WalkAnswer.{told, walked_to, Bounded}
use Rattle.reader.specs.declared.walk.Reached.{Reached}
use Rattle.reader.specs.declared.walk.Refused.{Refused}
use Rattle.reader.specs.internal.Tape.{Tape, entered, left, taped, taped_all}
use Rattle.document.specs.rules.Takes.{Takes, at_end, at_command, expression, a_block}
use Rattle.reader.specs.internal.Walk.{run_answer, NamedListFirst, JudgesList, verdict_of, past_bracket, StepTakes}
use Rattle.reader.specs.internal.BlockWalk.{command_class, loose_class, leads_command, ends_at}
use Rattle.reader.specs.internal.Walks.{Refuses, by_step, stuck, TakenAs}
use Rattle.reader.specs.internal.BlockWalk.{BlockAnswer, InCommand, InContent, Belongs, ChildAnswer, JudgesChild}
use Rattle.reader.specs.internal.WalkAnswer.{Walked}
use Rattle.reader.proofs.lemmas.walk.Refusals.{refusal_some}
use Rattle.reader.proofs.lemmas.walk.SeenExpressions.{SeenAs, saw_end, saw_symbol, saw_string, saw_list, look_stands, seen_bounds}
use Rattle.reader.proofs.lemmas.walk.OneTurn.{Looked, none_taken, run_bad, run_fine, run_fault, seen_forward, open_list, seen_within}
use Rattle.reader.proofs.lemmas.tape.AfterWalk.{taped_on, element_tape_lem, taped_element}
use Rattle.reader.proofs.lemmas.walk.LoopInvariant.{past_none, past_fault, past_fine, nodes_counted}
use Rattle.document.proofs.BlockContents.{taken}
use Rattle.reader.proofs.lemmas.commands.CommandClasses.{command_itself, parameter_class, loose_itself, loose_same, as_parameter, parameter_of_class, parameter_place}
use Rattle.reader.proofs.lemmas.commands.CommandClasses.{first_taken, FirstSeen, first_seen, AtomSeen, atom_seen}

-- ---- answers

-- What the exit of a `?` answers is what the call answered.
pub exit : (r : Result Reached Refused) (f : Refused) → IsErrAnd r (λ (e : Refused). e ≡ f) → told r ≡ told (Err f)
exit r f h = let p = err_from_is_err_and r h in rw (p.1, p.2)

-- What is seen is not seen before the place where it was looked for.
pub place_from : (s : List ℕ) (i : ℕ) {sort q c j l : ℕ} → Looked s i sort q c j l → i ≤ length s → i ≤ q
place_from s i looked within = omega (arith, (seen_bounds s i within).place_from, looked.1)

pub place_within : (s : List ℕ) (i : ℕ) {sort q c j l : ℕ} → Looked s i sort q c j l → i ≤ length s → q ≤ length s
place_within s i looked within = omega (arith, (seen_bounds s i within).place_within, looked.1)

-- What an answer says depends on its place only where there is no fault.
next_same : (e n p : ℕ) (v : Verdict) → walked_to e n p v ≡ walked_to (walked_to e n p v).next n p v
unfolding walked_to
next_same e n p fine = refl
next_same e n p (fault f q) = refl

-- ---- a list that an element's walk goes past: w is its answer, and r that past its closing bracket

module _ {s : List ℕ} {j : ℕ} {w r : Walked} (bounded : Bounded s j w) (past-it : r ≡ past_bracket (length s) w) where
  pub past_bounded : Bounded s j r
  unfolding walked_to
  past_bounded =
      record { bounds = λ y. let h = past_none (length s) w r past-it y in rw h.2 (omega (arith, bounded.bounds h.0, h.1)) }

  pub past_by : (m a b : ℕ) (v : Verdict) → w ≡ walked_to m a b v → m < length s → 0 < j
      → (r ≡ walked_to r.next a b v) × (r.number ≡ 0 → r.next ≡ m + 1)
  unfolding walked_to
  past_by m a b fine e h o =
      let g : r ≡ walked_to (m + 1) a b fine = past-it ∙ ap (past_bracket (length s)) e ∙ past_fine (length s) m a b h in
      (g ∙ rw g, λ z. ap (λ (w : Walked). w.next) g)
  past_by m a b (fault f q) e h o =
      let z : w.number ≡ 0 → ⊥ = λ z. omega (arith, bounded.bounds z, ap (λ (w : Walked). w.next) e) in
      let g : r ≡ w = past-it ∙ past_fault (length s) w z in
      (g ∙ e, λ y. absurd (z (sym (ap (λ (w : Walked). w.number) g) ∙ y)))

-- The list that is opened.
abbrev pub listed : {s : List ℕ} {q c j : ℕ} {es : Exprs} {m : ℕ} → NamedListFirst s q c j es m → Expr
listed {q} o = list q (and o.lead o.rest)

list_answer : {s : List ℕ} {t z : Tape} {q j k c n p node : ℕ} {w r : Walked} → Bounded s j w → JudgesList s q j k c n p node t z w
    → r ≡ past_bracket (length s) w → 0 < j
    → {es : Exprs} {m : ℕ} (o : NamedListFirst s q c j es m)
    → (r ≡ walked_to r.next (n + node_count (listed o)) (p + pool_bytes (listed o)) (judge k (listed o))) × (r.number ≡ 0 → RunStands s r.next o.others m)
unfolding verdict_of node_count pool_bytes judge
list_answer {k = k} {n = n} {p = p} {w = w} bounded judged past-it h o =
    let e : w ≡ walked_to o.end (n + node_count (listed o)) (p + pool_bytes (listed o)) (judge k (listed o))
    = rw o.of_class (judged.judged o.rest o.end o.follows) in
    let (same, next) = past_by bounded past-it o.end (n + node_count (listed o)) (p + pool_bytes (listed o)) (judge k (listed o)) e o.closed.inside h in
    (same, λ z. rw (next z) o.goes_on)

-- The list is on the tape.
list_tape : {s : List ℕ} {t z : Tape} {q j k c n p node : ℕ} {w r : Walked} → JudgesList s q j k c n p node t z w → r ≡ past_bracket (length s) w
    → {es : Exprs} {m : ℕ} (o : NamedListFirst s q c j es m) → r.number ≡ 0 → z ≡ taped t n node (listed o)
unfolding taped
list_tape {s = s} {w = w} {r = r} judged past-it o y =
    rw o.of_class (judged.tapes o.rest o.end o.follows (past_none (length s) w r past-it y).0)

-- ---- an expression that is taken: `one` is what it counts as

-- In a block's content: nothing inside it is at fault, and the answer is that of what follows; or something is, and the answer is that.
content_passed : {s : List ℕ} {t t' z : Tape} {at k node st n p st' : ℕ} {es after : Exprs} {e : ℕ} {w : Walked} (one : Expr)
    → StepTakes k st (expr_class one) st'
    → judge k one ≡ fine
    → ((content rest : Exprs) → Takes (Class.significance k) after content rest → Takes (Class.significance k) es (and one content) rest)
    → (t' ≡ taped t n node one) → BlockAnswer s at k node st' (n + node_count one) (p + pool_bytes one) t' z none after e w
    → BlockAnswer s at k node st n p t z none es e w
unfolding join
content_passed {t = t} {t' = t'} {z = z} {at = at} {k = k} {node = node} {st = st} {n = n} {p = p} {st' = st'} {w = w} one u f takes stored a =
    record {
      content = and one a.content;
      rest = a.rest;
      takes = takes a.content a.rest a.takes;
      same = a.same ∙ run_fine at k st n p w.next one a.content st' u f;
      tapes = λ y. taped_on t t' z n node one a.content stored (a.tapes y);
      goes_on = a.goes_on;
    }

content_stopped : {s : List ℕ} {t z : Tape} {at k node st : ℕ} (st' n p : ℕ) {es : Exprs} (after : Exprs) (e : ℕ) {w : Walked} (one : Expr) (f q : ℕ)
    → StepTakes k st (expr_class one) st' → judge k one ≡ fault f q
    → ((content rest : Exprs) → Takes (Class.significance k) after content rest → Takes (Class.significance k) es (and one content) rest)
    → (w.number ≡ 0 → ⊥) → (m a b : ℕ) → w ≡ walked_to m a b (fault f q) → BlockAnswer s at k node st n p t z none es e w
unfolding join
content_stopped {at = at} {k = k} {st = st} st' n p after e {w = w} one f q u h takes x m a b g =
    let r = taken (Class.significance k) after in
    record {
      content = and one r.content;
      rest = r.rest;
      takes = takes r.content r.rest r.takes;
      same = g ∙ run_fault at k st n p w.next one r.content st' f q m a b u h;
      tapes = λ y. absurd (x y);
      goes_on = λ y. absurd (x y);
    }

-- In a command's bracket it is a parameter.
command_passed : {s : List ℕ} {t t' z : Tape} {at k node st n p st' : ℕ} (ps : Exprs) {es : Exprs} {e : ℕ} {w : Walked} (one : Expr)
    → is_block_parameter (expr_class one) ≡ true → StepTakes k st (expr_class one) st' → judge k one ≡ fine
    → (t' ≡ taped t n node one)
    → BlockAnswer s at k node st' (n + node_count one) (p + pool_bytes one) t' z (in_command ps) es e w
    → BlockAnswer s at k node st n p t z (in_command (and one ps)) es e w
unfolding join in_command
command_passed {t = t} {t' = t'} {z = z} {at = at} {k = k} {node = node} {st = st} {n = n} {p = p} {st' = st'} ps {w = w} one i u f stored a =
    record {
      content = a.content;
      rest = a.rest;
      takes = a.takes;
      same = rw i (a.same ∙ run_fine at k st n p w.next one (join (in_command ps) a.content) st' u f);
      tapes = λ y. rw i (taped_on t t' z n node one (join (in_command ps) a.content) stored (a.tapes y));
      goes_on = a.goes_on;
    }

command_stopped : {s : List ℕ} {t z : Tape} {at k node st : ℕ} (st' n p : ℕ) (ps es : Exprs) (e : ℕ) {w : Walked} (one : Expr) (f q : ℕ)
    → is_block_parameter (expr_class one) ≡ true → StepTakes k st (expr_class one) st' → judge k one ≡ fault f q → (w.number ≡ 0 → ⊥)
    → (m a b : ℕ) → w ≡ walked_to m a b (fault f q) → BlockAnswer s at k node st n p t z (in_command (and one ps)) es e w
unfolding join in_command
command_stopped {at = at} {k = k} {st = st} st' n p ps es e {w = w} one f q i u h x m a b g =
    let r = taken (Class.significance k) es in
    record {
      content = r.content;
      rest = r.rest;
      takes = r.takes;
      same = rw i (g ∙ run_fault at k st n p w.next one (join (in_command ps) r.content) st' f q m a b u h);
      tapes = λ y. absurd (x y);
      goes_on = λ y. absurd (x y);
    }

-- ---- the end

-- At the end of a command's bracket the answer is that of the content after it.
pub command_end : {s : List ℕ} {t y : Tape} {at k node i st n p sort q c j l : ℕ} {w : Walked} → Looked s i sort q c j l → sort ≡ 0
    → InContent s at k node (q + 1) st n p t y w → InCommand s at k node i st n p t y w
unfolding in_command
command_end {s = s} {t = t} {y = y} {at = at} {k = k} {node = node} {i = i} {st = st} {n = n} {p = p} {q = q} {w = w} looked z a =
    record { answers = λ ps m x es e t h u. by (look_stands s i m ps t) (sym looked.0 ∙ z) u }
  where
    by : {ps es : Exprs} {m e : ℕ} → SeenAs s (seen i (drop i s)) ps m → (seen i (drop i s)).sort ≡ 0 → RunStands s (m + 1) es e
        → BlockAnswer s at k node st n p t y (in_command ps) es e w
    by {es} {e} (saw_end h) z u = a.answers es e (rw looked.1 u)
    by (saw_symbol h c l f t) z u = let o : ◌≡◌ {A = ℕ} 0 1 = cc in absurd (omega arith)
    by (saw_string h c l f t) z u = let o : ◌≡◌ {A = ℕ} 0 1 = cc in absurd (omega arith)
    by (saw_list x h c f t d b v) z u = let o : ◌≡◌ {A = ℕ} 0 1 = cc in absurd (omega arith)

-- Past the place where a command's bracket ends: a bracket is closed there.
pub closed_at : {m : ℕ} {end r : Reached} → told (Ok r) ≡ past_bracket m (told (Ok end))
    → (end.place < m) × (r.place ≡ end.place + 1) × (r.nodes ≡ end.nodes) × (r.pool ≡ end.pool)
unfolding walked_to
closed_at {m} {end} {r} e =
    let h = past_none m (told (Ok end)) (told (Ok r)) e refl in
    (h.1, ap (λ (w : Walked). w.next) h.2, ap (λ (w : Walked). w.nodes) h.2, ap (λ (w : Walked). w.pool) h.2)

-- Or none is.
pub not_closed : (m : ℕ) (end : Reached) (f : Refused) → told (Err f) ≡ past_bracket m (told (Ok end)) → m ≤ end.place
unfolding past_bracket walked_to
not_closed m end f e =
    bool_case (leb m end.place)
    (λ h. leb-true m end.place h)
    (λ h. absurd (refusal_some f.refusal (ap (λ (w : Walked). w.number) (rw h at e))))

-- Then no expressions stand.
pub command_cut : {s : List ℕ} {t y : Tape} {at k node i st n p sort q c j l : ℕ} {w : Walked} → Looked s i sort q c j l → sort ≡ 0 → length s ≤ q
    → InCommand s at k node i st n p t y w
command_cut {s = s} {i = i} {q = q} {w = w} looked z l =
    record { answers = λ ps m x es e t h u. absurd (by (look_stands s i m ps t) (sym looked.0 ∙ z) h.inside) }
  where
    by : {ps : Exprs} {m : ℕ} → SeenAs s (seen i (drop i s)) ps m → (seen i (drop i s)).sort ≡ 0 → m < length s → ⊥
    by (saw_end h) z u = omega (arith, looked.1)
    by (saw_symbol h c l f t) z u = let o : ◌≡◌ {A = ℕ} 0 1 = cc in omega arith
    by (saw_string h c l f t) z u = let o : ◌≡◌ {A = ℕ} 0 1 = cc in omega arith
    by (saw_list x h c f t d b v) z u = let o : ◌≡◌ {A = ℕ} 0 1 = cc in omega arith

-- A block's content ends where nothing is seen, or before a command of no lesser significance.
ended_takes : {s : List ℕ} {r : Seen} {es : Exprs} {e : ℕ} (k : ℕ) → SeenAs s r es e → ends_at k r.sort r.class ≡ true
    → Takes (Class.significance k) es none es
unfolding ends_at is_command leads_command
ended_takes {r} {es} k t h =
    bool_case (eqb r.sort 0)
    (λ z. by t (eqb-true r.sort 0 z))
    (λ z.
    let f = first_seen t (eqb-false r.sort 0 z) in
    let (a, b) = both (leads_command r.class) (leb (Class.significance k) (Class.significance r.class)) (true_T (rw z at h)) in
    rw f.made
    (at_command {s = Class.significance k} {x = f.one} (rw f.of_class (T_true (leads_command r.class) a))
    (rw f.of_class (leb-true (Class.significance k) (Class.significance r.class) (T_true _ b)))))
  where
    by : {s : List ℕ} {r : Seen} {es : Exprs} {e : ℕ} → SeenAs s r es e → r.sort ≡ 0 → Takes (Class.significance k) es none es
    by (saw_end h) z = at_end
    by (saw_symbol h c l f t) z = let o : ◌≡◌ {A = ℕ} 0 1 = cc in absurd (omega arith)
    by (saw_string h c l f t) z = let o : ◌≡◌ {A = ℕ} 0 1 = cc in absurd (omega arith)
    by (saw_list x h c f t d b v) z = let o : ◌≡◌ {A = ℕ} 0 1 = cc in absurd (omega arith)

end_same : (at k st n p i : ℕ) (v : Verdict) → v ≡ cond (ended k (state_of k st)) fine (fault 9 at)
    → walked_to i n p v ≡ run_answer at k st n p (walked_to i n p v).next (join none none)
unfolding run_answer run finish node_count_in pool_bytes_in join
end_same at k st n p i v d = next_same i n p v ∙ rw (add-zero n, add-zero p, ← d)

pub content_end : {s : List ℕ} {t : Tape} {at k node i st n p sort q c j l : ℕ} {w : Walked} → Looked s i sort q c j l → i ≤ length s → n ≤ i → p ≤ i
    → ends_at k sort c ≡ true → w ≡ walked_to i n p (cond (ended k (state_of k st)) fine (fault 9 at))
    → Bounded s i w × InContent s at k node i st n p t t w
unfolding walked_to join taped_all
content_end {s = s} {t = t} {at = at} {k = k} {node = node} {i = i} {st = st} {n = n} {p = p} {w = w} looked within nodes pool h g =
    rw g
    (cond_case (λ (v : Verdict). v ≡ cond (ended k (state_of k st)) fine (fault 9 at) → Bounded s i
    (walked_to i n p v) × InContent s at k node i st n p t t (walked_to i n p v))
    (ended k (state_of k st))
    (λ e d. (record { bounds = λ y. omega arith }, ending fine d (λ y. refl)))
    (λ e d. (record { bounds = λ y. omega (arith, y) }, ending (fault 9 at) d (λ y. omega (arith, y)))) refl)
  where
    ending : (v : Verdict) → v ≡ cond (ended k (state_of k st)) fine (fault 9 at) → ((walked_to i n p v).number ≡ 0 → (walked_to i n p v).next ≡ i)
        → InContent s at k node i st n p t t (walked_to i n p v)
    ending v d next =
        record {
          answers = λ es e u.
              record {
                content = none;
                rest = es;
                takes = ended_takes k (look_stands s i e es u) (rw (looked.0, looked.2) at h);
                same = end_same at k st n p i v d;
                tapes = λ y. refl;
                goes_on = λ y. rw (next y) u;
              };
        }

-- ---- what is seen counts as an expression of some class

refused_number : {at i q j k st d : ℕ} {w : Walked} → Refuses at i q j d k st w → w.number ≡ 0 → ⊥
unfolding walked_to
refused_number (by_step f z h e) y = z (sym (ap (λ (w : Walked). w.number) e) ∙ y)
refused_number (stuck h e) y = omega (arith, y, ap (λ (w : Walked). w.number) e)

-- The walk goes on after a list: r is its answer.
pub taken_forward : {s : List ℕ} {i j d k st j' st' : ℕ} {r : Walked} → TakenAs i j d k st j' st' → Bounded s j' r → r.number ≡ 0
    → (i < r.next) × (r.next ≤ length s) × (r.nodes ≤ r.next) × (r.pool ≤ r.next)
taken_forward h b y = omega (arith, b.bounds y, h.forward, h.next)

-- The answer of an expression in an element of kind k: nothing is at fault, or something is.
pub data ChildVerdict (k n p : ℕ) (one : Expr) (r : Walked) : Type 0 where
  passed : judge k one ≡ fine → r.number ≡ 0 → r.nodes ≡ n + node_count one → r.pool ≡ p + pool_bytes one → ChildVerdict k n p one r
  stopped : (f q : ℕ) → judge k one ≡ fault f q → (r.number ≡ 0 → ⊥) → r ≡ walked_to r.next (n + node_count one) (p + pool_bytes one) (fault f q) → ChildVerdict k n p one r

pub child_verdict : (s : List ℕ) (j k n p : ℕ) (one : Expr) (r : Walked) → Bounded s j r → 0 < j
    → r ≡ walked_to r.next (n + node_count one) (p + pool_bytes one) (judge k one) → ChildVerdict k n p one r
unfolding walked_to
child_verdict s j k n p one r b h e = by (judge k one) refl e
  where
    by : (v : Verdict) → judge k one ≡ v → r ≡ walked_to r.next (n + node_count one) (p + pool_bytes one) v → ChildVerdict k n p one r
    by fine d g = passed d (ap (λ (w : Walked). w.number) g) (ap (λ (w : Walked). w.nodes) g) (ap (λ (w : Walked). w.pool) g)
    by (fault f q) d g = stopped f q d (λ y. omega (arith, b.bounds y, ap (λ (w : Walked). w.next) g)) g

module _ (s : List ℕ) (i : ℕ) {sort q c j l : ℕ} (looked : Looked s i sort q c j l) (within : i ≤ length s) (some : sort ≡ 0 → ⊥) where
  -- What is seen, if it takes any bytes, is within the text.
  pub turn_fits : {p : ℕ} → p ≤ i → i < j → p + l ≤ j
  turn_fits h f = omega (arith, seen_within s i looked within some f)

  pub turn_within : i < j → j ≤ length s
  turn_within f = (seen_within s i looked within some f).0

  pub atom_forward : {n p d k st j' st' n' p' : ℕ} → TakenAs i j d k st j' st' → n ≤ i → p ≤ i → n' ≡ n + 1 → p' ≡ p + l
      → (i < j') × (j' ≤ length s) × (n' ≤ j') × (p' ≤ j')
  atom_forward h a b nodes pool = omega (arith, seen_within s i looked within some h.forward, h.forward, h.next)

  pub list_forward : {d k st j' st' : ℕ} → TakenAs i j d k st j' st' → (i < j') × (j' ≤ length s)
  list_forward h = omega (arith, turn_within h.forward, h.forward, h.next)

  first_of : {es : Exprs} {e : ℕ} → RunStands s i es e → FirstSeen (seen i (drop i s)) es
  first_of {es} {e} t = first_seen (look_stands s i e es t) (λ z. some (looked.0 ∙ z))

  -- It is refused: the answer of a run in which what it counts as is the first.
  refused_first : {at k st d : ℕ} {w : Walked} {es : Exprs} {e : ℕ} (n p m : ℕ) → Refuses at i q j d k st w → RunStands s i es e → (one : Expr) (rest : Exprs)
      → expr_class one ≡ d → place one ≡ q → w ≡ run_answer at k st n p m (and one rest)
  refused_first {at} {k} {st} n p m (by_step f z h g) t one rest a b = g ∙ rw (← b) (run_bad at k st n p m one rest f (rw a h))
  refused_first {es} {e} n p m (stuck h g) t one rest a b =
      absurd (omega (arith, (seen_bounds s i within).place_from, looked.3, seen_forward (look_stands s i e es t) (λ z. some (looked.0 ∙ z))))

  pub command_refused : {at k node st n p : ℕ} {t z : Tape} {w : Walked} → Refuses at i q j (command_class c) k st w
      → InCommand s at k node i st n p t z w
  unfolding in_command join
  command_refused {k = k} {n = n} {p = p} {w = w} r =
      record {
        answers = λ ps m x es e t h u.
            let f = first_of t in
            let d = taken (Class.significance k) es in
            rw f.made
            (record {
              content = d.content;
              rest = d.rest;
              takes = d.takes;
              same = refused_first n p w.next r t (as_parameter f.one) (join (in_command f.others) d.content)
                  (parameter_of_class f.one ∙ ap command_class (f.of_class ∙ sym looked.2)) (parameter_place f.one ∙ f.placed ∙ sym looked.1);
              tapes = λ y. absurd (refused_number r y);
              goes_on = λ y. absurd (refused_number r y);
            });
      }

  pub content_refused : {at k node st n p : ℕ} {t z : Tape} {w : Walked} → (leads_command c ≡ true → Class.significance c < Class.significance k)
      → Refuses at i q j (loose_class c) k st w
      → InContent s at k node i st n p t z w
  unfolding join
  content_refused {k = k} {n = n} {p = p} {w = w} lesser r =
      record {
        answers = λ es e t.
            let f = first_of t in
            let same_class : expr_class f.one ≡ c = f.of_class ∙ sym looked.2 in
            let d = taken (Class.significance k) (and f.one f.others) in
            let b = first_taken (rw same_class lesser) d.takes in
            rw f.made
            (record {
              content = d.content;
              rest = d.rest;
              takes = d.takes;
              same = rw b.made
                  (refused_first n p w.next r t b.one b.others (b.of_class ∙ ap loose_class same_class) (b.placed ∙ f.placed ∙ sym looked.1));
              tapes = λ y. absurd (refused_number r y);
              goes_on = λ y. absurd (refused_number r y);
            });
      }

  -- A symbol or string is seen.
  atom_of : (sort ≡ 3 → ⊥) → {es : Exprs} {e : ℕ} → RunStands s i es e → AtomSeen s (seen i (drop i s)) es e
  atom_of a {es} {e} t = atom_seen (look_stands s i e es t) (λ z. some (looked.0 ∙ z)) (λ z. a (looked.0 ∙ z))

  to_next : {j' e : ℕ} {others : Exprs} → j' ≡ j → RunStands s (seen i (drop i s)).next others e → RunStands s j' others e
  to_next h t = rw (h, looked.3) t

  -- It is no parameter.
  pub command_atom : {at k node st n p j' st' n' p' : ℕ} {t t' : Tape} → TakenAs i j (command_class c) k st j' st' → (sort ≡ 3 → ⊥)
      → (z : Tape) (w : Walked) → InCommand s at k node j' st' n' p' t' z w → InCommand s at k node i st n p t z w
  unfolding command_class is_block_parameter
  command_atom {k = k} {st = st} {st' = st'} h a z w b =
      record { answers = λ ps m x es e u g v. absurd (none_taken k st st' (rw (looked.2 ∙ (atom_of a u).text) at h.taken)) }

  pub content_atom : {at k node st n p j' st' n' p' : ℕ} {t t' : Tape} → TakenAs i j (loose_class c) k st j' st' → (sort ≡ 3 → ⊥) → n' ≡ n + 1
      → p' ≡ p + l
      → (t' ≡ entered t n q Class.text node (n + 1))
      → (z : Tape) (w : Walked) → InContent s at k node j' st' n' p' t' z w → InContent s at k node i st n p t z w
  unfolding loose_class is_block_parameter
  content_atom {k = k} {node = node} {n = n} {st' = st'} {t = t} {t' = t'} h a nodes pool stored z w b =
      record {
        answers = λ es e u.
            let d = atom_of a u in
            rw d.made
            (content_passed {t = t} {t' = t'} {st' = st'} {after = d.others} d.one (rw d.of_class (rw (looked.2 ∙ d.text) at h.taken))
            (d.judged k)
            (λ content rest v. rw d.itself at (expression d.no_command v))
            (rw (d.on_tape t n node, ← looked.1) stored)
            (rw (d.nodes, d.bytes, ← looked.4, ← nodes, ← pool)
            (b.answers d.others e (to_next h.next d.stands))));
      }

  -- A list is seen, and it counts as itself.
  opened : {k st j' st' d : ℕ} → TakenAs i j d k st j' st' → d ≡ c → sort ≡ 3 → {es : Exprs} {e : ℕ} → RunStands s i es e → NamedListFirst s q d j' es e
  opened {k} {st} {st' = st'} {d} h same z {es} {e} t =
      rw (same, h.next, looked.1, looked.2, looked.3)
      (open_list (look_stands s i e es t) (sym looked.0 ∙ z) (λ y. none_taken k st st' (rw (same ∙ looked.2 ∙ y) at h.taken)))

  -- A parameter: w is its answer, and r that past its closing bracket.
  module _ {k node st n p j' st' : ℕ} {t t' : Tape} {w r : Walked} (taking : TakenAs i j (command_class c) k st j' st') (z : sort ≡ 3)
      (bounded : Bounded s j' w)
      (judged : JudgesList s q j' k (command_class c) n p node t t' w) (past-it : r ≡ past_bracket (length s) w) where
    counts : command_class c ≡ 0 → ⊥
    counts y = none_taken k st st' (rw y at taking.taken)

    is_parameter : is_block_parameter c ≡ true
    is_parameter = command_itself c counts

    same : command_class c ≡ c
    same = parameter_class c is_parameter

    before : 0 < j'
    before = omega (arith, taking.forward, taking.next)

    by_outcome : {ps : Exprs} {m : ℕ} (o : NamedListFirst s q (command_class c) j' ps m) → ChildVerdict k n p (listed o) r
    by_outcome o = child_verdict s j' k n p (listed o) r (past_bounded bounded past-it) before (list_answer bounded judged past-it before o).0

    pub parameter_stopped : {at : ℕ} {z : Tape} → (r.number ≡ 0 → ⊥) → InCommand s at k node i st n p t z r
    unfolding expr_class list_class
    parameter_stopped {at} {z = z'} y =
        record { answers = λ ps m x es e u g v. let o = opened taking same z u in rw o.made (by es e o (by_outcome o)) }
      where
        by : (es : Exprs) (e : ℕ) {ps : Exprs} {m : ℕ} (o : NamedListFirst s q (command_class c) j' ps m) → ChildVerdict k n p (listed o) r
            → BlockAnswer s at k node st n p t z' (in_command (and (listed o) o.others)) es e r
        by es e o (passed d x a b) = absurd (y x)
        by es e o (stopped f v d x g) =
            command_stopped st' n p o.others es e (listed o) f v (rw (o.of_class, same) is_parameter) (rw o.of_class taking.taken) d x _ _ _ g

    pub parameter_passed : {at : ℕ} → r.number ≡ 0 → (z : Tape) (w : Walked) → InCommand s at k node r.next st' r.nodes r.pool t' z w
        → InCommand s at k node i st n p t z w
    unfolding expr_class list_class
    parameter_passed {at} y z' w b =
        record { answers = λ ps m x es e u g v. let o = opened taking same z u in rw o.made (by x es e o (by_outcome o) g v) }
      where
        by : (x : Bracket) (es : Exprs) (e : ℕ) {ps : Exprs} {m : ℕ} (o : NamedListFirst s q (command_class c) j' ps m) → ChildVerdict k n p (listed o) r → Has s m (closing x)
            → RunStands s (m + 1) es e → BlockAnswer s at k node st n p t z' (in_command (and (listed o) o.others)) es e w
        by x es e {m} o (passed d v nodes pool) g u =
            command_passed {st' = st'} o.others (listed o) (rw (o.of_class, same) is_parameter) (rw o.of_class taking.taken) d
            (list_tape judged past-it o y)
            (rw (← nodes, ← pool) (b.answers o.others m x es e ((list_answer bounded judged past-it before o).1 y) g u))
        by x es e o (stopped f v d a h) g u = absurd (a y)

  -- A child: r is its answer.
  module _ {k st j' st' : ℕ} (taking : TakenAs i j (loose_class c) k st j' st') where
    itself : loose_class c ≡ c
    itself = loose_itself c (λ y. none_taken k st st' (rw y at taking.taken))

    pub belongs : (leads_command c ≡ true → Class.significance c < Class.significance k) → Belongs k (loose_class c)
    belongs lesser = record { lesser = rw itself lesser; itself = ap loose_class itself }

    module _ {n p node : ℕ} {t t' : Tape} {r : Walked} (z : sort ≡ 3) (bounded : Bounded s j' r)
        (child : JudgesChild s q j' k (loose_class c) n p node t t' r) where
      by_child : {es : Exprs} {e : ℕ} (d : ChildAnswer s k (loose_class c) n p node t t' es e r) → ChildVerdict k n p d.one r
      by_child d = child_verdict s j' k n p d.one r bounded (omega (arith, taking.forward, taking.next)) d.same

      pub child_stopped : {at : ℕ} {z : Tape} → (r.number ≡ 0 → ⊥) → InContent s at k node i st n p t z r
      child_stopped {at} {z = z'} y = record { answers = λ es e u. let d = child.counted es e (opened taking itself z u) in by d (by_child d) }
        where
          by : {es : Exprs} {e : ℕ} (d : ChildAnswer s k (loose_class c) n p node t t' es e r) → ChildVerdict k n p d.one r
              → BlockAnswer s at k node st n p t z' none es e r
          by d (passed h x a b) = absurd (y x)
          by {e} d (stopped f v h x g) = content_stopped st' n p d.after e d.one f v (rw d.of_class taking.taken) h d.takes x _ _ _ g

      pub child_passed : {at : ℕ} → r.number ≡ 0 → (z : Tape) (w : Walked) → InContent s at k node r.next st' r.nodes r.pool t' z w
          → InContent s at k node i st n p t z w
      child_passed {at} y z' w b = record { answers = λ es e u. let d = child.counted es e (opened taking itself z u) in by d (by_child d) }
        where
          by : {es : Exprs} {e : ℕ} (d : ChildAnswer s k (loose_class c) n p node t t' es e r) → ChildVerdict k n p d.one r
              → BlockAnswer s at k node st n p t z' none es e w
          by {e} d (passed h x nodes pool) =
              content_passed {st' = st'} {after = d.after} d.one (rw d.of_class taking.taken) h d.takes (d.tapes y)
              (rw (← nodes, ← pool) (b.answers d.after e (d.goes_on y)))
          by d (stopped f v h x g) = absurd (x y)

-- ---- a child's answer

pub block_same : (q c k n p m : ℕ) (lead : Expr) (es : Exprs) {w : Walked} → lead_class lead ≡ c → Class.is_element c ≡ true → w ≡ run_answer q c 0 (n + 1) p m es
    → w ≡ walked_to m (n + node_count (list q (and lead es))) (p + pool_bytes (list q (and lead es))) (judge k (list q (and lead es)))
unfolding run_answer judge node_count pool_bytes
block_same q c k n p m lead es e h g = rw (e, h) (g ∙ rw (start_state c, add-one n, suc-add n, ← add-suc n))

-- And it is on the tape: its node is entered before the block is walked, and left after it.
pub block_tape : {s : List ℕ} {t₁ t₂ z : Tape} {j : ℕ} {w : Walked} (t : Tape) (q c n node p m : ℕ) (lead : Expr) (es : Exprs) → lead_class lead ≡ c
    → Class.is_element c ≡ true
    → Bounded s j w → 0 < j → w ≡ run_answer q c 0 (n + 1) p m es → (t₁ ≡ entered t n q c node 0)
    → (t₂ ≡ taped_all t₁ (n + 1) n es) → (z ≡ left t₂ n w.nodes) → w.number ≡ 0
    → z ≡ taped t n node (list q (and lead es))
unfolding run_answer
block_tape {t₁ = t₁} {t₂ = t₂} {z = z} {w = w} t q c n node p m lead es e h bounded some g before walked after y =
    element_tape_lem t t₁ t₂ z n node q c w.nodes es before walked after
    (nodes_counted m (n + 1 + node_count_in es) (p + pool_bytes_in es) (finish q c (run q c (state_of c 0) es)) bounded some g y)
    ∙ sym (taped_element t n node q c lead es e h)

-- A command's block is the child.
pub command_child : {s : List ℕ} {t t₁ t₂ z : Tape} {q j k c n p node : ℕ} {w : Walked} → leads_command c ≡ true → Belongs k c → 0 < j → Bounded s j w
    → InCommand s q c n j 0 (n + 1) p t₁ t₂ w → (t₁ ≡ entered t n q c node 0)
    → (w.number ≡ 0 → z ≡ left t₂ n w.nodes) → JudgesChild s q j k c n p node t z w
unfolding leads_command is_command expr_class list_class block
command_child {t = t} {q = q} {k = k} {c = c} {n = n} {p = p} {node = node} {w = w} h b some bounded a before after =
    record {
      counted = λ es e o.
          let d = a.answers o.rest o.end o.bracket o.others e o.follows o.closed o.goes_on in
          let element = block_element c (both (Class.is_block c) _ (true_T h)).0 in
          rw o.made
          (record {
            one = block (listed o) d.content;
            after = d.rest;
            takes = λ content rest u.
                a_block {s = Class.significance k} {x = listed o} {es = o.others} {inside = d.content} {after = d.rest} (rw o.of_class h)
                (rw o.of_class (b.lesser h)) (rw o.of_class d.takes) u;
            of_class = o.of_class;
            same = block_same q c k n p w.next o.lead _ o.of_class element d.same;
            tapes = λ y. block_tape t q c n node p w.next o.lead _ o.of_class element bounded some d.same before (d.tapes y)
                (after y) y;
            goes_on = d.goes_on;
          });
    }

-- Any other list is itself the child.
pub inside_child : {s : List ℕ} {t z : Tape} {q j k c n p node : ℕ} {w r : Walked} → leads_command c ≡ false → Belongs k c → Bounded s j w
    → JudgesList s q j k c n p node t z w → r ≡ past_bracket (length s) w → 0 < j → JudgesChild s q j k c n p node t z r
unfolding leads_command is_command expr_class list_class
inside_child h b bounded judged past-it some =
    record {
      counted = λ es e o.
          let (same, on) = list_answer bounded judged past-it some o in
          rw o.made
          (record {
            one = listed o;
            after = o.others;
            takes = λ content rest u. rw (loose_same (listed o) (rw o.of_class b.itself)) at (expression {x = listed o} (rw o.of_class h) u);
            of_class = o.of_class;
            same = same;
            tapes = λ y. list_tape judged past-it o y;
            goes_on = on;
          });
    }
