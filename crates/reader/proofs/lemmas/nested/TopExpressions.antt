-- The expressions at the top of a text: where a run ends, where its first expression ends, and the answer of the one root.
use Prim.Native.Nat.{ℕ, suc, ◌+◌, ◌-◌, ◌≤◌, ◌<◌}
use mathlib.Core.Path.{◌≡◌, refl, sym, ap, ◌∙◌}
use mathlib.Core.List.{List}
use native.Mathlib.Omega.{arith}
use native.Mathlib.Numerals.{add-one}
use lib.ListN.{length}
use borrow.Author.Tests.{ne_eqb}
use Rattle.elements.specs.rules.Class as Class
use Rattle.elements.specs.rules.Inside.{start}
use Rattle.syntax.specs.rules.Byte.{Bracket, closing}
use Rattle.syntax.specs.rules.Expression.{Expr, symbol, quoted, list, Exprs, none, and, place}
use Rattle.lexer.specs.Token.{Seen, seen}
use Rattle.document.specs.rules.Spelling.{nested}
use Rattle.document.specs.rules.Lead.{lead_class, list_class, expr_class}
use Rattle.document.specs.reference.Meaning.{Verdict, fine, fault, finish, run, judge, judge_root}
use Rattle.document.specs.reference.Outcome.{judged, is_too_deep, one_expression}
use Rattle.reader.specs.internal.RunStands.{Has, RunStands}
use Rattle.reader.specs.internal.Walk.{NamedListFirst, AnswersFrom, Finishes, past_bracket}
use Rattle.reader.specs.internal.Walks.{WalkStarts, RootOpened, RootRefused, no_expression, no_document}
use Rattle.reader.specs.declared.walk.Element.{Element}
use Rattle.reader.specs.declared.walk.Reached.{Reached}
use Rattle.reader.specs.internal.FirstExpressions.{first_place, second_place, FirstJudged}
use Rattle.reader.specs.internal.Counts.{node_count, node_count_in, pool_bytes, pool_bytes_in}
use Rattle.reader.specs.internal.WalkAnswer.{walked_to, Bounded, read_walked}
use Rattle.reader.specs.internal.Tape.{Tape, left, taped}
use Rattle.reader.specs.internal.WalkAnswer.{Walked}
use Rattle.reader.proofs.lemmas.walk.SeenExpressions.{seen_bounds, SeenAs, saw_end, saw_symbol, saw_string, saw_list, look_stands, stands_within}
use Rattle.reader.proofs.lemmas.walk.OneTurn.{Looked}
use Rattle.reader.proofs.lemmas.tape.AfterWalk.{element_tape_lem, taped_element}
use Rattle.reader.proofs.lemmas.value.TextValues.{seen_ends}
use Rattle.reader.proofs.lemmas.walk.LoopInvariant.{past_none, nodes_counted, to_start}
use Rattle.reader.proofs.lemmas.commands.BlockLoops.{past_by}

-- ---- what was seen, by its number

-- The first of these expressions is a list, which holds `inner` and is closed at `end`.
record ListFirst (s : List ℕ) (q : ℕ) (es : Exprs) (e : ℕ) : Type 0 where
  inner : Exprs
  others : Exprs
  end : ℕ
  bracket : Bracket
  made : es ≡ and (list q inner) others
  holds : RunStands s (q + 1) inner end
  closed : Has s end (closing bracket)
  goes_on : RunStands s (end + 1) others e

-- The first of these expressions is at q and of class c.
record FirstExpression (q c : ℕ) (es : Exprs) : Type 0 where
  first : Expr
  others : Exprs
  made : es ≡ and first others
  placed : place first ≡ q
  of_class : expr_class first ≡ c

record AtomFirst (s : List ℕ) (j : ℕ) (es : Exprs) (e : ℕ) : Type 0 where
  first : Expr
  others : Exprs
  made : es ≡ and first others
  goes_on : RunStands s j others e

module _ {s : List ℕ} {r : Seen} where
  seen_first_lem : {es : Exprs} {e : ℕ} → SeenAs s r es e → (r.sort ≡ 0 → ⊥) → FirstExpression r.place r.class es × (r.place < r.next)
  unfolding place expr_class
  seen_first_lem (saw_end h) z = absurd (z h)
  seen_first_lem (saw_symbol {es} h c l f t) z = (record { first = symbol r.place _; others = es; made = refl; placed = refl; of_class = sym c }, f)
  seen_first_lem (saw_string {es} h c l f t) z = (record { first = quoted r.place _; others = es; made = refl; placed = refl; of_class = sym c }, f)
  seen_first_lem (saw_list {inner} {es} x h c f t d b u) z =
      (record { first = list r.place inner; others = es; made = refl; placed = refl; of_class = sym c }, f)

  seen_atom : {es : Exprs} {e : ℕ} → SeenAs s r es e → (r.sort ≡ 0 → ⊥) → (r.sort ≡ 3 → ⊥) → AtomFirst s r.next es e
  seen_atom (saw_end h) z a = absurd (z h)
  seen_atom (saw_symbol {es} h c l f t) z a = record { first = symbol r.place _; others = es; made = refl; goes_on = t }
  seen_atom (saw_string {es} h c l f t) z a = record { first = quoted r.place _; others = es; made = refl; goes_on = t }
  seen_atom (saw_list x h c f t d b u) z a = absurd (a h)

  seen_list : {es : Exprs} {e : ℕ} → SeenAs s r es e → r.sort ≡ 3 → ListFirst s r.place es e
  seen_list (saw_end h) z = let w : ◌≡◌ {A = ℕ} 0 1 = cc in absurd (omega arith)
  seen_list (saw_symbol h c l f t) z = let w : ◌≡◌ {A = ℕ} 0 1 = cc in absurd (omega arith)
  seen_list (saw_string h c l f t) z = let w : ◌≡◌ {A = ℕ} 0 1 = cc in absurd (omega arith)
  seen_list (saw_list {inner} {es} {m} x h c f t d b u) z =
      record { inner = inner; others = es; end = m; bracket = x; made = refl; holds = t; closed = b; goes_on = u }

  -- What is of the class `document` is a list led by that name.
  seen_document : {es : Exprs} {e : ℕ} → SeenAs s r es e → (r.sort ≡ 0 → ⊥) → r.class ≡ Class.document → NamedListFirst s r.place r.class r.next es e
  seen_document (saw_end h) z a = absurd (z h)
  seen_document (saw_symbol h c l f t) z a = absurd (omega arith)
  seen_document (saw_string h c l f t) z a = absurd (omega arith)
  seen_document (saw_list {inner} {es} {m} x h c f t d b u) z a =
      let named : r.class ≡ 0 → ⊥ = λ o. omega arith in
      let l = d named in
      let made : inner ≡ and l.lead l.rest = l.made in
      record {
        lead = l.lead;
        rest = l.rest;
        others = es;
        end = m;
        bracket = x;
        made = cc;
        of_class = l.of_class;
        follows = l.follows;
        closed = b;
        goes_on = u;
      }

-- The same, of what was looked at.
module _ {s : List ℕ} {i sort q c j l : ℕ} (looked : Looked s i sort q c j l) where
  looked_end : {es : Exprs} {e : ℕ} → RunStands s i es e → sort ≡ 0 → (es ≡ none) × (q ≡ e)
  looked_end {es} {e} t z = let r = seen_ends (look_stands s i e es t) (sym looked.0 ∙ z) in (r.0, looked.1 ∙ r.1)

  looked_first : {es : Exprs} {e : ℕ} → RunStands s i es e → (sort ≡ 0 → ⊥) → FirstExpression q c es × (q < j)
  looked_first {es} {e} t z = rw (looked.1, looked.2, looked.3) (seen_first_lem (look_stands s i e es t) (λ h. z (looked.0 ∙ h)))

  looked_atom : {es : Exprs} {e : ℕ} → RunStands s i es e → (sort ≡ 0 → ⊥) → (sort ≡ 3 → ⊥) → AtomFirst s j es e
  looked_atom {es} {e} t z a = rw looked.3 (seen_atom (look_stands s i e es t) (λ h. z (looked.0 ∙ h)) (λ h. a (looked.0 ∙ h)))

  looked_list : {es : Exprs} {e : ℕ} → RunStands s i es e → sort ≡ 3 → ListFirst s q es e
  looked_list {es} {e} t z = rw looked.1 (seen_list (look_stands s i e es t) (sym looked.0 ∙ z))

  looked_document : {es : Exprs} {e : ℕ} → RunStands s i es e → (sort ≡ 0 → ⊥) → c ≡ Class.document → NamedListFirst s q c j es e
  looked_document {es} {e} t z a =
      rw (looked.1, looked.2, looked.3) (seen_document (look_stands s i e es t) (λ h. z (looked.0 ∙ h)) (sym looked.2 ∙ a))

-- ---- where a run ends

-- At place i, inside d lists of a run that ends at e.
pub data Nest (s : List ℕ) (e : ℕ) : ℕ → ℕ → Type 0 where
  outside : {i : ℕ} {es : Exprs} → RunStands s i es e → Nest s e i 0
  inside : {i m d : ℕ} {es : Exprs} {x : Bracket} → RunStands s i es m → Has s m (closing x) → Nest s e (m + 1) d → Nest s e i (suc d)

-- The loop's invariant: what began at `from` has got to i, and each list took a byte.
pub record Running (s : List ℕ) (from i d : ℕ) : Type 0 where
  pub shallow : d ≤ i
  pub nests : (es : Exprs) (e : ℕ) → RunStands s from es e → Nest s e i d

pub running : (s : List ℕ) (from : ℕ) → Running s from from 0
running s from = record { shallow = omega arith; nests = λ es e t. outside t }

-- Past the text's end nothing is left.
nest_over : {s : List ℕ} {e i d : ℕ} → Nest s e i d → length s ≤ i → i ≡ e
nest_over {s} {e} {i} (outside {es = es} t) h = omega (arith, stands_within s i e es t)
nest_over {s} {e} {i} (inside {m = m} {es = es} t b n) h = absurd (omega (arith, stands_within s i m es t, b.inside))

module _ {s : List ℕ} {i sort q c j l : ℕ} (looked : Looked s i sort q c j l) where
  nest_end : {e d : ℕ} → Nest s e i d → sort ≡ 0 → d ≡ 0 → q ≡ e
  nest_end (outside t) z h = (looked_end looked t z).1
  nest_end (inside t b n) z h = absurd (omega arith)

  nest_close : {e d : ℕ} → Nest s e i d → sort ≡ 0 → (d ≡ 0 → ⊥) → (q < length s) × Nest s e (q + 1) (d - 1)
  nest_close (outside t) z h = absurd (h refl)
  nest_close (inside {d = d} t b n) z h =
      let r = (looked_end looked t z).1 in
      let one : suc d - 1 ≡ d = omega arith in
      (omega (arith, b.inside, r), rw (r, one) n)

  nest_forward : {e d : ℕ} → Nest s e i d → (sort ≡ 0 → ⊥) → q < j
  nest_forward (outside t) z = (looked_first looked t z).1
  nest_forward (inside t b n) z = (looked_first looked t z).1

  nest_atom : {e d : ℕ} → Nest s e i d → (sort ≡ 0 → ⊥) → (sort ≡ 3 → ⊥) → Nest s e j d
  nest_atom (outside t) z a = outside (looked_atom looked t z a).goes_on
  nest_atom (inside t b n) z a = inside (looked_atom looked t z a).goes_on b n

  nest_list : {e d : ℕ} → Nest s e i d → sort ≡ 3 → Nest s e (q + 1) (suc d)
  nest_list (outside t) z = let r = looked_list looked t z in inside r.holds r.closed (outside r.goes_on)
  nest_list (inside t b n) z = let r = looked_list looked t z in inside r.holds r.closed (inside r.goes_on b n)

  -- The ways through the loop's body, and out of it.
  module _ {from d : ℕ} (running : Running s from i d) where
    pub run_ends : sort ≡ 0 → d ≡ 0 → (es : Exprs) (e : ℕ) → RunStands s from es e → q ≡ e
    run_ends z h es e t = nest_end (running.nests es e t) z h

    pub run_unclosed : sort ≡ 0 → (d ≡ 0 → ⊥) → length s ≤ q → (es : Exprs) (e : ℕ) → RunStands s from es e → q ≡ e
    run_unclosed z h g es e t = absurd (omega (arith, (nest_close (running.nests es e t) z h).0))

    pub run_stuck : i ≤ length s → (sort ≡ 0 → ⊥) → j ≤ i → (es : Exprs) (e : ℕ) → RunStands s from es e → i ≡ e
    run_stuck within z h es e t =
        absurd (omega (arith, nest_forward (running.nests es e t) z, (seen_bounds s i within).place_from, looked.1))

    pub run_closes : i ≤ length s → sort ≡ 0 → (d ≡ 0 → ⊥) → Running s from (q + 1) (d - 1)
    run_closes within z h =
        record {
          shallow = omega (arith, running.shallow, (seen_bounds s i within).place_from, looked.1);
          nests = λ es e t. (nest_close (running.nests es e t) z h).1;
        }

    pub run_opens : i ≤ length s → sort ≡ 3 → Running s from (q + 1) (d + 1)
    run_opens within z =
        record {
          shallow = omega (arith, running.shallow, (seen_bounds s i within).place_from, looked.1);
          nests = λ es e t. rw (add-one d) (nest_list (running.nests es e t) z);
        }

    pub run_passes : (sort ≡ 0 → ⊥) → (sort ≡ 3 → ⊥) → i < j → Running s from j d
    run_passes z a h =
        record { shallow = omega (arith, running.shallow); nests = λ es e t. nest_atom (running.nests es e t) z a }

pub run_over : {s : List ℕ} {from i d : ℕ} → Running s from i d → length s ≤ i → (es : Exprs) (e : ℕ) → RunStands s from es e → i ≡ e
run_over running h es e t = nest_over (running.nests es e t) h

-- Where what is seen from place i on lies.
pub looked_within : (s : List ℕ) (i : ℕ) {sort q c j l : ℕ} → Looked s i sort q c j l → i ≤ length s
    → (i ≤ q) × (q ≤ length s) × ((sort ≡ 0 → ⊥) → i < j → (q < j) × (j ≤ length s))
looked_within s i looked within =
    let b = seen_bounds s i within in (
      omega (arith, b.place_from, looked.1),
      omega (arith, b.place_within, looked.1),
      λ z h. let g = b.forward (λ e. z (looked.0 ∙ e)) (rw looked.3 at h) in omega (arith, g, looked.1, looked.3),
    )

-- ---- where the first expression ends

module _ {s : List ℕ} {i sort q c j l : ℕ} (looked : Looked s i sort q c j l) where
  pub past_atom : (sort ≡ 3 → ⊥) → (x : Expr) (es : Exprs) (e : ℕ) → RunStands s i (and x es) e → RunStands s j es e
  past_atom a x es e t =
      let some : sort ≡ 0 → ⊥ = λ z. let h = (looked_end looked t z).0 in let w : ◌≡◌ {A = ℕ} 0 1 = cc in omega arith in
      let r = looked_atom looked t some a in
      let same : r.others ≡ es = cc in
      rw same at r.goes_on

  pub past_cut : sort ≡ 3 → length s ≤ q → (x : Expr) (es : Exprs) (e : ℕ) → RunStands s i (and x es) e → ⊥
  past_cut a h x es e t =
      let r = looked_list looked t a in omega (arith, stands_within s (q + 1) r.end r.inner r.holds)

  -- The run inside a list ends at its closing bracket.
  pub past_list : {end : ℕ} → sort ≡ 3 → ((es : Exprs) (e : ℕ) → RunStands s (q + 1) es e → end ≡ e)
      → (x : Expr) (es : Exprs) (e : ℕ) → RunStands s i (and x es) e → (end < length s) × RunStands s (end + 1) es e
  past_list {end} a h x es e t =
      let r = looked_list looked t a in
      let same : r.others ≡ es = cc in
      let here : end ≡ r.end = h r.inner r.end r.holds in
      (omega (arith, r.closed.inside), rw here (rw same at r.goes_on))

-- ---- the second expression

first_of_none : (n : ℕ) {es : Exprs} → es ≡ none → n ≡ first_place n es
unfolding first_place
first_of_none n e = rw e

first_of_some : (n : ℕ) {es : Exprs} (x : Expr) {others : Exprs} → es ≡ and x others → place x ≡ first_place n es
unfolding first_place
first_of_some n x e = rw e

second_of_none : (n : ℕ) {es : Exprs} → es ≡ none → n ≡ second_place n es
unfolding second_place
second_of_none n e = rw e

second_of_some : (n : ℕ) {es : Exprs} (x : Expr) {others : Exprs} → es ≡ and x others → first_place n others ≡ second_place n es
unfolding second_place
second_of_some n x e = rw e

module _ {s : List ℕ} {i sort q c j l : ℕ} (looked : Looked s i sort q c j l) where
  pub first_missing : sort ≡ 0 → (es : Exprs) → RunStands s i es (length s) → length s ≡ first_place (length s) es
  first_missing z es t = first_of_none (length s) (looked_end looked t z).0

  pub first_there : (sort ≡ 0 → ⊥) → (es : Exprs) → RunStands s i es (length s) → q ≡ first_place (length s) es
  first_there z es t = let f = (looked_first looked t z).0 in sym f.placed ∙ first_of_some (length s) f.first f.made

module _ {s : List ℕ} {sort q c j l : ℕ} (looked : Looked s 0 sort q c j l) where
  pub second_none : sort ≡ 0 → (es : Exprs) → RunStands s 0 es (length s) → length s ≡ second_place (length s) es
  second_none z es t = second_of_none (length s) (looked_end looked t z).0

  -- The first expression ends at place i, and the next is at r.
  pub second_some : {i r : ℕ} → (sort ≡ 0 → ⊥) → ((x : Expr) (es : Exprs) (e : ℕ) → RunStands s 0 (and x es) e → RunStands s i es e)
      → ((es : Exprs) → RunStands s i es (length s) → r ≡ first_place (length s) es)
      → (es : Exprs) → RunStands s 0 es (length s) → r ≡ second_place (length s) es
  second_some some past next es t =
      let f = (looked_first looked t some).0 in
      next f.others (past f.first f.others (length s) (rw f.made at t)) ∙ second_of_some (length s) f.first f.made

-- The same after a first expression with no fault.
pub second_after : {s : List ℕ} {r : ℕ} (w : Walked) → w.number ≡ 0
    → ((es : Exprs) → RunStands s w.next es (length s) → r ≡ first_place (length s) es)
    → (es : Exprs) → FirstJudged s es w → r ≡ second_place (length s) es
unfolding walked_to
second_after w z next none f = absurd (omega (arith, z, ap (λ (w : Walked). w.number) f))
second_after {s} w z next (and x es) f = next es (f.1 z) ∙ second_of_some (length s) x refl

-- ---- the answer

Below : ℕ → Exprs → Type 0
Below n none = Unit {0}
Below n (and x es) = (place x < n) × Below n es

-- Expressions stand at places within the text.
below : {s : List ℕ} {i e : ℕ} {es : Exprs} → RunStands s i es e → Below (length s) es
unfolding Below place
below (RunStands.ended h) = tt
below (RunStands.after_blank h t) = below t
below (RunStands.after_line_end h g t) = below t
below (RunStands.a_symbol h t) = (h.inside, below t)
below (RunStands.a_string h g t) = (h.inside, below t)
below (RunStands.a_list h t g u) = (h.inside, below u)

answer_two : (n : ℕ) {other : ℕ} (es : Exprs) → other ≡ second_place n es → other < n → walked_to 0 0 0 (fault 7 other) ≡ read_walked (one_expression nested n es)
unfolding one_expression first_place second_place walked_to read_walked
answer_two n none e h = absurd (omega arith)
answer_two n (and x none) e h = absurd (omega arith)
answer_two n (and x (and y es)) e h = rw e

-- The walk's answer with the counts of the document, and no place of its own.
settled : (x : Expr) (v : Verdict) {w : Walked} (m n p : ℕ) → w ≡ walked_to m n p v → node_count x ≡ n → pool_bytes x ≡ p
    → record { number = w.number; place = w.place; next = 0; nodes = w.nodes; pool = w.pool } ≡ read_walked (judged nested x v)
unfolding walked_to read_walked judged is_too_deep
settled x fine m n p e f g = rw (e, f, g)
settled x (fault k q) m n p e f g = rw e

-- There is no second expression.
answer_one : (s : List ℕ) (w : Walked) {other : ℕ} (es : Exprs) → Below (length s) es → other ≡ second_place (length s) es → length s ≤ other
    → FirstJudged s es w
    → record { number = w.number; place = w.place; next = 0; nodes = w.nodes; pool = w.pool } ≡ read_walked (one_expression nested (length s) es)
unfolding one_expression first_place second_place walked_to read_walked Below
answer_one s w none b e h f = rw f
answer_one s w (and x none) b e h f = settled x (judge_root x) w.next (node_count x) (pool_bytes x) f.0 refl refl
answer_one s w (and x (and y es)) b e h f = absurd (omega (arith, b.1.0))

-- A root that is a document is judged by what follows its name.
judge_document : (q : ℕ) (lead : Expr) (rest : Exprs) → lead_class lead ≡ 1 → judge_root (list q (and lead rest)) ≡ finish q 1 (run q 1 (start 1) rest)
unfolding judge_root expr_class list_class judge Class.is_element Class.is_kind
judge_document q lead rest e = rw e

document_nodes : (q : ℕ) (lead : Expr) (rest : Exprs) → lead_class lead ≡ 1 → node_count (list q (and lead rest)) ≡ 1 + node_count_in rest
unfolding node_count Class.is_element Class.is_kind
document_nodes q lead rest e = rw e (omega arith)

document_bytes : (q : ℕ) (lead : Expr) (rest : Exprs) → lead_class lead ≡ 1 → pool_bytes (list q (and lead rest)) ≡ 0 + pool_bytes_in rest
unfolding pool_bytes Class.is_element Class.is_kind
document_bytes q lead rest e = rw e (omega arith)

judge_no_document : (x : Expr) → (expr_class x ≡ 1 → ⊥) → judge_root x ≡ fault 8 (place x)
unfolding judge_root
judge_no_document x c = rw (ne_eqb (expr_class x) 1 c)

refused_number : (f q : ℕ) {w : Walked} → w ≡ walked_to 0 0 0 (fault f q) → 0 < f → w.number ≡ 0 → ⊥
unfolding walked_to
refused_number f q e h y = omega (arith, y, ap (λ (w : Walked). w.number) e)

-- What is seen at the front of a text.
front : (s : List ℕ) → Looked s 0 (seen 0 s).sort (seen 0 s).place (seen 0 s).class (seen 0 s).next (seen 0 s).length
front s = (refl, refl, refl, refl, refl)

-- The ways out of the judging of the first expression: there is no document,
module _ {s : List ℕ} {w : Walked} where
  pub first_refused : RootRefused s w → (es : Exprs) → RunStands s 0 es (length s) → FirstJudged s es w
  unfolding walked_to
  first_refused (no_expression z e) es t = rw (e, (looked_end (front s) t z).0) refl
  first_refused (no_document some d e) es t =
      let f = (looked_first (front s) t some).0 in
      rw (e, f.made) (rw (judge_no_document f.first (λ g. d (sym f.of_class ∙ g)), f.placed) refl, λ z. absurd (omega (arith, z)))
  first_refused (RootRefused.stuck some h e) es t = absurd (omega (arith, (looked_first (front s) t some).1))

  pub root_refused : RootRefused s w → w.number ≡ 0 → ⊥
  root_refused (no_expression z e) = refused_number 7 _ e (omega arith)
  root_refused (no_document some d e) = refused_number 8 _ e (omega arith)
  root_refused (RootRefused.stuck some h e) = refused_number 8 _ e (omega arith)

-- or a walk starts in it,
pub root_starts : {s : List ℕ} {t z : Tape} {x : Element} {i : Reached} → RootOpened s t z x i → length s ≤ 65536 → WalkStarts s i x.node
root_starts {s} root long =
    let b = (seen_bounds s 0 (omega arith)).forward root.is_seen (omega (arith, root.forward, ap (λ (i : Reached). i.place) root.inner)) in
    rw (root.element, root.inner) (b.1, omega (arith, b), omega arith, long, omega arith)

-- or w is the walk's answer in it, and r that past the closing bracket. The root's node is entered before the walk, and left after it.
module _ {s : List ℕ} {t t₁ t₂ : Tape} {x : Element} {i : Reached} (root : RootOpened s t t₁ x i) {w r : Walked}
    (walk : Bounded s i.place w × AnswersFrom s x.at x.kind i.place 0 i.nodes i.pool x.node t₁ t₂ w) (past : r ≡ past_bracket (length s) w) where
  walked : Bounded s (seen 0 s).next w × Finishes s (seen 0 s).place 1 (seen 0 s).next 1 0 0 t₁ t₂ w
  walked = to_start (rw (root.element, root.inner) at walk)

  forward : 0 < (seen 0 s).next
  forward = omega (arith, root.forward, ap (λ (i : Reached). i.place) root.inner)

  pub first_root : (es : Exprs) → RunStands s 0 es (length s) → FirstJudged s es r
  first_root es u =
      let o = looked_document (front s) u root.is_seen root.is_document in
      let named : lead_class o.lead ≡ 1 = o.of_class ∙ root.is_document in
      let e = past_by walked.0 past o.end (1 + node_count_in o.rest) (0 + pool_bytes_in o.rest) _ (walked.1.0 o.rest o.end o.follows)
      o.closed.inside forward in
      rw o.made (
        rw (
          judge_document (seen 0 s).place o.lead o.rest named,
          document_nodes (seen 0 s).place o.lead o.rest named,
          document_bytes (seen 0 s).place o.lead o.rest named,
        )
            e.0,
        λ z. rw (e.1 z) o.goes_on,
      )

  pub first_tape : {z : Tape} → (w.number ≡ 0 → z ≡ left t₂ x.node w.nodes)
      → (e : Expr) (es : Exprs) → RunStands s 0 (and e es) (length s) → r.number ≡ 0 → z ≡ taped t 0 4294967295 e
  unfolding Class.is_element Class.is_kind
  first_tape {z} after e es u y =
      let o = looked_document (front s) u root.is_seen root.is_document in
      let fine-walk : w.number ≡ 0 = (past_none (length s) w r past y).0 in
      let counted = nodes_counted o.end (1 + node_count_in o.rest) (0 + pool_bytes_in o.rest) _ walked.0 forward
      (walked.1.0 o.rest o.end o.follows) fine-walk in
      let same : list (seen 0 s).place (and o.lead o.rest) ≡ e = cc o.made in
      element_tape_lem t t₁ t₂ z 0 4294967295 (seen 0 s).place 1 w.nodes o.rest root.on_tape (walked.1.1 o.rest o.end o.follows fine-walk)
      (rw root.element at (after fine-walk)) counted
      ∙ sym (taped_element t 0 4294967295 (seen 0 s).place 1 o.lead o.rest (o.of_class ∙ root.is_document) refl) ∙ ap (taped t 0 4294967295) same

-- The ways out of the judging of a text, where `other` is the place of the second expression.
module _ {s : List ℕ} {other : ℕ} (w : Walked) (first : (es : Exprs) → RunStands s 0 es (length s) → FirstJudged s es w)
    (second : (es : Exprs) → RunStands s 0 es (length s) → FirstJudged s es w → other ≡ second_place (length s) es) where
  pub judge_two : other < length s → (es : Exprs) → RunStands s 0 es (length s)
      → walked_to 0 0 0 (fault 7 other) ≡ read_walked (one_expression nested (length s) es)
  judge_two h es t = answer_two (length s) es (second es t (first es t)) h

  pub judge_one : length s ≤ other → (es : Exprs) → RunStands s 0 es (length s)
      → record { number = w.number; place = w.place; next = 0; nodes = w.nodes; pool = w.pool } ≡ read_walked (one_expression nested (length s) es)
  judge_one h es t = answer_one s w es (below t) (second es t (first es t)) h (first es t)
