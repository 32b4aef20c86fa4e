-- A whole imperative text: no expression, a first one that is no document, or a document that is the block of its command.
use Prim.Native.Nat.{ℕ, ◌+◌, ◌≤◌, ◌<◌}
use mathlib.Core.Path.{◌≡◌, refl, ap, ◌∙◌}
use mathlib.Core.List.{List, [], ◌∷◌}
use native.Mathlib.Nat.{zero-add}
use native.Mathlib.Omega.{arith}
use lib.ListN.{length}
use borrow.Author.Tests.{le-ltb, ne_eqb}
use Rattle.std.specs.Prelude.{Result, Err}
use Rattle.std.specs.Result.{IsErrAnd}
use Rattle.std.proofs.lemmas.Result.{err_from_is_err_and}
use Rattle.base.specs.rules.Limits.{most_bytes}
use Rattle.elements.specs.rules.Class as Class
use Rattle.syntax.specs.rules.Expression.{Expr, Exprs, and, depth, depth_all}
use Rattle.lexer.specs.Token.{Seen, seen}
use Rattle.document.specs.rules.Spelling.{imperative}
use Rattle.document.specs.rules.Lead.{expr_class, list_class}
use Rattle.document.specs.reference.Meaning.{fine, fault, judge, judge_root}
use Rattle.document.specs.reference.Imperative.{innermost, contents_of, regroup}
use Rattle.document.specs.rules.Command.{block}
use Rattle.document.specs.reference.Outcome.{is_too_deep, judged, one_expression}
use Rattle.document.proofs.Regroup.{block_class}
use Rattle.document.proofs.RegroupedDepth.{depth_regrouped}
use Rattle.reader.specs.internal.RunStands.{RunStands}
use Rattle.reader.specs.internal.Counts.{node_count, pool_bytes}
use Rattle.reader.specs.internal.WalkAnswer.{told, walked_to, Bounded, read_walked}
use Rattle.reader.specs.internal.WalkAnswer.{judged as judged_numbers}
use Rattle.reader.specs.internal.Tape.{Tape, entered, left, taped}
use Rattle.document.specs.rules.Takes.{Takes}
use Rattle.reader.specs.internal.Walk.{NamedListFirst}
use Rattle.reader.specs.internal.BlockWalk.{InCommand}
use Rattle.reader.specs.internal.WalkAnswer.{Walked}
use Rattle.reader.specs.internal.Walks.{WalkStarts, RootOpened, RootRefused, no_expression, no_document, stuck}
use Rattle.reader.specs.declared.walk.Element.{Element}
use Rattle.reader.specs.declared.walk.Reached.{Reached}
use Rattle.reader.specs.declared.walk.Refused.{Refused}
use Rattle.reader.specs.declared.root.Counts.{Counts}
use Rattle.reader.proofs.lemmas.walk.SeenExpressions.{SeenAs, saw_end, saw_symbol, saw_string, saw_list, look_stands}
use Rattle.reader.proofs.lemmas.walk.OneTurn.{seen_forward, open_list}
use Rattle.document.proofs.BlockContents.{takes_contents}
use Rattle.reader.proofs.lemmas.commands.CommandClasses.{FirstSeen, first_seen, block_place}
use Rattle.reader.proofs.lemmas.commands.BlockLoops.{ChildVerdict, passed, stopped, child_verdict, block_same, block_tape, listed, turn_within}

-- What the exit of a `?` answers is what the call answered.
pub exit_judged : (r : Result Counts Refused) (f : Refused) → IsErrAnd r (λ (e : Refused). e ≡ f) → judged_numbers r ≡ told (Err f)
exit_judged r f h = let p = err_from_is_err_and r h in rw (p.1, p.2)

-- w is the answer of a text that was scanned, and z the tape t with its document.
abbrev pub JudgesImperative : List ℕ → Tape → Tape → Walked → Type 0
JudgesImperative s t z w =
    ((es : Exprs) → RunStands s 0 es (length s) → depth_all es ≤ 59 → w ≡ read_walked (one_expression imperative (length s) es))
    × ((e : Expr) (es : Exprs) → RunStands s 0 (and e es) (length s) → depth_all (and e es) ≤ 59 → w.number ≡ 0
    → z ≡ taped t 0 4294967295 (regroup e es))

-- What a block takes is the content that regrouping gives the document.
regrouped : {es content rest : Exprs} (x : Expr) → Takes 4 es content rest → regroup x es ≡ block x content
unfolding regroup innermost Class.significance
regrouped x t = ap (λ cs. block x (innermost cs)) (takes_contents [] t)

none_judged : {s : List ℕ} {r : Seen} {es : Exprs} {e : ℕ} (n : ℕ) → SeenAs s r es e → r.sort ≡ 0 → walked_to 0 0 0 (fault 7 n) ≡ read_walked (one_expression imperative n es)
unfolding walked_to read_walked one_expression
none_judged n (saw_end h) z = refl
none_judged n (saw_symbol h c l f t) z = cc
none_judged n (saw_string h c l f t) z = cc
none_judged n (saw_list x h c f t d b u) z = cc

other_judged : {r : Seen} {es : Exprs} (n : ℕ) (f : FirstSeen r es) → (r.class ≡ Class.document → ⊥)
    → walked_to 0 0 0 (fault 8 r.place) ≡ read_walked (one_expression imperative n es)
unfolding walked_to read_walked one_expression judged judge_root regroup
other_judged {r} n f h =
    let x = f.one in
    let content = innermost (contents_of (Class.significance Class.document ∷ []) f.others) in
    rw (f.made, block_class x content, f.of_class, ne_eqb r.class Class.document h, block_place x content, f.placed)

-- The document's verdict is the answer: a fault, or none, and then it is not too deep.
module _ (n : ℕ) (x : Expr) (es : Exprs) where
  fault_answer : (f p m a b : ℕ) → judge_root (regroup x es) ≡ fault f p → walked_to m a b (fault f p) ≡ read_walked (one_expression imperative n (and x es))
  unfolding walked_to read_walked one_expression judged
  fault_answer f p m a b h = rw h

  fine_answer : judge_root (regroup x es) ≡ fine → depth_all (and x es) ≤ 59
      → record { number = 0; place = 0; next = 0; nodes = node_count (regroup x es); pool = pool_bytes (regroup x es) } ≡ read_walked (one_expression imperative n (and x es))
  unfolding read_walked one_expression judged is_too_deep
  fine_answer h d = rw (h, le-ltb 64 (depth (regroup x es)) (depth_regrouped x es h d))

-- Where a document is seen, it is a list that is opened.
document_opened : {s : List ℕ} {r : Seen} {es : Exprs} {e : ℕ} → SeenAs s r es e → (r.sort ≡ 0 → ⊥) → r.class ≡ Class.document
    → NamedListFirst s r.place r.class r.next es e
document_opened (saw_end h) z d = absurd (z h)
document_opened (saw_symbol h c l f t) z d = absurd (omega (arith, c, d))
document_opened (saw_string h c l f t) z d = absurd (omega (arith, c, d))
document_opened (saw_list x h c f t g b u) z d = open_list (saw_list x h c f t g b u) h (λ y. omega (arith, y, d))

-- A document's block: the answer is that of its nested form.
module _ {s : List ℕ} {t₁ t₂ : Tape} {q j e : ℕ} {es : Exprs} {w : Walked} (o : NamedListFirst s q Class.document j es e)
    (answer : InCommand s q Class.document 0 j 0 1 0 t₁ t₂ w) where
  abbrev nested : Expr
  nested = regroup (listed o) o.others

  document_answer : w ≡ walked_to w.next (0 + node_count nested) (0 + pool_bytes nested) (judge 0 nested)
  unfolding block Class.is_element Class.is_kind Class.significance
  document_answer =
      let a = answer.answers o.rest o.end o.bracket o.others e o.follows o.closed o.goes_on in
      rw (regrouped (listed o) a.takes) (block_same q 1 0 0 0 w.next o.lead _ o.of_class refl a.same)

  -- Its node is entered before the block is walked, and left after it.
  document_tape : (t z : Tape) → Bounded s j w → 0 < j → (t₁ ≡ entered t 0 q 1 4294967295 0)
      → (w.number ≡ 0 → z ≡ left t₂ 0 w.nodes) → w.number ≡ 0 → z ≡ taped t 0 4294967295 nested
  unfolding block Class.is_element Class.is_kind Class.significance
  document_tape t z bounded some before after y =
      let a = answer.answers o.rest o.end o.bracket o.others e o.follows o.closed o.goes_on in
      rw (regrouped (listed o) a.takes)
      (block_tape t q 1 0 4294967295 0 w.next o.lead _ o.of_class refl bounded some a.same before (a.tapes y) (after y) y)

  root : judge_root nested ≡ judge 0 nested
  unfolding judge_root regroup expr_class list_class
  root = rw (block_class (listed o) (innermost (contents_of (Class.significance Class.document ∷ []) o.others)), o.of_class)

  by_outcome : Bounded s j w → 0 < j → ChildVerdict 0 0 0 nested w
  by_outcome b h = child_verdict s j 0 0 0 nested w b h document_answer

  document_stopped : (n : ℕ) → ChildVerdict 0 0 0 nested w → (w.number ≡ 0 → ⊥) → w ≡ read_walked (one_expression imperative n es)
  document_stopped n (passed d x a b) y = absurd (y x)
  document_stopped n (stopped f p d x g) y = rw o.made (g ∙ fault_answer n (listed o) o.others f p w.next _ _ (root ∙ d))

  document_passed : (n : ℕ) → ChildVerdict 0 0 0 nested w → w.number ≡ 0 → depth_all es ≤ 59
      → record { number = 0; place = 0; next = 0; nodes = w.nodes; pool = w.pool } ≡ read_walked (one_expression imperative n es)
  document_passed n (passed d x nodes pool) y h =
      rw (o.made, nodes, pool, zero-add (node_count nested), zero-add (pool_bytes nested))
      (fine_answer n (listed o) o.others (root ∙ d) (rw o.made at h))
  document_passed n (stopped f p d x g) y h = absurd (x y)

-- The document of the text is what its first expression and the others are.
same_regrouped : {x y : Expr} {es others : Exprs} → and y es ≡ and x others → regroup x others ≡ regroup y es
same_regrouped {x} {y} {es} {others} e = let a : x ≡ y = cc in let b : others ≡ es = cc in rw (a, b)

module _ (s : List ℕ) (t : Tape) where
  as_seen : {es : Exprs} → RunStands s 0 es (length s) → SeenAs s (seen 0 s) es (length s)
  as_seen {es} u = look_stands s 0 (length s) es u

  -- Where there is no root, or another than a document's, the text is refused.
  pub root_refused : {z : Tape} {w : Walked} → RootRefused s w → JudgesImperative s t z w
  unfolding walked_to
  root_refused (no_expression e g) = (
    λ es u d. g ∙ none_judged (length s) (as_seen u) e,
    λ e es u d y. absurd (omega (arith, y, ap (λ (w : Walked). w.number) g)),
  )
  root_refused (no_document some h g) = (
    λ es u d. g ∙ other_judged (length s) (first_seen (as_seen u) some) h,
    λ e es u d y. absurd (omega (arith, y, ap (λ (w : Walked). w.number) g)),
  )
  root_refused (stuck some h g) = (
    λ es u d. absurd (omega (arith, seen_forward (as_seen u) some)),
    λ e es u d y. absurd (omega (arith, seen_forward (as_seen u) some)),
  )

  -- Where it is opened, its content may be walked.
  pub root_starts : {t₁ : Tape} {x : Element} {from : Reached} → RootOpened s t t₁ x from → length s ≤ most_bytes → WalkStarts s from x.node
  root_starts root h =
      rw (root.inner, root.element)
      (turn_within s 0 (refl, refl, refl, refl, refl) (omega arith) root.is_seen (rw root.inner at root.forward), rw root.inner at root.forward, omega arith, h, omega arith)

  -- It is opened, and w is the answer of its block.
  module _ {t₁ t₂ : Tape} {x : Element} {from : Reached} {w : Walked} (root : RootOpened s t t₁ x from) (bounded : Bounded s from.place w)
      (answer : InCommand s x.at x.kind x.node from.place 0 from.nodes from.pool t₁ t₂ w) where
    opened : {es : Exprs} → RunStands s 0 es (length s) → NamedListFirst s (seen 0 s).place Class.document (seen 0 s).next es (length s)
    opened {es} u = rw root.is_document at (document_opened (as_seen u) root.is_seen root.is_document)

    forward : 0 < (seen 0 s).next
    forward = rw root.inner at root.forward

    within : Bounded s (seen 0 s).next w
    within = rw root.inner at bounded

    answers : InCommand s (seen 0 s).place Class.document 0 (seen 0 s).next 0 1 0 t₁ t₂ w
    answers = rw (root.element, root.inner) at answer

    pub document_fault : {z : Tape} → (w.number ≡ 0 → ⊥) → JudgesImperative s t z w
    document_fault y = (
      λ es u d. let o = opened u in document_stopped o answers (length s) (by_outcome o answers within forward) y,
      λ e es u d x. absurd (y x),
    )

    pub document_fine : {z : Tape} → w.number ≡ 0 → (z ≡ left t₂ x.node w.nodes)
        → JudgesImperative s t z (record { number = 0; place = 0; next = 0; nodes = w.nodes; pool = w.pool })
    document_fine {z} y after = (
      λ es u d. let o = opened u in document_passed o answers (length s) (by_outcome o answers within forward) y d,
      λ e es u d v.
          let o = opened u in
          document_tape o answers t z within forward root.on_tape (λ y. rw root.element at after) y
          ∙ ap (taped t 0 4294967295) (same_regrouped o.made),
    )
