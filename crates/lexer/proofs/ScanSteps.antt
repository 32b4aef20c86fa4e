-- The scan byte by byte: what is left to scan gives the same answer at each step. For the code the open brackets are a list, the outermost first.
use Prim.Native.Nat.{ℕ, zero, suc, ◌+◌, ◌-◌, ◌≤◌, ◌<◌}
use mathlib.Core.Path.{◌≡◌, refl, ap, sym, ◌∙◌}
use mathlib.Core.Bool.{true, false}
use mathlib.Core.List.{List, [], ◌∷◌, ◌++◌}
use native.Mathlib.Nat.{add-zero}
use native.Mathlib.Numerals.{add-one}
use native.Mathlib.Omega.{arith}
use lib.Dec.{eqb}
use lib.ListN.{length, drop, get_or, length-append, drop_of_length-le}
use lib.Seq.{drop-cons, drop-drop}
use borrow.Author.Tests.{eqb-true}
use Rattle.base.proofs.Booleans.{bool_case, cond_case, true_T}
use Rattle.syntax.specs.rules.Byte.{Bracket, ByteClass, blank, return, quote, forbidden, ordinary, opening, closing, byte_class, is_ordinary, same_bracket}
use Rattle.syntax.specs.rules.Syntax.{Leaf, space, line_end, word, string, pieces_before}
use Rattle.syntax.specs.reference.Scan.{Quoted, closed, unclosed, bad_escape, quoted_from, quoted_item, ordinary_run, Items, a_leaf, item_at, items_from}
use Rattle.syntax.specs.reference.Scan.{Open, Levels, fault, level, add_leaf, wrap, end_level, at_end, one_more, one_less, build, outermost}
use Rattle.characters.specs.Codes.{code_of}
use Rattle.atoms.specs.Atom.{ended, string_end, string_at}
use Rattle.std.specs.Prelude.{Ok, Err}
use Rattle.characters.specs.declared.class.Bracket.{Bracket as CodeBracket}
use Rattle.characters.specs.declared.class.Bracket.TheVariants.{Round, Square}
use Rattle.characters.specs.declared.class.ByteClass.{ByteClass as CodeClass}
use Rattle.characters.specs.declared.class.ByteClass.TheVariants.{Blank, Return, Quote, Forbidden, Ordinary, Opening, Closing}
use Rattle.atoms.specs.declared.string.StringEnd.{StringEnd}
use Rattle.atoms.specs.declared.string.BadString.{BadString}
use Rattle.lexer.specs.declared.scanner.Fault.{Fault}
use Rattle.lexer.specs.declared.scanner.FaultKind.{FaultKind}
use Rattle.lexer.specs.declared.scanner.FaultKind.TheVariants.{ForbiddenCharacter, BadString as BadStringKind, UnpairedBracket, TooDeep}
use Rattle.lexer.specs.declared.open.Open.{Open as CodeOpen}
use Rattle.lexer.specs.Token.{scan_number, scan_place, kind_number}
use Rattle.lexer.specs.internal.Step.{Passed, passed, step_goes_on, stops, past_string, return_at}
use Rattle.characters.proofs.Classes.{bracket_by, class_by, code_class}
use Rattle.syntax.proofs.ByteClasses.{ordinary_class_lem}
use Rattle.syntax.proofs.Items.{item_of}
use Rattle.syntax.proofs.Escapes.{later}

-- ---- the answer

-- No fault has the number 0.
pub kind_some : (k : FaultKind) → kind_number k ≡ 0 → ⊥
unfolding kind_number
kind_some ForbiddenCharacter e = omega arith
kind_some BadStringKind e = omega arith
kind_some UnpairedBracket e = omega arith
kind_some TooDeep e = omega arith

pub record ScanAnswer : Type 0 where
  pub number : ℕ
  pub place : ℕ

unfoldable pub scan_answer : Levels → ScanAnswer
scan_answer v = record { number = scan_number (outermost v); place = scan_place (outermost v) }

-- Leaves, wraps and ends of levels do not change it.
answer_leaf : (l : Leaf) (v : Levels) → scan_answer (add_leaf l v) ≡ scan_answer v
unfolding scan_answer add_leaf outermost scan_number scan_place
answer_leaf l (fault n p) = refl
answer_leaf l (level f fs) = refl

answer_wrap : (b : Bracket) (v : Levels) → scan_answer (wrap b v) ≡ scan_answer v
unfolding scan_answer wrap outermost scan_number scan_place
answer_wrap b (fault n p) = refl
answer_wrap b (level f []) = refl
answer_wrap b (level f (g ∷ gs)) = refl

answer_end : (v : Levels) → scan_answer (end_level v) ≡ scan_answer v
unfolding scan_answer end_level outermost scan_number scan_place
answer_end (fault n p) = refl
answer_end (level f fs) = refl

answer_fault : (n p : ℕ) → scan_answer (fault n p) ≡ record { number = n; place = p }
unfolding scan_answer outermost scan_number scan_place
answer_fault n p = refl

-- The answer from place i on, with these brackets open and room for so many more.
unfoldable pub scan_answer_at : List Open → ℕ → List ℕ → ℕ → ScanAnswer
scan_answer_at os left text i = scan_answer (build os left (items_from 0 i (drop i text)))

-- ---- bytes that are no brackets

-- Bytes of an item already read are passed over.
items_skip : (k m : ℕ) (s : List ℕ) → items_from k m s ≡ items_from 0 (m + k) (drop k s)
unfolding items_from
items_skip zero m s = rw (add-zero m)
items_skip (suc k) m [] = refl
items_skip (suc k) m (b ∷ s) =
    let place : m + 1 + k ≡ m + suc k = omega arith in
    items_skip k (m + 1) s ∙ rw place

leaf_on : (os : List Open) (left : ℕ) (l : Leaf) (is : Items) → scan_answer (build os left (a_leaf l is)) ≡ scan_answer (build os left is)
unfolding build
leaf_on os left l is = answer_leaf l (build os left is)

-- The rest of a symbol adds nothing: the answer after it is that of its own bytes.
run_on : (os : List Open) (left m : ℕ) (s : List ℕ) → scan_answer (build os left (items_from (length (ordinary_run s)) m s)) ≡ scan_answer (build os left (items_from 0 m s))
unfolding items_from ordinary_run item_at
run_on os left m [] = refl
run_on os left m (b ∷ s) =
    bool_case (is_ordinary b)
    (λ e. let word_there = item_of ordinary m b s (ordinary_class_lem b (true_T e)) in
    rw e (sym (ap (λ (is : Items). scan_answer (build os left is)) word_there ∙ leaf_on os left (word b (ordinary_run s)) (items_from (length (ordinary_run s)) (m + 1) s))))
    (λ e. rw e)

-- A line feed after U+000D adds nothing either.
line_feed_lem : (os : List Open) (left m : ℕ) (s : List ℕ) → get_or s 0 0 ≡ 0x0A → scan_answer (build os left (items_from 1 m s)) ≡ scan_answer (build os left (items_from 0 m s))
unfolding items_from item_at byte_class
line_feed_lem os left m [] e = absurd (omega arith)
line_feed_lem os left m (b ∷ s) e =
    let is-blank : byte_class b ≡ blank = rw e in
    sym (ap (λ (is : Items). scan_answer (build os left is)) (item_of blank m b s is-blank) ∙ leaf_on os left (space b) (items_from 0 (m + 1) s))

module _ (os : List Open) (left : ℕ) (text : List ℕ) (i : ℕ) (inside : i < length text) where
  -- The answer is that of the item which begins here.
  here : (c : ByteClass) → byte_class (get_or text i 0) ≡ c
      → scan_answer_at os left text i ≡ scan_answer (build os left (item_at i (get_or text i 0) (drop (i + 1) text) (λ k. items_from k (i + 1) (drop (i + 1) text)) c))
  unfolding scan_answer_at
  here c e =
      let bytes : drop i text ≡ get_or text i 0 ∷ drop (i + 1) text = drop-cons text i 0 inside ∙ rw (add-one i) in
      ap (λ (s : List ℕ). scan_answer (build os left (items_from 0 i s))) bytes
      ∙ ap (λ (is : Items). scan_answer (build os left is)) (item_of c i (get_or text i 0) (drop (i + 1) text) e)

  pub blank_on : byte_class (get_or text i 0) ≡ blank → scan_answer_at os left text i ≡ scan_answer_at os left text (i + 1)
  unfolding item_at scan_answer_at
  blank_on e = here blank e ∙ leaf_on os left (space (get_or text i 0)) (items_from 0 (i + 1) (drop (i + 1) text))

  pub ordinary_on : byte_class (get_or text i 0) ≡ ordinary → scan_answer_at os left text i ≡ scan_answer_at os left text (i + 1)
  unfolding item_at scan_answer_at
  ordinary_on e =
      let s : List ℕ = drop (i + 1) text in
      here ordinary e ∙ leaf_on os left (word (get_or text i 0) (ordinary_run s)) (items_from (length (ordinary_run s)) (i + 1) s) ∙ run_on os left (i + 1) s

  pub return_on : byte_class (get_or text i 0) ≡ return → get_or (drop (i + 1) text) 0 0 ≡ 0x0A → scan_answer_at os left text i ≡ scan_answer_at os left text (i + 1)
  unfolding item_at scan_answer_at
  return_on e f =
      let s : List ℕ = drop (i + 1) text in
      here return e ∙ rw f (leaf_on os left line_end (items_from 1 (i + 1) s) ∙ line_feed_lem os left (i + 1) s f)

  return_stops : byte_class (get_or text i 0) ≡ return → eqb (get_or (drop (i + 1) text) 0 0) 0x0A ≡ false → scan_answer_at os left text i ≡ record { number = 3; place = i }
  unfolding item_at build
  return_stops e f = here return e ∙ rw f (answer_fault 3 i)

  forbidden_stops : byte_class (get_or text i 0) ≡ forbidden → scan_answer_at os left text i ≡ record { number = 3; place = i }
  unfolding item_at build
  forbidden_stops e = here forbidden e ∙ answer_fault 3 i

  -- What a step tells: it goes on further right with the same answer, or has the answer.
  Keeps : Passed → Type 0
  Keeps p =
      (p.number ≡ 0 → (i < p.next) × (scan_answer_at os left text p.next ≡ scan_answer_at os left text i))
      × ((p.number ≡ 0 → ⊥) → scan_answer_at os left text i ≡ record { number = p.number; place = p.place })

  goes : scan_answer_at os left text i ≡ scan_answer_at os left text (i + 1) → Keeps (step_goes_on i)
  unfolding Keeps step_goes_on
  goes e = (λ z. (omega arith, sym e), λ z. absurd (z refl))

  halts : scan_answer_at os left text i ≡ record { number = 3; place = i } → Keeps (stops i)
  unfolding Keeps stops
  halts e = (λ z. absurd (omega arith), λ z. e)

  past_string_lem : (q : Quoted) → scan_answer_at os left text i ≡ scan_answer (build os left (quoted_item i (λ k. items_from k (i + 1) (drop (i + 1) text)) q))
      → Keeps (past_string (string_end i q))
  unfolding Keeps past_string string_end quoted_item build scan_answer_at
  past_string_lem (closed []) e = (λ z. absurd (omega arith), λ z. e ∙ answer_fault 4 i)
  past_string_lem (closed (p ∷ ps)) e =
      let k : ℕ = length (pieces_before (p ∷ ps) []) in
      let place : i + 1 + (k + 1) ≡ i + (k + 2) = omega arith in
      let skipped : items_from (k + 1) (i + 1) (drop (i + 1) text) ≡ items_from 0 (i + (k + 2)) (drop (i + (k + 2)) text)
      = items_skip (k + 1) (i + 1) (drop (i + 1) text) ∙ rw (drop-drop (k + 1) (i + 1) text, place) in
      let same = ap (λ (is : Items). scan_answer (build os left is)) skipped in
      (λ z. (omega arith, sym (e ∙ leaf_on os left (string p ps) (items_from (k + 1) (i + 1) (drop (i + 1) text)) ∙ same)), λ z. absurd (z refl))
  past_string_lem unclosed e = (λ z. absurd (omega arith), λ z. e ∙ answer_fault 4 i)
  past_string_lem (bad_escape p) e = (λ z. absurd (omega arith), λ z. e ∙ answer_fault 4 p)

  quoted_by : byte_class (get_or text i 0) ≡ quote → Keeps (past_string (string_at i (drop i text)))
  unfolding string_at item_at
  quoted_by e = rw (drop-drop 1 i text) (past_string_lem (quoted_from 0 (i + 1) (drop (i + 1) text)) (here quote e))

  returned_by : byte_class (get_or text i 0) ≡ return → Keeps (return_at i (drop i text))
  unfolding return_at
  returned_by e =
      rw (later text i 0)
      (cond_case Keeps (eqb (get_or (drop (i + 1) text) 0 0) 0x0A) (λ f. goes (return_on e (eqb-true (get_or (drop (i + 1) text) 0 0) 0x0A f))) (λ f. halts (return_stops e f)))

  -- The byte has a class in the code, by which a step keeps the answer or has it.
  module _ (k : CodeClass) (class_of : k ≡ code_of (byte_class (get_or text i 0))) where
    class_is : byte_class (get_or text i 0) ≡ class_by k
    class_is = code_class (byte_class (get_or text i 0)) k class_of

    pub blank_passed : k ≡ Blank → scan_answer_at os left text (i + 1) ≡ scan_answer_at os left text i
    unfolding class_by
    blank_passed f = sym (blank_on (class_is ∙ ap class_by f))

    pub ordinary_passed : k ≡ Ordinary → scan_answer_at os left text (i + 1) ≡ scan_answer_at os left text i
    unfolding class_by
    ordinary_passed f = sym (ordinary_on (class_is ∙ ap class_by f))

    pub forbidden_found : k ≡ Forbidden → scan_answer_at os left text i ≡ record { number = 3; place = i }
    unfolding class_by
    forbidden_found f = forbidden_stops (class_is ∙ ap class_by f)

    module _ (f : k ≡ Return) where
      returned : Keeps (return_at i (drop i text))
      unfolding class_by
      returned = returned_by (class_is ∙ ap class_by f)

      pub return_passed : (next : ℕ) → passed (Ok next) ≡ return_at i (drop i text) → (i < next) × (scan_answer_at os left text next ≡ scan_answer_at os left text i)
      unfolding Keeps passed
      return_passed next g = let kept = rw (← g) at returned in kept.0 refl

      pub return_fault : (x : Fault) → passed (Err x) ≡ return_at i (drop i text) → scan_answer_at os left text i ≡ record { number = kind_number x.kind; place = x.place }
      unfolding Keeps passed
      return_fault x g = let kept = rw (← g) at returned in kept.1 (kind_some x.kind)

    module _ (f : k ≡ Quote) where
      quoted : Keeps (past_string (string_at i (drop i text)))
      unfolding class_by
      quoted = quoted_by (class_is ∙ ap class_by f)

      pub string_passed : (s : StringEnd) → ended (Ok s) ≡ string_at i (drop i text) → (i < s.next) × (scan_answer_at os left text s.next ≡ scan_answer_at os left text i)
      unfolding Keeps past_string ended
      string_passed s g = let kept = rw (← g) at quoted in kept.0 refl

      pub string_fault : (b : BadString) → ended (Err b) ≡ string_at i (drop i text) → scan_answer_at os left text i ≡ record { number = 4; place = b.place }
      unfolding Keeps past_string ended
      string_fault b g = let kept = rw (← g) at quoted in kept.1 (λ z. omega arith)

  opens_here : (x : Bracket) → byte_class (get_or text i 0) ≡ opening x
      → scan_answer_at os left text i ≡ scan_answer (one_more i x (λ r. build (record { bracket = x; place = i } ∷ os) r (items_from 0 (i + 1) (drop (i + 1) text))) left)
  unfolding item_at build
  opens_here x e = here (opening x) e

  closes_here : (x : Bracket) → byte_class (get_or text i 0) ≡ closing x
      → scan_answer_at os left text i ≡ scan_answer (one_less i x (λ us. build us (suc left) (items_from 0 (i + 1) (drop (i + 1) text))) os)
  unfolding item_at build
  closes_here x e = here (closing x) e

  -- An opening bracket for which a level is left is the innermost from here on, and its partner closes it.
  pub opened_on : (x : Bracket) (room : ℕ) → byte_class (get_or text i 0) ≡ opening x → left ≡ suc room
      → scan_answer_at os left text i ≡ scan_answer_at (record { bracket = x; place = i } ∷ os) room text (i + 1)
  unfolding one_more scan_answer_at
  opened_on x room e one_left =
      opens_here x e ∙ rw one_left (answer_wrap x (build (record { bracket = x; place = i } ∷ os) room (items_from 0 (i + 1) (drop (i + 1) text))))

-- ---- brackets

module _ (o : Open) (os : List Open) (left : ℕ) (text : List ℕ) (i : ℕ) (inside : i < length text) where
  pub closed_on : (x : Bracket) → byte_class (get_or text i 0) ≡ closing x → same_bracket x o.bracket ≡ true
      → scan_answer_at (o ∷ os) left text i ≡ scan_answer_at os (suc left) text (i + 1)
  unfolding one_less scan_answer_at
  closed_on x e same =
      closes_here (o ∷ os) left text i inside x e ∙ rw same (answer_end (build os (suc left) (items_from 0 (i + 1) (drop (i + 1) text))))

-- The code's brackets that are open, as the scan has them: the innermost first.
abbrev pub open_of : CodeOpen → Open
open_of o = record { bracket = bracket_by o.bracket; place = o.place }

unfoldable pub opened : List CodeOpen → List Open → List Open
opened [] os = os
opened (o ∷ s) os = opened s (open_of o ∷ os)

opened_push : (s : List CodeOpen) (o : CodeOpen) (os : List Open) → opened (s ++ o ∷ []) os ≡ open_of o ∷ opened s os
unfolding opened
opened_push [] o os = refl
opened_push (p ∷ s) o os = opened_push s o (open_of p ∷ os)

same_yes : (x y : CodeBracket) → x ≡ y → same_bracket (bracket_by y) (bracket_by x) ≡ true
unfolding same_bracket bracket_by
same_yes Round y e = rw (← e)
same_yes Square y e = rw (← e)

same_no : (x y : CodeBracket) → (x ≡ y → ⊥) → same_bracket (bracket_by y) (bracket_by x) ≡ false
unfolding same_bracket bracket_by
same_no Round Round h = absurd (h refl)
same_no Round Square h = refl
same_no Square Round h = refl
same_no Square Square h = absurd (h refl)

-- The answer with the code's brackets open.
abbrev pub answer_of : ℕ → List CodeOpen → List ℕ → ℕ → ScanAnswer
answer_of limit s text i = scan_answer_at (opened s []) (limit - length s) text i

module _ (limit : ℕ) (s : List CodeOpen) (text : List ℕ) (i : ℕ) (inside : i < length text) (k : CodeClass) (class_of : k ≡ code_of (byte_class (get_or text i 0))) (x : CodeBracket) where
  module _ (f : k ≡ Opening x) where
    opening_here : byte_class (get_or text i 0) ≡ opening (bracket_by x)
    unfolding class_by
    opening_here = code_class (byte_class (get_or text i 0)) k class_of ∙ ap class_by f

    -- An opening bracket where no room is left, and one that goes on the stack.
    pub no_room_lem : limit ≤ length s → answer_of limit s text i ≡ record { number = 6; place = i }
    unfolding one_more
    no_room_lem full =
        let none : limit - length s ≡ 0 = omega arith in
        rw none (opens_here (opened s []) 0 text i inside (bracket_by x) opening_here ∙ answer_fault 6 i)

    pub push : length s < limit → answer_of limit (s ++ record { bracket = x; place = i } ∷ []) text (i + 1) ≡ answer_of limit s text i
    push room =
        let size : limit - length (s ++ record { bracket = x; place = i } ∷ []) ≡ limit - (length s + 1) = rw (length-append s (record { bracket = x; place = i } ∷ [])) in
        let left : limit - length s ≡ suc (limit - (length s + 1)) = omega arith in
        rw (size, opened_push s (record { bracket = x; place = i }) [])
        (sym (opened_on (opened s []) (limit - length s) text i inside (bracket_by x) (limit - (length s + 1)) opening_here left))

  module _ (f : k ≡ Closing x) where
    closing_here : byte_class (get_or text i 0) ≡ closing (bracket_by x)
    unfolding class_by
    closing_here = code_class (byte_class (get_or text i 0)) k class_of ∙ ap class_by f

    -- A closing bracket with nothing open, one that is not the partner of the innermost open bracket, and one that is.
    pub unopened : s ≡ [] → answer_of limit s text i ≡ record { number = 5; place = i }
    unfolding one_less opened
    unopened z = rw z (closes_here [] (limit - 0) text i inside (bracket_by x) closing_here ∙ answer_fault 5 i)

    module _ (r : List CodeOpen) (o : CodeOpen) (top : s ≡ r ++ o ∷ []) where
      pub other_bracket : (o.bracket ≡ x → ⊥) → answer_of limit s text i ≡ record { number = 5; place = i }
      unfolding one_less
      other_bracket h =
          rw (top, opened_push r o [])
          (closes_here (open_of o ∷ opened r []) (limit - length (r ++ o ∷ [])) text i inside (bracket_by x) closing_here ∙ rw (same_no o.bracket x h) (answer_fault 5 i))

      pub pop : length s ≤ limit → o.bracket ≡ x → (length r ≤ limit) × (answer_of limit r text (i + 1) ≡ answer_of limit s text i)
      pop room h =
          let size : length s ≡ length r + 1 = ap length top ∙ length-append r (o ∷ []) in
          let left : limit - length r ≡ suc (limit - length s) = omega arith in
          (omega arith, rw (left, ap (λ (l : List CodeOpen). opened l []) top, opened_push r o []) (sym (closed_on (open_of o) (opened r []) (limit - length s) text i inside (bracket_by x) closing_here (same_yes o.bracket x h))))

-- The end of the text: nothing is open, or the innermost bracket is the fault.
module _ (limit : ℕ) (s : List CodeOpen) (text : List ℕ) (i : ℕ) (past : length text ≤ i) where
  pub none_open : s ≡ [] → answer_of limit s text i ≡ record { number = 0; place = 0 }
  unfolding scan_answer_at opened items_from build at_end scan_answer outermost scan_number scan_place
  none_open z = rw (z, drop_of_length-le text past)

  pub left_open : (r : List CodeOpen) (o : CodeOpen) → s ≡ r ++ o ∷ [] → answer_of limit s text i ≡ record { number = 5; place = o.place }
  unfolding scan_answer_at items_from build at_end scan_answer outermost scan_number scan_place
  left_open r o top = rw (top, opened_push r o [], drop_of_length-le text past)
