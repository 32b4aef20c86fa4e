-- The groups of a read's answer, one after the other.
use Prim.Native.Nat.{ℕ, ◌≤◌, ◌<◌}
use mathlib.Core.Path.{◌≡◌, refl, sym, ap, ◌∙◌}
use mathlib.Core.Bool.{Bool, true, false, cond}
use mathlib.Core.List.{List}
use native.Mathlib.Omega.{arith}
use borrow.Author.Tests.{lt-ltb, le-ltb, ltb-false}
use lib.Dec.{T, ltb}
use lib.ListN.{length}
use Rattle.utf8.specs.rules.Scalar.{IsUtf8}
use Rattle.utf8.specs.reference.Sequence.{valid_up_to}
use Rattle.utf8.proofs.Walk.{valid_within}
use Rattle.utf8.proofs.Agree.{valid_utf8}
use Rattle.syntax.specs.rules.Syntax.{levels}
use Rattle.syntax.specs.rules.Expression.{Expr, Exprs, none, and, locate, depth_all}
use Rattle.syntax.specs.reference.Scan as Scan
use Rattle.syntax.specs.reference.Scan.{Scanned, scan}
use Rattle.lexer.specs.Token.{scan_number, scan_place}
use Rattle.syntax.proofs.SyntaxOrFault.{accepts, refused_fault}
use Rattle.syntax.proofs.LocatedDepth.{located_depth}
use Rattle.elements.specs.rules.Class as Class
use Rattle.document.specs.rules.Document.{says, is_node}
use Rattle.document.specs.reference.Meaning.{Verdict, fine, fault, judge_root, tree_of, places}
use Rattle.document.specs.reference.Imperative.{regroup}
use Rattle.document.specs.rules.Table.{count, pool}
use Rattle.document.proofs.ReadingDecided.{ReadingHolds, found, regrouped_form}
use Rattle.document.proofs.PlaceCounts.{root_places, element_node}
use Rattle.document.proofs.BlockExpressions.{root_document}
use Rattle.document.specs.rules.Spelling.{Spelling, nested, imperative, most_levels}
use Rattle.document.specs.reference.Outcome.{Reading, refused, read, is_too_deep, judged, one_expression, after_scan, reading, after_reading, stored, outcome}
use Rattle.document.specs.rules.Memory.{Memory, refusal}
use Rattle.document.specs.rules.Account.{no_syntax, NestedForm, as_it_stands}
use Rattle.document.proofs.RefusalNumbers.{refused_number}
use Rattle.reader.specs.internal.WalkAnswer.{Walked}
use Rattle.reader.specs.internal.WalkAnswer.{read_walked}
use Rattle.reader.specs.internal.RunStands.{RunStands}
use Rattle.reader.specs.declared.GroupFault.{GroupFault}
use Rattle.reader.specs.declared.GroupFault.TheVariants.{TooLong, NotUtf8, Scan}
use Rattle.reader.specs.internal.FirstGroups.{fault_number, group_number, group_place}
use Rattle.lexer.proofs.ScanSteps.{kind_some}
use Rattle.reader.proofs.lemmas.read.ExpressionPlaces.{forest_stands}
use Rattle.reader.proofs.lemmas.walk.Counts.{nodes_places, bytes_pool}

-- What is known of a text that passes the groups 1 to 6.
pub record PassedGroups (s : Spelling) (text : List ℕ) (m : Memory) : Type 0 where
  pub short : length text ≤ 65536
  pub utf8 : IsUtf8 text
  pub es : Exprs
  pub stands : RunStands text 0 es (length text)
  pub shallow : depth_all es ≤ most_levels s
  pub found_as : reading s text ≡ one_expression s (length text) es
  pub goes_on : outcome s text m ≡ after_reading text m (one_expression s (length text) es)

-- The expression of a document that was read, and what is known of it.
pub record DocumentRead (s : Spelling) (text : List ℕ) (m : Memory) (x : PassedGroups s text m) (w : Walked) : Type 0 where
  pub expr : Expr
  pub form : NestedForm s x.es expr
  pub fine_root : judge_root expr ≡ fine
  pub nodes_are : w.nodes ≡ count (says (tree_of expr))
  pub bytes_are : w.pool ≡ length (pool (says (tree_of expr)))
  pub goes_on : outcome s text m ≡ stored text m (places expr) (says (tree_of expr))

-- A refusal of the walk is never numbered 0.
no_zero : (s : Spelling) (text : List ℕ) → IsUtf8 text → (es : Exprs) (n p : ℕ) → reading s text ≡ one_expression s (length text) es
    → one_expression s (length text) es ≡ refused n p → n ≡ 0 → ⊥
no_zero s text utf8 es n p f o z =
    let r : ReadingHolds s text (refused n p) = rw (f ∙ o) at (found s text utf8) in
    omega (arith, refused_number {s = s} {text = text} {n = n} {p = p} r)

judged_fine : (s : Spelling) (x e : Expr) (v : Verdict) → judged s x v ≡ read e → (v ≡ fine) × (x ≡ e)
unfolding judged
judged_fine s x e (fault n p) j = cc
judged_fine s x e fine j = go (is_too_deep s x) j
  where
    go : (b : Bool) → cond b (refused 19 0) (read x) ≡ read e → (fine ≡ fine) × (x ≡ e)
    go true k = cc
    go false k = (refl, cc)

one_read : (s : Spelling) (n : ℕ) (es : Exprs) (e : Expr) → one_expression s n es ≡ read e → NestedForm s es e × (judge_root e ≡ fine)
unfolding one_expression
one_read nested n none e o = cc
one_read nested n (and x none) e o =
    let (ok, same) = judged_fine nested x e (judge_root x) o in
    (rw (← same) as_it_stands, rw same at ok)
one_read nested n (and x (and y es)) e o = cc
one_read imperative n none e o = cc
one_read imperative n (and x es) e o =
    let (ok, same) = judged_fine imperative (regroup x es) e (judge_root (regroup x es)) o in
    (rw (← same) (regrouped_form x es), rw same at ok)

pub root_node : (e : Expr) → judge_root e ≡ fine → T (is_node (tree_of e))
unfolding Class.is_element Class.is_kind
root_node e ok = element_node e (rw (root_document e ok).0)

module _ (s : Spelling) (text : List ℕ) (m : Memory) where
  -- A fault of the groups 1 to 6 is the answer.
  pub group_refused : (group_number (most_levels s) text ≡ 0 → ⊥)
      → outcome s text m ≡ refusal text m (group_number (most_levels s) text) (group_place (most_levels s) text)
  unfolding outcome group_number group_place reading after_scan after_reading scan_number scan_place
  group_refused = go (ltb 65536 (length text)) refl (ltb (valid_up_to text) (length text)) refl (scan (most_levels s) text) refl
    where
      go : (a : Bool) → ltb 65536 (length text) ≡ a → (b : Bool) → ltb (valid_up_to text) (length text) ≡ b → (r : Scanned) → scan (most_levels s) text ≡ r
          → (cond a 1 (cond b 2 (scan_number r)) ≡ 0 → ⊥)
          → cond a (refusal text m 1 65536) (cond b (refusal text m 2 (valid_up_to text)) (after_reading text m (after_scan s (length text) r)))
          ≡ refusal text m (cond a 1 (cond b 2 (scan_number r))) (cond a 65536 (cond b (valid_up_to text) (scan_place r)))
      go true e b f r g h = refl
      go false e true f r g h = refl
      go false e false f (Scan.refused n p) g h = refl
      go false e false f (Scan.scanned t) g h = absurd (h refl)

  passed_scan : ltb 65536 (length text) ≡ false → ltb (valid_up_to text) (length text) ≡ false → (r : Scanned) → scan (most_levels s) text ≡ r → scan_number r ≡ 0
      → PassedGroups s text m
  unfolding outcome reading after_scan scan_number valid_up_to
  passed_scan short whole (Scan.refused n p) e z =
      absurd (omega (arith, refused_number {s = s} {text = text} (no_syntax (refused_fault (most_levels s) text n p e))))
  passed_scan short whole (Scan.scanned f) e z =
      let (ok, bytes, within) = accepts (most_levels s) text f e in
      record {
        short = ltb-false 65536 (length text) short;
        utf8 = valid_utf8 text (omega (arith, valid_within 0 text, ltb-false (valid_up_to text) (length text) whole));
        es = locate 0 f;
        stands = forest_stands text f ok bytes;
        shallow = rw (located_depth 0 f) within;
        found_as = rw e;
        goes_on = rw (short, whole, e);
      }

  pub group_passed : group_number (most_levels s) text ≡ 0 → PassedGroups s text m
  unfolding group_number
  group_passed z = go (ltb 65536 (length text)) refl (ltb (valid_up_to text) (length text)) refl z
    where
      go : (a : Bool) → ltb 65536 (length text) ≡ a → (b : Bool) → ltb (valid_up_to text) (length text) ≡ b
          → cond a 1 (cond b 2 (scan_number (scan (most_levels s) text))) ≡ 0 → PassedGroups s text m
      go true e b f z = absurd (omega arith)
      go false e true f z = absurd (omega arith)
      go false e false f z = passed_scan e f (scan (most_levels s) text) refl z

  module _ (x : PassedGroups s text m) (w : Walked) (is : w ≡ read_walked (one_expression s (length text) x.es)) where
    -- A fault of 7 to 12 is the answer.
    pub judged_refused : (w.number ≡ 0 → ⊥) → outcome s text m ≡ refusal text m w.number w.place
    unfolding after_reading read_walked
    judged_refused h = x.goes_on ∙ go (one_expression s (length text) x.es) is
      where
        go : (r : Reading) → w ≡ read_walked r → after_reading text m r ≡ refusal text m w.number w.place
        go (refused n p) e = rw e
        go (read e') e = absurd (h (ap (λ (v : Walked). v.number) e))

    -- No fault: the document that was read, with its counts, and how the answer goes on.
    pub judged_read : w.number ≡ 0 → DocumentRead s text m x w
    unfolding read_walked after_reading
    judged_read z = go (one_expression s (length text) x.es) refl is
      where
        go : (r : Reading) → one_expression s (length text) x.es ≡ r → w ≡ read_walked r → DocumentRead s text m x w
        go (refused n p) o e = absurd (no_zero s text x.utf8 x.es n p x.found_as o (sym (ap (λ (v : Walked). v.number) e) ∙ z))
        go (read e') o e =
            let (form, ok) = one_read s (length text) x.es e' o in
            record {
              expr = e';
              form = form;
              fine_root = ok;
              nodes_are = ap (λ (v : Walked). v.nodes) e ∙ sym (nodes_places e') ∙ root_places e' ok;
              bytes_are = ap (λ (v : Walked). v.pool) e ∙ sym (bytes_pool e' (root_node e' ok));
              goes_on = x.goes_on ∙ rw o;
            }

-- No fault of the first groups has the number 0.
pub fault_some : (f : GroupFault) → fault_number f ≡ 0 → ⊥
unfolding fault_number
fault_some TooLong e = omega arith
fault_some (NotUtf8 p) e = omega arith
fault_some (Scan f) e = kind_some f.kind e

-- The ways through the first groups.
pub groups_long : (levels : ℕ) (text : List ℕ) → 65536 < length text → (1 ≡ group_number levels text) × (65536 ≡ group_place levels text)
unfolding group_number group_place
groups_long levels text h = (rw (lt-ltb 65536 (length text) h), rw (lt-ltb 65536 (length text) h))

pub groups_ill_formed : (levels : ℕ) (text : List ℕ) (v : ℕ) → length text ≤ 65536 → v ≡ valid_up_to text → v < length text
    → (2 ≡ group_number levels text) × (v ≡ group_place levels text)
unfolding group_number group_place
groups_ill_formed levels text v short e h =
    (rw (le-ltb 65536 (length text) short, ← e, lt-ltb v (length text) h), rw (le-ltb 65536 (length text) short, ← e, lt-ltb v (length text) h))

pub groups_scan : (levels : ℕ) (text : List ℕ) (v n p : ℕ) → length text ≤ 65536 → v ≡ valid_up_to text → length text ≤ v
    → n ≡ scan_number (scan levels text) → p ≡ scan_place (scan levels text) → (n ≡ group_number levels text) × (p ≡ group_place levels text)
unfolding group_number group_place
groups_scan levels text v n p short e h a b =
    (rw (le-ltb 65536 (length text) short, ← e, le-ltb v (length text) h) a, rw (le-ltb 65536 (length text) short, ← e, le-ltb v (length text) h) b)
