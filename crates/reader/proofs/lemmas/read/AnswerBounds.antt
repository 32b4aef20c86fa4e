-- Places and counts of an answer are within the text.
use Prim.Native.Nat.{ℕ, ◌+◌, ◌-◌, ◌≤◌}
use mathlib.Core.Path.{◌≡◌, refl, ap}
use mathlib.Core.List.{List, [], ◌∷◌}
use native.Mathlib.Omega.{arith}
use borrow.Author.Tests.{ltb-false, ltb-true}
use lib.Dec.{ltb}
use lib.ListN.{length, length-append}
use Rattle.base.proofs.Booleans.{cond_case}
use Rattle.utf8.specs.reference.Sequence.{valid_up_to}
use Rattle.syntax.specs.rules.Byte.{open_byte}
use Rattle.syntax.specs.rules.Syntax.{pieces_before, bytes_before}
use Rattle.syntax.specs.rules.Expression.{Expr, symbol, quoted, list, Exprs, none, and}
use Rattle.syntax.specs.reference.Scan as Scan
use Rattle.syntax.specs.reference.Scan.{Scanned, scan}
use Rattle.lexer.specs.Token.{scan_place}
use Rattle.syntax.specs.rules.Fault.{Opened, opened_before, size, Hit, control, lone_return, no_escape, empty_string, unclosed_string, unopened, other_partner, left_open, too_deep, Fault}
use Rattle.syntax.proofs.Strings.{pieces_append}
use Rattle.syntax.proofs.BeforeFault.{opened_length}
use Rattle.syntax.proofs.SyntaxOrFault.{refused_fault}
use Rattle.document.specs.rules.Spelling.{Spelling, nested, imperative}
use Rattle.document.specs.reference.Meaning.{Verdict, fine, fault, judge_root}
use Rattle.document.specs.reference.Imperative.{regroup}
use Rattle.document.specs.rules.Command.{as_not_allowed}
use Rattle.document.specs.reference.Outcome.{Reading, refused, read, is_too_deep, judged, one_expression}
use Rattle.document.proofs.RegroupedAll.{Laws, regrouped_all}
use Rattle.reader.specs.internal.WalkAnswer.{Walked}
use Rattle.reader.specs.internal.RunStands.{RunStands, ended, after_blank, after_line_end, a_symbol, a_string, a_list}
use Rattle.reader.specs.internal.WalkAnswer.{read_walked}
use Rattle.reader.specs.internal.FirstGroups.{group_place}
use Rattle.reader.proofs.lemmas.walk.Counts.{weight, weight_all, weighed, stands_weight}
use Rattle.reader.proofs.lemmas.read.FaultPlaces.{Placed, AllPlaced, placed, VerdictIn, root_within}

-- ---- the place of a fault of the groups 1 to 6

hit_within : {room : ℕ} {o : Opened} {s : List ℕ} {n p : ℕ} → Hit room o s n p → p ≤ size o + length s
unfolding size opened_before
hit_within (control e) = omega arith
hit_within (lone_return h) = omega arith
hit_within (no_escape ps s t h) =
    omega (arith, ap length (pieces_append ps (0x5C ∷ s)), length-append (pieces_before ps []) (0x5C ∷ s))
hit_within empty_string = omega arith
hit_within (unclosed_string ps t) = omega arith
hit_within (unopened b) = omega arith
hit_within (other_partner c e) = omega arith
hit_within (left_open {o = o} {b = b} {f = f}) = omega (arith, opened_length o (open_byte b ∷ bytes_before f []))
hit_within (too_deep b e) = omega arith

fault_within : (room : ℕ) (text : List ℕ) (n p : ℕ) → Fault room text n p → p ≤ length text
fault_within room text n p f =
    omega (arith, hit_within f.hit, opened_length f.before f.rest, ap length f.bytes)

scan_within : (room : ℕ) (text : List ℕ) → scan_place (scan room text) ≤ length text
unfolding scan_place
scan_within room text = go (scan room text) refl
  where
    go : (r : Scanned) → scan room text ≡ r → scan_place r ≤ length text
    go (Scan.refused n p) e = fault_within room text n p (refused_fault room text n p e)
    go (Scan.scanned f) e = omega arith

-- The place of 1 to 6 is at most that of 1.
pub group_place_lem : (room : ℕ) (text : List ℕ) → group_place room text ≤ 65536
unfolding group_place
group_place_lem room text =
    cond_case (λ (p : ℕ). p ≤ 65536) (ltb 65536 (length text)) (λ e. omega arith) (λ e.
    let short : length text ≤ 65536 = ltb-false 65536 (length text) e in
    cond_case (λ (p : ℕ). p ≤ 65536) (ltb (valid_up_to text) (length text))
    (λ f. omega (arith, ltb-true (valid_up_to text) (length text) f)) (λ f. omega (arith, scan_within room text)))

-- ---- the places of expressions that stand in a text

stands_placed : {s : List ℕ} {i e : ℕ} {es : Exprs} → RunStands s i es e → AllPlaced (length s) es
unfolding Placed
stands_placed (ended h) = tt
stands_placed (after_blank h st) = stands_placed st
stands_placed (after_line_end h g st) = stands_placed st
stands_placed (a_symbol h st) = (omega (arith, h.inside), stands_placed st)
stands_placed (a_string h g st) = (omega (arith, h.inside), stands_placed st)
stands_placed (a_list h st g st') = ((omega (arith, h.inside), stands_placed st), stands_placed st')

places_laws : (most : ℕ) → Laws (λ (n : ℕ) (e : Expr). Placed most e) (λ (n : ℕ) (es : Exprs). AllPlaced most es)
unfolding Placed as_not_allowed
places_laws most =
    record {
      nothing = tt;
      put = λ m n e es t u. (t, u);
      apart = λ n e es t. (0, n, omega arith, t.0, t.1);
      wider = λ m n e h t. t;
      all_wider = λ m n es h t. t;
      not_allowed = λ n e t. (placed most e t, tt);
      relist = λ n at es t. (0, t.1, λ m fs u. (t.0, u));
    }

regrouped_placed : (most : ℕ) (e : Expr) (es : Exprs) → AllPlaced most (and e es) → Placed most (regroup e es)
regrouped_placed most e es t =
    regrouped_all (λ (n : ℕ) (e : Expr). Placed most e) (λ (n : ℕ) (es : Exprs). AllPlaced most es) (places_laws most) 0 e es t

-- ---- how much expressions hold

weight_laws : Laws (λ (n : ℕ) (e : Expr). weight e ≤ n) (λ (n : ℕ) (es : Exprs). weight_all es ≤ n)
unfolding weight as_not_allowed
weight_laws =
    record {
      nothing = omega arith;
      put = λ m n e es t u. omega arith;
      apart = λ n e es t. (weight e, n - weight e, omega arith, omega arith, omega arith);
      wider = λ m n e h t. omega arith;
      all_wider = λ m n es h t. omega arith;
      not_allowed = λ n e t. omega (arith, some_weight e);
      relist = λ n at es t. (weight_all es, omega arith, λ m fs u. omega arith);
    }
  where
    some_weight : (e : Expr) → 1 ≤ weight e
    some_weight (symbol at s) = omega arith
    some_weight (quoted at s) = omega arith
    some_weight (list at es) = omega arith

-- ---- what the judge answers

abbrev ReadingIn : ℕ → Reading → Type 0
ReadingIn n (refused m p) = p ≤ n
ReadingIn n (read e) = weight e ≤ n

judged_within : (s : Spelling) (n : ℕ) (e : Expr) (v : Verdict) → VerdictIn n v → weight e ≤ n → ReadingIn n (judged s e v)
unfolding judged
judged_within s n e (fault m p) h t = h
judged_within s n e fine h t = cond_case (ReadingIn n) (is_too_deep s e) (λ _. omega arith) (λ _. t)

one_within : (s : Spelling) (n : ℕ) (es : Exprs) → AllPlaced n es → weight_all es ≤ n → ReadingIn n (one_expression s n es)
unfolding one_expression Placed weight
one_within nested n none u t = omega arith
one_within nested n (and e none) u t = judged_within nested n e (judge_root e) (root_within n e u.0) (omega arith)
one_within nested n (and e (and e' es)) u t = placed n e' u.1.0
one_within imperative n none u t = omega arith
one_within imperative n (and e es) u t =
    let r : Placed n (regroup e es) = regrouped_placed n e es u in
    judged_within imperative n (regroup e es) (judge_root (regroup e es)) (root_within n (regroup e es) r)
    (regrouped_all (λ (n : ℕ) (e : Expr). weight e ≤ n) (λ (n : ℕ) (es : Exprs). weight_all es ≤ n) weight_laws n e es t)

module _ (s : Spelling) (text : List ℕ) (es : Exprs) (st : RunStands text 0 es (length text)) where
  reading_within : ReadingIn (length text) (one_expression s (length text) es)
  reading_within = one_within s (length text) es (stands_placed st) (omega (arith, stands_weight st))

  -- The place and both counts are within the text.
  pub walk_within : (w : Walked) → w ≡ read_walked (one_expression s (length text) es)
      → (w.place ≤ length text) × (w.nodes ≤ length text) × (w.pool ≤ length text)
  unfolding read_walked
  walk_within w is = rw is (go (one_expression s (length text) es) reading_within)
    where
      go : (r : Reading) → ReadingIn (length text) r
          → ((read_walked r).place ≤ length text) × ((read_walked r).nodes ≤ length text) × ((read_walked r).pool ≤ length text)
      go (refused n p) h = (h, omega arith, omega arith)
      go (read e) h = let (n, b) = weighed e in (omega arith, omega (arith, h), omega (arith, h))
