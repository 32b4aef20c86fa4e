-- What reading finds in a text that is UTF-8: an expression exactly where the text spells a document, and then that document's; else the fault that the
-- rules name.
use Prim.Native.Nat.{ℕ, ◌≤◌}
use mathlib.Core.Path.{◌≡◌, refl, sym, ◌∙◌}
use mathlib.Core.List.{List}
use borrow.Author.Tests.{lt-ltb, le-ltb, ltb-true}
use lib.Dec.{ltb}
use lib.ListN.{length}
use Rattle.base.proofs.Booleans.{cond_case}
use Rattle.utf8.specs.rules.Scalar.{IsUtf8}
use Rattle.syntax.specs.rules.Syntax.{levels}
use Rattle.syntax.specs.rules.Expression.{Expr, Exprs, none, and, locate, depth}
use Rattle.syntax.specs.reference.Scan as Scan
use Rattle.syntax.specs.reference.Scan.{Scanned, scan}
use Rattle.syntax.proofs.SyntaxAccepted.{accepted}
use Rattle.syntax.proofs.SyntaxOrFault.{accepts, refused_fault}
use Rattle.syntax.proofs.FaultsRefused.{fault_refused}
use Rattle.syntax.specs.rules.Atoms.{AtomsOf}
use Rattle.document.specs.rules.Document.{Node, says}
use Rattle.document.specs.rules.Spelling.{Spelling, nested, imperative, most_levels, WritesIn, Spells, WithinLimits, node_places}
use Rattle.document.specs.reference.Imperative.{spelled_as, regroup}
use Rattle.document.specs.reference.Meaning.{Verdict, fine, fault, judge_root, tree_of, places}
use Rattle.document.specs.reference.Outcome.{Reading, refused, read, is_too_deep, judged, one_expression, after_scan, reading}
use Rattle.document.specs.rules.Account.{Scans, NestedForm, as_it_stands, regrouped, RefusedFor, no_syntax, no_expression, second_expression, against_rules, too_deep}
use Rattle.document.proofs.NestedMeaning.{AllText, AllTexts, root_sound, root_complete}
use Rattle.document.proofs.RulesTest.{lawful_test, test_lawful}
use Rattle.document.proofs.Regroup.{flatten_regroup}
use Rattle.document.proofs.Flatten.{regroup_flatten}
use Rattle.document.proofs.BlockContents.{document_takes, takes_regroup}
use Rattle.document.proofs.NestedForms.{in_form, places_in_lem, spelled_form, spelled_fine, nested_depth}
use Rattle.document.proofs.RegroupedTexts.{regrouped_text}
use Rattle.document.proofs.AtomsAreTexts.{texts}
use Rattle.document.proofs.Faults.{fault_named, named_fault}

-- What a reading says of the text.
abbrev pub ReadingHolds : Spelling → List ℕ → Reading → Type 0
ReadingHolds s text (refused n p) = RefusedFor s text n p
ReadingHolds s text (read e) = (spells : Spells s (says (tree_of e)) text) × (levels spells.forest ≤ most_levels s) × (node_places spells ≡ places e)

all_texts : {s : Spelling} {text : List ℕ} {es : Exprs} → IsUtf8 text → Scans s text es → AllTexts es
all_texts utf8 x = rw x.expressions at (texts x.forest x.syntax (rw x.bytes utf8))

-- A text whose nested form is judged fine spells its document.
spelled : (s : Spelling) (text : List ℕ) (es : Exprs) (e : Expr) → IsUtf8 text → Scans s text es → AllText e → es ≡ spelled_as s e → judge_root e ≡ fine → ReadingHolds s text (read e)
unfolding node_places
spelled s text es e utf8 x ts l ok =
    let (lawful, writes) = root_sound e ts ok in
    let is : locate 0 x.forest ≡ spelled_as s e = x.expressions ∙ l in
    let w : WritesIn s (tree_of e) (locate 0 x.forest) = rw is (in_form s (tree_of e) e writes lawful) in (
      record { utf8 = utf8; forest = x.forest; syntax = x.syntax; spelled = x.bytes; tree = tree_of e; writes = w; lawful = test_lawful (tree_of e) lawful; said = refl },
      x.within,
      places_in_lem w lawful e ok is,
    )

found_nested : (text : List ℕ) (e : Expr) → IsUtf8 text → Scans nested text (and e none) → (v : Verdict) → judge_root e ≡ v
    → ReadingHolds nested text (judged nested e v)
unfolding judged is_too_deep spelled_as AtomsOf
found_nested text e utf8 x (fault n p) j = against_rules x as_it_stands (fault_named e n p (all_texts utf8 x).0 j)
found_nested text e utf8 x fine j = spelled nested text (and e none) e utf8 x (all_texts utf8 x).0 refl j

-- The nested form of an imperative text is what `regroup` makes of its expressions.
pub regrouped_form : (e : Expr) (es : Exprs) → NestedForm imperative (and e es) (regroup e es)
regrouped_form e es = let (content, t) = document_takes es in rw (takes_regroup e t) at (regrouped {e = e} t)

found_imperative : (text : List ℕ) (e : Expr) (es : Exprs) → IsUtf8 text → Scans imperative text (and e es) → (v : Verdict)
    → judge_root (regroup e es) ≡ v → ReadingHolds imperative text (judged imperative (regroup e es) v)
unfolding judged is_too_deep spelled_as
found_imperative text e es utf8 x (fault n p) j =
    against_rules x (regrouped_form e es) (fault_named (regroup e es) n p (regrouped_text e es (all_texts utf8 x)) j)
found_imperative text e es utf8 x fine j =
    let t = regrouped_text e es (all_texts utf8 x) in
    let (lawful, writes) = root_sound (regroup e es) t j in
    cond_case (ReadingHolds imperative text) (ltb 64 (depth (regroup e es)))
    (λ deep. too_deep refl x (regrouped_form e es) writes (test_lawful (tree_of (regroup e es)) lawful) (ltb-true 64 (depth (regroup e es)) deep))
    (λ deep. spelled imperative text (and e es) (regroup e es) utf8 x t (sym (flatten_regroup e es j)) j)

found_one : (s : Spelling) (text : List ℕ) (es : Exprs) → IsUtf8 text → Scans s text es → ReadingHolds s text (one_expression s (length text) es)
unfolding one_expression
found_one nested text none utf8 x = no_expression x
found_one nested text (and e none) utf8 x = found_nested text e utf8 x (judge_root e) refl
found_one nested text (and e (and e' es)) utf8 x = second_expression refl x
found_one imperative text none utf8 x = no_expression x
found_one imperative text (and e es) utf8 x = found_imperative text e es utf8 x (judge_root (regroup e es)) refl

found_scan : (s : Spelling) (text : List ℕ) → IsUtf8 text → (r : Scanned) → scan (most_levels s) text ≡ r → ReadingHolds s text (after_scan s (length text) r)
unfolding after_scan
found_scan s text utf8 (Scan.refused n p) e = no_syntax (refused_fault (most_levels s) text n p e)
found_scan s text utf8 (Scan.scanned f) e =
    let (ok, bytes, within) = accepts (most_levels s) text f e in
    found_one s text (locate 0 f) utf8 (record { forest = f; syntax = ok; bytes = bytes; within = within; expressions = refl })

pub found : (s : Spelling) (text : List ℕ) → IsUtf8 text → ReadingHolds s text (reading s text)
unfolding reading
found s text utf8 = found_scan s text utf8 (scan (most_levels s) text) refl

-- The converse: a text with these expressions is read as they are.
scans_read : {s : Spelling} {text : List ℕ} {es : Exprs} → Scans s text es → reading s text ≡ one_expression s (length text) es
unfolding reading after_scan
scans_read {s} {text} {es} x =
    let scanned : scan (most_levels s) text ≡ Scan.scanned x.forest =
    rw x.bytes at (accepted x.forest (most_levels s) x.syntax x.within) in
    rw (scanned, x.expressions)

form_read : {s : Spelling} {es : Exprs} {e : Expr} (n : ℕ) → NestedForm s es e → one_expression s n es ≡ judged s e (judge_root e)
unfolding one_expression
form_read n as_it_stands = refl
form_read n (regrouped {e = e} t) = rw (takes_regroup e t)

pub refused_read : {s : Spelling} {text : List ℕ} {n p : ℕ} → RefusedFor s text n p → reading s text ≡ refused n p
unfolding reading after_scan one_expression judged is_too_deep
refused_read {s} {text} {n} {p} (no_syntax f) = rw (fault_refused (most_levels s) text n p f)
refused_read {s = nested} (no_expression x) = scans_read x
refused_read {s = imperative} (no_expression x) = scans_read x
refused_read (second_expression e x) = scans_read x ∙ rw e
refused_read {text} (against_rules {e = e} {n = n} {p = p} x form f) = scans_read x ∙ form_read (length text) form ∙ rw (named_fault e n p f)
refused_read {text} (too_deep {e = e} {t = t} i x form w l deep) =
    scans_read x ∙ form_read (length text) form ∙ rw ((root_complete t e w (lawful_test t l)).0, i, lt-ltb 64 (depth e) deep)

one_found : (s : Spelling) (n : ℕ) (e : Expr) → judge_root e ≡ fine → depth e ≤ 64 → one_expression s n (spelled_as s e) ≡ read e
unfolding one_expression spelled_as judged is_too_deep
one_found nested n e ok deep = rw ok
one_found imperative n e ok deep =
    let (e₀, es₀, fl, re) = regroup_flatten e ok in
    rw (fl, re, ok, le-ltb _ _ deep)

-- What is spelled within the limits is read as the nested expression behind it.
pub spelled_one : {s : Spelling} {d : Node} {text : List ℕ} (sp : Spells s d text) → WithinLimits s text sp.forest
    → one_expression s (length text) (locate 0 sp.forest) ≡ read (spelled_form sp).expression
spelled_one {s} {d} {text} sp l =
    rw (spelled_form sp).expressions (one_found s (length text) (spelled_form sp).expression (spelled_fine sp) (nested_depth sp l))

pub spelled_read : {s : Spelling} {d : Node} {text : List ℕ} (sp : Spells s d text) → WithinLimits s text sp.forest
    → reading s text ≡ read (spelled_form sp).expression
spelled_read {s} {d} {text} sp l =
    let x : Scans s text (locate 0 sp.forest) =
    record { forest = sp.forest; syntax = sp.syntax; bytes = sp.spelled; within = l.nests; expressions = refl } in
    scans_read x ∙ spelled_one sp l
