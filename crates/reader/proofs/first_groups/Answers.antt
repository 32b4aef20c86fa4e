-- `reader::first_groups` meets its contract: each way is one law of `Outcomes`.
use Prim.Native.Nat.{ℕ, min}
use mathlib.Core.List.{List}
use mathlib.Core.Path.{◌≡◌, refl, ap, ◌∙◌}
use Rattle.document.specs.rules.Spelling.{Spelling, nested, imperative, most_levels}
use Rattle.std.specs.Prelude.{Result, Err}
use Rattle.std.proofs.lemmas.Result.{err_from_is_err_and}
use Rattle.syntax.specs.reference.Scan.{scan}
use Rattle.lexer.specs.declared.scanner.Fault.{Fault}
use Rattle.lexer.specs.Token.{answer_number, answer_place, scan_number, scan_place}
use Rattle.reader.specs.declared.GroupFault.{GroupFault}
use Rattle.reader.specs.declared.GroupFault.TheVariants.{Scan}
use Rattle.reader.specs.internal.FirstGroups.{fault_number, fault_place, told_number, told_place}
use Rattle.reader.proofs.lemmas.read.AnswerGroups.{groups_long, groups_ill_formed, groups_scan}
use Rattle.reader.proofs.first_groups.Goals as goal

-- The scan takes no limit past 64.
within : (s : Spelling) → min (most_levels s) 64 ≡ most_levels s
unfolding most_levels
within nested = refl
within imperative = refl

pub returns-then-n-gt-MOST_BYTES : goal.returns-then-n-gt-MOST_BYTES
unfolding told_number told_place fault_number fault_place
returns-then-n-gt-MOST_BYTES c = groups_long _ _ c.if-n-gt-MOST_BYTES.true

pub returns-then-valid-n : goal.returns-then-valid-n
unfolding told_number told_place fault_number fault_place
returns-then-valid-n c = groups_ill_formed _ _ _ c.if-n-gt-MOST_BYTES.false c.valid_up_to-valid.ensures c.if-valid-n.true

-- What the scan found is told so.
scan_said : (levels : ℕ) (text : List ℕ) (r : Result (Unit {0}) GroupFault) (f : Fault) → r ≡ Err (Scan f)
    → (answer_number (Err f) ≡ scan_number (scan levels text)) × (answer_place (Err f) ≡ scan_place (scan levels text))
    → (told_number r ≡ scan_number (scan levels text)) × (told_place r ≡ scan_place (scan levels text))
unfolding told_number told_place fault_number fault_place answer_number answer_place
scan_said levels text r f e told = rw e told

pub returns-in_err-scan : goal.returns-in_err-scan
returns-in_err-scan c =
    let (fault, is, same) = err_from_is_err_and c.from_residual.result c.from_residual.ensures.1 in
    let told = scan_said _ _ c.from_residual.result _ (is ∙ ap Err same) c.in_err-scan.ensures in
    rw (c.levels.ensures, within) at (groups_scan _ _ _ _ _ c.if-n-gt-MOST_BYTES.false c.valid_up_to-valid.ensures c.if-valid-n.false told.0 told.1)

pub returns : goal.returns
unfolding told_number told_place answer_number answer_place
returns c = rw (c.levels.ensures, within) at
    (groups_scan _ _ _ _ _ c.if-n-gt-MOST_BYTES.false c.valid_up_to-valid.ensures
    c.if-valid-n.false c.in_ok-scan.ensures.0 c.in_ok-scan.ensures.1)
