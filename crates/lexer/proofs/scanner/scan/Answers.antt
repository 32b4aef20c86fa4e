-- `scanner::scan` meets its contract.
use mathlib.Core.Path.{◌≡◌, refl, ap, sym, ◌∙◌}
use mathlib.Core.Bool.{true, false, true≢false}
use mathlib.Core.Logic.{⊎_elim}
use mathlib.Core.List.{List, [], ◌∷◌}
use Prim.Native.Nat.{ℕ, ◌<◌}
use native.Mathlib.Omega.{arith}
use lib.ListN.{length, length-append}
use denote.Enum.Bare.{sameb}
use Rattle.std.proofs.lemmas.Result.{err_from_is_err_and}
use Rattle.characters.specs.declared.class.Bracket.{Bracket}
use Rattle.characters.specs.declared.class.Bracket.TheVariants.{Round, Square}
use Rattle.characters.specs.contracts.class.Bracket.{the_type}
use Rattle.lexer.specs.internal.Step.{passed}
use Rattle.std.specs.Prelude.{Result, Ok, Err}
use Rattle.syntax.specs.reference.Scan.{scan}
use Rattle.lexer.specs.declared.open.Open.{Open}
use Rattle.lexer.specs.declared.scanner.Fault.{Fault}
use Rattle.lexer.specs.Token.{kind_number, answer_number, answer_place, scan_number, scan_place}
use Rattle.lexer.proofs.ScanSteps.{ScanAnswer, scan_answer, scan_answer_at, opened, ordinary_passed, blank_passed, forbidden_found, return_passed, return_fault}
use Rattle.lexer.proofs.ScanSteps.{string_passed, string_fault, no_room_lem, push, unopened, other_bracket, pop, none_open, left_open}
use Rattle.lexer.proofs.scanner.scan.Goals as goal
use Rattle.lexer.proofs.scanner.scan.Goals.{in_default-via-in-Some+else-eq, in_default-via-in_default}

-- What the code answers is what the scan does.
said : (text : List ℕ) (room : ℕ) (r : Result (Unit {0}) Fault) → scan_answer_at [] room text 0 ≡ record { number = answer_number r; place = answer_place r }
    → (answer_number r ≡ scan_number (scan room text)) × (answer_place r ≡ scan_place (scan room text))
unfolding scan_answer_at scan_answer scan
said text room r e = (ap (λ (x : ScanAnswer). x.number) (sym e), ap (λ (x : ScanAnswer). x.place) (sym e))

fault_said : (text : List ℕ) (room : ℕ) (r : Result (Unit {0}) Fault) (f : Fault) → r ≡ Err f → scan_answer_at [] room text 0 ≡ record { number = kind_number f.kind; place = f.place }
    → (answer_number r ≡ scan_number (scan room text)) × (answer_place r ≡ scan_place (scan room text))
unfolding answer_number answer_place
fault_said text room r f g e = rw g (said text room (Err f) e)

-- The code's test of two brackets.
tested_yes : (x y : Bracket) → sameb the_type x y ≡ true → x ≡ y
tested_yes Round Round e = refl
tested_yes Round Square e = absurd (true≢false (sym e))
tested_yes Square Round e = absurd (true≢false (sym e))
tested_yes Square Square e = refl

tested_no : (x y : Bracket) → sameb the_type x y ≡ false → x ≡ y → ⊥
tested_no Round y e f = true≢false (rw (← f) at e)
tested_no Square y e f = true≢false (rw (← f) at e)

pub loop-i-init : goal.loop-i-init
unfolding opened
loop-i-init c = rw c.new-open.ensures (omega arith, omega arith, ap (λ (n : ℕ). scan_answer_at [] n c.args.text.now 0) (omega (arith, c.min-limit.ensures)))

pub loop-i-preserved-in-Ordinary : goal.loop-i-preserved-in-Ordinary
loop-i-preserved-in-Ordinary c = let inv = c.loop-i.invariant in (
  inv.0,
  inv.1,
  ⊎_elim (ordinary_passed _ _ c.args.text.now c.loop-i.i c.loop-i-test.true c.byte_class.result c.byte_class.ensures)
      (blank_passed _ _ c.args.text.now c.loop-i.i c.loop-i-test.true c.byte_class.result c.byte_class.ensures) c.in-Ordinary.is
      ∙ inv.2,
)

pub returns-in_err-i-in-Return : goal.returns-in_err-i-in-Return
returns-in_err-i-in-Return c =
    let (f, is, same) = err_from_is_err_and c.from_residual.result c.from_residual.ensures.1 in
    fault_said _ _ _ f is
    (sym c.loop-i.invariant.2
    ∙ return_fault _ _ c.args.text.now c.loop-i.i c.loop-i-test.true c.byte_class.result c.byte_class.ensures c.in-Return.is f (ap (λ (x : Fault). passed (Err x)) same ∙ c.in_err-i-in-Return.ensures))

pub loop-i-smaller-in-Return : goal.loop-i-smaller-in-Return
loop-i-smaller-in-Return c =
    omega (arith, return_passed [] 0 c.args.text.now c.loop-i.i c.loop-i-test.true c.byte_class.result c.byte_class.ensures c.in-Return.is _ c.in_ok-i-in-Return.ensures)

pub loop-i-preserved-in-Return : goal.loop-i-preserved-in-Return
loop-i-preserved-in-Return c = let inv = c.loop-i.invariant in
    (inv.0, inv.1, (return_passed _ _ c.args.text.now c.loop-i.i c.loop-i-test.true c.byte_class.result c.byte_class.ensures c.in-Return.is _ c.in_ok-i-in-Return.ensures).1 ∙ inv.2)

pub returns-in_err-i-in-Quote : goal.returns-in_err-i-in-Quote
unfolding kind_number
returns-in_err-i-in-Quote c =
    let (f, is, same) = err_from_is_err_and c.from_residual-in_err-i-in-Quote.result c.from_residual-in_err-i-in-Quote.ensures.1 in
    fault_said _ _ _ _ (is ∙ ap Err same)
    (sym c.loop-i.invariant.2
    ∙ string_fault _ _ c.args.text.now c.loop-i.i c.loop-i-test.true c.byte_class.result c.byte_class.ensures c.in-Quote.is _ c.in_err-i-in-Quote.ensures)

pub loop-i-smaller-in-Quote : goal.loop-i-smaller-in-Quote
loop-i-smaller-in-Quote c =
    omega (arith, string_passed [] 0 c.args.text.now c.loop-i.i c.loop-i-test.true c.byte_class.result c.byte_class.ensures c.in-Quote.is _ c.in_ok-i-in-Quote.ensures)

pub loop-i-preserved-in-Quote : goal.loop-i-preserved-in-Quote
loop-i-preserved-in-Quote c = let inv = c.loop-i.invariant in
    (inv.0, inv.1, (string_passed _ _ c.args.text.now c.loop-i.i c.loop-i-test.true c.byte_class.result c.byte_class.ensures c.in-Quote.is _ c.in_ok-i-in-Quote.ensures).1 ∙ inv.2)

pub returns-in-Forbidden : goal.returns-in-Forbidden
unfolding kind_number
returns-in-Forbidden c = fault_said _ _ _ _ c.refuse.ensures
    (sym c.loop-i.invariant.2 ∙ forbidden_found _ _ c.args.text.now c.loop-i.i c.loop-i-test.true c.byte_class.result c.byte_class.ensures c.in-Forbidden.is)

pub returns-then-limit-depth : goal.returns-then-limit-depth
unfolding kind_number
returns-then-limit-depth c = fault_said _ _ _ _ c.refuse-then-limit-depth.ensures
    (sym c.loop-i.invariant.2
    ∙ no_room_lem c.min-limit.result c.loop-i.open c.args.text.now c.loop-i.i c.loop-i-test.true c.byte_class.result c.byte_class.ensures c.in-Opening.bracket c.in-Opening.is (omega (arith, c.depth.ensures)))

pub loop-i-preserved-in-Opening : goal.loop-i-preserved-in-Opening
loop-i-preserved-in-Opening c = let inv = c.loop-i.invariant in
    let room : length c.loop-i.open < c.min-limit.result = omega (arith, c.depth.ensures) in
    let one : Open = record { bracket = c.in-Opening.bracket; place = c.loop-i.i } in
    rw c.push.ensures (
      inv.0,
      omega (arith, length-append c.loop-i.open (one ∷ [])),
      push c.min-limit.result c.loop-i.open c.args.text.now c.loop-i.i c.loop-i-test.true c.byte_class.result c.byte_class.ensures c.in-Opening.bracket c.in-Opening.is room ∙ inv.2,
    )

pub loop-i-preserved : goal.loop-i-preserved
loop-i-preserved c = let inv = c.loop-i.invariant in
    let same = tested_yes c.in-Some.o.bracket c.in-Closing.bracket (sym c.eq.ensures ∙ c.if-eq.true) in
    let (fits, popped) = pop c.min-limit.result c.loop-i.open c.args.text.now c.loop-i.i c.loop-i-test.true c.byte_class.result c.byte_class.ensures c.in-Closing.bracket c.in-Closing.is
    c.pop.new.self c.in-Some.o c.in-Some.ensures inv.1 same in
    (inv.0, fits, popped ∙ inv.2)

pub returns-in_default : goal.returns-in_default
unfolding kind_number
returns-in_default c = fault_said _ _ _ _ c.refuse-in_default.ensures
    (sym c.loop-i.invariant.2
    ∙ elim c.in_default.branch [
      | in_default-via-in-Some+else-eq w ↦
          other_bracket c.min-limit.result c.loop-i.open c.args.text.now c.loop-i.i c.loop-i-test.true c.byte_class.result c.byte_class.ensures c.in-Closing.bracket c.in-Closing.is
          c.pop.new.self w.in-Some.o w.in-Some.ensures (tested_no w.in-Some.o.bracket c.in-Closing.bracket (sym w.eq.ensures ∙ w.if-eq.false))
      | in_default-via-in_default w ↦
          unopened c.min-limit.result c.loop-i.open c.args.text.now c.loop-i.i c.loop-i-test.true c.byte_class.result c.byte_class.ensures c.in-Closing.bracket c.in-Closing.is w.in_default.ensures
    ])

pub returns-in-None : goal.returns-in-None
unfolding answer_number answer_place
returns-in-None c = said _ _ (Ok tt) (sym c.loop-i.invariant.2 ∙ none_open c.min-limit.result c.loop-i.open c.args.text.now c.loop-i.i c.loop-i-test.false c.in-None.ensures)

pub returns-in-Some-pop : goal.returns-in-Some-pop
unfolding kind_number
returns-in-Some-pop c = fault_said _ _ _ _ c.refuse-in-Some-pop.ensures
    (sym c.loop-i.invariant.2 ∙ left_open c.min-limit.result c.loop-i.open c.args.text.now c.loop-i.i c.loop-i-test.false c.pop-2.new.self c.in-Some-pop.o c.in-Some-pop.ensures)
