-- Printing answers as `specs/rules/PrintAccount.antt` tells, and in no other way.
use Prim.Native.Nat.{ℕ}
use mathlib.Core.Path.{◌≡◌, ◌∙◌}
use mathlib.Core.List.{List}
use borrow.Author.Tests.{lt-ltb, le-ltb, ltb-true, ltb-false}
use lib.Dec.{ltb}
use lib.ListN.{length}
use Rattle.base.proofs.Booleans.{cond_case}
use Rattle.document.specs.rules.Document.{Node}
use Rattle.document.specs.rules.Canonical.{canonical}
use Rattle.document.specs.reference.Printing.{Draft, no_draft, the_draft, draft_of, written, printed_of, printing}
use Rattle.document.specs.rules.Draft.{Holds, Printed}
use Rattle.document.specs.rules.PrintAccount.{PrintAnswers, no_table, too_short, spelled}
use Rattle.document.proofs.PrintingDecided.{DraftHeld, held_draft, draft_held, none_held}

module _ (words : List ℕ) (n : ℕ) (bytes : List ℕ) (m : ℕ) (out : List ℕ) where
  pub held_printed : (d : Node) → Holds words n bytes m d → printing words n bytes m out ≡ written (canonical d) out
  unfolding printing printed_of
  held_printed d h = rw (held_draft words n bytes m d h)

  none_printed : ((d : Node) → Holds words n bytes m d → ⊥) → printing words n bytes m out ≡ printed_of out no_draft
  unfolding printing
  none_printed none = rw (none_held words n bytes m none)

  -- Printing answers in one of the ways of the account.
  pub print_answers : PrintAnswers words n bytes m out (printing words n bytes m out)
  unfolding printing printed_of written
  print_answers = go (draft_of words n bytes m) (draft_held words n bytes m)
    where
      go : (x : Draft) → DraftHeld words n bytes m x → PrintAnswers words n bytes m out (printed_of out x)
      go no_draft none = no_table none
      go (the_draft d) h =
          cond_case (PrintAnswers words n bytes m out) (ltb (length out) (length (canonical d)))
          (λ e. too_short h (ltb-true (length out) (length (canonical d)) e))
          (λ e. spelled h (ltb-false (length out) (length (canonical d)) e))

  -- Whatever the account tells is what printing answers.
  pub print_answers_only : (p : Printed) → PrintAnswers words n bytes m out p → printing words n bytes m out ≡ p
  unfolding written printed_of
  print_answers_only p (no_table none) = none_printed none
  print_answers_only p (too_short {d = d} h l) = held_printed d h ∙ rw (lt-ltb (length out) (length (canonical d)) l)
  print_answers_only p (spelled {d = d} h l) = held_printed d h ∙ rw (le-ltb (length out) (length (canonical d)) l)
