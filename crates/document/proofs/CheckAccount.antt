-- The check of a table answers as `specs/rules/CheckAccount.antt` tells, and in no other way.
use Prim.Native.Nat.{ℕ}
use mathlib.Core.Path.{◌≡◌, ◌∙◌}
use mathlib.Core.List.{List}
use Rattle.document.specs.rules.Document.{Node}
use Rattle.document.specs.reference.Check.{Check, sound, unsound, check, Decides}
use Rattle.document.specs.reference.Printing.{Draft, no_draft, the_draft, draft_of, checked_as, checked_of, checking}
use Rattle.document.specs.rules.Draft.{Holds, Checked}
use Rattle.document.specs.rules.CheckAccount as Account
use Rattle.document.specs.rules.CheckAccount.{CheckAnswers, has_fault, has_none}
use Rattle.document.proofs.FirstFaults.{check_decides, well_formed_check, fault_check}
use Rattle.document.proofs.PrintingDecided.{DraftHeld, held_draft, draft_held, none_held}

module _ (words : List ℕ) (n : ℕ) (bytes : List ℕ) (m : ℕ) where
  -- Given the table of a draft, the check answers of that draft.
  pub held_checked : (d : Node) → Holds words n bytes m d → checking words n bytes m ≡ checked_as (check d)
  unfolding checking checked_of
  held_checked d h = rw (held_draft words n bytes m d h)

  decided : (d : Node) → Holds words n bytes m d → (c : Check) → Decides d c → CheckAnswers words n bytes m (checked_as c)
  unfolding checked_as
  decided d h sound w = has_none h w
  decided d h (unsound k i) f = has_fault h f

  -- The check answers in one of the ways of the account.
  pub check_answers : CheckAnswers words n bytes m (checking words n bytes m)
  unfolding checking checked_of
  check_answers = go (draft_of words n bytes m) (draft_held words n bytes m)
    where
      go : (x : Draft) → DraftHeld words n bytes m x → CheckAnswers words n bytes m (checked_of x)
      go no_draft none = Account.no_draft none
      go (the_draft d) h = decided d h (check d) (check_decides d h.draft.document)

  -- Whatever the account tells is what the check answers.
  pub check_answers_only : (c : Checked) → CheckAnswers words n bytes m c → checking words n bytes m ≡ c
  unfolding checked_as checked_of checking
  check_answers_only c (Account.no_draft none) = rw (none_held words n bytes m none)
  check_answers_only c (has_fault {d = d} {k = k} {i = i} h f) = held_checked d h ∙ rw (fault_check d h.draft.document k i f)
  check_answers_only c (has_none {d = d} h w) = held_checked d h ∙ rw (well_formed_check d h.draft.document w)
