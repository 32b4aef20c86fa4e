-- The demands hold of every call, from the contracts of the functions alone.
use Prim.Native.Nat.{ℕ, ◌≤◌}
use mathlib.Core.Path.{◌≡◌, sym, subst, ◌∙◌}
use mathlib.Core.Logic.{◌⊎◌}
use mathlib.Core.List.{List}
use Rattle.base.specs.rules.Numbers as Number
use Rattle.document.specs.rules.Document.{Node}
use Rattle.document.specs.rules.Spelling.{Spelling, Spells}
use Rattle.document.specs.rules.Memory.{Memory, Outcome}
use Rattle.document.specs.rules.Readable.{Readable, Read}
use Rattle.document.specs.reference.Printing.{checking, printing}
use Rattle.document.proofs.Account.{answers, answers_only}
use Rattle.document.proofs.ReadExactly.{read_exactly, either_spelling}
use Rattle.document.proofs.Unaltered.{kept_unless_filled}
use Rattle.document.proofs.SameDocument.{spelled_alike}
use Rattle.document.proofs.PrintAccount.{print_answers, print_answers_only}
use Rattle.printer.specs.declared.Printed.{Printed}
use Rattle.printer.specs.Prints.{Prints}
use Rattle.validate.specs.declared.Checked.{Checked}
use Rattle.validate.specs.Checks.{Checks}
use Rattle.reader.specs.declared.Answer.{Answer}
use Rattle.reader.specs.Read.{Reads}
use Rattle.structural.specs.Demands.{called, Demand1, Unaltered, Demand3, OneDocument, SameDocument, PrintAccount, Demand2, RefusedExactly, ReadPrinted}
use Rattle.structural.specs.Demands.{CheckAccount, PassedExactly, NoDraftExactly, Demand3Pair, PairAccount}
use Rattle.structural.proofs.Called.{called_as}
use Rattle.structural.proofs.PrintedTables as Tables
use Rattle.structural.proofs.Pairs as Pairs

-- A call of `read_nested` or `read_imperative`.
module _ (s : Spelling) (text : List ℕ) (m : Memory) (r : Answer) (exit : Memory) (reads : Reads s text m r exit) where
  pub demand_1 : Demand1 s text m r exit
  demand_1 =
      let e = called_as s text m r exit reads in
      (rw e (answers s text m), λ o a. e ∙ answers_only s text m o a)

  pub unaltered : Unaltered m r exit
  unfolding called
  unaltered =
      subst (λ (o : Outcome). ((o.answer.number ≤ Number.pool_short) ⊎ (o.answer.number ≡ Number.nested_too_deep)) × ((o.answer.number ≡ Number.ok → ⊥) → o.memory ≡ m))
      (sym (called_as s text m r exit reads)) (kept_unless_filled s text m)

  pub demand_3 : Demand3 s text m r exit
  unfolding called
  demand_3 =
      subst (λ (o : Outcome). (o.answer.number ≡ Number.ok → (d : Node) × Readable s text m d × Read m o d)
      × ((d : Node) → Readable s text m d → Read m o d) × ((d d' : Node) → Spells s d text → Spells s d' text → d ≡ d'))
      (sym (called_as s text m r exit reads)) (read_exactly s text m)

-- A call of `check`.
module _ (words : List ℕ) (n : ℕ) (bytes : List ℕ) (m : ℕ) (c : Checked) (call : Checks (checking words n bytes m) c) where
  pub check_account : CheckAccount words n bytes m c
  check_account = Pairs.check_account words n bytes m c call

  pub passed_exactly : PassedExactly words n bytes m c
  passed_exactly = Pairs.passed_exactly words n bytes m c call

  pub no_draft_exactly : NoDraftExactly words n bytes m c.number
  no_draft_exactly = Pairs.no_draft_exactly words n bytes m c call

-- A call of `check` on what one of `read_nested` or `read_imperative` left.
module _ (s : Spelling) (text : List ℕ) (m : Memory) (r : Answer) (exit : Memory) (reads : Reads s text m r exit) (c : Checked)
    (call : Checks (checking exit.nodes r.nodes exit.pool r.pool) c) where
  pub demand_3_pair : Demand3Pair s text m r exit c
  demand_3_pair = Pairs.demand_3_pair s text m r exit reads c call

  pub pair_account : PairAccount s text m r exit c
  pair_account = Pairs.pair_account s text m r exit reads c call

pub one_document : OneDocument
one_document = either_spelling

-- Two calls that were lent the same memory.
pub same_document : (s s' : Spelling) (d : Node) (text text' : List ℕ) (m exit exit' : Memory) (r r' : Answer) → Reads s text m r exit → Reads s' text' m r' exit'
    → SameDocument s s' d text text' (called r exit) (called r' exit')
same_document s s' d text text' m exit exit' r r' a b sp sp' l l' =
    rw (called_as s text m r exit a, called_as s' text' m r' exit' b) (spelled_alike s s' d text text' m sp sp' l l')

-- A call of `print`.
module _ (words : List ℕ) (n : ℕ) (bytes : List ℕ) (m : ℕ) (out : List ℕ) (p : Printed) (exit : List ℕ) (call : Prints (printing words n bytes m out) p exit) where
  pub print_account : PrintAccount words n bytes m out p exit
  print_account =
      let e = Tables.printed_as_lem words n bytes m out p exit call in
      (rw e (print_answers words n bytes m out), λ o a. e ∙ print_answers_only words n bytes m out o a)

  pub demand_2 : Demand2 words n bytes m out p exit
  demand_2 = Tables.written_and_read_back words n bytes m out p exit call

  pub refused_exactly : RefusedExactly words n bytes m p
  refused_exactly = Tables.refused_exactly words n bytes m out p exit call

-- A call of `print` after one of `read_nested` or `read_imperative`.
pub read_printed : (s : Spelling) (text : List ℕ) (lent left : Memory) (r : Answer) → Reads s text lent r left → r.number ≡ Number.ok
    → (out : List ℕ) (p : Printed) (exit : List ℕ) → Prints (printing left.nodes r.nodes left.pool r.pool out) p exit
    → ReadPrinted s text r left p
read_printed s text lent left r reads z out p exit call =
    let (zero, all, once) = demand_3 s text lent r left reads in
    let (d, readable, b) = zero z in
    let h = Tables.read_holds s text lent left r d readable b in
    (d, readable.spells, h, λ e. (refused_exactly left.nodes r.nodes left.pool r.pool out p exit call).0 e d h)
