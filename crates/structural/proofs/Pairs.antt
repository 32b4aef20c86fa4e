-- A call of the check, by itself and after one of reading, from the contracts.
use Prim.Native.Nat.{ℕ, ◌≤◌, ◌<◌}
use mathlib.Core.Path.{◌≡◌, refl, sym, ap, ◌∙◌}
use mathlib.Core.List.{List}
use native.Mathlib.Omega.{arith}
use borrow.Author.Tests.{ne_eqb}
use lib.ListN.{length, drop, get_or, get_or-append}
use Rattle.base.specs.rules.Numbers as Number
use Rattle.document.specs.rules.Document.{Node, Document}
use Rattle.document.specs.rules.Table.{count, pool}
use Rattle.document.specs.rules.Spelling.{Spelling, Spells, WithinLimits, node_places}
use Rattle.document.specs.rules.WellFormed.{WellFormed}
use Rattle.document.specs.rules.Draft as Defined
use Rattle.document.specs.rules.Draft.{Holds}
use Rattle.document.specs.rules.Memory as Memory
use Rattle.document.specs.rules.Memory.{Memory, Outcome, answer_at, over, filled, refusal, no_room, node_room}
use Rattle.document.specs.rules.Readable.{Readable, Read}
use Rattle.document.specs.rules.Account as Account
use Rattle.document.specs.rules.Account.{Answers, too_long, ill_formed, no_node_room, no_pool_room, accepted}
use Rattle.document.specs.rules.CheckAccount as CheckAccount
use Rattle.document.specs.rules.CheckAccount.{CheckAnswers, has_fault, has_none}
use Rattle.document.specs.rules.Pair.{place_of, pair_answer}
use Rattle.document.specs.reference.Outcome.{outcome}
use Rattle.document.specs.reference.Check.{Check, sound, unsound, check, Decides}
use Rattle.document.specs.reference.Printing.{checked_as, checking}
use Rattle.document.proofs.Account.{answers, answers_only}
use Rattle.document.proofs.ReadExactly.{few, accepted_document, document_accepted}
use Rattle.document.proofs.RefusalNumbers.{refused_number, fault_number}
use Rattle.document.proofs.PlaceList.{place_list}
use Rattle.document.proofs.CheckedNode.{unsound_below}
use Rattle.document.proofs.FirstFaults.{check_decides, well_formed_check, fault_check}
use Rattle.document.proofs.CheckAccount.{held_checked, check_answers, check_answers_only}
use Rattle.validate.specs.declared.Checked.{Checked}
use Rattle.validate.specs.Checks.{Checks}
use Rattle.reader.specs.declared.Answer.{Answer}
use Rattle.reader.specs.Read.{Reads}
use Rattle.structural.specs.rules.PairAccount.{PairAnswers, pair_refused, pair_fault, pair_accepted}
use Rattle.structural.specs.Demands.{called, checked, CheckAccount, PassedExactly, NoDraftExactly, Demand3Pair, PairAccount}
use Rattle.structural.proofs.Called.{called_as}
use Rattle.structural.proofs.PrintedTables.{read_holds}

module _ (words : List ℕ) (n : ℕ) (bytes : List ℕ) (m : ℕ) (c : Checked) (call : Checks (checking words n bytes m) c) where
  -- The answer of the call is the definition's.
  checked_as_lem : checked c ≡ checking words n bytes m
  unfolding checked
  checked_as_lem = rw (call.number, call.node)

  pub check_account : CheckAccount words n bytes m c
  check_account = (rw checked_as_lem (check_answers words n bytes m), λ o a. checked_as_lem ∙ check_answers_only words n bytes m o a)

  -- An answer of the account is 0, or 20, as it should be.
  Told : Defined.Checked → Type 0
  Told o =
      (o.number ≡ Number.ok → (d : Node) × Holds words n bytes m d × WellFormed d) × (o.number ≡ Number.not_a_table → (d : Node) → Holds words n bytes m d → ⊥)

  told : (o : Defined.Checked) → CheckAnswers words n bytes m o → Told o
  unfolding Told
  told o (CheckAccount.no_draft none) = (λ z. absurd (omega (arith, z)), λ _. none)
  told o (has_fault h f) = (λ z. absurd (omega (arith, z, fault_number f)), λ z. absurd (omega (arith, z, fault_number f)))
  told o (has_none {d = d} h w) = (λ _. (d, h, w), λ z. absurd (omega (arith, z)))

  told_of : Told (checking words n bytes m)
  told_of = told (checking words n bytes m) (check_answers words n bytes m)

  pub passed_exactly : PassedExactly words n bytes m c
  unfolding Told
  passed_exactly = (
    λ z. told_of.0 (sym call.number ∙ z),
    λ d h w. call.number ∙ ap (λ (o : Defined.Checked). o.number) (check_answers_only words n bytes m _ (has_none h w)),
  )

  pub no_draft_exactly : NoDraftExactly words n bytes m c.number
  unfolding Told
  no_draft_exactly = (
    λ e. told_of.1 (sym call.number ∙ e),
    λ none. call.number ∙ ap (λ (o : Defined.Checked). o.number) (check_answers_only words n bytes m _ (CheckAccount.no_draft none)),
  )

-- What a text spells is a document.
document_of : {s : Spelling} {d : Node} {text : List ℕ} → Spells s d text → Document d
document_of sp = record { tree = sp.tree; lawful = sp.lawful; said = sp.said }

-- A place that was filled in stands before what was there.
filled_place : (ps old : List ℕ) (i : ℕ) → i < length ps → get_or (over ps old) i 0 ≡ get_or ps i 0
unfolding over
filled_place ps old i h = get_or-append ps (drop (length ps) old) 0 i (omega arith)

-- The check of what a call of reading left.
module _ (s : Spelling) (text : List ℕ) (m : Memory) (r : Answer) (exit : Memory) (reads : Reads s text m r exit) (c : Checked)
    (call : Checks (checking exit.nodes r.nodes exit.pool r.pool) c) where
  read_of : (d : Node) → Readable s text m d → Read m (called r exit) d
  read_of d readable = rw (called_as s text m r exit reads) (document_accepted s text m d readable)

  holds : (d : Node) → Readable s text m d → Holds exit.nodes r.nodes exit.pool r.pool d
  holds d readable = read_holds s text m exit r d readable (read_of d readable)

  -- It is the check of the draft that was read.
  checked_draft : (d : Node) → Readable s text m d → checked c ≡ checked_as (check d)
  checked_draft d readable =
      checked_as_lem exit.nodes r.nodes exit.pool r.pool c call ∙ held_checked exit.nodes r.nodes exit.pool r.pool d (holds d readable)

  -- Where both answer 0, the draft is well-formed.
  sound_draft : (d : Node) → Readable s text m d → c.number ≡ Number.ok → WellFormed d
  unfolding checked_as checked
  sound_draft d readable z =
      go (check d) (check_decides d (document_of readable.spells)) (sym (ap (λ (o : Defined.Checked). o.number) (checked_draft d readable)) ∙ z)
    where
      go : (k : Check) → Decides d k → (checked_as k).number ≡ 0 → WellFormed d
      go sound w z = w
      go (unsound k i) f z = absurd (omega (arith, z, fault_number f))

  pub demand_3_pair : Demand3Pair s text m r exit c
  unfolding checked_as checked
  demand_3_pair = (
    λ zr zc.
        let (d, readable, b) = accepted_document s text m (sym reads.answers.number ∙ zr) in
        (d, readable, sound_draft d readable zc, read_of d readable),
    λ d readable w.
        let e : checked c ≡ checked_as sound = checked_draft d readable ∙ rw (well_formed_check d (document_of readable.spells) w) in
        (read_of d readable, ap (λ (o : Defined.Checked). o.number) e),
  )

  -- What the pair answers of a draft that was read: what the check of that draft says, at the place of its node.
  module _ {d : Node} (sp : Spells s d text) (l : WithinLimits s text sp.forest) (nodes : count d ≤ node_room m) (bytes : length (pool d) ≤ length m.pool) where
    readable_of : Readable s text m d
    readable_of = let (most, fits) = few m d nodes bytes in record { spells = sp; within = l; few_nodes = most; fits = fits }

    abbrev answer_of : Check → Memory.Answer
    answer_of k =
        answer_at text (checked_as k).number (place_of (over (node_places sp) m.places) (checked_as k)) (count d) (length (pool d))

    accepted_pair : pair_answer text (called r exit) (checked c) ≡ answer_of (check d)
    unfolding pair_answer filled answer_at
    accepted_pair =
        rw (called_as s text m r exit reads ∙ answers_only s text m _ (accepted sp l nodes bytes), checked_draft d readable_of)

    fault_answer : (k i : ℕ) → check d ≡ unsound k i → (15 ≤ k) × (k ≤ 18)
        → answer_of (unsound k i) ≡ answer_at text k (get_or (node_places sp) i 0) (count d) (length (pool d))
    unfolding checked_as place_of
    fault_answer k i e numbered =
        let below : i < length (node_places sp) = omega (arith, unsound_below d k i e, (place_list s d text sp).one_each) in
        rw (ne_eqb k 0 (λ z. omega (arith, z, numbered)), filled_place (node_places sp) m.places i below)

    decided : (k : Check) → check d ≡ k → Decides d k → PairAnswers s text m (answer_of k)
    unfolding checked_as place_of
    decided sound e w = pair_accepted sp l nodes bytes w
    decided (unsound k i) e f = rw (fault_answer k i e (fault_number f)) (pair_fault sp l nodes bytes f)

    accepted_answers : PairAnswers s text m (pair_answer text (called r exit) (checked c))
    accepted_answers = rw accepted_pair (decided (check d) refl (check_decides d (document_of sp)))

  refused_pair : (o : Outcome) → called r exit ≡ o → (o.answer.number ≡ Number.ok → ⊥) → pair_answer text (called r exit) (checked c) ≡ o.answer
  unfolding pair_answer
  refused_pair o same z = rw (same, ne_eqb o.answer.number 0 z)

  answered : (o : Outcome) → Answers s text m o → called r exit ≡ o → PairAnswers s text m (pair_answer text (called r exit) (checked c))
  unfolding refusal no_room answer_at
  answered o (accepted sp l nodes bytes) same = accepted_answers sp l nodes bytes
  answered o (too_long long) same = let z : o.answer.number ≡ 0 → ⊥ = λ e. omega (arith, e) in rw (refused_pair o same z) (pair_refused (too_long long) z)
  answered o (ill_formed short f) same = let z : o.answer.number ≡ 0 → ⊥ = λ e. omega (arith, e) in rw (refused_pair o same z) (pair_refused (ill_formed short f) z)
  answered o (Account.refused short utf8 f) same =
      let z : o.answer.number ≡ 0 → ⊥ = λ e. omega (arith, e, (refused_number f).0) in
      rw (refused_pair o same z) (pair_refused (Account.refused short utf8 f) z)
  answered o (no_node_room sp l none) same =
      let z : o.answer.number ≡ 0 → ⊥ = λ e. omega (arith, e) in rw (refused_pair o same z) (pair_refused (no_node_room sp l none) z)
  answered o (no_pool_room sp l nodes none) same =
      let z : o.answer.number ≡ 0 → ⊥ = λ e. omega (arith, e) in rw (refused_pair o same z) (pair_refused (no_pool_room sp l nodes none) z)

  only : (a : Memory.Answer) → PairAnswers s text m a → pair_answer text (called r exit) (checked c) ≡ a
  unfolding checked_as place_of
  only a (pair_refused {o = o} x z) = refused_pair o (called_as s text m r exit reads ∙ answers_only s text m o x) z
  only a (pair_fault {d = d} {k = k} {i = i} sp l nodes bytes f) =
      let e = fault_check d (document_of sp) k i f in
      accepted_pair sp l nodes bytes ∙ ap (answer_of sp l nodes bytes) e ∙ fault_answer sp l nodes bytes k i e (fault_number f)
  only a (pair_accepted {d = d} sp l nodes bytes w) =
      accepted_pair sp l nodes bytes ∙ ap (answer_of sp l nodes bytes) (well_formed_check d (document_of sp) w)

  pub pair_account : PairAccount s text m r exit c
  pair_account = (answered (outcome s text m) (answers s text m) (called_as s text m r exit reads), only)
