-- Reading answers as `specs/rules/Account.antt` tells, and in no other way.
use Prim.Native.Nat.{ℕ, ◌≤◌}
use mathlib.Core.Path.{◌≡◌, refl, ◌∙◌}
use mathlib.Core.Bool.{false}
use mathlib.Core.List.{List}
use native.Mathlib.Omega.{arith}
use borrow.Author.Tests.{lt-ltb, le-ltb, ltb-false, ltb-true}
use lib.Dec.{ltb}
use lib.ListN.{length}
use Rattle.base.proofs.Booleans.{cond_case}
use Rattle.utf8.specs.rules.Scalar.{IsUtf8}
use Rattle.utf8.specs.reference.Sequence.{valid_up_to}
use Rattle.utf8.proofs.Walk.{valid_within}
use Rattle.utf8.proofs.Agree.{valid_utf8, utf8_valid, fault_place, place_fault}
use Rattle.document.specs.rules.Document.{Node, says}
use Rattle.base.specs.rules.Limits.{most_bytes}
use Rattle.document.specs.rules.Spelling.{Spelling, Spells, WithinLimits, node_places}
use Rattle.document.specs.reference.Meaning.{tree_of}
use Rattle.document.specs.rules.Table.{count, pool}
use Rattle.document.specs.reference.Outcome.{Reading, refused, read, reading, stored, after_reading, outcome}
use Rattle.document.specs.rules.Memory.{Memory, Outcome, node_room}
use Rattle.document.specs.rules.Account as Account
use Rattle.document.specs.rules.Account.{Answers, too_long, ill_formed, no_node_room, no_pool_room, accepted}
use Rattle.document.proofs.NestedForms.{spelled_form, spelled_means}
use Rattle.document.proofs.ReadingDecided.{ReadingHolds, found, refused_read, spelled_read}

stored_answers : (s : Spelling) (text : List ℕ) (m : Memory) (d : Node) (sp : Spells s d text) → WithinLimits s text sp.forest
    → Answers s text m (stored text m (node_places sp) d)
unfolding stored
stored_answers s text m d sp l =
    cond_case (Answers s text m) (ltb (node_room m) (count d))
    (λ e. no_node_room sp l (ltb-true (node_room m) (count d) e))
    (λ e. cond_case (Answers s text m) (ltb (length m.pool) (length (pool d)))
    (λ f. no_pool_room sp l (ltb-false (node_room m) (count d) e) (ltb-true (length m.pool) (length (pool d)) f))
    (λ f. accepted sp l (ltb-false (node_room m) (count d) e) (ltb-false (length m.pool) (length (pool d)) f)))

read_answers : (s : Spelling) (text : List ℕ) (m : Memory) → length text ≤ most_bytes → IsUtf8 text → (r : Reading) → ReadingHolds s text r
    → Answers s text m (after_reading text m r)
unfolding after_reading
read_answers s text m short utf8 (refused n p) f = Account.refused short utf8 f
read_answers s text m short utf8 (read e) (sp, within, same) =
    rw same at (stored_answers s text m (says (tree_of e)) sp (record { short = short; nests = within }))

-- A text of which no part is left over is UTF-8.
whole : (text : List ℕ) → ltb (valid_up_to text) (length text) ≡ false → IsUtf8 text
unfolding valid_up_to
whole text f = valid_utf8 text (omega (arith, valid_within 0 text, ltb-false (valid_up_to text) (length text) f))

-- Reading answers in one of the ways of the account.
pub answers : (s : Spelling) (text : List ℕ) (m : Memory) → Answers s text m (outcome s text m)
unfolding outcome
answers s text m =
    cond_case (Answers s text m) (ltb most_bytes (length text)) (λ e. too_long (ltb-true most_bytes (length text) e))
    (λ e. cond_case (Answers s text m) (ltb (valid_up_to text) (length text))
    (λ f. ill_formed (ltb-false most_bytes (length text) e) (fault_place text (valid_up_to text) (ltb-true (valid_up_to text) (length text) f) refl))
    (λ f. read_answers s text m (ltb-false most_bytes (length text) e) (whole text f) (reading s text) (found s text (whole text f))))

-- A text within the limits that is UTF-8 is answered by what reading finds.
within_limits : (s : Spelling) (text : List ℕ) (m : Memory) → length text ≤ most_bytes → IsUtf8 text → outcome s text m ≡ after_reading text m (reading s text)
unfolding outcome
within_limits s text m short utf8 =
    let valid : length text ≤ valid_up_to text = omega (arith, utf8_valid text utf8) in
    rw (le-ltb most_bytes (length text) short, le-ltb (valid_up_to text) (length text) valid)

pub spelled_stored : (s : Spelling) (text : List ℕ) (m : Memory) (d : Node) (sp : Spells s d text) → WithinLimits s text sp.forest
    → outcome s text m ≡ stored text m (node_places sp) d
unfolding after_reading node_places
spelled_stored s text m d sp l =
    within_limits s text m l.short sp.utf8 ∙ rw (spelled_read sp l, spelled_means sp, (spelled_form sp).same_places)

-- Whatever the account tells of a text is what reading answers.
pub answers_only : (s : Spelling) (text : List ℕ) (m : Memory) (o : Outcome) → Answers s text m o → outcome s text m ≡ o
unfolding outcome after_reading stored
answers_only s text m o (too_long long) = rw (lt-ltb most_bytes (length text) long)
answers_only s text m o (ill_formed {p = p} short f) =
    rw (le-ltb most_bytes (length text) short, place_fault text p f, lt-ltb p (length text) f.inside)
answers_only s text m o (Account.refused short utf8 f) = within_limits s text m short utf8 ∙ rw (refused_read f)
answers_only s text m o (no_node_room {d = d} sp l none) = spelled_stored s text m d sp l ∙ rw (lt-ltb (node_room m) (count d) none)
answers_only s text m o (no_pool_room {d = d} sp l nodes none) =
    spelled_stored s text m d sp l ∙ rw (le-ltb (node_room m) (count d) nodes, lt-ltb (length m.pool) (length (pool d)) none)
answers_only s text m o (accepted {d = d} sp l nodes bytes) =
    spelled_stored s text m d sp l ∙ rw (le-ltb (node_room m) (count d) nodes, le-ltb (length m.pool) (length (pool d)) bytes)
