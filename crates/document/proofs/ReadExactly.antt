-- Demand 3 of reading alone: it answers 0 exactly when the text is within the limits and spells a draft that fits the room; node words, pool and counts
-- are then that draft's; and no text spells two documents.
use Prim.Native.Nat.{ℕ, ◌≤◌}
use mathlib.Core.Path.{◌≡◌, refl, sym}
use mathlib.Core.List.{List}
use native.Mathlib.Omega.{arith}
use lib.ListN.{length}
use Rattle.document.specs.rules.Document.{Node}
use Rattle.document.specs.rules.Spelling.{Spelling, nested, imperative, Spells}
use Rattle.document.specs.rules.Table.{count, pool}
use Rattle.document.specs.reference.Outcome.{outcome}
use Rattle.document.specs.rules.Memory.{answer_at, Memory, Outcome, refusal, no_room, filled, node_room}
use Rattle.document.specs.rules.Account as Account
use Rattle.document.specs.rules.Account.{Answers, too_long, ill_formed, no_node_room, no_pool_room, accepted}
use Rattle.document.specs.rules.Readable.{Fits, Readable, Read}
use Rattle.document.proofs.NestedForms.{spelled_once, spelled_once_in_both}
use Rattle.document.proofs.Account.{answers, answers_only}
use Rattle.document.proofs.RefusalNumbers.{refused_number}

-- How many nodes there is room for, and that a document fits, are the same.
pub few : (m : Memory) (d : Node) → count d ≤ node_room m → length (pool d) ≤ length m.pool → (count d ≤ 4096) × Fits d m
unfolding node_room
few m d nodes bytes = (omega arith, record { node_words = omega arith; place_list = omega arith; pool_bytes = bytes })

pub room : (m : Memory) (d : Node) → count d ≤ 4096 → Fits d m → count d ≤ node_room m
unfolding node_room
room m d most f = omega (arith, f.node_words, f.place_list)

-- An answer of 0 is that of a document.
zero : (s : Spelling) (text : List ℕ) (m : Memory) (o : Outcome) → Answers s text m o → o.answer.number ≡ 0 → (d : Node) × Readable s text m d × Read m o d
unfolding refusal no_room filled answer_at
zero s text m o (too_long long) z = absurd (omega arith)
zero s text m o (ill_formed short f) z = absurd (omega arith)
zero s text m o (Account.refused short utf8 f) z = absurd (omega (arith, refused_number f))
zero s text m o (no_node_room sp l none) z = absurd (omega arith)
zero s text m o (no_pool_room sp l nodes none) z = absurd (omega arith)
zero s text m o (accepted {d = d} sp l nodes bytes) z =
    let (most, fits) = few m d nodes bytes in (
      d,
      record { spells = sp; within = l; few_nodes = most; fits = fits },
      record { accepted = refl; nodes = refl; bytes = refl; node_words = refl; pool_bytes = refl },
    )

pub accepted_document : (s : Spelling) (text : List ℕ) (m : Memory) → (outcome s text m).answer.number ≡ 0
    → (d : Node) × Readable s text m d × Read m (outcome s text m) d
accepted_document s text m z = zero s text m (outcome s text m) (answers s text m) z

pub document_accepted : (s : Spelling) (text : List ℕ) (m : Memory) (d : Node) → Readable s text m d → Read m (outcome s text m) d
unfolding filled answer_at
document_accepted s text m d r =
    let a = accepted r.spells r.within (room m d r.few_nodes r.fits) r.fits.pool_bytes in
    rw (answers_only s text m _ a)
    (record { accepted = refl; nodes = refl; bytes = refl; node_words = refl; pool_bytes = refl })

-- The whole of it. That no text spells two documents holds of every text, also of one past the limits.
pub read_exactly : (s : Spelling) (text : List ℕ) (m : Memory)
    → ((outcome s text m).answer.number ≡ 0 → (d : Node) × Readable s text m d × Read m (outcome s text m) d)
    × ((d : Node) → Readable s text m d → Read m (outcome s text m) d)
    × ((d d' : Node) → Spells s d text → Spells s d' text → d ≡ d')
read_exactly s text m = (accepted_document s text m, document_accepted s text m, λ d d' a b. spelled_once a b)

-- Nor does a text spell two documents where each spelling is taken once.
pub either_spelling : (s s' : Spelling) (text : List ℕ) (d d' : Node) → Spells s d text → Spells s' d' text → d ≡ d'
either_spelling nested nested text d d' a b = spelled_once a b
either_spelling nested imperative text d d' a b = spelled_once_in_both a b
either_spelling imperative nested text d d' a b = sym (spelled_once_in_both b a)
either_spelling imperative imperative text d d' a b = spelled_once a b
