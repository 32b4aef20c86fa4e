-- What a program has put into its output is what is printed: an output of 44 bytes a node and 33 more holds it whole.
use mathlib.Core.Path.{◌≡◌, sym, ◌∙◌}
use mathlib.Core.List.{List}
use Prim.Native.Nat.{ℕ, ◌+◌, ◌*◌, ◌^◌, ◌≤◌, ◌<◌}
use native.Mathlib.Omega.{arith}
use lib.Dec.{ltb}
use lib.ListN.{length, take, get_or, length-append, length-replicate}
use lib.Seq.{take_all, length-take-le}
use borrow.Author.Tests.{lt-ltb, le-ltb, ltb-false, eq-eqb, ne_eqb}
use Rattle.base.proofs.Booleans.{cond_case}
use Rattle.utf8.specs.rules.Position.{line_of, column_of}
use Rattle.utf8.specs.reference.Sequence.{valid_up_to}
use Rattle.utf8.proofs.PositionBounds.{position_within}
use Rattle.elements.specs.rules.Bytes.{codes}
use Rattle.document.specs.rules.Document.{Node, says}
use Rattle.document.specs.rules.Table.{count, pool}
use Rattle.document.specs.reference.Meaning.{tree_of, places}
use Rattle.document.specs.rules.Spelling.{Spelling}
use Rattle.document.specs.reference.Outcome.{Reading, refused, read, stored, reading, after_reading, outcome}
use Rattle.document.specs.rules.Pair.{place_of, pair_answer}
use Rattle.document.specs.reference.Pair.{check_left}
use Rattle.document.specs.reference.Printing.{checking}
use Rattle.document.specs.rules.Memory.{Memory, Outcome, answer_at, refusal, no_room, filled, node_room, over}
use Rattle.listing.specs.Listing.{longest_text, lent_nodes, lent_pool, lent_memory, too_long, refused_line, document_lines}
use Rattle.listing.specs.Listing.{part_fitting, fault_line, listing_of, after_read, after_check, printed_by, printed, Lists}
use Rattle.listing.proofs.Lengths.{refused_length}

-- A document that is listed has no more nodes than the place list.
module _ (m : Memory) where
  abbrev Fits : Outcome → Type 0
  Fits o = o.answer.number ≡ 0 → o.answer.nodes ≤ length m.places

  refusal_fits : (text : List ℕ) (n p : ℕ) → Fits (refusal text m n p)
  unfolding refusal answer_at
  refusal_fits text n p e = omega arith

  filled_fits : (text ps : List ℕ) (d : Node) → count d ≤ node_room m → Fits (filled text m ps d)
  unfolding filled answer_at node_room
  filled_fits text ps d h e = omega arith

  stored_fits : (text ps : List ℕ) (d : Node) → Fits (stored text m ps d)
  unfolding stored no_room answer_at
  stored_fits text ps d =
      cond_case Fits
      (ltb (node_room m) (count d))
      (λ t e. absurd (omega arith))
      (λ t.
      cond_case Fits
      (ltb (length m.pool) (length (pool d)))
      (λ u e. absurd (omega arith))
      (λ u. filled_fits text ps d (ltb-false (node_room m) (count d) t)))

  reading_fits : (text : List ℕ) (r : Reading) → Fits (after_reading text m r)
  unfolding after_reading
  reading_fits text (refused n p) = refusal_fits text n p
  reading_fits text (read e) = stored_fits text (places e) (says (tree_of e))

  outcome_fits : (s : Spelling) (text : List ℕ) → Fits (outcome s text m)
  unfolding outcome
  outcome_fits s text =
      cond_case Fits
      (ltb 65536 (length text))
      (λ t. refusal_fits text 1 65536)
      (λ t. cond_case Fits (ltb (valid_up_to text) (length text)) (λ u. refusal_fits text 2 (valid_up_to text)) (λ u. reading_fits text (reading s text)))

long_length : length too_long ≤ 9
unfolding too_long codes
long_length = omega arith

-- What `put_document`, `put_refusal` and `put_too_long` promise, and what a program's `list` does.
abbrev Put : List ℕ → List ℕ → ℕ → List ℕ → Type 0
Put lines start r out = (r ≡ length (part_fitting start lines)) × (out ≡ over (part_fitting start lines) start)

abbrev pub Listed : List ℕ → List ℕ → ℕ → List ℕ → Type 0
Listed lines start r out = ((r ≤ length out) × (r ≡ length (take r out))) × Lists lines start r out

pub lines_stand : (lines : List ℕ) {start out : List ℕ} {r : ℕ} → r ≡ length lines → out ≡ over lines start → Listed lines start r out
unfolding over
lines_stand lines {out = out} {r = r} size bytes =
    let room : r ≤ length out = rw (bytes, length-append) (omega arith) in
    ((room, sym (length-take-le r out room)), record { size = size; bytes = bytes })

whole : (lines : List ℕ) {start out : List ℕ} {r : ℕ} → length lines ≤ length start → Put lines start r out → Listed lines start r out
unfolding part_fitting
whole lines {start} h p =
    let all = take_all (length start) lines h in
    lines_stand lines (rw all at p.0) (rw all at p.1)

-- The three answers of a program, whatever it prints of a document: two of them after a read into m. That m is the memory of the definition comes behind
-- what the read promises, which says what m is: where the code lends another, it is this fact that fails.
module _ (document : Outcome → List ℕ) (s : Spelling) (text : List ℕ) where
  pub answered_long : {r : ℕ} {start out : List ℕ} → 9 ≤ length start → longest_text < length text → Put too_long start r out → Listed (printed_by document s text) start r out
  unfolding printed_by
  answered_long room h p = rw (lt-ltb longest_text (length text) h) (whole too_long (omega (arith, long_length)) p)

  module _ (m : Memory) (h : length text ≤ longest_text) where
    pub answered_refusal : (n l c : ℕ) {r : ℕ} {start out : List ℕ} → 41 ≤ length start → (n ≡ 0 → ⊥) → n < 2 ^ 32 → l < 2 ^ 32 → c < 2 ^ 32
        → n ≡ (outcome s text m).answer.number → l ≡ (outcome s text m).answer.line → c ≡ (outcome s text m).answer.column → m ≡ lent_memory
        → Put (refused_line n l c) start r out → Listed (printed_by document s text) start r out
    unfolding printed_by after_read
    answered_refusal n l c room z hn hl hc en el ec lends p =
        rw (le-ltb longest_text (length text) h, ← lends, ← en, ← el, ← ec, ne_eqb n 0 z) (whole (refused_line n l c) (omega (arith, refused_length n l c hn hl hc)) p)

    pub answered_document : (outcome s text m).answer.number ≡ 0 → m ≡ lent_memory → printed_by document s text ≡ document (outcome s text m)
    unfolding printed_by after_read
    answered_document z lends = rw (le-ltb longest_text (length text) h, ← lends, eq-eqb (outcome s text m).answer.number 0 z)

pub lent_places : length lent_memory.places ≡ lent_nodes
unfolding lent_memory
lent_places = length-replicate {A = ℕ} lent_nodes 0

pub lent_pool_lem : length lent_memory.pool ≡ lent_pool
unfolding lent_memory
lent_pool_lem = length-replicate {A = ℕ} lent_pool 0

-- A fault has a line no longer than that of a refusal, whatever its place.
fault_length : (text places : List ℕ) (number node : ℕ) → number < 2 ^ 32 → length (fault_line text places number node) ≤ 41
unfolding fault_line
fault_length text places number node h =
    let p = get_or places node 0 in
    cond_case (λ (l : List ℕ). length l ≤ 41) (ltb longest_text (length text)) (λ t. omega (arith, long_length))
    (λ t.
    let short = ltb-false longest_text (length text) t in
    refused_length number (line_of text p) (column_of text p) h (omega (arith, (position_within text p).line_within)) (omega (arith, (position_within text p).column_within)))

-- The two answers of `list` to a text that was read, on an output that holds the longest.
module _ (s : Spelling) (text : List ℕ) (start : List ℕ) (room : 44 * lent_nodes + 33 ≤ length start) where
  module _ (m : Memory) (h : length text ≤ longest_text) where
    -- After a read that answered 0, and the check of what it left.
    module _ (n nodes bytes : ℕ) (exit : Memory) (z : n ≡ 0) (en : n ≡ (outcome s text m).answer.number) (eo : nodes ≡ (outcome s text m).answer.nodes)
        (ep : bytes ≡ (outcome s text m).answer.pool) (left : exit ≡ (outcome s text m).memory) (k i : ℕ)
        (ek : k ≡ (checking exit.nodes nodes exit.pool bytes).number) (ei : i ≡ (checking exit.nodes nodes exit.pool bytes).node) where
      checked_as_lem : check_left (outcome s text m) ≡ checking exit.nodes nodes exit.pool bytes
      unfolding check_left
      checked_as_lem = rw (eo, ep, left)

      -- The answer of the pair is the check's.
      paired_as : pair_answer text (outcome s text m) (check_left (outcome s text m)) ≡ answer_at text k (place_of exit.places (record { number = k; node = i })) nodes bytes
      unfolding pair_answer
      paired_as = rw (eq-eqb (outcome s text m).answer.number 0 (sym en ∙ z), checked_as_lem, ek, ei, eo, ep, left)

      pub lists_fault : {r : ℕ} {out : List ℕ} → (k ≡ 0 → ⊥) → k < 2 ^ 32 → m ≡ lent_memory
          → Put (fault_line text exit.places k i) start r out → Listed (printed s text) start r out
      unfolding after_check fault_line place_of answer_at
      lists_fault bad few lends p =
          rw (answered_document (after_check text) s text m h (sym en ∙ z) lends, paired_as, ne_eqb k 0 bad)
          (rw (le-ltb longest_text (length text) h) at (whole (fault_line text exit.places k i) (omega (arith, fault_length text exit.places k i few)) p))

      pub lists_document : {r : ℕ} {out : List ℕ} → k ≡ 0 → m ≡ lent_memory
          → Put (document_lines exit.nodes nodes bytes) start r out → length (document_lines exit.nodes nodes bytes) ≤ 44 * nodes + 33
          → Listed (printed s text) start r out
      unfolding after_check listing_of answer_at
      lists_document good lends p most =
          let few : nodes ≤ length m.places = rw eo (outcome_fits m s text (sym en ∙ z)) in
          let places : length m.places ≡ lent_nodes = rw lends lent_places in
          rw (answered_document (after_check text) s text m h (sym en ∙ z) lends, paired_as, eq-eqb k 0 good, ← eo, ← ep, ← left)
          (whole (document_lines exit.nodes nodes bytes) (omega arith) p)
