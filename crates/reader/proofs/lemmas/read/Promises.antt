-- From what the parts of a read ensure to what the read promises, way by way.
use Prim.Native.Nat.{ℕ, ◌*◌, ◌≤◌}
use mathlib.Core.Path.{◌≡◌, sym, ◌∙◌}
use mathlib.Core.List.{List, []}
use native.Mathlib.Nat.{zero-add}
use native.Mathlib.Omega.{arith}
use Rattle.std.proofs.lemmas.Bool.Decides.{nat_tests}
use lib.ListN.{length, replicate}
use lib.Seq.{sets, sets-eq}
use Rattle.base.specs.rules.Limits.{most_nodes}
use Rattle.syntax.specs.rules.Expression.{Expr}
use Rattle.document.specs.rules.Document.{Node, says}
use Rattle.document.specs.rules.Spelling.{Spelling, most_levels}
use Rattle.document.specs.reference.Meaning.{fine, judge_root, tree_of, places}
use Rattle.document.specs.rules.Record.{record_length}
use Rattle.document.specs.rules.Table.{count, pool, table_of}
use Rattle.document.specs.rules.Memory as Defined
use Rattle.document.specs.reference.Outcome.{one_expression, stored, outcome}
use Rattle.document.specs.rules.Memory.{Memory, answer_at, refusal, no_room, over, filled, node_room}
use Rattle.document.proofs.PlaceCounts.{root_places}
use Rattle.document.proofs.Records.{table_length}
use Rattle.reader.specs.declared.Answer.{Answer}
use Rattle.reader.specs.internal.WalkAnswer.{Walked}
use Rattle.reader.specs.internal.WalkAnswer.{read_walked}
use Rattle.reader.specs.internal.JudgedText.{JudgesText, TapeOfText}
use Rattle.reader.specs.internal.FirstGroups.{group_number, group_place, room_number}
use Rattle.reader.specs.Read.{SameAnswer, Reads}
use Rattle.reader.specs.internal.Counts.{node_count}
use Rattle.reader.specs.internal.Tape.{Tape, not_met, taped, Located}
use Rattle.reader.proofs.lemmas.walk.Counts.{nodes_places}
use Rattle.reader.proofs.lemmas.read.Located.{form_located}
use Rattle.reader.proofs.lemmas.read.AnswerBounds.{group_place_lem, walk_within}
use Rattle.reader.proofs.lemmas.read.AnswerGroups.{PassedGroups, DocumentRead, group_refused, group_passed, judged_refused, judged_read}

-- ---- the room that there is

module _ (words places bytes n p : ℕ) where
  -- Where there is room, the nodes are few and fit what is lent.
  pub room_fits : room_number words places bytes n p ≡ 0 → (n ≤ most_nodes) × (record_length * n ≤ words) × (n ≤ places)
  unfolding room_number
  room_fits h = grind (arith, nat_tests)

-- ---- the lent memory once it is filled

sets_over : (l vs : List ℕ) → length vs ≤ length l → sets l 0 vs ≡ over vs l
unfolding over
sets_over l vs h = sets-eq vs l 0 (omega arith) ∙ rw (zero-add (length vs))

pub written : Memory → List ℕ → Node → Memory
written m ps d = record { nodes = sets m.nodes 0 (table_of d); places = sets m.places 0 ps; pool = sets m.pool 0 (pool d) }

module _ (text : List ℕ) (m : Memory) (ps : List ℕ) (d : Node) where
  abbrev full : ℕ
  full = room_number (length m.nodes) (length m.places) (length m.pool) (count d) (length (pool d))

  stored_full : (full ≡ 0 → ⊥) → stored text m ps d ≡ record { answer = answer_at text full 0 (count d) (length (pool d)); memory = m }
  unfolding stored node_room room_number no_room
  stored_full h = grind (arith, nat_tests)

  stored_fits : full ≡ 0 → (stored text m ps d ≡ filled text m ps d) × (count d ≤ node_room m) × (length (pool d) ≤ length m.pool)
  unfolding stored node_room room_number
  stored_fits h = grind (arith, nat_tests)

  module _ (room : count d ≤ node_room m) (bytes : length (pool d) ≤ length m.pool) (one_each : length ps ≡ count d) where
    written_over : written m ps d ≡ record { nodes = over (table_of d) m.nodes; places = over ps m.places; pool = over (pool d) m.pool }
    unfolding written node_room
    written_over =
        rw (sets_over m.nodes (table_of d) (omega (arith, table_length d)), sets_over m.places ps (omega arith), sets_over m.pool (pool d) bytes)

    filled_answer : filled text m ps d ≡ record { answer = answer_at text 0 0 (count d) (length (pool d)); memory = written m ps d }
    unfolding filled
    filled_answer = rw written_over

-- ---- places and counts that fit

module _ (s : Spelling) (text : List ℕ) (n p : ℕ) (group : (n ≡ group_number (most_levels s) text) × (p ≡ group_place (most_levels s) text)) where
  pub group_fits : p ≤ 65536
  group_fits = omega (arith, group_place_lem (most_levels s) text, group.1)

  pub group_short : n ≡ 0 → length text ≤ 65536
  group_short z = (group_passed s text (record { nodes = []; places = []; pool = [] }) (sym group.0 ∙ z)).short

  pub walk_fits : n ≡ 0 → (w : Walked) → JudgesText s text w → (w.place ≤ 65536) × (w.nodes ≤ 65536) × (w.pool ≤ 65536)
  walk_fits z w judges =
      let x : PassedGroups s text (record { nodes = []; places = []; pool = [] }) = group_passed s text _ (sym group.0 ∙ z) in
      let short : length text ≤ 65536 = x.short in
      let (a, b, c) = walk_within s text x.es x.stands w (judges x.es x.stands x.shallow) in
      (omega arith, omega arith, omega arith)

-- The tape that a read lends.
abbrev pub blank_tape : Tape
blank_tape = replicate 4096 not_met

-- What the fill of this many nodes from a tape ensures.
abbrev Filled : Memory → Memory → Expr → Type 0
Filled m exit e =
    (exit.nodes ≡ sets m.nodes 0 (table_of (says (tree_of e))))
    × (exit.places ≡ sets m.places 0 (places e))
    × (exit.pool ≡ sets m.pool 0 (pool (says (tree_of e))))

filled_written : (m exit : Memory) (e : Expr) → Filled m exit e → exit ≡ written m (places e) (says (tree_of e))
unfolding written
filled_written m exit e (a, b, c) = rw (← a, ← b, ← c)

abbrev pub Fills : List ℕ → Tape → ℕ → Memory → Memory → Type 0
Fills text tape n m exit =
    (e : Expr) (t : Tape) → Located text e → judge_root e ≡ fine → tape ≡ taped t 0 4294967295 e → n ≡ node_count e
    → Filled m exit e

-- ---- the ways through a read

module _ (s : Spelling) (text : List ℕ) (m : Memory) where
  reads_of : (a : Defined.Answer) (exit : Memory) (r : Answer) → outcome s text m ≡ record { answer = a; memory = exit } → SameAnswer a r → Reads s text m r exit
  reads_of a exit r e h = record { answers = rw e h; leaves = rw e }

  -- After the judge, over the expression that it found.
  module _ (e : Expr) (ok : judge_root e ≡ fine) (goes_on : outcome s text m ≡ stored text m (places e) (says (tree_of e)))
      (nodes bytes : ℕ) (nodes_are : nodes ≡ count (says (tree_of e))) (bytes_are : bytes ≡ length (pool (says (tree_of e))))
      (f : ℕ) (room : f ≡ room_number (length m.nodes) (length m.places) (length m.pool) nodes bytes) where
    abbrev d : Node
    d = says (tree_of e)

    room_is : f ≡ full text m (places e) d
    room_is = room ∙ rw (nodes_are, bytes_are)

    full_after : (f ≡ 0 → ⊥) → (r : Answer) → SameAnswer (answer_at text f 0 nodes bytes) r → Reads s text m r m
    full_after h r =
        reads_of (answer_at text f 0 nodes bytes) m r
        (goes_on ∙ stored_full text m (places e) d (λ q. h (room_is ∙ q)) ∙ rw (← room_is, ← nodes_are, ← bytes_are))

    filled_after : f ≡ 0 → (exit : Memory) → exit ≡ written m (places e) d → (r : Answer) → SameAnswer (answer_at text 0 0 nodes bytes) r → Reads s text m r exit
    filled_after y exit exit_is r =
        let (q, few, fit) = stored_fits text m (places e) d (sym room_is ∙ y) in
        reads_of (answer_at text 0 0 nodes bytes) exit r
        (goes_on ∙ q ∙ filled_answer text m (places e) d few fit (root_places e ok) ∙ rw (nodes_are, bytes_are, exit_is))

  module _ (n p : ℕ) (group : (n ≡ group_number (most_levels s) text) × (p ≡ group_place (most_levels s) text)) where
    -- 1 to 6.
    pub group_reads : (n ≡ 0 → ⊥) → (r : Answer) → SameAnswer (answer_at text n p 0 0) r → Reads s text m r m
    unfolding refusal
    group_reads h r =
        reads_of (answer_at text n p 0 0) m r (group_refused s text m (λ z. h (group.0 ∙ z)) ∙ rw (← group.0, ← group.1))

    module _ (z : n ≡ 0) (w : Walked) (judges : JudgesText s text w) where
      abbrev passed : PassedGroups s text m
      passed = group_passed s text m (sym group.0 ∙ z)

      abbrev is : w ≡ read_walked (one_expression s (length text) passed.es)
      is = judges passed.es passed.stands passed.shallow

      -- 7 to 12 and 19.
      pub walk_reads : (w.number ≡ 0 → ⊥) → (r : Answer) → SameAnswer (answer_at text w.number w.place 0 0) r → Reads s text m r m
      unfolding refusal
      walk_reads h r = reads_of (answer_at text w.number w.place 0 0) m r (judged_refused s text m passed w is h)

      module _ (z' : w.number ≡ 0) (f : ℕ)
          (room : f ≡ room_number (length m.nodes) (length m.places) (length m.pool) w.nodes w.pool) where
        abbrev found : DocumentRead s text m passed w
        found = judged_read s text m passed w is z'

        -- 13 and 14.
        pub full_reads : (f ≡ 0 → ⊥) → (r : Answer) → SameAnswer (answer_at text f 0 w.nodes w.pool) r → Reads s text m r m
        full_reads =
            full_after found.expr found.fine_root found.goes_on w.nodes w.pool found.nodes_are found.bytes_are f room

        module _ (y : f ≡ 0) (exit : Memory) (tape : Tape) (tapes : TapeOfText s text w.number blank_tape tape)
            (fills : Fills text tape w.nodes m exit) where
          exit_is : exit ≡ written m (places found.expr) (says (tree_of found.expr))
          exit_is =
              filled_written m exit found.expr
              (fills found.expr blank_tape (form_located s text passed.es found.expr found.form passed.stands found.fine_root) found.fine_root
              (tapes passed.es found.expr found.form passed.stands passed.shallow z')
              (found.nodes_are ∙ sym (root_places found.expr found.fine_root) ∙ nodes_places found.expr))

          -- 0.
          pub filled_reads : (r : Answer) → SameAnswer (answer_at text 0 0 w.nodes w.pool) r → Reads s text m r exit
          filled_reads =
              filled_after found.expr found.fine_root found.goes_on w.nodes w.pool found.nodes_are found.bytes_are f room y exit exit_is
