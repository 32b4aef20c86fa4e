-- The ways through printing.
use Prim.Native.Nat.{ℕ, ◌*◌, ◌≤◌, ◌<◌}
use mathlib.Core.Path.{◌≡◌, refl, ◌∙◌}
use mathlib.Core.Bool.{Bool, true, not}
use mathlib.Core.List.{List}
use native.Mathlib.Omega.{arith}
use borrow.Author.Tests.{lt-ltb, le-ltb}
use lib.Dec.{ltb, leb→le}
use lib.ListN.{length, take}
use lib.Seq.{sets}
use Rattle.base.specs.rules.Limits.{missing}
use Rattle.base.specs.Adds.{greatest_word}
use Rattle.base.proofs.Stores.{sets_front}
use Rattle.document.specs.rules.Document.{Node}
use Rattle.document.specs.rules.Record.{record_length}
use Rattle.document.specs.rules.Canonical.{canonical}
use Rattle.document.specs.rules.Memory.{over}
use Rattle.document.specs.reference.Printing.{Draft, no_draft, the_draft, is_there, draft_of, written, printed_of, printing}
use Rattle.document.specs.rules.Draft.{Holds}
use Rattle.document.proofs.PrintingDecided.{no_both, is_there_lem}
use Rattle.document.proofs.PrintAccount.{held_printed}
use Rattle.table.specs.Stored.{Stored}
use Rattle.table.proofs.Stored.{table_stored}
use Rattle.printer.specs.Prints.{Prints}
use Rattle.printer.proofs.SpellingLength.{spelled_short}

module _ (words : List ℕ) (n : ℕ) (bytes : List ℕ) (m : ℕ) (out : List ℕ) (there : Bool) (is : there ≡ is_there (draft_of words n bytes m)) where
  -- 20: there is no draft.
  pub refused : not there ≡ true → Prints (printing words n bytes m out) (record { number = 20; length = 0 }) out
  unfolding printing printed_of is_there
  refused t = go (draft_of words n bytes m) is
    where
      go : (x : Draft) → there ≡ is_there x → Prints (printed_of out x) (record { number = 20; length = 0 }) out
      go no_draft e = record { number = refl; size = refl; out = refl }
      go (the_draft d) e = absurd (no_both there t e)

  module _ (z : there ≡ true) where
    abbrev found : (d : Node) × Holds words n bytes m d
    found = is_there_lem words n bytes m there is z

    abbrev d : Node
    d = found.0

    pub words_within : record_length * n ≤ length words
    words_within = found.1.words_within

    pub bytes_within : m ≤ length bytes
    bytes_within = found.1.bytes_within

    -- What spelling the table answers and writes.
    abbrev pub SpellsTable : List ℕ → ℕ → List ℕ → Type 0
    SpellsTable start r exit =
        (r ≤ greatest_word) × ((d : Node) (parent p : ℕ) → Stored (take (record_length * n) words) (take m bytes) 0 parent p d
        → length (canonical d) ≤ greatest_word → (r ≡ length (canonical d)) × (exit ≡ sets start 0 (canonical d)))

    of_document : (start exit : List ℕ) (r : ℕ) → SpellsTable start r exit → (r ≡ length (canonical d)) × (exit ≡ sets start 0 (canonical d))
    of_document start exit r s =
        let x = found.1.draft in
        s.1 d missing 0 (table_stored d _ _ x.node_words x.pool_bytes)
        (spelled_short d (leb→le _ _ x.few_nodes) (leb→le _ _ x.short_pool))

    module _ (start exit : List ℕ) (r : ℕ) (measured : SpellsTable start r exit) where
      -- 21: the output is too short.
      pub short : length out < r → Prints (printing words n bytes m out) (record { number = 21; length = r }) out
      unfolding written
      short h =
          let (a, b) = of_document start exit r measured in
          let e = held_printed words n bytes m out d found.1 in
          let l : ltb (length out) (length (canonical d)) ≡ _ = lt-ltb (length out) (length (canonical d)) (omega (arith, a)) in
          rw (e, l) (record { number = refl; size = a; out = refl })

      -- 0: the spelling is written.
      pub whole : r ≤ length out → (later : List ℕ) (k : ℕ) → SpellsTable out k later → Prints (printing words n bytes m out) (record { number = 0; length = r }) later
      unfolding written over
      whole h later k s =
          let (a, b) = of_document start exit r measured in
          let (a', b') = of_document out later k s in
          let e = held_printed words n bytes m out d found.1 in
          let l : ltb (length out) (length (canonical d)) ≡ _ = le-ltb (length out) (length (canonical d)) (omega (arith, a)) in
          rw (e, l) (record { number = refl; size = a; out = b' ∙ sets_front out (canonical d) (omega (arith, a)) })
