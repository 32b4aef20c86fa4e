-- The table that a read leaves is printed, and its spelling and a line end fit an output of 6 bytes for each of the pool and 100 a node.
use Prim.Native.Nat.{ℕ, ◌+◌, ◌*◌, ◌≤◌, ◌<◌}
use mathlib.Core.Path.{◌≡◌, refl, sym, ap, ◌∙◌}
use mathlib.Core.List.{List, [], ◌∷◌, ◌++◌, append_assoc}
use native.Mathlib.Numerals.{add-one}
use native.Mathlib.Omega.{arith}
use lib.ListN.{length, take, set, length-append}
use lib.Seq.{take_at, drop-cons, set_at}
use borrow.Author.Tests.{le-ltb}
use Rattle.document.specs.rules.Document.{Node}
use Rattle.document.specs.rules.Record.{record_length}
use Rattle.document.specs.rules.Table.{count, pool, table_of}
use Rattle.document.specs.rules.Spelling.{nested}
use Rattle.document.specs.reference.Outcome.{outcome}
use Rattle.document.specs.rules.Memory.{Memory, Outcome, over}
use Rattle.document.specs.rules.Canonical.{canonical}
use Rattle.document.specs.rules.Draft as Defined
use Rattle.document.specs.reference.Printing.{tree_of_table, written, printing}
use Rattle.document.specs.rules.Draft.{IsDraft, Holds}
use Rattle.document.specs.rules.Readable.{Readable, Read}
use Rattle.document.proofs.Records.{table_length}
use Rattle.document.proofs.CanonicalLayout.{laid_out}
use Rattle.document.proofs.Rebuild.{rebuilt}
use Rattle.document.proofs.ReadExactly.{accepted_document, document_accepted}
use Rattle.document.proofs.PrintAccount.{held_printed}
use Rattle.document.proofs.RoundTrip.{printable}
use Rattle.reader.specs.Read.{Reads}
use Rattle.reader.specs.declared.Answer.{Answer}
use Rattle.printer.proofs.SpellingLength.{node_short}
use Rattle.printer.specs.Prints.{Prints}
use Rattle.printer.specs.declared.Printed.{Printed}
use Rattle.listing.specs.Listing.{longest_text, lent_nodes, lent_pool, lent_memory, newline}
use Rattle.listing.proofs.Printed.{Listed, lines_stand, answered_document, lent_places, lent_pool_lem}
use Rattle.print_canonical.specs.Tidying.{spelling_of, tidied}

take_over : (new old : List ℕ) (n : ℕ) → length new ≡ n → take n (over new old) ≡ new
unfolding over
take_over new old n e = take_at new _ n e

length_over : (new old : List ℕ) → length new ≤ length (over new old)
unfolding over
length_over new old = rw length-append (omega arith)

-- A byte put right after what was written.
set_over : (s old : List ℕ) (b : ℕ) → length s < length old → set (over s old) (length s) b ≡ over (s ++ (b ∷ [])) old
unfolding over
set_over s old b h =
    rw (drop-cons old (length s) 0, set_at s _ _ b (length s) refl, append_assoc, length-append s (b ∷ []), add-one (length s))

module _ (text : List ℕ) where
  -- Reading the text, with the memory lent that the program lends.
  abbrev reading : Outcome
  reading = outcome nested text lent_memory

  module _ (d : Node) (readable : Readable nested text lent_memory d) where
    read : Read lent_memory reading d
    read = document_accepted nested text lent_memory d readable

    words_read : take (record_length * reading.answer.nodes) reading.memory.nodes ≡ table_of d
    words_read = rw (read.nodes, read.node_words) (take_over (table_of d) lent_memory.nodes (record_length * count d) (table_length d))

    pool_read : take reading.answer.pool reading.memory.pool ≡ pool d
    pool_read = rw (read.bytes, read.pool_bytes) (take_over (pool d) lent_memory.pool (length (pool d)) refl)

    table : IsDraft d (table_of d) (pool d)
    table = printable nested text lent_memory d readable (omega (arith, readable.fits.pool_bytes, lent_pool_lem))

    spelling_is : spelling_of reading ≡ canonical d ++ (newline ∷ [])
    unfolding spelling_of tree_of_table
    spelling_is = rw (words_read, pool_read, read.nodes, rebuilt d, (laid_out d table.document).1)

    -- What is printed of a text that spells a draft for which the room is enough: its canonical spelling and a line end.
    pub tidied_document : length text ≤ longest_text → tidied text ≡ canonical d ++ (newline ∷ [])
    tidied_document h = answered_document spelling_of nested text lent_memory h read.accepted refl ∙ spelling_is

    module _ (out : List ℕ) (room : 6 * lent_pool + 100 * lent_nodes ≤ length out) where
      short : length (canonical d) < length out
      short = omega (arith, node_short d, readable.fits.place_list, readable.fits.pool_bytes, lent_places, lent_pool_lem)

      -- Printing what the read left has number 0, and the output holds the spelling.
      reprints : printing reading.memory.nodes reading.answer.nodes reading.memory.pool reading.answer.pool out
          ≡ record { number = 0; size = length (canonical d); out = over (canonical d) out }
      unfolding written
      reprints =
          let words : record_length * reading.answer.nodes ≤ length reading.memory.nodes
          = rw (read.nodes, read.node_words) (omega (arith, table_length d, length_over (table_of d) lent_memory.nodes)) in
          let strings : reading.answer.pool ≤ length reading.memory.pool
          = rw (read.bytes, read.pool_bytes) (length_over (pool d) lent_memory.pool) in
          let held : Holds reading.memory.nodes reading.answer.nodes reading.memory.pool reading.answer.pool d
          = record { words_within = words; bytes_within = strings; draft = rw (words_read, pool_read) table } in
          rw (held_printed _ _ _ _ out d held, le-ltb (length out) (length (canonical d)) (omega (arith, short)))

  -- `tidy` after a read that answers 0.
  module _ (out : List ℕ) (room : 6 * lent_pool + 100 * lent_nodes ≤ length out) (a : Answer) (exit : Memory) (reads : Reads nested text lent_memory a exit)
      (z : a.number ≡ 0) where
    abbrev found : (d : Node) × Readable nested text lent_memory d × Read lent_memory reading d
    found = accepted_document nested text lent_memory (sym reads.answers.number ∙ z)

    -- And after printing what it left.
    module _ (p : Printed) (later : List ℕ) (printed : Prints (printing exit.nodes a.nodes exit.pool a.pool out) p later) where
      spelled : (p.length ≡ length (canonical found.0)) × (later ≡ over (canonical found.0) out)
      spelled =
          let again : Prints (printing reading.memory.nodes reading.answer.nodes reading.memory.pool reading.answer.pool out) p later
          = rw (reads.answers.nodes, reads.answers.pool, reads.leaves) at printed in
          let e = reprints found.0 found.1 out room in
          (again.size ∙ ap (λ (x : Defined.Printed). x.size) e, again.out ∙ ap (λ (x : Defined.Printed). x.out) e)

      pub line_end_fits : p.length < length out
      line_end_fits = omega (arith, short found.0 found.1 out room, spelled.0)

      pub tidies_document : length text ≤ longest_text → Listed (tidied text) out (p.length + 1) (set later p.length newline)
      tidies_document h =
          let d = found.0 in
          rw (tidied_document d found.1 h, spelled.0, spelled.1)
          (lines_stand (canonical d ++ (newline ∷ [])) (sym (length-append (canonical d) (newline ∷ []))) (set_over (canonical d) out newline (short d found.1 out room)))
