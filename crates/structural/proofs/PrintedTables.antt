-- What a call of print wrote and held, and what a read of it gives back, from the contracts.
use Prim.Native.Nat.{ℕ, ◌*◌, ◌≤◌}
use mathlib.Core.Path.{◌≡◌, refl, sym, ap, ◌∙◌}
use mathlib.Core.List.{List}
use native.Mathlib.Omega.{arith}
use borrow.Author.Tests.{eqb-true, eqb-false}
use lib.Dec.{eqb, ltb}
use lib.ListN.{length, length-append, take, drop}
use lib.Seq.{length-take-le, take_at}
use Rattle.base.specs.rules.Limits.{most_bytes}
use Rattle.base.specs.rules.Numbers as Number
use Rattle.base.proofs.Booleans.{bool_case, cond_case}
use Rattle.document.specs.rules.Document.{Node}
use Rattle.document.specs.rules.Record.{record_length}
use Rattle.document.specs.rules.Table.{count, pool, table_of}
use Rattle.document.specs.rules.Spelling.{Spelling, nested}
use Rattle.document.specs.rules.Canonical.{canonical}
use Rattle.document.specs.rules.Draft as Defined
use Rattle.document.specs.rules.Draft.{Holds}
use Rattle.document.specs.rules.Memory.{Memory, over}
use Rattle.document.specs.rules.Readable.{Fits, Readable, Read}
use Rattle.document.specs.reference.Printing.{written, printing}
use Rattle.document.proofs.Records.{table_length}
use Rattle.document.specs.rules.PrintAccount.{PrintAnswers, no_table, too_short, spelled}
use Rattle.document.proofs.PrintAccount.{print_answers, held_printed}
use Rattle.document.proofs.ReadExactly.{document_accepted}
use Rattle.document.proofs.RoundTrip.{canonical_spelling, readable_back, printable}
use Rattle.printer.specs.declared.Printed.{Printed}
use Rattle.printer.specs.Prints.{Prints}
use Rattle.reader.specs.declared.Answer.{Answer}
use Rattle.reader.specs.Read.{Reads}
use Rattle.reader.proofs.Pools.{pool_within}
use Rattle.structural.specs.Demands.{called, printed, Wrote, ReadBack, Demand2, RefusedExactly}
use Rattle.structural.proofs.Called.{called_as}

-- A spelling is written, or the output is too short: never 20.
written_not_20 : (s out : List ℕ) → (written s out).number ≡ Number.not_a_table → ⊥
unfolding written
written_not_20 s out =
    cond_case (λ (x : Defined.Printed). x.number ≡ Number.not_a_table → ⊥) (ltb (length out) (length s)) (λ b e. omega (arith, e)) (λ b e. omega (arith, e))

written_zero : (s out : List ℕ) → (written s out).number ≡ Number.ok → ((written s out).size ≡ length s) × ((written s out).out ≡ over s out)
unfolding written
written_zero s out =
    cond_case (λ (x : Defined.Printed). x.number ≡ Number.ok → (x.size ≡ length s) × (x.out ≡ over s out)) (ltb (length out) (length s))
    (λ b e. absurd (omega (arith, e))) (λ b e. (refl, refl))

module _ (words : List ℕ) (n : ℕ) (bytes : List ℕ) (m : ℕ) where
  counted : (d : Node) → Holds words n bytes m d → (count d ≡ n) × (length (pool d) ≡ m)
  counted d h = (
    omega (arith, table_length d, ap length h.draft.node_words, length-take-le (record_length * n) words h.words_within),
    ap length h.draft.pool_bytes ∙ length-take-le m bytes h.bytes_within,
  )

  -- Reading the spelling of a table that is held gives the table again.
  back : (d : Node) → Holds words n bytes m d → (lent left : Memory) (r : Answer) → Reads nested (canonical d) lent r left
      → length (canonical d) ≤ most_bytes → Fits d lent → ReadBack words n bytes m lent r left
  unfolding called
  back d h lent left r reads short fits =
      let b : Read lent (called r left) d
      = rw (called_as nested (canonical d) lent r left reads)
      (document_accepted nested (canonical d) lent d (readable_back d _ _ lent h.draft short fits)) in
      let (nodes, strings) = counted d h in
      record {
        accepted = b.accepted;
        nodes = b.nodes ∙ nodes;
        bytes_read = b.bytes ∙ strings;
        node_words = b.node_words ∙ ap (λ (x : List ℕ). over x lent.nodes) h.draft.node_words;
        pool_bytes = b.pool_bytes ∙ ap (λ (x : List ℕ). over x lent.pool) h.draft.pool_bytes;
      }

  module _ (out : List ℕ) (p : Printed) (exit : List ℕ) (call : Prints (printing words n bytes m out) p exit) where
    -- The outcome of the call is the definition's.
    pub printed_as_lem : printed p exit ≡ printing words n bytes m out
    unfolding printed
    printed_as_lem = rw (call.number, call.size, call.out)

    -- A draft whose table it is, where the number is not 20.
    held : (p.number ≡ Number.not_a_table → ⊥) → (d : Node) × Holds words n bytes m d
    held h = go (printing words n bytes m out) (print_answers words n bytes m out) (λ e. h (call.number ∙ e))
      where
        go : (o : Defined.Printed) → PrintAnswers words n bytes m out o → (o.number ≡ Number.not_a_table → ⊥) → (d : Node) × Holds words n bytes m d
        go o (no_table none) h = absurd (h refl)
        go o (too_short {d = d} x l) h = (d, x)
        go o (spelled {d = d} x l) h = (d, x)

    pub refused_exactly : RefusedExactly words n bytes m p
    refused_exactly = (
      λ e d h. written_not_20 (canonical d) out (rw (held_printed words n bytes m out d h) at (sym call.number ∙ e)),
      λ none. bool_case (eqb p.number Number.not_a_table) (λ e. eqb-true _ _ e) (λ e. let (d, h) = held (eqb-false _ _ e) in absurd (none d h)),
    )

    pub written_and_read_back : Demand2 words n bytes m out p exit
    written_and_read_back z =
        let (d, h) = held (λ e. omega (arith, e, z)) in
        let e = held_printed words n bytes m out d h in
        let (l, o) = written_zero (canonical d) out (rw e at (sym call.number ∙ z)) in
        let wrote : Wrote d out p exit
        = record {
          length_is = call.size ∙ ap (λ (x : Defined.Printed). x.size) e ∙ l;
          written = call.out ∙ ap (λ (x : Defined.Printed). x.out) e ∙ o;
          spells = (canonical_spelling d h.draft.document).0;
        } in
        (d, h, wrote, λ lent left r reads short fits. back d h lent left r reads short fits)

-- The table of a draft that was read is held, whatever lies behind it.
pub read_holds : (s : Spelling) (text : List ℕ) (lent left : Memory) (r : Answer) (d : Node) → Readable s text lent d → Read lent (called r left) d
    → Holds left.nodes r.nodes left.pool r.pool d
unfolding over called
read_holds s text lent left r d readable b =
    let words : take (record_length * r.nodes) left.nodes ≡ table_of d
    = rw (b.nodes, b.node_words) (take_at (table_of d) _ (record_length * count d) (table_length d)) in
    let strings : take r.pool left.pool ≡ pool d = rw (b.bytes, b.pool_bytes) (take_at (pool d) _ (length (pool d)) refl) in
    let short : length text ≤ most_bytes = readable.within.short in
    let table = printable s text lent d readable (omega (arith, pool_within s d text readable.spells readable.within)) in
    record {
      words_within = omega (
        arith,
        b.nodes,
        ap length b.node_words,
        length-append (table_of d) (drop (length (table_of d)) lent.nodes),
        table_length d,
      );
      bytes_within = omega (arith, b.bytes, ap length b.pool_bytes, length-append (pool d) (drop (length (pool d)) lent.pool));
      draft = rw (words, strings) table;
    }
