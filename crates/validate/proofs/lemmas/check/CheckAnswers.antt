-- Whether a table is a draft's, and the answers of its check.
use Prim.Native.Nat.{ℕ, ◌*◌, ◌≤◌}
use mathlib.Core.Path.{◌≡◌, refl, sym, ap, ◌∙◌}
use mathlib.Core.Bool.{Bool, true, false, true≢false}
use mathlib.Core.List.{List}
use native.Mathlib.Omega.{arith}
use lib.Dec.{leb→le}
use lib.ListN.{length}
use lib.Seq.{take_all}
use Rattle.document.specs.rules.Document.{Node}
use Rattle.document.specs.rules.Record.{record_length}
use Rattle.document.specs.rules.Table.{count}
use Rattle.document.specs.reference.Check.{unsound, check}
use Rattle.document.specs.reference.Printing.{Draft, no_draft, the_draft, is_there, draft_of, checked_as, checked_of, checking}
use Rattle.document.specs.rules.Draft.{IsDraft, Holds}
use Rattle.document.proofs.Records.{table_length}
use Rattle.document.proofs.CheckedNode.{unsound_below}
use Rattle.document.proofs.CheckAccount.{held_checked}
use Rattle.document.proofs.PrintingDecided.{held_draft, none_held, is_there_lem}
use Rattle.std.specs.Prelude.{Result, Err}
use Rattle.validate.specs.declared.lent.Table.{Table}
use Rattle.validate.specs.declared.faults.Fault.{Fault}
use Rattle.validate.specs.internal.CheckNumbers.{number_of, checked}
use Rattle.validate.specs.internal.DocumentTable.{BeginsWithTable, LendsTable}

module _ (words : List ℕ) (n : ℕ) (bytes : List ℕ) (m : ℕ) where
  -- A count beyond what is lent.
  pub none_there : (record_length * n ≤ length words → m ≤ length bytes → ⊥) → is_there (draft_of words n bytes m) ≡ false
  unfolding is_there
  none_there past = rw (none_held words n bytes m (λ d h. past h.words_within h.bytes_within))

  -- 20: there is no draft.
  pub not_there : is_there (draft_of words n bytes m) ≡ false → checking words n bytes m ≡ record { number = 20; node = 0 }
  unfolding checking checked_of is_there
  not_there e = go (draft_of words n bytes m) e
    where
      go : (x : Draft) → is_there x ≡ false → checked_of x ≡ record { number = 20; node = 0 }
      go no_draft e = refl
      go (the_draft d) e = absurd (true≢false e)

  module _ (t : Table) (lent : LendsTable words n bytes m t) where
    holds : (d : Node) → IsDraft d t.nodes.now t.pool.now → Holds words n bytes m d
    holds d x = record { words_within = lent.words_within; bytes_within = lent.bytes_within; draft = rw (lent.nodes, lent.pool) at x }

    -- The test of the table decides.
    pub tested : (r : Bool)
        → (r ≡ true → (d : Node) × IsDraft d t.nodes.now t.pool.now) × ((d : Node) → IsDraft d t.nodes.now t.pool.now → r ≡ true)
        → is_there (draft_of words n bytes m) ≡ r
    unfolding is_there
    tested true (f, g) =
        let (d, x) = f refl in
        rw (held_draft words n bytes m d (holds d x))
    tested false (f, g) =
        rw (none_held words n bytes m (λ d h. true≢false (sym (g d (rw (lent.nodes, lent.pool) h.draft)))))

    module _ (there : is_there (draft_of words n bytes m) ≡ true) where
      abbrev the : (d : Node) × Holds words n bytes m d
      the = is_there_lem words n bytes m true (sym there) refl

      abbrev x : IsDraft the.0 t.nodes.now t.pool.now
      x = rw (lent.nodes, lent.pool) the.1.draft

      node_count : count the.0 ≡ t.count
      node_count = omega (arith, table_length the.0, ap length x.node_words, t.whole)

      pub few_nodes : t.count ≤ 4096
      few_nodes = omega (arith, leb→le (count the.0) 4096 x.few_nodes, node_count)

      held : BeginsWithTable t.nodes.now t.count t.pool.now the.0
      held =
          record {
            document = x.document;
            node_count = node_count;
            node_words = take_all (record_length * t.count) t.nodes.now (omega (arith, t.whole)) ∙ sym x.node_words;
            pool_bytes = rw x.pool_bytes (take_all (length t.pool.now) t.pool.now (omega arith));
          }

      module _ (r : Result Unit Fault) (is : (d : Node) → BeginsWithTable t.nodes.now t.count t.pool.now d → checked r ≡ check d) where
        pub node_fits : (f : Fault) → r ≡ Err f → f.node ≤ 4096
        node_fits f e =
            let unsound_is : check the.0 ≡ unsound (number_of f.rule) f.node = sym (is the.0 held) ∙ ap checked e in
            omega (arith, unsound_below the.0 (number_of f.rule) f.node unsound_is, node_count, few_nodes)

        pub answered : checking words n bytes m ≡ checked_as (checked r)
        answered = held_checked words n bytes m the.0 the.1 ∙ ap checked_as (sym (is the.0 held))
