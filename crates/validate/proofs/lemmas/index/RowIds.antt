-- The id of a node from its record.
use Prim.Native.Nat.{ℕ, ◌*◌, ◌+◌, ◌≤◌}
use mathlib.Core.Path.{◌≡◌, refl, ◌∙◌}
use mathlib.Core.Bool.{true, false}
use mathlib.Core.List.{List}
use native.Mathlib.Omega.{arith}
use lib.Dec.{eqb}
use lib.ListN.{length, get_or}
use Rattle.std.proofs.lemmas.List.{get_or_past}
use Rattle.base.proofs.Booleans.{and_false}
use Rattle.elements.specs.rules.Class as Class
use Rattle.document.specs.rules.Record.{record_length}
use Rattle.table.specs.Stored.{word_at}
use Rattle.validate.specs.declared.index.Target.{Target}
use Rattle.validate.specs.declared.index.Target.TheVariants.{Block, Footnote}
use Rattle.validate.specs.declared.lent.Table.{Table}
use Rattle.validate.specs.declared.record.Row.{Row}
use Rattle.validate.specs.internal.TableWords.{key_at, wanted}
use Rattle.validate.proofs.lemmas.index.BlockIds.{id_test, id_wanted}
use Rattle.validate.proofs.lemmas.records.RecordTests.{row_word}

-- What is no kind is not wanted.
no_kind : (target : Target) → wanted target 0 ≡ false
unfolding Class.is_block
no_kind Block = refl
no_kind Footnote = refl

no_block : (t : Table) (target : Target) (i : ℕ) → wanted target (word_at t.nodes.now i 0) ≡ false → id_wanted t.nodes.now t.pool.now target i ≡ false
no_block t target i e = rw e

-- Past the last record there is no kind.
pub none_past : (t : Table) (target : Target) (i : ℕ) → t.count ≤ i → id_wanted t.nodes.now t.pool.now target i ≡ false
unfolding word_at
none_past t target i h =
    let past : length t.nodes.now ≤ record_length * i + 0 = omega (arith, t.whole) in
    no_block t target i (rw (get_or_past t.nodes.now (record_length * i + 0) 0 past) (no_kind target))

module _ (t : Table) (target : Target) (i : ℕ) (row : Row) (same : (row.table.now ≡ t) × (row.number ≡ i)) where
  kind_is : get_or row.words.now 0 0 ≡ word_at t.nodes.now i 0
  kind_is = rw same.0 at (rw same.1 at (row_word row 0 (omega arith)))

  pub none_other : wanted target (get_or row.words.now 0 0) ≡ false → id_wanted t.nodes.now t.pool.now target i ≡ false
  none_other e = no_block t target i (rw kind_is at e)

  module _ (id : List ℕ) (read : id ≡ key_at row.table.now.nodes.now row.table.now.pool.now row.number) where
    pub key_is : id ≡ key_at t.nodes.now t.pool.now i
    key_is = rw same.0 at (rw same.1 at read)

    pub none_empty : eqb (length id) 0 ≡ true → id_wanted t.nodes.now t.pool.now target i ≡ false
    none_empty e = id_test t.nodes.now t.pool.now target i ∙ rw (rw key_is at e) (and_false _)

    pub held_one : wanted target (get_or row.words.now 0 0) ≡ true → eqb (length id) 0 ≡ false → id_wanted t.nodes.now t.pool.now target i ≡ true
    held_one w e = id_test t.nodes.now t.pool.now target i ∙ rw (rw kind_is at w, rw key_is at e)
