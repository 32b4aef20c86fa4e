-- A node without values, by three tests of its record's words: nothing of them is spelled.
use Prim.Native.Nat.{ℕ, ◌+◌}
use mathlib.Core.Path.{◌≡◌, refl, sym, ◌∙◌}
use mathlib.Core.Bool.{true, ◌&&◌}
use mathlib.Core.List.{List, []}
use lib.Dec.{eqb}
use borrow.Author.Tests.{eqb-true}
use Rattle.base.proofs.Booleans.{both, true_T, T_true}
use Rattle.elements.specs.rules.Class as Class
use Rattle.base.specs.rules.Limits.{missing}
use Rattle.document.specs.rules.Record as Word
use Rattle.document.specs.rules.Canonical.{key_class}
use Rattle.document.specs.reference.Printing.{part}
use Rattle.table.specs.Stored.{word_at, string_at}
use Rattle.printer.specs.internal.Inside.{Valueless, values_inside}
use Rattle.printer.proofs.put.Pieces.{value_none, size_none}

module _ (words : List ℕ) (i : ℕ) where
  pub valueless_tested : (k t w : ℕ) → k ≡ word_at words i Word.key_length → t ≡ word_at words i Word.type_length → w ≡ word_at words i Word.width
      → eqb k 0 && eqb t 0 && eqb w missing ≡ true → Valueless words i
  valueless_tested k t w a b c e =
      let (kt, z) = both (eqb k 0 && eqb t 0) (eqb w missing) (true_T e) in
      let (x, y) = both (eqb k 0) (eqb t 0) kt in
      record {
        key = sym a ∙ eqb-true k 0 (T_true _ x);
        type = sym b ∙ eqb-true t 0 (T_true _ y);
        width = sym c ∙ eqb-true w missing (T_true _ z);
      }

  no_bytes : (bytes : List ℕ) (j : ℕ) → word_at words i (j + 1) ≡ 0 → string_at words bytes i j ≡ []
  unfolding string_at part
  no_bytes bytes j e = rw e

  pub valueless_inside : (bytes : List ℕ) (kind h : ℕ) → Valueless words i
      → [] ≡ values_inside kind (string_at words bytes i Word.key_offset) (string_at words bytes i Word.type_offset) (word_at words i Word.width) h
  unfolding values_inside
  valueless_inside bytes kind h v =
      let key = no_bytes bytes 3 v.key in
      let type = no_bytes bytes 5 v.type in
      let size = size_none (word_at words i Word.width) h v.width in
      rw (key, type, ← value_none (key_class kind) [] refl, ← size, ← value_none Class.type [] refl)
