-- The tests of one record.
use Prim.Native.Nat.{ℕ, ◌+◌, ◌*◌, ◌-◌, ◌≤◌, ◌<◌}
use mathlib.Core.Path.{◌≡◌, refl, sym, ◌∙◌}
use mathlib.Core.Bool.{Bool, true, false, cond, not, ◌&&◌, ◌||◌}
use mathlib.Core.List.{List, [], ◌∷◌}
use native.Mathlib.Omega.{arith}
use lib.Dec.{T, eqb, leb, ltb}
use lib.ListN.{length, get_or}
use borrow.Author.Tests.{ne_eqb}
use Rattle.base.proofs.Booleans.{true_T, T_true}
use Rattle.utf8.specs.reference.Sequence.{valid_up_to}
use Rattle.base.specs.rules.Limits.{missing}
use Rattle.document.specs.rules.Record.{record_length}
use Rattle.document.specs.rules.Value.{non_empty}
use Rattle.document.specs.reference.RulesTest.{is_text}
use Rattle.table.specs.Stored.{word_at, Recorded}
use Rattle.table.proofs.Stored.{recorded_word}
use Rattle.validate.specs.declared.record.Row.{Row}
use Rattle.validate.specs.internal.DraftWalk.{Decided, offset_of, NamesStringAt, TextAlone, ElementAt, value_levels}
use Rattle.validate.proofs.lemmas.records.Decided.{equal_decided, unequal_decided, both_decided, at_most_decided, below_decided, implied_decided, reworded}

-- ---- the words of a record

-- The words of a row.
pub row_recorded : (row : Row) → Recorded row.table.now.nodes.now row.number row.words.now
unfolding Recorded
row_recorded row = row.recorded

pub row_word : (row : Row) (j : ℕ) → j < record_length → get_or row.words.now j 0 ≡ word_at row.table.now.nodes.now row.number j
row_word row j h = sym (recorded_word row.table.now.nodes.now row.words.now row.number j (row_recorded row) h)

pub row_whole : (row : Row) → record_length * row.number + record_length ≤ length row.table.now.nodes.now
row_whole row = omega (arith, row.within, row.table.now.whole)

-- ---- the tests

-- A string by its words.
module _ (row : Row) (j p : ℕ) (within : j + 1 < record_length) where
  abbrev Named : Type 0
  Named = NamesStringAt row.table.now.nodes.now row.number j p (length row.table.now.pool.now)

  named_offset : Named → get_or row.words.now j 0 ≡ cond (eqb (get_or row.words.now (j + 1) 0) 0) 0 p
  unfolding offset_of
  named_offset s = row_word row j (omega arith) ∙ (s.offset ∙ rw (row_word row (j + 1) within))

  named : get_or row.words.now j 0 ≡ cond (eqb (get_or row.words.now (j + 1) 0) 0) 0 p → p + get_or row.words.now (j + 1) 0 ≤ length row.table.now.pool.now → Named
  unfolding offset_of
  named e l =
      record {
        offset = sym (row_word row j (omega arith)) ∙ (rw (row_word row (j + 1) within) at e);
        within = omega (arith, row_word row (j + 1) within);
      }

  module _ (none : get_or row.words.now (j + 1) 0 ≡ 0) where
    pub string_missing : p ≤ length row.table.now.pool.now → get_or row.words.now j 0 ≡ 0 → Named
    string_missing h e = named (rw none e) (omega arith)

    pub string_no_offset : (get_or row.words.now j 0 ≡ 0 → ⊥) → Named → ⊥
    string_no_offset f s = f (rw none at (named_offset s))

  module _ (some : get_or row.words.now (j + 1) 0 ≡ 0 → ⊥) where
    pub string_elsewhere : (get_or row.words.now j 0 ≡ p → ⊥) → Named → ⊥
    string_elsewhere f s = f (rw (ne_eqb _ 0 some) at (named_offset s))

    pub string_there : p ≤ length row.table.now.pool.now → get_or row.words.now j 0 ≡ p → get_or row.words.now (j + 1) 0 ≤ length row.table.now.pool.now - p → Named
    string_there h e l = named (rw (ne_eqb _ 0 some) e) (omega arith)

  pub string_long : p ≤ length row.table.now.pool.now → length row.table.now.pool.now - p < get_or row.words.now (j + 1) 0 → Named → ⊥
  string_long h l s = omega (arith, row_word row (j + 1) within, s.within)

-- What stands in the record of a text beside the text.
pub alone_tests : (words : List ℕ) (i parent end : ℕ)
    → Decided (TextAlone words i parent end)
    ((((((((eqb (word_at words i 1) parent && eqb (word_at words i 2) end) && eqb (word_at words i 3) 0) && eqb (word_at words i 4) 0)
    && eqb (word_at words i 5) 0) && eqb (word_at words i 6) 0) && not (eqb (word_at words i 8) 0)) && eqb (word_at words i 9) missing)
    && eqb (word_at words i 10) missing)
alone_tests words i parent end =
    reworded
    (λ t. record {
      under = t.0.0.0.0.0.0.0.0;
      ends = t.0.0.0.0.0.0.0.1;
      no_key_at = t.0.0.0.0.0.0.1;
      no_key = t.0.0.0.0.0.1;
      no_type_at = t.0.0.0.0.1;
      no_type = t.0.0.0.1;
      some = t.0.0.1;
      no_width = t.0.1;
      no_height = t.1;
    })
    (λ t. ((((((((t.under, t.ends), t.no_key_at), t.no_key), t.no_type_at), t.no_type), t.some), t.no_width), t.no_height))
    (both_decided
    (both_decided
    (both_decided
    (both_decided
    (both_decided
    (both_decided (both_decided (both_decided (equal_decided _ _) (equal_decided _ _)) (equal_decided _ _)) (equal_decided _ _))
    (equal_decided _ _))
    (equal_decided _ _))
    (unequal_decided _ _))
    (equal_decided _ _))
    (equal_decided _ _))

-- What an element's record has.
pub element_tests : (words : List ℕ) (i left : ℕ)
    → Decided (ElementAt words i left)
    ((((leb 1 (word_at words i 0) && leb (word_at words i 0) 25) && eqb (word_at words i 8) 0)
    && (not (eqb (word_at words i 9) missing) || eqb (word_at words i 10) missing)) && ltb (value_levels words i) left)
element_tests words i left =
    reworded
    (λ t. record { kind_low = t.0.0.0.0; kind_high = t.0.0.0.1; no_text = t.0.0.1; sized = t.0.1; levels = t.1 })
    (λ t. ((((t.kind_low, t.kind_high), t.no_text), t.sized), t.levels))
    (both_decided
    (both_decided (both_decided (both_decided (at_most_decided _ _) (at_most_decided _ _)) (equal_decided _ _))
    (implied_decided (equal_decided _ _) (equal_decided _ _)))
    (below_decided _ _))

-- The levels of an element's values, by the three tests one after another.
pub levels_test : (words : List ℕ) (i : ℕ) (answer : Bool)
    → answer ≡ (eqb (word_at words i 4) 0 && eqb (word_at words i 6) 0) && eqb (word_at words i 9) missing → ◌≡◌ {A = ℕ} (cond answer 0 1) (value_levels words i)
unfolding value_levels
levels_test words i answer e = rw e (go (eqb (word_at words i 4) 0) (eqb (word_at words i 6) 0) (eqb (word_at words i 9) missing))
  where
    go : (a b c : Bool) → ◌≡◌ {A = ℕ} (cond ((a && b) && c) 0 1) (cond (a && (b && c)) 0 1)
    go true b c = refl
    go false b c = refl

-- A text is valid where it has bytes and all are valid.
pub text_bytes_lem : (s : List ℕ) → T (is_text s) → (length s ≡ 0 → ⊥) × (eqb (valid_up_to s) (length s) ≡ true)
unfolding is_text non_empty
text_bytes_lem [] t = absurd t
text_bytes_lem (b ∷ bs) t = (λ e. omega arith, T_true _ t)

pub bytes_text : (s : List ℕ) → (length s ≡ 0 → ⊥) → eqb (valid_up_to s) (length s) ≡ true → T (is_text s)
unfolding is_text non_empty
bytes_text [] h e = absurd (h refl)
bytes_text (b ∷ bs) h e = true_T e
