-- The ids of blocks as the words of a table name them.
use Prim.Native.Nat.{ℕ, suc, ◌+◌, ◌*◌, ◌-◌, ◌<◌, ◌≤◌}
use mathlib.Core.Path.{◌≡◌, ◌∙◌, refl, sym, ap}
use mathlib.Core.Bool.{Bool, true, false, not, cond, ◌&&◌}
use mathlib.Core.List.{List, [], ◌∷◌}
use native.Mathlib.Numerals.{add-one}
use native.Mathlib.Omega.{arith}
use lib.Dec.{eqb, leb}
use lib.ListN.{length, get_or}
use lib.Pointwise.{pointwise, bytes_decides}
use borrow.Author.Tests.{lt-leb, ne_eqb, eqb-true}
use Rattle.std.proofs.lemmas.Bool.{and_parts}
use Rattle.base.proofs.Booleans.{bool_case, and_false}
use Rattle.elements.specs.rules.Bytes.{same}
use Rattle.elements.specs.rules.Class.{is_block}
use Rattle.elements.proofs.Same.{same_told}
use Rattle.document.specs.rules.Record.{record_length}
use Rattle.document.specs.rules.Value.{non_empty}
use Rattle.document.specs.reference.Check.{nowhere, at_node, Entry, holds_id, is_among, found_repeated_id, found_unknown_target}
use Rattle.table.specs.Stored.{word_at}
use Rattle.validate.specs.declared.index.Target.{Target}
use Rattle.validate.specs.declared.index.Target.TheVariants.{Block, Footnote}
use Rattle.validate.specs.internal.TableWords.{key_at, entry_of_node, entries_from, wanted, ids_before, repeats_at}

-- The kind of node i is the first word of its record.
pub kind_read : (words : List ℕ) (i : ℕ) → get_or words (record_length * i) 0 ≡ word_at words i 0
unfolding word_at
kind_read words i =
    let e : record_length * i ≡ record_length * i + 0 = omega arith in
    ap (λ (n : ℕ). get_or words n 0) e

-- What `==` of two strings answers is what the test of the definitions does.
pub equal_same : {answer : Bool} (s t : List ℕ) → answer ≡ pointwise eqb s t → answer ≡ same s t
equal_same s t e = same_told s t _ (rw e (bytes_decides s t))

-- A kind above those of blocks.
above_blocks : (k : ℕ) → 7 < k → is_block k ≡ false
unfolding is_block
above_blocks k l = rw (lt-leb k 7 l) (and_false (leb 1 k))

-- What a target takes is a block.
takes_blocks : (target : Target) (k : ℕ) (b : Bool) → wanted target k && (is_block k && b) ≡ wanted target k && b
unfolding is_block
takes_blocks Block k b = bool_case (is_block k) (λ e. rw e) (λ e. rw e)
takes_blocks Footnote k b = bool_case (eqb 7 k) (λ e. rw (e, sym (eqb-true 7 k e))) (λ e. rw e)

pub not_empty : (s : List ℕ) → non_empty s ≡ not (eqb (length s) 0)
unfolding non_empty
not_empty [] = refl
not_empty (x ∷ s) = rw (ne_eqb (suc (length s)) 0 (λ e. omega arith))

module _ (words bytes : List ℕ) where
  -- The test of an id at node i.
  abbrev pub id_wanted : Target → ℕ → Bool
  id_wanted target i = wanted target (word_at words i 0) && holds_id (entry_of_node words bytes i)

  pub id_test : (target : Target) (i : ℕ) → id_wanted target i ≡ wanted target (word_at words i 0) && not (eqb (length (key_at words bytes i)) 0)
  unfolding holds_id
  id_test target i =
      takes_blocks target (word_at words i 0) (non_empty (key_at words bytes i))
      ∙ ap (λ (b : Bool). wanted target (word_at words i 0) && b) (not_empty (key_at words bytes i))

  -- Any block is wanted.
  pub any_block : (i : ℕ) → id_wanted Block i ≡ holds_id (entry_of_node words bytes i)
  unfolding holds_id
  any_block i = takes_blocks Block (word_at words i 0) (non_empty (key_at words bytes i))

  -- A node whose kind is above those of blocks has no id.
  pub above_id : (i : ℕ) → 7 < get_or words (record_length * i) 0 → holds_id (entry_of_node words bytes i) ≡ false
  unfolding holds_id
  above_id i l = rw (above_blocks _ (rw kind_read at l))

  -- One node fewer to look at.
  ids_before_lem : (target : Target) (i : ℕ) → 0 < i
      → ids_before words bytes target i
      ≡ cond (id_wanted target (i - 1)) (key_at words bytes (i - 1) ∷ ids_before words bytes target (i - 1)) (ids_before words bytes target (i - 1))
  unfolding ids_before
  ids_before_lem target i l =
      let e : i ≡ suc (i - 1) = omega arith in
      ap (ids_before words bytes target) e

  pub known_here : (s : List ℕ) (target : Target) (i : ℕ) → 0 < i → id_wanted target (i - 1) ≡ true → same s (key_at words bytes (i - 1)) ≡ true
      → is_among s (ids_before words bytes target i) ≡ true
  unfolding is_among
  known_here s target i l e f = rw (ids_before_lem target i l, e, f)

  pub known_other : (s : List ℕ) (target : Target) (i : ℕ) → 0 < i → id_wanted target (i - 1) ≡ true → same s (key_at words bytes (i - 1)) ≡ false
      → is_among s (ids_before words bytes target (i - 1)) ≡ is_among s (ids_before words bytes target i)
  unfolding is_among
  known_other s target i l e f = sym (ap (is_among s) (ids_before_lem target i l) ∙ rw (e, f))

  pub known_none : (s : List ℕ) (target : Target) (i : ℕ) → 0 < i → id_wanted target (i - 1) ≡ false
      → is_among s (ids_before words bytes target (i - 1)) ≡ is_among s (ids_before words bytes target i)
  known_none s target i l e = sym (ap (is_among s) (ids_before_lem target i l) ∙ rw e)

  pub known_end : (s : List ℕ) (target : Target) (i : ℕ) → i ≤ 0 → is_among s (ids_before words bytes target i) ≡ false
  unfolding is_among ids_before
  known_end s target i l =
      let e : i ≡ 0 = omega arith in
      rw e

  -- The entries from node i on, up to count.
  abbrev pub rest : ℕ → ℕ → List Entry
  rest count i = entries_from words bytes (count - i) i

  rest_cons : (count i : ℕ) → i < count → rest count i ≡ entry_of_node words bytes i ∷ rest count (i + 1)
  unfolding entries_from
  rest_cons count i l =
      let e : count - i ≡ suc (count - (i + 1)) = omega arith in
      rw (e, add-one)

  rest_end : (count i : ℕ) → count ≤ i → rest count i ≡ []
  unfolding entries_from
  rest_end count i l =
      let e : count - i ≡ 0 = omega arith in
      rw e

  -- A turn of the search for a repeated id.
  ids_after : (i : ℕ) (b : Bool) → holds_id (entry_of_node words bytes i) ≡ b
      → ids_before words bytes Block (i + 1) ≡ cond b (key_at words bytes i ∷ ids_before words bytes Block i) (ids_before words bytes Block i)
  unfolding ids_before
  ids_after i b e = rw (add-one i, any_block i, e)

  pub repeated_here : (count i : ℕ) → i < count → repeats_at words bytes i ≡ true → found_repeated_id (ids_before words bytes Block i) (rest count i) ≡ at_node i
  unfolding found_repeated_id
  repeated_here count i l e =
      let b = and_parts (holds_id (entry_of_node words bytes i)) (is_among (key_at words bytes i) (ids_before words bytes Block i)) e in
      rw (rest_cons count i l, b.0, b.1)

  pub repeated_on : (count i : ℕ) → i < count → repeats_at words bytes i ≡ false
      → found_repeated_id (ids_before words bytes Block (i + 1)) (rest count (i + 1)) ≡ found_repeated_id (ids_before words bytes Block i) (rest count i)
  unfolding found_repeated_id
  repeated_on count i l e =
      bool_case (holds_id (entry_of_node words bytes i)) (λ h.
      let f : is_among (key_at words bytes i) (ids_before words bytes Block i) ≡ false = rw h at e in
      rw (rest_cons count i l, ids_after i true h, h, f)) (λ h. rw (rest_cons count i l, ids_after i false h, h))

  pub repeated_end : (seen : List (List ℕ)) (count i : ℕ) → count ≤ i → found_repeated_id seen (rest count i) ≡ nowhere
  unfolding found_repeated_id
  repeated_end seen count i l = rw (rest_end count i l)

  -- A turn of the search for an unknown target.
  module _ (k : ℕ) (ids : List (List ℕ)) where
    pub unknown_here : (count i : ℕ) → i < count → eqb (word_at words i 0) k && not (is_among (key_at words bytes i) ids) ≡ true → found_unknown_target k ids (rest count i) ≡ at_node i
    unfolding found_unknown_target
    unknown_here count i l e = rw (rest_cons count i l, e)

    pub unknown_on : (count i : ℕ) → i < count → eqb (word_at words i 0) k && not (is_among (key_at words bytes i) ids) ≡ false
        → found_unknown_target k ids (rest count (i + 1)) ≡ found_unknown_target k ids (rest count i)
    unfolding found_unknown_target
    unknown_on count i l e = rw (rest_cons count i l, e)

    pub unknown_end : (count i : ℕ) → count ≤ i → found_unknown_target k ids (rest count i) ≡ nowhere
    unfolding found_unknown_target
    unknown_end count i l = rw (rest_end count i l)
