-- The node that the check answers is one of the document's.
use Prim.Native.Nat.{ℕ, ◌<◌}
use mathlib.Core.Path.{◌≡◌, ap, subst}
use mathlib.Core.List.{[], Memᴰ}
use native.Mathlib.Omega.{arith}
use lib.Dec.{eqb}
use Rattle.elements.specs.rules.Class as Class
use Rattle.document.specs.rules.Document.{Node}
use Rattle.document.specs.rules.Table.{count}
use Rattle.document.specs.reference.Check.{First, nowhere, at_node, any_number, found_bad_row, Entry, entries, found_repeated_id, found_unknown_link, found_unknown_footnote, Check, sound, unsound, checked_by, check}
use Rattle.document.proofs.NumberedSearch.{FirstIn, FirstAnswer}
use Rattle.document.proofs.Records.{entry_of, visit_below}
use Rattle.document.proofs.BadRow.{number_of, bounds_of, is_bad, bad_row_answer, bound_visited}
use Rattle.document.proofs.IdsAndReferences.{FirstRepeated, block_stands, RepeatAnswer, repeated_answer, entry_visit, target_stands}

module _ (d : Node) where
  entry_below : (i : ℕ) → (e : Entry) × Memᴰ e (entries 0 d) × (e.number ≡ i) → i < count d
  unfolding entry_of
  entry_below i (e, m, q) =
      let (v, mv, ev) = entry_visit d e m in
      let s : v.number ≡ e.number = ap (λ (z : Entry). z.number) ev in
      omega (arith, visit_below d v mv)

  -- A search that names a node of the document, if any.
  abbrev NamesNode : First → Type 0
  NamesNode f = (i : ℕ) → f ≡ at_node i → i < count d

  row_below : NamesNode (found_bad_row 0 any_number d)
  row_below i q =
      let a : FirstIn number_of is_bad (bounds_of d) i = subst (FirstAnswer number_of is_bad (bounds_of d)) q (bad_row_answer d) in
      omega (arith, visit_below d a.found.visit (bound_visited d a.found a.stands), a.number_is)

  repeated_below : NamesNode (found_repeated_id [] (entries 0 d))
  repeated_below i q =
      let a : FirstRepeated (entries 0 d) i = subst (RepeatAnswer (entries 0 d)) q (repeated_answer d) in
      entry_below i (a.block, block_stands (entries 0 d) i a, a.number_is)

  link_below : NamesNode (found_unknown_link (entries 0 d))
  unfolding found_unknown_link
  link_below i q = entry_below i (target_stands d Class.link Class.is_block i q)

  footnote_below : NamesNode (found_unknown_footnote (entries 0 d))
  unfolding found_unknown_footnote
  footnote_below i q = entry_below i (target_stands d Class.footnote_ref (eqb Class.footnote) i q)

  checked_below : (n i m : ℕ) (f : First) (next : Check) → NamesNode f → (next ≡ unsound n i → i < count d) → checked_by m f next ≡ unsound n i → i < count d
  unfolding checked_by
  checked_below n i m nowhere next below on e = on e
  checked_below n i m (at_node j) next below on e = below i (cc)

  pub unsound_below : (n i : ℕ) → check d ≡ unsound n i → i < count d
  unfolding check
  unsound_below n i =
      checked_below n i 15 (found_bad_row 0 any_number d) _ row_below
      (checked_below n i 16 (found_repeated_id [] (entries 0 d)) _ repeated_below
      (checked_below n i 17 (found_unknown_link (entries 0 d)) _ link_below
      (checked_below n i 18 (found_unknown_footnote (entries 0 d)) sound footnote_below (λ e. absurd (let z : ◌≡◌ {A = ℕ} 0 1 = cc in omega arith)))))
