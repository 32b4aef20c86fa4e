-- The check of a document finds the fault 15 to 18 that `specs/rules/WellFormed.antt` tells of, and nothing where it is well-formed; both ways.
use Prim.Native.Nat.{ℕ}
use mathlib.Core.Path.{◌≡◌}
use mathlib.Core.List.{[]}
use Rattle.document.specs.rules.Document.{Node, Document}
use Rattle.document.specs.rules.WellFormed.{BadRow, RepeatedId, UnknownLink, UnknownFootnote, None, FirstFault, bad_row, repeated_id, unknown_link, unknown_footnote, WellFormed}
use Rattle.document.specs.reference.Check.{First, nowhere, at_node, any_number, found_bad_row, entries, found_repeated_id, found_unknown_link, found_unknown_footnote, sound, unsound, checked_by, check, Decides}
use Rattle.document.specs.reference.Prose.{RowsMatchHead, IdsDiffer, LinksFound, RefsFound, Prose}
use Rattle.document.proofs.NumberedSearch.{Finds, finds_none, finds_first}
use Rattle.document.proofs.TableRows.{rows_match_head}
use Rattle.document.proofs.BadRow.{bad_row_found, rows_match_none}
use Rattle.document.proofs.IdsAndReferences.{repeated_found, link_found, footnote_found, ids_differ_none, links_found_none, refs_found_none}

-- The four searches decide in the order of the numbers.
searches_decide : (d : Node) (f g h k : First) → Finds (BadRow d) f → Finds (RepeatedId d) g → Finds (UnknownLink d) h → Finds (UnknownFootnote d) k
    → Decides d (checked_by 15 f (checked_by 16 g (checked_by 17 h (checked_by 18 k sound))))
unfolding checked_by
searches_decide d (at_node i) g h k rows ids links refs = bad_row rows
searches_decide d nowhere (at_node i) h k rows ids links refs = repeated_id rows ids
searches_decide d nowhere nowhere (at_node i) k rows ids links refs = unknown_link rows ids links
searches_decide d nowhere nowhere nowhere (at_node i) rows ids links refs = unknown_footnote rows ids links refs
searches_decide d nowhere nowhere nowhere nowhere rows ids links refs = record { rows = rows; ids = ids; links = links; footnotes = refs }

module _ (d : Node) (doc : Document d) where
  -- What the check answers is so.
  pub check_decides : Decides d (check d)
  unfolding check
  check_decides =
      searches_decide d (found_bad_row 0 any_number d) (found_repeated_id [] (entries 0 d)) (found_unknown_link (entries 0 d)) (found_unknown_footnote (entries 0 d))
      (bad_row_found d doc) (repeated_found d) (link_found d) (footnote_found d)

  rows_none : None (BadRow d) → found_bad_row 0 any_number d ≡ nowhere
  rows_none = finds_none (BadRow d) (found_bad_row 0 any_number d) (bad_row_found d doc)

  ids_none : None (RepeatedId d) → found_repeated_id [] (entries 0 d) ≡ nowhere
  ids_none = finds_none (RepeatedId d) (found_repeated_id [] (entries 0 d)) (repeated_found d)

  links_none : None (UnknownLink d) → found_unknown_link (entries 0 d) ≡ nowhere
  links_none = finds_none (UnknownLink d) (found_unknown_link (entries 0 d)) (link_found d)

  -- And what is so, the check answers.
  pub well_formed_check : WellFormed d → check d ≡ sound
  unfolding check checked_by
  well_formed_check w =
      rw (
        rows_none w.rows,
        ids_none w.ids,
        links_none w.links,
        finds_none (UnknownFootnote d) (found_unknown_footnote (entries 0 d)) (footnote_found d) w.footnotes,
      )

  pub fault_check : (n i : ℕ) → FirstFault d n i → check d ≡ unsound n i
  unfolding check checked_by
  fault_check n i (bad_row s) = rw (finds_first (BadRow d) (found_bad_row 0 any_number d) i (bad_row_found d doc) s)
  fault_check n i (repeated_id rows s) =
      rw (rows_none rows, finds_first (RepeatedId d) (found_repeated_id [] (entries 0 d)) i (repeated_found d) s)
  fault_check n i (unknown_link rows ids s) =
      rw (rows_none rows, ids_none ids, finds_first (UnknownLink d) (found_unknown_link (entries 0 d)) i (link_found d) s)
  fault_check n i (unknown_footnote rows ids links s) =
      rw (
        rows_none rows,
        ids_none ids,
        links_none links,
        finds_first (UnknownFootnote d) (found_unknown_footnote (entries 0 d)) i (footnote_found d) s,
      )

  -- A document is well-formed just where every row of a table with head has as many cells as the head has names, no two blocks have one id,
  -- every link's target is the id of a block, and every footnote-ref's the id of a footnote.
  pub well_formed_document : (WellFormed d → RowsMatchHead d × IdsDiffer d × LinksFound d × RefsFound d)
      × (RowsMatchHead d × IdsDiffer d × LinksFound d × RefsFound d → WellFormed d)
  well_formed_document = (
    λ w. (
      (rows_match_none d doc).1 w.rows,
      (ids_differ_none d).1 w.ids,
      (links_found_none d).1 w.links,
      (refs_found_none d).1 w.footnotes,
    ),
    λ a. record {
      rows = (rows_match_none d doc).0 a.0;
      ids = (ids_differ_none d).0 a.1;
      links = (links_found_none d).0 a.2;
      footnotes = (refs_found_none d).0 a.3;
    },
  )

  -- And just where the statements of `specs/reference/Prose.antt` hold.
  pub well_formed_prose : (WellFormed d → Prose d) × (Prose d → WellFormed d)
  well_formed_prose = (
    λ w.
        let (rows, ids, links, refs) = well_formed_document.0 w in
        record { rows_match = (rows_match_head d doc).1 rows; ids_differ = ids; links_found = links; refs_found = refs },
    λ p. well_formed_document.1 ((rows_match_head d doc).0 p.rows_match, p.ids_differ, p.links_found, p.refs_found),
  )
