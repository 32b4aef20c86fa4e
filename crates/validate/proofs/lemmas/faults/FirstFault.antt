-- The four searches, in order, give the check's answer.
use Prim.Native.Nat.{ℕ}
use mathlib.Core.Path.{◌≡◌, ◌∙◌, refl, sym, ap}
use mathlib.Core.List.{List, []}
use Rattle.base.specs.rules.Numbers as Number
use Rattle.elements.specs.rules.Class as Class
use Rattle.document.specs.rules.Document.{Node}
use Rattle.document.specs.reference.Check.{First, any_number, found_bad_row, Entry, entries, found_repeated_id, found_unknown_target, found_unknown_link, found_unknown_footnote, Check, sound, checked_by, check}
use Rattle.std.specs.Prelude.{Option, Some, None, Result, Ok, Err}
use Rattle.validate.specs.declared.faults.Rule.{Rule}
use Rattle.validate.specs.declared.faults.Rule.TheVariants.{RowLength, RepeatedId, UnknownTarget, UnknownFootnote}
use Rattle.validate.specs.declared.faults.Fault.{Fault}
use Rattle.validate.specs.internal.CheckNumbers.{number_of, kept, checked}
use Rattle.validate.specs.internal.DocumentTable.{BeginsWithTable}
use Rattle.validate.specs.declared.index.Target.TheVariants.{Block, Footnote}
use Rattle.validate.specs.internal.TableWords.{entries_from, ids_before, found, Searched}
use Rattle.validate.proofs.lemmas.faults.BadRows.{found_nothing, found_at}
use Rattle.validate.proofs.lemmas.faults.TableEntries.{entries_are, link_is, note_is, rows_searched}

-- A rule that holds is broken at no node.
pub holds_nowhere : (rule : Rule) (v : Option ℕ) (u : Unit) → kept rule v ≡ Ok u → v ≡ None
holds_nowhere rule None u q = refl
holds_nowhere rule (Some i) u q = cc

-- A search finds a node, or the answer is that of the later ones.
module _ (rule : Rule) (f : First) (next : Check) where
  here : (v : Option ℕ) → v ≡ found f → (x : Fault) → kept rule v ≡ Err x → checked (Err x) ≡ checked_by (number_of rule) f next
  unfolding checked_by
  here None e x q = cc
  here (Some i) e x q = rw (found_at f i (sym e)) (ap checked (sym q))

  on : (v : Option ℕ) → v ≡ found f → (u : Unit) → kept rule v ≡ Ok u → (c : Check) → c ≡ next → c ≡ checked_by (number_of rule) f next
  unfolding checked_by
  on v e u q c a = rw (found_nothing f (sym e ∙ holds_nowhere rule v u q)) a

module _ (words : List ℕ) (n : ℕ) (bytes : List ℕ) (d : Node) (holds : BeginsWithTable words n bytes d) where
  module _ (row : Option ℕ) (rows : (f : First) → Searched words n 0 f → row ≡ found f) where
    row_is : row ≡ found (found_bad_row 0 any_number d)
    row_is = rows (found_bad_row 0 any_number d) (rows_searched words n bytes d holds)

    pub answer_15 : (x : Fault) → kept RowLength row ≡ Err x → checked (Err x) ≡ check d
    unfolding check
    answer_15 = here RowLength _ _ row row_is

    module _ (u : Unit) (no_row : kept RowLength row ≡ Ok u) (id : Option ℕ) (ids : id ≡ found (found_repeated_id [] (entries_from words bytes n 0))) where
      id_is : id ≡ found (found_repeated_id [] (entries 0 d))
      id_is = ids ∙ ap (λ (es : List Entry). found (found_repeated_id [] es)) (entries_are words n bytes d holds)

      -- An answer of the later searches.
      past_row : (c : Check)
          → c ≡ checked_by Number.repeated_id (found_repeated_id [] (entries 0 d))
          (checked_by Number.unknown_target (found_unknown_link (entries 0 d)) (checked_by Number.unknown_footnote (found_unknown_footnote (entries 0 d)) sound))
          → c ≡ check d
      unfolding check
      past_row = on RowLength _ _ row row_is u no_row

      pub answer_16 : (x : Fault) → kept RepeatedId id ≡ Err x → checked (Err x) ≡ check d
      answer_16 x q = past_row _ (here RepeatedId _ _ id id_is x q)

      module _ (v : Unit) (no_id : kept RepeatedId id ≡ Ok v) (link : Option ℕ)
          (links : link ≡ found (found_unknown_target Class.link (ids_before words bytes Block n) (entries_from words bytes n 0))) where
        link_found : link ≡ found (found_unknown_link (entries 0 d))
        link_found = links ∙ ap found (link_is words n bytes d holds)

        past_id : (c : Check)
            → c ≡ checked_by Number.unknown_target (found_unknown_link (entries 0 d)) (checked_by Number.unknown_footnote (found_unknown_footnote (entries 0 d)) sound)
            → c ≡ check d
        past_id c a = past_row c (on RepeatedId _ _ id id_is v no_id c a)

        pub answer_17 : (x : Fault) → kept UnknownTarget link ≡ Err x → checked (Err x) ≡ check d
        answer_17 x q = past_id _ (here UnknownTarget _ _ link link_found x q)

        module _ (w : Unit) (no_link : kept UnknownTarget link ≡ Ok w) (note : Option ℕ)
            (notes : note ≡ found (found_unknown_target Class.footnote_ref (ids_before words bytes Footnote n) (entries_from words bytes n 0))) where
          note_found : note ≡ found (found_unknown_footnote (entries 0 d))
          note_found = notes ∙ ap found (note_is words n bytes d holds)

          last : (r : Result Unit Fault) → kept UnknownFootnote note ≡ r → checked r ≡ checked_by Number.unknown_footnote (found_unknown_footnote (entries 0 d)) sound
          last (Ok u) q = on UnknownFootnote _ _ note note_found u q sound refl
          last (Err x) q = here UnknownFootnote _ _ note note_found x q

          pub answer_last : checked (kept UnknownFootnote note) ≡ check d
          answer_last = past_id _ (on UnknownTarget _ _ link link_found w no_link _ (last _ refl))
