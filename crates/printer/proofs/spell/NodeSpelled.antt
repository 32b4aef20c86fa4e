-- The spelling of a node that stands in the table, from the pieces that the code wrote of it.
use Prim.Native.Nat.{ℕ, ◌+◌, ◌≤◌}
use mathlib.Core.Path.{◌≡◌, refl, sym, ◌∙◌}
use mathlib.Core.Bool.{Bool, true, false}
use mathlib.Core.List.{List, [], ◌∷◌}
use native.Mathlib.Nat.{add-zero}
use native.Mathlib.Omega.{arith}
use lib.ListN.{length}
use Rattle.elements.specs.rules.Class as Class
use Rattle.elements.specs.rules.Rules.{rule_of}
use Rattle.document.specs.rules.Record as Word
use Rattle.document.specs.rules.Document.{Node, node, Nodes, childless, child}
use Rattle.document.specs.rules.Table.{count, count_all, pool}
use Rattle.document.specs.rules.Canonical.{quoted_before, node_first, canonical}
use Rattle.table.specs.Stored.{word_at, Stored, StoredAll}
use Rattle.table.specs.Stored.{string_at}
use Rattle.printer.specs.internal.Inside.{values_inside, children_first, children_after}
use Rattle.printer.specs.declared.put.Output.{Output}
use Rattle.printer.specs.internal.Appends.{Appends}
use Rattle.printer.proofs.put.Appending.{appends_as, appends_join}
use Rattle.document.proofs.TableDetermines.{count_positive}
use Rattle.printer.proofs.spell.StoredNodes.{words_of, FirstEnd}
use Rattle.printer.proofs.spell.ElementParts.{canonical_text, canonical_parts}
use Rattle.printer.proofs.spell.Siblings.{SpellsNode, Done}

-- The children that are spelled before the values, and the others, stand one behind the other.
record ChildrenParted (words bytes : List ℕ) (i parent p : ℕ) (b : Bool) (ns : Nodes) : Type 0 where
  first : StoredAll words bytes i parent p (children_first b ns)
  from : ℕ
  others : StoredAll words bytes (i + count_all (children_first b ns)) parent from (children_after b ns)
  counts : count_all ns ≡ count_all (children_first b ns) + count_all (children_after b ns)

children_parted : (words bytes : List ℕ) (i parent p : ℕ) (b : Bool) (ns : Nodes) → StoredAll words bytes i parent p ns → ChildrenParted words bytes i parent p b ns
unfolding children_first children_after count_all StoredAll
children_parted words bytes i parent p false ns s = record { first = tt; from = p; others = rw (add-zero i) s; counts = omega arith }
children_parted words bytes i parent p true childless s = record { first = tt; from = p; others = tt; counts = refl }
children_parted words bytes i parent p true (child n ns) s =
    record { first = (s.0, tt); from = p + length (pool n); others = rw (add-zero (count n)) s.1; counts = omega arith }

-- A node's spelling is written to an output.
abbrev pub NodeAppended : List ℕ → List ℕ → ℕ → ℕ → Output → Output → Type 0
NodeAppended words bytes i end a b = (d : Node) (parent p : ℕ) → Stored words bytes i parent p d → end ≡ i + count d → Appends a (canonical d) b

-- A span that is none has no node.
pub none_spelled : (words bytes : List ℕ) (i end : ℕ) (out : List ℕ) (r : ℕ) (later : List ℕ) → end ≤ i → SpellsNode words bytes i end out r later
none_spelled words bytes i end out r later h d parent p s e = absurd (omega (arith, count_positive d))

module _ (words bytes : List ℕ) (i end : ℕ) (a : Output) where
  pub text_spelled : (kind : ℕ) (string : List ℕ) (b : Output) → kind ≡ word_at words i Word.kind → kind ≡ Class.text → string ≡ string_at words bytes i Word.text_offset
      → Appends a (quoted_before string []) b → NodeAppended words bytes i end a b
  text_spelled kind string b w t f q (node k key type text width height ns) parent p s e =
      let h = words_of words bytes i parent p k key type text width height ns s in
      let same : Class.text ≡ k = sym t ∙ w ∙ h.kind in
      let spelt : quoted_before string [] ≡ canonical (node k key type text width height ns)
      = rw (f, h.text_string, ← same) (sym (canonical_text key type text width height ns)) in
      appends_as spelt q

  pub element_spelled : (kind middle : ℕ) → kind ≡ word_at words i Word.kind → (kind ≡ Class.text → ⊥) → FirstEnd words i end middle
      → {b c d e f g : Output} → Appends a (0x5B ∷ []) b → Appends b (Class.name_of kind) c → Done words bytes (i + 1) middle c d
      → Appends d (values_inside (word_at words i Word.kind) (string_at words bytes i Word.key_offset) (string_at words bytes i Word.type_offset)
      (word_at words i Word.width) (word_at words i Word.height)) e
      → Done words bytes middle end e f → Appends f (0x5D ∷ []) g → NodeAppended words bytes i end a g
  unfolding Stored count
  element_spelled kind middle w t ends opened named first valued others closed (node k key type text width height ns) parent start stored e =
      let h = words_of words bytes i parent start k key type text width height ns stored in
      let same : kind ≡ k = w ∙ h.kind in
      let b : Bool = node_first (rule_of k).parameters in
      let whole : end ≡ i + 1 + count_all ns = omega arith in
      let part = children_parted words bytes (i + 1) i (start + length key + length type + length text) b ns stored.4 in
      let at-middle : middle ≡ i + 1 + count_all (children_first b ns) = rw h.kind at (ends bytes ns i _ stored.4 whole) in
      let first-all = first (children_first b ns) i _ part.first at-middle in
      let others-all = others (children_after b ns) i part.from (rw at-middle part.others) (omega (arith, part.counts)) in
      let values = rw (h.kind, h.key_string, h.type_string, h.width, h.height) at valued in
      let name = rw same at named in
      appends_as (canonical_parts k key type text width height ns (λ x. t (same ∙ x)))
      (appends_join opened (appends_join name (appends_join first-all (appends_join values (appends_join others-all closed)))))
