-- Laws of the nodes that stand in a table, as the spelling takes them: their words and strings, and which of their children come first.
use Prim.Native.Nat.{ℕ, suc, ◌+◌, ◌<◌, ◌≤◌}
use mathlib.Core.Path.{◌≡◌, refl, ◌∙◌}
use mathlib.Core.Bool.{Bool, true, false}
use mathlib.Core.List.{List, [], ◌∷◌}
use native.Mathlib.Nat.{add-zero}
use native.Mathlib.Omega.{arith}
use lib.Dec.{lit<}
use lib.ListN.{length}
use Rattle.elements.specs.rules.Rules.{rule_of}
use Rattle.document.specs.rules.Record as Word
use Rattle.document.specs.rules.Document.{Node, node, Nodes, childless, child}
use Rattle.document.specs.rules.Table.{count, count_all, offset}
use Rattle.document.specs.reference.Printing.{part}
use Rattle.document.specs.rules.Canonical.{node_first}
use Rattle.document.proofs.TableDetermines.{count_positive}
use Rattle.table.specs.Stored.{word_at, Stored, StoredAll}
use Rattle.table.proofs.Stored.{recorded_word}
use Rattle.table.specs.Stored.{string_at}
use Rattle.printer.specs.internal.Inside.{children_first}

-- A string stands where its offset and length words say.
part_offset : (bytes s : List ℕ) (p : ℕ) → part bytes p (length s) ≡ s → part bytes (offset p s) (length s) ≡ s
unfolding part offset
part_offset bytes [] p e = refl
part_offset bytes (b ∷ s) p e = e

-- The words and strings of a node that stands in the table.
pub record WordsOf (words bytes : List ℕ) (i k : ℕ) (key type text : List ℕ) (w h : ℕ) (ns : Nodes) : Type 0 where
  pub kind : word_at words i Word.kind ≡ k
  pub end : word_at words i Word.end ≡ i + suc (count_all ns)
  pub key_string : string_at words bytes i Word.key_offset ≡ key
  pub type_string : string_at words bytes i Word.type_offset ≡ type
  pub text_string : string_at words bytes i Word.text_offset ≡ text
  pub width : word_at words i Word.width ≡ w
  pub height : word_at words i Word.height ≡ h

pub words_of : (words bytes : List ℕ) (i parent p k : ℕ) (key type text : List ℕ) (w h : ℕ) (ns : Nodes)
    → Stored words bytes i parent p (node k key type text w h ns) → WordsOf words bytes i k key type text w h ns
unfolding Stored string_at
words_of words bytes i parent p k key type text w h ns (e, s1, s2, s3, a) = record {
  kind = recorded_word words _ i Word.kind e (lit< tt);
  end = recorded_word words _ i Word.end e (lit< tt);
  key_string = rw (recorded_word words _ i Word.key_offset e (lit< tt), recorded_word words _ i Word.key_length e (lit< tt)) (part_offset bytes key p s1);
  type_string = rw (recorded_word words _ i Word.type_offset e (lit< tt), recorded_word words _ i Word.type_length e (lit< tt)) (part_offset bytes type _ s2);
  text_string = rw (recorded_word words _ i Word.text_offset e (lit< tt), recorded_word words _ i Word.text_length e (lit< tt)) (part_offset bytes text _ s3);
  width = recorded_word words _ i Word.width e (lit< tt);
  height = recorded_word words _ i Word.height e (lit< tt);
}

pub end_word : (n : Node) (words bytes : List ℕ) (i parent p : ℕ) → Stored words bytes i parent p n → word_at words i Word.end ≡ i + count n
unfolding count
end_word (node k key type text w h ns) words bytes i parent p s = (words_of words bytes i parent p k key type text w h ns s).end

-- Nodes that count none are none.
pub no_nodes : (ns : Nodes) → count_all ns ≡ 0 → ns ≡ childless
unfolding count_all
no_nodes childless e = refl
no_nodes (child n ns) e = absurd (omega (arith, count_positive n))

pub first_of_none : (b : Bool) (ns : Nodes) → count_all ns ≡ 0 → count_all (children_first b ns) ≡ 0
unfolding count_all children_first
first_of_none false ns e = refl
first_of_none true childless e = refl
first_of_none true (child n ns) e = absurd (omega (arith, count_positive n))

-- Where nodes stand, the first one's end word says where it ends.
pub first_stands : (words bytes : List ℕ) (ns : Nodes) (i parent p : ℕ) → StoredAll words bytes i parent p ns → 0 < count_all ns
    → (word_at words i Word.end ≡ i + count_all (children_first true ns)) × (0 < count_all (children_first true ns)) × (count_all (children_first true ns) ≤ count_all ns)
unfolding count_all children_first Stored
first_stands words bytes childless i parent p s h = absurd (omega arith)
first_stands words bytes (child n ns) i parent p (s, t) h =
    let one : count_all (child n childless) ≡ count n = add-zero (count n) in
    let e = end_word n words bytes i parent p s in
    (omega arith, omega (arith, count_positive n), omega arith)

-- Where the children end that are spelled before the values of node i, by each way in which the code finds it.
module _ (words : List ℕ) (i end : ℕ) where
  abbrev pub FirstEnd : ℕ → Type 0
  FirstEnd r = (bytes : List ℕ) (ns : Nodes) (parent p : ℕ) → StoredAll words bytes (i + 1) parent p ns → end ≡ i + 1 + count_all ns
      → r ≡ i + 1 + count_all (children_first (node_first (rule_of (word_at words i Word.kind)).parameters) ns)

  pub first_childless : end ≤ i + 1 → FirstEnd (i + 1)
  first_childless h bytes ns parent p s e =
      let none : count_all ns ≡ 0 = omega arith in
      rw (first_of_none (node_first (rule_of (word_at words i Word.kind)).parameters) ns none) (omega arith)

  pub first_untitled : (k : ℕ) (t : Bool) → k ≡ word_at words i Word.kind → t ≡ node_first (rule_of k).parameters → t ≡ false → FirstEnd (i + 1)
  unfolding children_first count_all
  first_untitled k t w f e bytes ns parent p s g = rw (← w, ← f, e) (omega arith)

  pub first_titled : (k : ℕ) (t : Bool) (r : ℕ) → k ≡ word_at words i Word.kind → t ≡ node_first (rule_of k).parameters → t ≡ true → r ≡ word_at words (i + 1) Word.end
      → i + 1 < end → FirstEnd r
  first_titled k t r w f e v h bytes ns parent p s g =
      rw (← w, ← f, e) (v ∙ (first_stands words bytes ns (i + 1) parent p s (omega arith)).0)

  -- The end word of a child that stands there lies behind it and within the element.
  pub first_ends : (r : ℕ) → r ≡ word_at words (i + 1) Word.end → i + 1 < end → (i + 1 < r → r ≤ end → ⊥) → FirstEnd (i + 1)
  first_ends r v h never bytes ns parent p s g =
      let st = first_stands words bytes ns (i + 1) parent p s (omega arith) in
      absurd (never (omega (arith, st.0, st.1)) (omega (arith, st.0, st.2)))
