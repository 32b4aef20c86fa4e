-- The loop over nodes that stand side by side: what is written of those that are left completes the spelling of all.
use Prim.Native.Nat.{ℕ, ◌+◌, ◌-◌, ◌<◌, ◌≤◌, min}
use mathlib.Core.Path.{◌≡◌, sym, ◌∙◌}
use mathlib.Core.List.{List, [], ◌∷◌, ◌++◌, append-nil}
use native.Mathlib.Nat.{zero-add}
use native.Mathlib.Omega.{arith}
use lib.ListN.{length, take, drop, length-drop, drop_of_length-le}
use lib.Seq.{sets, take_all}
use Rattle.base.specs.Adds.{greatest_word, Adds}
use Rattle.base.proofs.Adding.{adds_tail}
use Rattle.document.specs.rules.Record as Word
use Rattle.document.specs.rules.Document.{Node, Nodes, childless, child}
use Rattle.document.specs.rules.Table.{count, count_all, pool}
use Rattle.document.specs.rules.Canonical.{canonical}
use Rattle.table.specs.Stored.{word_at, Stored, StoredAll}
use Rattle.printer.specs.internal.Inside.{inside_all}
use Rattle.printer.specs.declared.put.Output.{Output}
use Rattle.printer.specs.internal.Appends.{Appends}
use Rattle.printer.proofs.put.Appending.{appends_as, appends_none, appends_join}
use Rattle.document.proofs.TableDetermines.{count_positive}
use Rattle.printer.proofs.spell.StoredNodes.{end_word, no_nodes}
use Rattle.printer.proofs.spell.ElementParts.{inside_child, inside_none}

-- What `spell` ensures of a node's spelling.
abbrev pub SpellsNode : List ℕ → List ℕ → ℕ → ℕ → List ℕ → ℕ → List ℕ → Type 0
SpellsNode words bytes i end out r later =
    (d : Node) (parent p : ℕ) → Stored words bytes i parent p d → end ≡ i + count d → length (canonical d) ≤ greatest_word
    → (r ≡ length (canonical d)) × (later ≡ sets out 0 (canonical d))

spelled_adds : (d : Node) (out : List ℕ) (r : ℕ) (later : List ℕ)
    → (length (canonical d) ≤ greatest_word → (r ≡ length (canonical d)) × (later ≡ sets out 0 (canonical d))) → Adds (canonical d) 0 out r later
spelled_adds d out r later f =
    record { next_index = λ h. (f (rw zero-add at h)).0 ∙ sym (zero-add (length (canonical d))); bytes_stored = λ h. (f (rw zero-add at h)).1 }

-- The tail of the output from j on as it is lent, and the output when it comes back.
abbrev tail : List ℕ → ℕ → List ℕ
tail mid j = take (length mid - j) (drop j mid)

abbrev pub back : List ℕ → ℕ → List ℕ → List ℕ
back mid j part = take j mid ++ (part ++ drop (length mid - j) (drop j mid))

tail_is : (mid : List ℕ) (j : ℕ) → tail mid j ≡ drop j mid
tail_is mid j = take_all (length mid - j) (drop j mid) (simp length-drop (omega arith))

back_is : (mid part : List ℕ) (j : ℕ) → back mid j part ≡ take j mid ++ part
back_is mid part j =
    let past : length (drop j mid) ≤ length mid - j = simp length-drop (omega arith) in
    let none : drop (length mid - j) (drop j mid) ≡ [] = drop_of_length-le (drop j mid) past in
    rw (none, append-nil)

-- The nodes that are left from number i on, when so much is written.
pub record NodesLeft (words bytes : List ℕ) (parent end : ℕ) (start : Output) (ns : Nodes) (i : ℕ) (a : Output) : Type 0 where
  pub rest : Nodes
  pub from : ℕ
  pub stand : StoredAll words bytes i parent from rest
  pub ends : end ≡ i + count_all rest
  pub whole : (b : Output) → Appends a (inside_all rest) b → Appends start (inside_all ns) b

module _ (words bytes : List ℕ) (first end : ℕ) (start : Output) where
  abbrev pub Upto : ℕ → Output → Type 0
  Upto i a =
      (ns : Nodes) (parent p : ℕ) → StoredAll words bytes first parent p ns → end ≡ first + count_all ns → NodesLeft words bytes parent end start ns i a

  abbrev pub Done : Output → Type 0
  Done b = (ns : Nodes) (parent p : ℕ) → StoredAll words bytes first parent p ns → end ≡ first + count_all ns → Appends start (inside_all ns) b

  pub upto_start : Upto first start
  upto_start ns parent p s e = record { rest = ns; from = p; stand = s; ends = e; whole = λ b a. a }

  pub upto_done : (i : ℕ) (a : Output) → Upto i a → end ≤ i → Done a
  upto_done i a u h ns parent p s e =
      let l = u ns parent p s e in
      let none : l.rest ≡ childless = no_nodes l.rest (omega (arith, l.ends)) in
      l.whole a (rw none (appends_as (sym inside_none) (appends_none a)))

  -- The first of the nodes that are left.
  record NextNode (parent i : ℕ) (a : Output) (ns : Nodes) : Type 0 where
    next_node : Node
    others : Nodes
    from : ℕ
    stands : Stored words bytes i parent from next_node
    stand : StoredAll words bytes (i + count next_node) parent (from + length (pool next_node)) others
    ends : end ≡ i + (count next_node + count_all others)
    whole : (b : Output) → Appends a (inside_all (child next_node others)) b → Appends start (inside_all ns) b

  next_of : (parent i : ℕ) (a : Output) (ns : Nodes) → NodesLeft words bytes parent end start ns i a → i < end → NextNode parent i a ns
  unfolding count_all StoredAll
  next_of parent i a ns l h = go l.rest l.stand l.ends l.whole
    where
      go : (rest : Nodes) → StoredAll words bytes i parent l.from rest → end ≡ i + count_all rest
          → ((b : Output) → Appends a (inside_all rest) b → Appends start (inside_all ns) b) → NextNode parent i a ns
      go childless s e w = absurd (omega arith)
      go (child n ms) s e w = record { next_node = n; others = ms; from = l.from; stands = s.0; stand = s.1; ends = e; whole = w }

  -- The end word of a node that stands there lies behind it and within its parent.
  pub upto_never : (i next : ℕ) (a : Output) → Upto i a → i < end → next ≡ word_at words i Word.end → (i < next → next ≤ end → ⊥) → Done a
  upto_never i next a u h w never ns parent p s e =
      let n = next_of parent i a ns (u ns parent p s e) h in
      let word : next ≡ i + count n.next_node = w ∙ end_word n.next_node words bytes i parent n.from n.stands in
      absurd (never (omega (arith, count_positive n.next_node)) (omega (arith, n.ends)))

  -- A space and the first of the nodes, in the output's tail.
  pub upto_turn : (i next j size : ℕ) (part : List ℕ) (a : Output) {b c : Output} → Upto i a → i < end → next ≡ word_at words i Word.end → Appends a (0x20 ∷ []) b
      → j ≡ min b.at (length b.out.now) → SpellsNode words bytes i next (tail b.out.now j) size part
      → c.out.ghost_name ≡ b.out.ghost_name → c.out.now ≡ back b.out.now j part → c.at ≡ b.at + size → Upto next c
  upto_turn i next j size part a {b} {c} u h w p f spelled same now index ns parent from s e =
      let n = next_of parent i a ns (u ns parent from s e) h in
      let d : Node = n.next_node in
      let word : next ≡ i + count d = w ∙ end_word d words bytes i parent n.from n.stands in
      let adds : Adds (canonical d) b.at b.out.now c.at c.out.now
      = rw (now, back_is b.out.now part j) (adds_tail f (rw tail_is at (spelled_adds d (tail b.out.now j) size part (spelled d parent n.from n.stands word))) (λ x. index)) in
      let child : Appends b (canonical d) c = record { same_output = same; adds = adds } in
      record {
        rest = n.others;
        from = n.from + length (pool d);
        stand = rw word n.stand;
        ends = omega (arith, n.ends);
        whole = λ last q. n.whole last (appends_as (sym (inside_child d n.others)) (appends_join p (appends_join child q)));
      }
