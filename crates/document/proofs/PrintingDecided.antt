-- The draft whose table a caller lends is found by the test, and no other. Document 01, "Printing returns number and length."
use Prim.Native.Nat.{ℕ, ◌*◌}
use mathlib.Core.Path.{◌≡◌, refl, sym, ap, ◌∙◌}
use mathlib.Core.Bool.{Bool, true, false, not, ◌&&◌}
use mathlib.Core.List.{List}
use native.Mathlib.Omega.{arith}
use lib.Dec.{T, leb, leb→le}
use borrow.Author.Tests.{le-leb}
use lib.ListN.{length, take}
use lib.Seq.{length-take-le}
use Rattle.base.proofs.Booleans.{both, T_true, false_not_T, cond_case, true_T}
use Rattle.elements.specs.rules.Bytes.{same}
use Rattle.elements.proofs.Same.{same_equal}
use Rattle.document.specs.rules.Document.{Tree, Node, says}
use Rattle.document.specs.reference.RulesTest.{is_document}
use Rattle.document.specs.rules.Record.{record_length}
use Rattle.document.specs.rules.Table.{table_of, pool, count}
use Rattle.document.specs.rules.Canonical.{layout, tree_levels}
use Rattle.document.specs.reference.Printing.{has_draft, tree_of_table, Draft, no_draft, the_draft, is_there, draft_of}
use Rattle.document.specs.rules.Draft.{IsDraft, Holds}
use Rattle.document.proofs.RulesTest.{test_lawful}
use Rattle.document.proofs.Records.{table_length}
use Rattle.document.proofs.IdsAndReferences.{same_refl}
use Rattle.document.proofs.CanonicalLayout.{laid_out}
use Rattle.document.proofs.CanonicalLevels.{document_levels}
use Rattle.document.proofs.Rebuild.{rebuilt}

-- The table of a document passes the test.
pub has_draft_lem : (d : Node) (words bytes : List ℕ) → IsDraft d words bytes → T (has_draft (layout d) d words bytes)
unfolding has_draft
has_draft_lem d words bytes x =
    rw (
      T_true (is_document (layout d)) (laid_out d x.document).0,
      x.node_words,
      T_true (same words words) (same_refl words),
      x.pool_bytes,
      T_true (same bytes bytes) (same_refl bytes),
      T_true (leb (count d) 4096) x.few_nodes,
      T_true (leb (tree_levels (layout d)) 64) x.nests_within,
    )
    (rw x.pool_bytes at x.short_pool)

-- What passes the test is the table of what the tree says.
pub draft_of_lem : (t : Tree) (words bytes : List ℕ) → T (has_draft t (says t) words bytes) → IsDraft (says t) words bytes
unfolding has_draft
draft_of_lem t words bytes h =
    let d = says t in
    let b : Bool = is_document t && same (table_of d) words in
    let c : Bool = b && same (pool d) bytes in
    let e : Bool = c && leb (count d) 4096 in
    let (h1, short) = both (e && leb (tree_levels t) 64) (leb (length (pool d)) 65536) h in
    let (h2, shallow) = both e (leb (tree_levels t) 64) h1 in
    let (h3, few) = both c (leb (count d) 4096) h2 in
    let (h4, strings) = both b (same (pool d) bytes) h3 in
    let (lawful, table) = both (is_document t) (same (table_of d) words) h4 in
    record {
      document = record { tree = t; lawful = test_lawful t lawful; said = refl };
      node_words = same_equal (table_of (says t)) words table;
      pool_bytes = same_equal (pool (says t)) bytes strings;
      few_nodes = few;
      nests_within = rw (document_levels t lawful) shallow;
      short_pool = short;
    }

-- The tree that the test is made of is the layout of the one document that has the table.
tree_of_table_lem : (n : ℕ) (words bytes : List ℕ) (d : Node) → length words ≡ record_length * n → IsDraft d words bytes → tree_of_table n words bytes ≡ layout d
unfolding tree_of_table
tree_of_table_lem n words bytes d l x =
    let e : count d ≡ n = omega (arith, table_length d, ap length x.node_words) in
    ap layout (rw (e, x.node_words, x.pool_bytes) at (rebuilt d))

pub no_both : (r : Bool) → not r ≡ true → r ≡ true → ⊥
no_both true a b = absurd (false_not_T (sym a) tt)
no_both false a b = absurd (false_not_T (sym b) tt)

module _ (words : List ℕ) (n : ℕ) (bytes : List ℕ) (m : ℕ) where
  abbrev w : List ℕ
  w = take (record_length * n) words

  abbrev b : List ℕ
  b = take m bytes

  -- Given the table of a draft, it is that draft.
  pub held_draft : (d : Node) → Holds words n bytes m d → draft_of words n bytes m ≡ the_draft d
  unfolding draft_of
  held_draft d h =
      let x = h.draft in
      let said : says (layout d) ≡ d = (laid_out d x.document).1 in
      let tested : has_draft (layout d) d w b ≡ true = T_true (has_draft (layout d) d w b) (has_draft_lem d w b x) in
      rw (
        le-leb (record_length * n) (length words) h.words_within,
        le-leb m (length bytes) h.bytes_within,
        tree_of_table_lem n w b d (length-take-le (record_length * n) words h.words_within) x,
        said,
        tested,
      )

  tested_draft : T (leb (record_length * n) (length words) && leb m (length bytes) && has_draft (tree_of_table n w b) (says (tree_of_table n w b)) w b)
      → Holds words n bytes m (says (tree_of_table n w b))
  tested_draft h =
      let t = tree_of_table n w b in
      let (h1, table) = both (leb (record_length * n) (length words) && leb m (length bytes)) (has_draft t (says t) w b) h in
      let (hn, hm) = both (leb (record_length * n) (length words)) (leb m (length bytes)) h1 in
      record { words_within = leb→le _ _ hn; bytes_within = leb→le _ _ hm; draft = draft_of_lem t w b table }

  -- Whatever draft it is, its table is held; and where it is none, no draft's is.
  abbrev pub DraftHeld : Draft → Type 0
  DraftHeld no_draft = (d : Node) → Holds words n bytes m d → ⊥
  DraftHeld (the_draft d) = Holds words n bytes m d

  missing : leb (record_length * n) (length words) && leb m (length bytes) && has_draft (tree_of_table n w b) (says (tree_of_table n w b)) w b ≡ false
      → (d : Node) → Holds words n bytes m d → ⊥
  unfolding draft_of
  missing e d h =
      let there : no_draft ≡ the_draft d = rw e at (held_draft d h) in
      let z : ◌≡◌ {A = ℕ} 0 1 = cc in
      omega arith

  pub draft_held : DraftHeld (draft_of words n bytes m)
  unfolding draft_of
  draft_held =
      let t = tree_of_table n w b in
      cond_case DraftHeld (leb (record_length * n) (length words) && leb m (length bytes) && has_draft t (says t) w b) (λ e. tested_draft (true_T e)) missing

  pub none_held : ((d : Node) → Holds words n bytes m d → ⊥) → draft_of words n bytes m ≡ no_draft
  none_held none = go (draft_of words n bytes m) draft_held
    where
      go : (x : Draft) → DraftHeld x → x ≡ no_draft
      go no_draft h = refl
      go (the_draft d) h = absurd (none d h)

  -- Where the test found one, its table is held.
  pub is_there_lem : (r : Bool) → r ≡ is_there (draft_of words n bytes m) → r ≡ true → (d : Node) × Holds words n bytes m d
  unfolding is_there
  is_there_lem r is t = go (draft_of words n bytes m) draft_held is
    where
      go : (x : Draft) → DraftHeld x → r ≡ is_there x → (d : Node) × Holds words n bytes m d
      go no_draft h e = absurd (false_not_T (sym t ∙ e) tt)
      go (the_draft d) h e = (d, h)
