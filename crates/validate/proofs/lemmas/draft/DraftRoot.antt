-- A table is that of a draft where a lawful document node stands in it, and nothing else.
use Prim.Native.Nat.{ℕ, ◌*◌, ◌≤◌}
use mathlib.Core.Path.{◌≡◌, refl, sym, ap, ◌∙◌}
use mathlib.Core.Bool.{Bool, true, false, true≢false}
use mathlib.Core.List.{List}
use native.Mathlib.Omega.{arith}
use lib.Dec.{eqb, eqb→eq, leb→le, le→leb}
use lib.ListN.{length}
use borrow.Author.Tests.{eq-eqb}
use Rattle.base.proofs.Booleans.{both}
use Rattle.elements.specs.rules.Class as Class
use Rattle.base.specs.rules.Limits.{missing}
use Rattle.document.specs.rules.Record.{record_length}
use Rattle.document.specs.rules.Document.{tree_class, Node}
use Rattle.document.specs.reference.RulesTest.{keeps_rules, is_document}
use Rattle.document.specs.rules.Table.{count, pool}
use Rattle.document.specs.rules.Canonical.{layout, tree_levels}
use Rattle.document.proofs.RulesTest.{test_lawful}
use Rattle.document.proofs.Records.{table_length}
use Rattle.document.proofs.CanonicalLayout.{laid_out}
use Rattle.table.specs.Stored.{word_at}
use Rattle.validate.specs.internal.DraftWalk.{LawfulNodeAt}
use Rattle.document.specs.rules.Draft.{IsDraft}
use Rattle.table.proofs.Stored.{table_stored, stored_table}
use Rattle.validate.proofs.lemmas.draft.ChildWalk.{class_word}

-- What the root's record and the lengths have to be.
pub record RootAt (words bytes : List ℕ) (e q : ℕ) : Type 0 where
  pub root : LawfulNodeAt words bytes 0 missing 0 64 e q
  pub of_kind : word_at words 0 0 ≡ Class.document
  pub all_words : length words ≡ record_length * e
  pub all_bytes : length bytes ≡ q
  pub few_words : length words ≤ 45056
  pub few_bytes : length bytes ≤ 65536

pub root_draft : {words bytes : List ℕ} {e q : ℕ} → RootAt words bytes e q → (d : Node) × IsDraft d words bytes
unfolding is_document
root_draft {words} {bytes} r =
    let a = r.root in
    let d = a.made in
    let same = stored_table d words bytes a.stored (omega (arith, r.all_words, a.next)) (omega (arith, r.all_bytes, a.after)) in
    let class : tree_class (layout d) ≡ Class.document = class_word words bytes 0 missing 0 d a.stored ∙ r.of_kind in (
      d,
      record {
        document = record { tree = layout d; lawful = test_lawful (layout d) (rw (eq-eqb _ _ class) a.lawful.keeps); said = a.lawful.said };
        node_words = same.0;
        pool_bytes = same.1;
        few_nodes = le→leb (count d) 4096 (omega (arith, r.all_words, r.few_words, a.next));
        nests_within = le→leb (tree_levels (layout d)) 64 a.lawful.levels;
        short_pool = le→leb (length (pool d)) 65536 (omega (arith, r.all_bytes, r.few_bytes, a.after));
      },
    )

pub draft_root : {d : Node} {words bytes : List ℕ} → IsDraft d words bytes → RootAt words bytes (count d) (length (pool d))
unfolding is_document
draft_root {d} {words} {bytes} i =
    let stored = table_stored d words bytes i.node_words i.pool_bytes in
    let (lawful, said) = laid_out d i.document in
    let (class, keeps) = both (eqb (tree_class (layout d)) Class.document) (keeps_rules 0 (layout d)) lawful in
    let size : length words ≡ record_length * count d = sym (ap length i.node_words) ∙ table_length d in
    let bytes-size : length bytes ≡ length (pool d) = sym (ap length i.pool_bytes) in
    record {
      root = record {
        made = d;
        stored = stored;
        lawful = record { keeps = keeps; said = said; levels = leb→le (tree_levels (layout d)) 64 i.nests_within };
        next = omega arith;
        after = omega arith;
      };
      of_kind = sym (class_word words bytes 0 missing 0 d stored) ∙ eqb→eq (tree_class (layout d)) Class.document class;
      all_words = size;
      all_bytes = bytes-size;
      few_words = omega (arith, leb→le (count d) 4096 i.few_nodes);
      few_bytes = omega (arith, leb→le (length (pool d)) 65536 i.short_pool);
    }

-- An answer tells whether the table is that of a draft.
abbrev Tells : List ℕ → List ℕ → Bool → Type 0
Tells words bytes answer = (answer ≡ true → (d : Node) × IsDraft d words bytes) × ((d : Node) → IsDraft d words bytes → answer ≡ true)

pub draft_told : {words bytes : List ℕ} {e q : ℕ} (answer : Bool) → (answer ≡ true → RootAt words bytes e q)
    → (answer ≡ false → (e q : ℕ) → RootAt words bytes e q → ⊥) → Tells words bytes answer
draft_told true f g = (λ t. root_draft (f t), λ d i. refl)
draft_told false f g = (λ t. root_draft (f t), λ d i. absurd (g refl (count d) (length (pool d)) (draft_root i)))

pub no_draft : {words bytes : List ℕ} → ((e q : ℕ) → RootAt words bytes e q → ⊥) → Tells words bytes false
no_draft g = draft_told {e = 0} {q = 0} false (λ t. absurd (true≢false (sym t))) (λ t. g)
