-- Demand 2 over the definitions: the canonical spelling of a document is a nested spelling of it, so reading it gives that document back, and the table of a draft
-- that was read is printed.
use Prim.Native.Nat.{ℕ, ◌≤◌}
use mathlib.Core.Path.{◌≡◌, refl}
use mathlib.Core.List.{List}
use native.Mathlib.Omega.{arith}
use lib.Dec.{leb→le}
use borrow.Author.Tests.{le-leb}
use lib.ListN.{length}
use Rattle.base.proofs.Booleans.{true_T}
use Rattle.syntax.specs.rules.Syntax.{levels}
use Rattle.document.specs.rules.Document.{Node, Document}
use Rattle.base.specs.rules.Limits.{most_bytes}
use Rattle.document.specs.rules.Spelling.{Spelling, nested, most_levels, Spells}
use Rattle.document.specs.rules.Table.{count, pool, table_of}
use Rattle.document.specs.rules.Canonical.{layout, tree_levels, canonical}
use Rattle.document.specs.rules.Draft.{IsDraft}
use Rattle.document.specs.rules.Memory.{Memory}
use Rattle.document.specs.rules.Readable.{Fits, Readable}
use Rattle.document.proofs.CanonicalLayout.{laid_out}
use Rattle.document.proofs.CanonicalLevels.{spelled_levels}
use Rattle.document.proofs.CanonicalSpells.{canonical_spells}

-- The canonical spelling of a document spells it, by the rules alone, and nests as deep as the document's layout.
pub canonical_spelling : (d : Node) → Document d → (sp : Spells nested d (canonical d)) × (levels sp.forest ≡ tree_levels (layout d))
unfolding canonical
canonical_spelling d doc =
    let (lawful, said) = laid_out d doc in
    rw said at (canonical_spells (layout d) lawful)

-- What is printed of a table can be read back, where it is short enough and the room is enough.
pub readable_back : (d : Node) (words bytes : List ℕ) (m : Memory) → IsDraft d words bytes → length (canonical d) ≤ most_bytes → Fits d m
    → Readable nested (canonical d) m d
unfolding most_levels
readable_back d words bytes m x short fits =
    let (sp, deep) = canonical_spelling d x.document in
    let nests : tree_levels (layout d) ≤ 64 = leb→le _ _ x.nests_within in
    record {
      spells = sp;
      within = record { short = short; nests = omega (arith, deep) };
      few_nodes = leb→le _ _ x.few_nodes;
      fits = fits;
    }

-- The table of a draft that a text spells is one that can be checked and printed.
pub printable : (s : Spelling) (text : List ℕ) (m : Memory) (d : Node) → Readable s text m d → length (pool d) ≤ 65536 → IsDraft d (table_of d) (pool d)
printable s text m d r short =
    let sp = r.spells in
    record {
      document = record { tree = sp.tree; lawful = sp.lawful; said = sp.said };
      node_words = refl;
      pool_bytes = refl;
      few_nodes = true_T (le-leb (count d) 4096 r.few_nodes);
      nests_within = true_T (le-leb (tree_levels (layout d)) 64 (spelled_levels s d text sp r.within));
      short_pool = true_T (le-leb (length (pool d)) 65536 short);
    }
