-- The draft whose table a caller lends, and what the check and printing answer of it, for any words, pool, counts and output.
-- Document 01, "Printing returns number and length."
use Rattle.std.specs.Prelude.{ℕ, zero, suc, ◌*◌, ◌+◌, Bool, true, false, cond, ◌&&◌, List, [], ◌∷◌, leb, ltb, length, get_or, take, drop}
use Rattle.base.specs.rules.Limits.{most_bytes, most_nodes, nested_levels, missing}
use Rattle.base.specs.rules.Numbers as Number
use Rattle.elements.specs.rules.Bytes.{same}
use Rattle.document.specs.rules.Document.{Tree, Node, node, Nodes, childless, child, says}
use Rattle.document.specs.reference.RulesTest.{is_document}
use Rattle.document.specs.rules.Record.{record_length}
use Rattle.document.specs.rules.Record as Word
use Rattle.document.specs.rules.Table.{table_of, pool, count}
use Rattle.document.specs.reference.Check.{Check, sound, unsound, check}
use Rattle.document.specs.rules.Memory.{over}
use Rattle.document.specs.rules.Canonical.{layout, tree_levels, canonical}
use Rattle.document.specs.rules.Draft.{Checked, Printed}

-- The test for it looks for the one document that could have this table: each record becomes a node with the strings that its offsets and lengths name,
-- and takes as children the nodes after it whose numbers are below its end. Whether that document has this table is then tested.
pub record Numbered : Type 0 where
  pub number : ℕ
  pub made : Node

unfoldable pub part : List ℕ → ℕ → ℕ → List ℕ
part bytes from size = take size (drop from bytes)

unfoldable pub below : ℕ → List Numbered → Nodes
below e [] = childless
below e (n ∷ ns) = cond (ltb n.number e) (child n.made (below e ns)) childless

unfoldable pub not_below : ℕ → List Numbered → List Numbered
not_below e [] = []
not_below e (n ∷ ns) = cond (ltb n.number e) (not_below e ns) (n ∷ ns)

-- The record r of node number i, and the nodes after it that have no parent yet.
unfoldable pub add_record : List ℕ → ℕ → List ℕ → List Numbered → List Numbered
add_record bytes i r later =
    record {
      number = i;
      made = node (get_or r Word.kind 0) (part bytes (get_or r Word.key_offset 0) (get_or r Word.key_length 0)) (part bytes (get_or r Word.type_offset 0) (get_or r Word.type_length 0))
          (part bytes (get_or r Word.text_offset 0) (get_or r Word.text_length 0)) (get_or r Word.width 0) (get_or r Word.height 0) (below (get_or r Word.end 0) later);
    }
    ∷ not_below (get_or r Word.end 0) later

-- The nodes of n records from number i on.
unfoldable pub rebuild : ℕ → ℕ → List ℕ → List ℕ → List Numbered
rebuild zero i words bytes = []
rebuild (suc n) i words bytes =
    add_record bytes i (take record_length words) (rebuild n (i + 1) (drop record_length words) bytes)

unfoldable pub candidate : List Numbered → Node
candidate [] = node 0 [] [] [] missing missing childless
candidate (n ∷ ns) = n.made

-- The document d, laid out as the tree t, has this table and is within the limits.
unfoldable pub has_draft : Tree → Node → List ℕ → List ℕ → Bool
has_draft t d words bytes =
    is_document t
    && same (table_of d) words
    && same (pool d) bytes
    && leb (count d) most_nodes
    && leb (tree_levels t) nested_levels
    && leb (length (pool d)) most_bytes

-- The tree of the one document that could have this table.
unfoldable pub tree_of_table : ℕ → List ℕ → List ℕ → Tree
tree_of_table n words bytes = layout (candidate (rebuild n 0 words bytes))

-- 21: "output too short; length needed". 0: "the spelling, its length, later bytes unaltered."
unfoldable pub written : List ℕ → List ℕ → Printed
written s out =
    cond (ltb (length out) (length s)) (record { number = Number.output_short; size = length s; out = out })
    (record { number = Number.ok; size = length s; out = over s out })

-- The draft within the limits whose table a caller lends, if there is one.
pub data Draft : Type 0 where
  no_draft : Draft
  the_draft : Node → Draft

unfoldable pub is_there : Draft → Bool
is_there no_draft = false
is_there (the_draft d) = true

-- The first n records and m bytes are looked at; there is no draft where a count is beyond what is lent.
unfoldable pub draft_of : List ℕ → ℕ → List ℕ → ℕ → Draft
draft_of words n bytes m =
    let w = take (record_length * n) words in
    let b = take m bytes in
    let t = tree_of_table n w b in
    cond (leb (record_length * n) (length words) && leb m (length bytes) && has_draft t (says t) w b) (the_draft (says t)) no_draft

unfoldable pub checked_as : Check → Checked
checked_as sound = record { number = Number.ok; node = 0 }
checked_as (unsound n i) = record { number = n; node = i }

unfoldable pub checked_of : Draft → Checked
checked_of no_draft = record { number = Number.not_a_table; node = 0 }
checked_of (the_draft d) = checked_as (check d)

-- "the check first answers 20 for a table that no draft within the printer's limits has, or a count beyond what is lent" (document 02, change request 1).
-- Then 15 to 18 with the number of the first node that has the fault, or 0 at node 0.
unfoldable pub checking : List ℕ → ℕ → List ℕ → ℕ → Checked
checking words n bytes m = checked_of (draft_of words n bytes m)

unfoldable pub printed_of : List ℕ → Draft → Printed
printed_of out no_draft = record { number = Number.not_a_table; size = 0; out = out }
printed_of out (the_draft d) = written (canonical d) out

-- 20 where there is no draft: "The printer prints drafts, so its 20 no longer looks at rows, ids and links" (document 02, change request 1).
unfoldable pub printing : List ℕ → ℕ → List ℕ → ℕ → List ℕ → Printed
printing words n bytes m out = printed_of out (draft_of words n bytes m)
