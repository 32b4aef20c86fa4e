-- A document's node table, places and pool are what is written from its tape.
use Prim.Native.Nat.{ℕ, ◌≤◌}
use mathlib.Core.Path.{◌≡◌, refl, ap, ◌∙◌}
use mathlib.Core.Bool.{true}
use mathlib.Core.List.{List, append-nil}
use native.Mathlib.Omega.{arith}
use lib.ListN.{length}
use lib.Seq.{sets}
use Rattle.elements.specs.rules.Class as Class
use Rattle.syntax.specs.rules.Expression.{Expr, symbol, quoted, list, none, and}
use Rattle.base.specs.rules.Limits.{missing}
use Rattle.document.specs.rules.Document.{childless, child, is_node, says, say_all}
use Rattle.document.specs.rules.Lead.{list_class, expr_class}
use Rattle.document.specs.reference.Meaning.{fine, judge_root, tree_of, trees_of, places, all_places}
use Rattle.document.specs.rules.Table.{pool, pool_all, rows_all, table_of}
use Rattle.document.proofs.BlockExpressions.{root_document}
use Rattle.reader.specs.internal.Counts.{node_count}
use Rattle.reader.specs.internal.Tape.{Tape, entry_at, taped, Located}
use Rattle.reader.specs.internal.Filling.{Filling, said_by}
use Rattle.reader.proofs.lemmas.fill.Rows.{rows_of}
use Rattle.reader.proofs.lemmas.fill.RunWrites.{WroteRun}
use Rattle.reader.proofs.lemmas.fill.DocumentRows.{wrote_one}

-- The whole of a document in the lent memory.
abbrev pub WroteDocument : Expr → Filling → Filling → Type 0
WroteDocument e a z =
    (z.words ≡ sets a.words 0 (table_of (says (tree_of e)))) × (z.places ≡ sets a.places 0 (places e))
    × (z.pool ≡ sets a.pool 0 (pool (says (tree_of e))))

root_node : (e : Expr) → expr_class e ≡ Class.document → is_node (tree_of e) ≡ true
unfolding tree_of is_node expr_class list_class Class.is_element Class.is_kind
root_node (symbol at s) c = refl
root_node (quoted at s) c = refl
root_node (list at none) c = refl
root_node (list at (and lead es)) c = rw c

root_said : (e : Expr) → is_node (tree_of e) ≡ true → said_by (and e none) ≡ child (says (tree_of e)) childless
unfolding said_by trees_of say_all
root_said e i = rw i

root_whole : (e : Expr) (a z : Filling) → a.node ≡ 0 → a.bytes ≡ 0 → expr_class e ≡ Class.document → WroteRun missing (and e none) a z → WroteDocument e a z
unfolding table_of rows_all pool_all all_places
root_whole e a z n b c w = (
  w.words_are ∙ rw (n, b, root_said e (root_node e c), append-nil),
  w.places_are ∙ rw (n, append-nil),
  w.pool_is ∙ rw (b, root_said e (root_node e c), append-nil),
)

pub filled_whole : (s : List ℕ) (T : Tape) (k : ℕ) (a z : Filling) → a.node ≡ 0 → a.bytes ≡ 0 → k ≤ 4096 → z ≡ rows_of s T k a → (e : Expr) (t : Tape)
    → Located s e → judge_root e ≡ fine → length t ≡ 4096 → T ≡ taped t 0 missing e → k ≡ node_count e → WroteDocument e a z
filled_whole s T k a z n b few w e t o f l is c =
    let r = root_document e f in
    let v : WroteRun missing (and e none) a (rows_of s T (node_count e) a) =
    wrote_one s T e 0 t 0 missing a n (omega arith) (λ i h h'. ap (λ (u : Tape). entry_at u i) is) o r.1 in
    root_whole e a z n b r.0 (rw (w, c) v)
