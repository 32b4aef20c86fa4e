-- What a read answers and leaves in the lent memory, for any text and any lent lengths. Document 01, "Numbers answered": "The first group in this order that applies decides."
use Rattle.std.specs.Prelude.{ℕ, Bool, false, cond, List, ltb, length}
use Rattle.base.specs.rules.Limits.{most_bytes, nested_levels}
use Rattle.base.specs.rules.Numbers as Number
use Rattle.utf8.specs.reference.Sequence.{valid_up_to}
use Rattle.syntax.specs.rules.Expression.{Expr, Exprs, none, and, place, locate, depth}
use Rattle.syntax.specs.reference.Scan.{Scanned, scan}
use Rattle.syntax.specs.reference.Scan as Scan
use Rattle.document.specs.rules.Document.{Node, says}
use Rattle.document.specs.rules.Spelling.{Spelling, nested, imperative, most_levels}
use Rattle.document.specs.reference.Meaning.{Verdict, fine, fault, judge_root, tree_of, places}
use Rattle.document.specs.reference.Imperative.{regroup}
use Rattle.document.specs.rules.Table.{count, pool}
use Rattle.document.specs.rules.Memory.{Memory, Outcome, filled, no_room, node_room, refusal}

-- A text that is UTF-8 and not too long: refused by 3 to 12 or 19, or the nested expression of a document.
pub data Reading : Type 0 where
  refused : ℕ → ℕ → Reading
  read : Expr → Reading

-- "imperative: the nested form would pass 64 levels"
unfoldable pub is_too_deep : Spelling → Expr → Bool
is_too_deep nested e = false
is_too_deep imperative e = ltb nested_levels (depth e)

-- 8 to 12, then 19.
unfoldable pub judged : Spelling → Expr → Verdict → Reading
judged s e (fault n p) = refused n p
judged s e fine = cond (is_too_deep s e) (refused Number.nested_too_deep 0) (read e)

-- 7: "no expression; nested text with a second one" at "text length; the second".
unfoldable pub one_expression : Spelling → ℕ → Exprs → Reading
one_expression nested n none = refused Number.not_one_expression n
one_expression nested n (and e none) = judged nested e (judge_root e)
one_expression nested n (and e (and e' es)) = refused Number.not_one_expression (place e')
one_expression imperative n none = refused Number.not_one_expression n
one_expression imperative n (and e es) = judged imperative (regroup e es) (judge_root (regroup e es))

unfoldable pub after_scan : Spelling → ℕ → Scanned → Reading
after_scan s n (Scan.refused m p) = refused m p
after_scan s n (Scan.scanned f) = one_expression s n (locate 0 f)

unfoldable pub reading : Spelling → List ℕ → Reading
reading s text = after_scan s (length text) (scan (most_levels s) text)

-- 13, then 14. "reading stops after 14" (document 02, change request 1).
unfoldable pub stored : List ℕ → Memory → List ℕ → Node → Outcome
stored text m ps d =
    cond (ltb (node_room m) (count d)) (no_room text m Number.nodes_short d)
    (cond (ltb (length m.pool) (length (pool d))) (no_room text m Number.pool_short d)
    (filled text m ps d))

unfoldable pub after_reading : List ℕ → Memory → Reading → Outcome
after_reading text m (refused n p) = refusal text m n p
after_reading text m (read e) = stored text m (places e) (says (tree_of e))

-- "text over 65,536 bytes" is 1 at 65,536; ill-formed UTF-8 is 2 at the "first byte of the sequence".
unfoldable pub outcome : Spelling → List ℕ → Memory → Outcome
outcome s text m =
    cond (ltb most_bytes (length text)) (refusal text m Number.text_too_long most_bytes)
    (cond (ltb (valid_up_to text) (length text)) (refusal text m Number.not_utf8 (valid_up_to text))
    (after_reading text m (reading s text)))
