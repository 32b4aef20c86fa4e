-- The meaning of a nested expression: its first fault 8 to 12 with the place, or the tree that it writes. Document 01, "Numbers answered":
-- "8 to 12 by a walk in text order: at a child 12, 8, 11, then its parameters, each judged whole in turn, then its content."
use Rattle.std.specs.Prelude.{ℕ, cond, List, [], ◌∷◌, ◌++◌, eqb}
use Rattle.base.specs.rules.Numbers as Number
use Rattle.elements.specs.rules.Class as Class
use Rattle.elements.specs.rules.Inside.{State, Step, go, bad, step, start, ended}
use Rattle.syntax.specs.rules.Expression.{Expr, symbol, quoted, list, Exprs, none, and, place}
use Rattle.document.specs.rules.Value.{is_decimal, decimal_after}
use Rattle.document.specs.rules.Document.{Tree, text, value, size, element, Trees, empty, holds}
use Rattle.document.specs.reference.RulesTest.{keeps_rules}
use Rattle.document.specs.rules.Lead.{lead_class, expr_class}

-- The bytes of the one text, or the one symbol, that an id, target or type holds; what holds anything else has none, which no value may be.
unfoldable pub text_bytes : Expr → List ℕ
text_bytes (symbol at s) = s
text_bytes (quoted at s) = s
text_bytes (list at es) = []

unfoldable pub symbol_bytes : Expr → List ℕ
symbol_bytes (symbol at s) = s
symbol_bytes (quoted at s) = []
symbol_bytes (list at es) = []

unfoldable pub only_one : (Expr → List ℕ) → Exprs → List ℕ
only_one f none = []
only_one f (and e none) = f e
only_one f (and e (and e' es)) = []

-- A width or height; what is none has 65,536, which no size may have.
unfoldable pub number_of : Expr → ℕ
number_of e = cond (is_decimal (symbol_bytes e)) (decimal_after 0 (symbol_bytes e)) 65536

unfoldable pub size_tree : Exprs → Tree
size_tree none = size 65536 65536
size_tree (and e none) = size 65536 65536
size_tree (and e (and e' none)) = size (number_of e) (number_of e')
size_tree (and e (and e' (and e'' es))) = size 65536 65536

-- The tree of a list led by a parameter's name.
unfoldable pub value_tree : ℕ → Exprs → Tree
value_tree c es =
    cond (eqb c Class.size) (size_tree es)
    (value c (cond (eqb c Class.type) (only_one symbol_bytes es) (only_one text_bytes es)))

-- The tree of an expression, whether or not it keeps the rules.
unfoldable mutual
  pub tree_of : Expr → Tree
  tree_of (symbol at s) = text s
  tree_of (quoted at s) = text s
  tree_of (list at es) = list_tree es

  pub list_tree : Exprs → Tree
  list_tree none = element 0 empty
  list_tree (and e es) =
      cond (Class.is_element (lead_class e)) (element (lead_class e) (trees_of es)) (value_tree (lead_class e) es)

  pub trees_of : Exprs → Trees
  trees_of none = empty
  trees_of (and e es) = holds (tree_of e) (trees_of es)

-- No fault, or the number and place of the first one.
pub data Verdict : Type 0 where
  fine : Verdict
  fault : ℕ → ℕ → Verdict

-- How far an element has been read, or the first fault in it.
pub data Progress : Type 0 where
  reached : State → Progress
  stopped : ℕ → ℕ → Progress

-- 9 is placed at the element's bracket, the others at the expression itself.
unfoldable pub fault_at : ℕ → ℕ → ℕ → Progress
fault_at n at e = cond (eqb n Number.absent) (stopped n at) (stopped n e)

-- An expression at place e in the element at place `at`: its step, then what is inside it, then what follows.
unfoldable pub advance : ℕ → ℕ → Step → Verdict → (State → Progress) → Progress
advance at e (bad n) v next = fault_at n at e
advance at e (go s) fine next = next s
advance at e (go s) (fault n p) next = stopped n p

-- At the element's end: 9 where it may not end.
unfoldable pub finish : ℕ → ℕ → Progress → Verdict
finish at k (stopped n p) = fault n p
finish at k (reached s) = cond (ended k s) fine (fault Number.absent at)

-- A list led by a parameter's name in an element of kind k: 10 at its bracket where the value is malformed.
unfoldable pub judge_value : ℕ → ℕ → Tree → Verdict
judge_value k at t = cond (keeps_rules k t) fine (fault Number.malformed at)

unfoldable mutual
  -- What is inside an expression that stands in an element of kind k.
  pub judge : ℕ → Expr → Verdict
  judge k (symbol at s) = fine
  judge k (quoted at s) = fine
  judge k (list at es) = judge_list k at es

  pub judge_list : ℕ → ℕ → Exprs → Verdict
  judge_list k at none = fault Number.not_allowed at
  judge_list k at (and e es) =
      cond (Class.is_element (lead_class e)) (finish at (lead_class e) (run at (lead_class e) (start (lead_class e)) es))
      (judge_value k at (value_tree (lead_class e) es))

  -- The expressions that follow in the element of kind k at place `at`, read so far to state s.
  pub run : ℕ → ℕ → State → Exprs → Progress
  run at k s none = reached s
  run at k s (and e es) = advance at (place e) (step k s (expr_class e)) (judge k e) (λ s'. run at k s' es)

-- "The root must be a document, else 8, include and import too."
unfoldable pub judge_root : Expr → Verdict
judge_root e = cond (eqb (expr_class e) Class.document) (judge 0 e) (fault Number.not_allowed (place e))

-- "The place list has one word a node, the offset of its first byte": values are no nodes.
unfoldable mutual
  pub places : Expr → List ℕ
  places (symbol at s) = at ∷ []
  places (quoted at s) = at ∷ []
  places (list at es) = list_places at es

  pub list_places : ℕ → Exprs → List ℕ
  list_places at none = []
  list_places at (and e es) = cond (Class.is_element (lead_class e)) (at ∷ all_places es) []

  pub all_places : Exprs → List ℕ
  all_places none = []
  all_places (and e es) = places e ++ all_places es
