-- What a document is. Document 01, "Spelling": "A document is a tree of elements and values that keeps the rules above, its root of kind 1, each text one or more code points."
use Rattle.std.specs.Prelude.{ℕ, ◌≡◌, Bool, true, false, cond, List, [], ◌++◌, T, eqb}
use Rattle.base.specs.rules.Limits.{missing}
use Rattle.elements.specs.rules.Class as Class
use Rattle.elements.specs.rules.Inside.{State, Step, go, bad, step, start, ended}
use Rattle.syntax.specs.rules.Atoms.{IsText}
use Rattle.document.specs.rules.Value.{is_value, is_size}

-- An element with its parameters among its children, in the order in which they are written.
mutual
  pub data Tree : Type 0 where
    text : List ℕ → Tree
    value : ℕ → List ℕ → Tree
    size : ℕ → ℕ → Tree
    element : ℕ → Trees → Tree

  pub data Trees : Type 0 where
    empty : Trees
    holds : Tree → Trees → Trees

unfoldable pub tree_class : Tree → ℕ
tree_class (text s) = Class.text
tree_class (value c s) = c
tree_class (size w h) = Class.size
tree_class (element k ts) = k

-- The step is one that goes on, and so does what follows from there.
unfoldable pub GoesOn : Step → (State → Type 0) → Type 0
GoesOn (go s) Rest = Rest s
GoesOn (bad n) Rest = ⊥

-- The tree, inside an element of kind k, keeps the rules: "each text one or more code points".
unfoldable mutual
  pub KeepsRules : ℕ → Tree → Type 0
  KeepsRules k (text s) = IsText s
  KeepsRules k (value c s) = T (is_value k c s)
  KeepsRules k (size w h) = T (is_size w h)
  KeepsRules k (element c ts) = T (Class.is_element c) × KeepRules c (start c) ts

  -- What follows inside an element of kind k, read so far to this state.
  pub KeepRules : ℕ → State → Trees → Type 0
  KeepRules k s empty = T (ended k s)
  KeepRules k s (holds t ts) = KeepsRules k t × GoesOn (step k s (tree_class t)) (λ s'. KeepRules k s' ts)

-- A node of a document: kind, id or target, type, text, image width, image height, children. A string that is missing is empty.
mutual
  pub data Node : Type 0 where
    node : ℕ → List ℕ → List ℕ → List ℕ → ℕ → ℕ → Nodes → Node

  pub data Nodes : Type 0 where
    childless : Nodes
    child : Node → Nodes → Nodes

unfoldable pub key_of : Tree → List ℕ
key_of (text s) = []
key_of (value c s) = cond (eqb c Class.type) [] s
key_of (size w h) = []
key_of (element k ts) = []

unfoldable pub type_of : Tree → List ℕ
type_of (text s) = []
type_of (value c s) = cond (eqb c Class.type) s []
type_of (size w h) = []
type_of (element k ts) = []

unfoldable pub width_or : ℕ → Tree → ℕ
width_or n (text s) = n
width_or n (value c s) = n
width_or n (size w h) = w
width_or n (element k ts) = n

unfoldable pub height_or : ℕ → Tree → ℕ
height_or n (text s) = n
height_or n (value c s) = n
height_or n (size w h) = h
height_or n (element k ts) = n

unfoldable pub key_in : Trees → List ℕ
key_in empty = []
key_in (holds t ts) = key_of t ++ key_in ts

unfoldable pub type_in : Trees → List ℕ
type_in empty = []
type_in (holds t ts) = type_of t ++ type_in ts

unfoldable pub width_in : Trees → ℕ
width_in empty = missing
width_in (holds t ts) = width_or (width_in ts) t

unfoldable pub height_in : Trees → ℕ
height_in empty = missing
height_in (holds t ts) = height_or (height_in ts) t

-- Texts and elements are nodes; values are not.
unfoldable pub is_node : Tree → Bool
is_node (text s) = true
is_node (value c s) = false
is_node (size w h) = false
is_node (element k ts) = true

-- The document's node that a tree says: the order of id and type is forgotten.
unfoldable mutual
  pub says : Tree → Node
  says (text s) = node Class.text [] [] s missing missing childless
  says (value c s) = node 0 [] [] [] missing missing childless
  says (size w h) = node 0 [] [] [] missing missing childless
  says (element k ts) = node k (key_in ts) (type_in ts) [] (width_in ts) (height_in ts) (say_all ts)

  pub say_all : Trees → Nodes
  say_all empty = childless
  say_all (holds t ts) = cond (is_node t) (child (says t) (say_all ts)) (say_all ts)

-- A tree that keeps the rules, its root of kind 1.
pub record Lawful (t : Tree) : Type 0 where
  pub root : tree_class t ≡ Class.document
  pub keeps : KeepsRules 0 t

-- A document: what such a tree says.
pub record Document (d : Node) : Type 0 where
  pub tree : Tree
  pub lawful : Lawful tree
  pub said : says tree ≡ d
