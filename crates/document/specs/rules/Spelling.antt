-- Which texts spell which documents. Document 01, "Spelling". No reader is in these rules.
use Rattle.std.specs.Prelude.{ℕ, ◌≤◌, ◌≡◌, Bool, cond, ◌||◌, List, [], ◌∷◌, ◌++◌, T, eqb, length}
use Rattle.base.specs.rules.Limits.{most_bytes, nested_levels, imperative_levels}
use Rattle.utf8.specs.rules.Scalar.{IsUtf8}
use Rattle.elements.specs.rules.Class as Class
use Rattle.syntax.specs.rules.Syntax.{Forest, another, Ok, bytes_of, levels}
use Rattle.syntax.specs.rules.Expression.{Expr, symbol, quoted, list, Exprs, none, and, place, locate}
use Rattle.document.specs.rules.Value.{is_decimal, decimal_after}
use Rattle.document.specs.rules.Document.{Tree, text, value, size, element, Trees, empty, holds, tree_class, Node, Lawful, says}

pub data Spelling : Type 0 where
  nested imperative : Spelling

-- "(id t) and (target t) hold one text": a symbol or a quoted string.
pub data WritesText (s : List ℕ) : Expr → Type 0 where
  as_symbol : {at : ℕ} → WritesText s (symbol at s)
  as_string : {at : ℕ} → WritesText s (quoted at s)

unfoldable pub holds_text : ℕ → Bool
holds_text c = eqb c Class.id || eqb c Class.target

-- "a width or height in one to five digits"
pub record WritesNumber (n : ℕ) (digits : List ℕ) : Type 0 where
  pub decimal : T (is_decimal digits)
  pub stands_for : decimal_after 0 digits ≡ n

-- Brackets around a name and what follows it.
abbrev pub bracketed : ℕ → ℕ → ℕ → Exprs → Expr
bracketed at p c es = list at (and (symbol p (Class.name_of c)) es)

-- "Nested, an element is spelled as brackets around its name, its parameters and its content, in order; a text, id or target as a symbol ... or a string ...; a type as a symbol".
-- The places in the expressions are free.
mutual
  pub data Writes : Tree → Expr → Type 0 where
    writes_text : {s : List ℕ} {e : Expr} → WritesText s e → Writes (text s) e
    writes_value : {c at p : ℕ} {s : List ℕ} {e : Expr} → T (holds_text c) → WritesText s e → Writes (value c s) (bracketed at p c (and e none))
    writes_type : {at p q : ℕ} {s : List ℕ} → Writes (value Class.type s) (bracketed at p Class.type (and (symbol q s) none))
    writes_size : {at p q r w h : ℕ} {ds es : List ℕ} → WritesNumber w ds → WritesNumber h es → Writes (size w h) (bracketed at p Class.size (and (symbol q ds) (and (symbol r es) none)))
    writes_element : {at p k : ℕ} {ts : Trees} {es : Exprs} → WritesAll ts es → Writes (element k ts) (bracketed at p k es)

  pub data WritesAll : Trees → Exprs → Type 0 where
    writes_none : WritesAll empty none
    writes_and : {t : Tree} {ts : Trees} {e : Expr} {es : Exprs} → Writes t e → WritesAll ts es → WritesAll (holds t ts) (and e es)

-- The parameters of kinds 1 to 7.
unfoldable pub is_block_parameter : ℕ → Bool
is_block_parameter c = eqb c Class.title || eqb c Class.id || eqb c Class.type

-- "64 levels", and imperative "Its brackets nest at most 59 deep."
unfoldable pub most_levels : Spelling → ℕ
most_levels nested = nested_levels
most_levels imperative = imperative_levels

-- What a block has in its brackets, and what follows them.
unfoldable pub parameters_of : Trees → Trees
parameters_of empty = empty
parameters_of (holds t ts) = cond (is_block_parameter (tree_class t)) (holds t (parameters_of ts)) (parameters_of ts)

unfoldable pub content_of : Trees → Trees
content_of empty = empty
content_of (holds t ts) = cond (is_block_parameter (tree_class t)) (content_of ts) (holds t (content_of ts))

-- The expression is brackets around the name of kind k and these expressions.
pub data Bracketed (k : ℕ) (es : Exprs) : Expr → Type 0 where
  brackets_around : {at p : ℕ} → Bracketed k es (bracketed at p k es)

-- "Imperative, kinds 1 to 7 close before their content, which follows." The run of expressions writes the tree, and goes on with `rest`.
mutual
  pub data Flat : Tree → Exprs → Exprs → Type 0 where
    flat_block : {k : ℕ} {ts : Trees} {e : Expr} {es fs rest : Exprs} → T (Class.is_block k) → Bracketed k es e → WritesAll (parameters_of ts) es
        → FlatAll (content_of ts) fs rest → Flat (element k ts) (and e fs) rest
    flat_other : {t : Tree} {e : Expr} {rest : Exprs} → (T (Class.is_block (tree_class t)) → ⊥) → Writes t e → Flat t (and e rest) rest

  pub data FlatAll : Trees → Exprs → Exprs → Type 0 where
    flat_none : {rest : Exprs} → FlatAll empty rest rest
    flat_and : {t : Tree} {ts : Trees} {es more rest : Exprs} → Flat t es more → FlatAll ts more rest → FlatAll (holds t ts) es rest

-- The expressions of a text write the tree: one of them, nested, or all of them, imperative.
pub data WritesIn : Spelling → Tree → Exprs → Type 0 where
  as_nested : {t : Tree} {e : Expr} → Writes t e → WritesIn nested t (and e none)
  as_imperative : {t : Tree} {es : Exprs} → Flat t es none → WritesIn imperative t es

-- The text spells the document d in this spelling: it is UTF-8 and the bytes of concrete syntax whose expressions write a tree that keeps the rules and says d.
-- No limit is in it: those on length and nesting stand in `WithinLimits`.
pub record Spells (spelling : Spelling) (d : Node) (bytes : List ℕ) : Type 0 where
  pub utf8 : IsUtf8 bytes
  pub forest : Forest
  pub syntax : Ok another forest
  pub spelled : bytes_of forest ≡ bytes
  pub tree : Tree
  pub writes : WritesIn spelling tree (locate 0 forest)
  pub lawful : Lawful tree
  pub said : says tree ≡ d

-- The limits on a text: 1, "text over 65,536 bytes", and 6, "65th level (imperative: 60th)".
pub record WithinLimits (spelling : Spelling) (text : List ℕ) (forest : Forest) : Type 0 where
  pub short : length text ≤ most_bytes
  pub nests : levels forest ≤ most_levels spelling

-- The places of the nodes: "The place list has one word a node, the offset of its first byte". A node's first byte is that of the expression that writes it; values are no nodes.
unfoldable mutual
  pub places_of : (t : Tree) (e : Expr) → Writes t e → List ℕ
  places_of (text s) e w = place e ∷ []
  places_of (value c s) e w = []
  places_of (size v h) e w = []
  places_of (element k ts) e (writes_element ws) = place e ∷ places_of_all ts _ ws

  pub places_of_all : (ts : Trees) (es : Exprs) → WritesAll ts es → List ℕ
  places_of_all empty es w = []
  places_of_all (holds t ts) es (writes_and w ws) = places_of t _ w ++ places_of_all ts _ ws

unfoldable mutual
  pub flat_places : {t : Tree} {es rest : Exprs} → Flat t es rest → List ℕ
  flat_places (flat_block {e = e} b x ps cs) = place e ∷ (places_of_all _ _ ps ++ flat_places_all cs)
  flat_places (flat_other b w) = places_of _ _ w

  pub flat_places_all : {ts : Trees} {es rest : Exprs} → FlatAll ts es rest → List ℕ
  flat_places_all flat_none = []
  flat_places_all (flat_and f fs) = flat_places f ++ flat_places_all fs

unfoldable pub places_in : {s : Spelling} {t : Tree} {es : Exprs} → WritesIn s t es → List ℕ
places_in (as_nested w) = places_of _ _ w
places_in (as_imperative f) = flat_places f

-- The place list of a text that spells a document.
unfoldable pub node_places : {s : Spelling} {d : Node} {text : List ℕ} → Spells s d text → List ℕ
node_places sp = places_in sp.writes
