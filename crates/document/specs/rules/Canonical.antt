-- The canonical spelling of a document. Document 01, "Canonical spelling".
use Rattle.std.specs.Prelude.{ℕ, suc, ◌+◌, ◌/◌, ◌%◌, max, Bool, true, false, cond, ◌||◌, List, [], ◌∷◌, ◌++◌, eqb, ltb}
use Rattle.elements.specs.rules.Class as Class
use Rattle.elements.specs.rules.Rules.{Slot, must, may, id_type, rule_of}
use Rattle.base.specs.rules.Limits.{missing}
use Rattle.document.specs.rules.Document.{Tree, text, value, size, element, Trees, empty, holds, Node, node, Nodes, childless, child}

-- A string that is there, as a value of class c.
unfoldable pub value_before : ℕ → List ℕ → Trees → Trees
value_before c [] ts = ts
value_before c (b ∷ bs) ts = holds (value c (b ∷ bs)) ts

unfoldable pub size_before : ℕ → ℕ → Trees → Trees
size_before w h ts = cond (eqb w missing) ts (holds (size w h) ts)

-- A block has an id, any other element a target.
unfoldable pub key_class : ℕ → ℕ
key_class k = cond (Class.is_block k) Class.id Class.target

-- An element's first parameter is a title or a summary, which is a node.
unfoldable pub node_first : List Slot → Bool
node_first [] = false
node_first (must c ∷ ps) = eqb c Class.title || eqb c Class.summary
node_first (may c ∷ ps) = false
node_first (id_type ∷ ps) = false

-- The values go before the children, or after the first where that is a title or a summary.
unfoldable pub place_values : Bool → (Trees → Trees) → Trees → Trees
place_values false values ts = values ts
place_values true values empty = values empty
place_values true values (holds t ts) = holds t (values ts)

-- The tree of a document's node: "id before type".
unfoldable mutual
  pub layout : Node → Tree
  layout (node k key type string w h ns) =
      cond (eqb k Class.text) (text string)
      (element k
      (place_values (node_first (rule_of k).parameters)
      (λ ts. value_before (key_class k) key (size_before w h (value_before Class.type type ts)))
      (layout_all ns)))

  pub layout_all : Nodes → Trees
  layout_all childless = empty
  layout_all (child n ns) = holds (layout n) (layout_all ns)

-- "lower-case hex"
unfoldable pub hex_byte : ℕ → ℕ
hex_byte d = cond (ltb d 10) (0x30 + d) (0x57 + d)

unfoldable pub unicode_before : ℕ → List ℕ → List ℕ
unicode_before b k = 0x5C ∷ 0x75 ∷ 0x30 ∷ 0x30 ∷ hex_byte (b / 16) ∷ hex_byte (b % 16) ∷ k

-- "In strings `\" \n \r \t`; backslash as `\u005c`; other code points below U+0020 and U+007F as `\u` with lower-case hex; the rest raw."
unfoldable pub byte_before : ℕ → List ℕ → List ℕ
byte_before b k =
    cond (eqb b 0x22) (0x5C ∷ 0x22 ∷ k)
    (cond (eqb b 0x0A) (0x5C ∷ 0x6E ∷ k)
    (cond (eqb b 0x0D) (0x5C ∷ 0x72 ∷ k)
    (cond (eqb b 0x09) (0x5C ∷ 0x74 ∷ k)
    (cond (eqb b 0x5C || ltb b 0x20 || eqb b 0x7F) (unicode_before b k) (b ∷ k)))))

unfoldable pub bytes_before : List ℕ → List ℕ → List ℕ
bytes_before [] k = k
bytes_before (b ∷ bs) k = byte_before b (bytes_before bs k)

unfoldable pub quoted_before : List ℕ → List ℕ → List ℕ
quoted_before s k = 0x22 ∷ bytes_before s (0x22 ∷ k)

-- The last decimal digit of a number.
unfoldable pub digit : ℕ → ℕ
digit n = 0x30 + n % 10

-- The decimal digits of a number below 100,000, "without leading zeros".
unfoldable pub digits : ℕ → List ℕ
digits n =
    cond (ltb n 10) (digit n ∷ [])
    (cond (ltb n 100) (digit (n / 10) ∷ digit n ∷ [])
    (cond (ltb n 1000) (digit (n / 100) ∷ digit (n / 10) ∷ digit n ∷ [])
    (cond (ltb n 10000) (digit (n / 1000) ∷ digit (n / 100) ∷ digit (n / 10) ∷ digit n ∷ [])
    (digit (n / 10000) ∷ digit (n / 1000) ∷ digit (n / 100) ∷ digit (n / 10) ∷ digit n ∷ []))))

-- "square brackets" around the name of class c and what follows it.
unfoldable pub brackets_before : ℕ → (List ℕ → List ℕ) → List ℕ → List ℕ
brackets_before c inside k = 0x5B ∷ (Class.name_of c ++ inside (0x5D ∷ k))

-- "ids and types as symbols, targets and texts quoted"
unfoldable pub string_before : ℕ → List ℕ → List ℕ → List ℕ
string_before c s k = cond (eqb c Class.target) (quoted_before s k) (s ++ k)

-- The spelling of a tree in front of the bytes k, "one space between elements".
unfoldable mutual
  pub spelled_before : Tree → List ℕ → List ℕ
  spelled_before (text s) k = quoted_before s k
  spelled_before (value c s) k = brackets_before c (λ r. 0x20 ∷ string_before c s r) k
  spelled_before (size w h) k = brackets_before Class.size (λ r. 0x20 ∷ (digits w ++ (0x20 ∷ (digits h ++ r)))) k
  spelled_before (element c ts) k = brackets_before c (λ r. inside_before ts r) k

  pub inside_before : Trees → List ℕ → List ℕ
  inside_before empty k = k
  inside_before (holds t ts) k = 0x20 ∷ spelled_before t (inside_before ts k)

unfoldable pub canonical : Node → List ℕ
canonical d = spelled_before (layout d) []

-- How deep the brackets of the spelling nest, those of parameters too.
unfoldable mutual
  pub tree_levels : Tree → ℕ
  tree_levels (text s) = 0
  tree_levels (value c s) = 1
  tree_levels (size w h) = 1
  tree_levels (element c ts) = suc (most_levels_in ts)

  pub most_levels_in : Trees → ℕ
  most_levels_in empty = 0
  most_levels_in (holds t ts) = max (tree_levels t) (most_levels_in ts)
