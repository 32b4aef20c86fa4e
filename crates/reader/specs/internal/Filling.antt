-- What the fill of a run of expressions leaves in the lent memory. It serves the contracts of private functions.
use Rattle.std.specs.Prelude.{ℕ, ◌+◌, ◌*◌, ◌≤◌, ◌<◌, ◌≡◌, cond, List, [], ◌∷◌, ◌++◌, eqb, length, drop, set}
use Rattle.std.proofs.lemmas.List.Edits.{sets}
use Rattle.elements.specs.rules.Class as Class
use Rattle.atoms.specs.Atom.{atom_value}
use Rattle.syntax.specs.rules.Expression.{Exprs}
use Rattle.base.specs.rules.Limits.{most_bytes, most_nodes}
use Rattle.document.specs.rules.Document.{Nodes, say_all}
use Rattle.document.specs.reference.Meaning.{trees_of}
use Rattle.document.specs.rules.Record.{record_length}
use Rattle.document.specs.rules.Table.{offset}
use Rattle.reader.specs.declared.tape.Entry.{Entry}
use Rattle.reader.specs.declared.fill.Lent.{Lent}
use Rattle.reader.specs.declared.fill.Span.{Span}

-- How far a fill has got: the numbers of the next node and the next pool byte, and the lent memory.
pub record Filling : Type 0 where
  pub node : ℕ
  pub bytes : ℕ
  pub words : List ℕ
  pub places : List ℕ
  pub pool : List ℕ

-- It is so far, where node n is the next, with what the code has lent.
abbrev pub filling : ℕ → Lent → Filling
filling n l = record { node = n; bytes = l.bytes; words = l.nodes.now; places = l.places.now; pool = l.pool.now }

-- The same slices are lent at a and at z.
abbrev pub SameSlices : Lent → Lent → Type 0
SameSlices a z = (z.nodes.ghost_name ≡ a.nodes.ghost_name) × (z.places.ghost_name ≡ a.places.ghost_name) × (z.pool.ghost_name ≡ a.pool.ghost_name)

-- The nodes that a run of expressions says.
unfoldable pub said_by : Exprs → Nodes
said_by es = say_all (trees_of es)

-- The bytes of the symbol or string that a word of the tape says the place of; none where it says none.
unfoldable pub held_at : List ℕ → ℕ → List ℕ
held_at s p = cond (eqb p 0) [] (atom_value (drop p s))

-- One row more, of these words and of these strings, which follow each other in the pool.
unfoldable pub with_row : ℕ → ℕ → ℕ → ℕ → ℕ → ℕ → List ℕ → List ℕ → List ℕ → Filling → Filling
with_row at kind parent end width height key type text a = record {
  node = a.node + 1;
  bytes = a.bytes + length key + length type + length text;
  words = sets a.words (record_length * a.node) (
      kind
      ∷ parent
      ∷ end
      ∷ offset a.bytes key
      ∷ length key
      ∷ offset (a.bytes + length key) type
      ∷ length type
      ∷ offset (a.bytes + length key + length type) text
      ∷ length text
      ∷ width
      ∷ height
      ∷ []);
  places = set a.places a.node at;
  pool = sets a.pool a.bytes (key ++ (type ++ text));
}

-- The row of the next node of the text s from its entry. A text has what stands at its place, and any other node the strings that its values hold.
unfoldable pub next_row : List ℕ → Entry → Filling → Filling
next_row s e a =
    cond (eqb e.class Class.text)
    (with_row e.place e.class e.parent e.end e.width e.height [] [] (held_at s e.place) a)
    (with_row e.place e.class e.parent e.end e.width e.height (held_at s e.key) (held_at s e.typename) [] a)

-- The string s was put into the pool between a and z, and r says where.
pub record PutString (s : List ℕ) (a z : Lent) (r : Span) : Type 0 where
  pub offset_is : r.offset ≡ offset a.bytes s
  pub length_is : r.length ≡ length s
  pub bytes_are : z.bytes ≡ a.bytes + length s
  pub pool_is : z.pool.now ≡ sets a.pool.now a.bytes s
  pub nodes_are : z.nodes.now ≡ a.nodes.now
  pub places_are : z.places.now ≡ a.places.now

-- The place and the record of node n, with strings that are put, were written between a and z.
pub record Written (e : Entry) (n : ℕ) (a : Lent) (key type text : Span) (z : Lent) : Type 0 where
  pub bytes_are : z.bytes ≡ a.bytes
  pub pool_is : z.pool.now ≡ a.pool.now
  pub places_are : z.places.now ≡ set a.places.now n e.place
  pub nodes_are : z.nodes.now
      ≡ sets a.nodes.now (record_length * n) (
      e.class
      ∷ e.parent
      ∷ e.end
      ∷ key.offset
      ∷ key.length
      ∷ type.offset
      ∷ type.length
      ∷ text.offset
      ∷ text.length
      ∷ e.width
      ∷ e.height
      ∷ [])

-- In a text within the limits there is room for the row of the next node. A row has two strings of the text at most: so no place of the pool passes a word.
pub record RoomFor (s : List ℕ) (a : Filling) : Type 0 where
  pub short : length s ≤ most_bytes
  pub few : a.node < most_nodes
  pub words_within : record_length * a.node + record_length ≤ length a.words
  pub places_within : a.node < length a.places
  pub bytes_within : a.bytes ≤ 2 * most_bytes * a.node
