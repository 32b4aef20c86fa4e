-- What the judging walk notes of each node, for the fill: an entry a node, in the order of the nodes.
-- It serves the contracts of private functions.
use Rattle.std.specs.Prelude.{ℕ, ◌+◌, ◌<◌, ◌≡◌, cond, List, eqb, drop, set, get_or}
use Rattle.elements.specs.rules.Class as Class
use Rattle.syntax.specs.rules.Expression.{Expr, symbol, quoted, list, Exprs, none, and, place}
use Rattle.atoms.specs.Atom.{atom_value}
use Rattle.base.specs.rules.Limits.{missing}
use Rattle.document.specs.rules.Document.{width_or, height_or}
use Rattle.document.specs.rules.Lead.{lead_class}
use Rattle.document.specs.reference.Meaning.{size_tree}
use Rattle.reader.specs.declared.tape.Entry.{Entry}
use Rattle.reader.specs.internal.Counts.{node_count, node_count_in}

abbrev pub Tape : Type 0
Tape = List Entry

-- What the tape has of a node that was not met.
abbrev pub not_met : Entry
not_met = record { place = 0; class = 0; parent = 0; end = 0; key = 0; typename = 0; width = 0; height = 0 }

-- The entry of node n.
abbrev pub entry_at : Tape → ℕ → Entry
entry_at t n = get_or t n not_met

-- Node n is entered: it stands at `at`, and none of its values is known yet.
unfoldable pub entered : Tape → ℕ → ℕ → ℕ → ℕ → ℕ → Tape
entered t n at c parent end =
    set t n (record { place = at; class = c; parent = parent; end = end; key = 0; typename = 0; width = missing; height = missing })

-- An entry with another end, key, type or size.
abbrev pub with_end : Entry → ℕ → Entry
with_end e end = record {
  place = e.place;
  class = e.class;
  parent = e.parent;
  end = end;
  key = e.key;
  typename = e.typename;
  width = e.width;
  height = e.height;
}

abbrev pub with_key : Entry → ℕ → Entry
with_key e key = record {
  place = e.place;
  class = e.class;
  parent = e.parent;
  end = e.end;
  key = key;
  typename = e.typename;
  width = e.width;
  height = e.height;
}

abbrev pub with_type : Entry → ℕ → Entry
with_type e type = record {
  place = e.place;
  class = e.class;
  parent = e.parent;
  end = e.end;
  key = e.key;
  typename = type;
  width = e.width;
  height = e.height;
}

abbrev pub with_size : Entry → ℕ → ℕ → Entry
with_size e width height = record {
  place = e.place;
  class = e.class;
  parent = e.parent;
  end = e.end;
  key = e.key;
  typename = e.typename;
  width = width;
  height = height;
}

-- Node n is left: its last descendant is the one before `end`.
unfoldable pub left : Tape → ℕ → ℕ → Tape
left t n end = set t n (with_end (entry_at t n) end)

-- The place of what its id or target holds, of what its type holds, and its size.
unfoldable pub key_noted : Tape → ℕ → ℕ → Tape
key_noted t n place = set t n (with_key (entry_at t n) place)

unfoldable pub type_noted : Tape → ℕ → ℕ → Tape
type_noted t n place = set t n (with_type (entry_at t n) place)

unfoldable pub size_noted : Tape → ℕ → ℕ → ℕ → Tape
size_noted t n width height = set t n (with_size (entry_at t n) width height)

-- The place of what a parameter holds, which is the first of these; 0 where it holds nothing.
unfoldable pub value_place : Exprs → ℕ
value_place none = 0
value_place (and e es) = place e

-- A list of class c, which holds es after its name, is a value of node n.
unfoldable pub noted : Tape → ℕ → ℕ → Exprs → Tape
noted t n c es =
    cond (eqb c Class.size) (size_noted t n (width_or 0 (size_tree es)) (height_or 0 (size_tree es)))
    (cond (eqb c Class.type) (type_noted t n (value_place es)) (key_noted t n (value_place es)))

-- The tape after an expression, or a run of them, in the element with number `parent`, where n is the number of the next node.
unfoldable mutual
  pub taped : Tape → ℕ → ℕ → Expr → Tape
  taped t n parent (symbol at s) = entered t n at Class.text parent (n + 1)
  taped t n parent (quoted at s) = entered t n at Class.text parent (n + 1)
  taped t n parent (list at es) = taped_list t n parent at es

  pub taped_list : Tape → ℕ → ℕ → ℕ → Exprs → Tape
  taped_list t n parent at none = t
  taped_list t n parent at (and lead es) =
      cond (Class.is_element (lead_class lead))
      (left (taped_all (entered t n at (lead_class lead) parent 0) (n + 1) n es) n (n + 1 + node_count_in es))
      (noted t parent (lead_class lead) es)

  pub taped_all : Tape → ℕ → ℕ → Exprs → Tape
  taped_all t n parent none = t
  taped_all t n parent (and e es) = taped_all (taped t n parent e) (n + node_count e) parent es

-- Each symbol and string of the expression stands at its place in the text s, and none at place 0, which is the root's bracket or before it:
-- so 0 on the tape is no place of a value.
abbrev mutual
  pub Located : List ℕ → Expr → Type 0
  Located s (symbol at b) = (0 < at) × (atom_value (drop at s) ≡ b)
  Located s (quoted at b) = (0 < at) × (atom_value (drop at s) ≡ b)
  Located s (list at es) = LocatedAll s es

  pub LocatedAll : List ℕ → Exprs → Type 0
  LocatedAll s none = Unit {0}
  LocatedAll s (and e es) = Located s e × LocatedAll s es
