-- What the value of a parameter is read from. It serves the contracts of private functions.
use Rattle.std.specs.Prelude.{ℕ, ◌+◌, ◌≤◌, ◌<◌, ◌≡◌, Bool, cond, not, ◌&&◌, ◌||◌, List, [], eqb, Option, Some, None, length, drop}
use Rattle.elements.specs.rules.Class as Class
use Rattle.syntax.specs.rules.Expression.{Expr, Exprs, none, and}
use Rattle.atoms.specs.Atom.{atom_value}
use Rattle.lexer.specs.Token.{a_symbol, a_string}
use Rattle.document.specs.reference.Meaning.{only_one, text_bytes, symbol_bytes, number_of}
use Rattle.reader.specs.internal.RunStands.{RunStands}
use Rattle.reader.specs.internal.Tape.{Tape, value_place, noted}
use Rattle.reader.specs.internal.WalkAnswer.{Walked}
use Rattle.reader.specs.declared.value.One.{One}
use Rattle.reader.specs.declared.value.Number.{Number}

-- What is seen may be the value of a parameter of class c: a symbol, or, but in a type, a string.
unfoldable pub holds_sort : ℕ → ℕ → Bool
holds_sort c n = eqb n a_symbol || (not (eqb c Class.type) && eqb n a_string)

-- The bytes of the one text, or of a type the one symbol, that a parameter of class c holds.
unfoldable pub held_bytes : ℕ → Exprs → List ℕ
held_bytes c es = cond (eqb c Class.type) (only_one symbol_bytes es) (only_one text_bytes es)

-- Those bytes v, at the place q and of the length that were told, end the run at the place e that was told.
pub record Alone (c : ℕ) (es : Exprs) (m q : ℕ) (v : List ℕ) (l e : ℕ) : Type 0 where
  pub placed : value_place es ≡ q
  pub bytes : held_bytes c es ≡ v
  pub some : 0 < length v
  pub long : l ≡ length v
  pub ends : e ≡ m

-- What a parameter of class c holds from place i on is what r says.
pub record Holds (s : List ℕ) (i c : ℕ) (r : One) : Type 0 where
  pub within : (i + r.length ≤ r.end) × (r.end ≤ length s) × (r.place ≤ length s)
  pub alone : (es : Exprs) (m : ℕ) → RunStands s i es m → Alone c es m r.place (atom_value (drop r.place s)) r.length r.end

-- Or nothing that counts.
abbrev pub HoldsOne : List ℕ → ℕ → ℕ → Option One → Type 0
HoldsOne s i c (Some r) = Holds s i c r
HoldsOne s i c None = (es : Exprs) (m : ℕ) → RunStands s i es m → held_bytes c es ≡ []

-- The expressions es begin with a number n, and the others stand from place j on.
pub record BeginsWithNumber (s : List ℕ) (es : Exprs) (m n j : ℕ) : Type 0 where
  pub first : Expr
  pub others : Exprs
  pub made : es ≡ and first others
  pub is : number_of first ≡ n
  pub stands : RunStands s j others m

-- The largest width or height that a size may have.
abbrev pub most_number : ℕ
most_number = 65535

-- What stands first, if anything, is no number of a size.
abbrev pub Unfit : Exprs → Type 0
Unfit none = Unit {0}
Unfit (and e es) = most_number < number_of e

-- A number of a size stands at place i.
pub record Begins (s : List ℕ) (i : ℕ) (r : Number) : Type 0 where
  pub small : r.number ≤ most_number
  pub within : (i ≤ r.next) × (r.next ≤ length s)
  pub begins : (es : Exprs) (m : ℕ) → RunStands s i es m → BeginsWithNumber s es m r.number r.next

-- Or none that a size may have.
abbrev pub ReadsNumber : List ℕ → ℕ → Option Number → Type 0
ReadsNumber s i (Some r) = Begins s i r
ReadsNumber s i None = (es : Exprs) (m : ℕ) → RunStands s i es m → Unfit es

-- The number that digits write, or one that no size has where they are not one to five digits.
abbrev pub number_or_none : Option ℕ → ℕ
number_or_none (Some n) = n
number_or_none None = most_number + 1

-- Where what stands from place i on is the value of a parameter of class c, z is the tape t with that value noted of a node. A tape has `most_nodes` entries.
pub record Notes (s : List ℕ) (i c node : ℕ) (t : Tape) (r : Walked) (z : Tape) : Type 0 where
  pub notes : (es : Exprs) (m : ℕ) → RunStands s i es m → r.number ≡ 0 → z ≡ noted t node c es
