-- What stands at a place of a text, as code that goes through it sees it: the bridge between places and located expressions. It serves the contracts of private functions.
use Rattle.std.specs.Prelude.{ℕ, ◌+◌, ◌<◌, ◌≡◌, List, length, get_or, drop}
use Rattle.syntax.specs.rules.Byte.{Bracket, ByteClass, blank, return, quote, ordinary, opening, closing, byte_class}
use Rattle.syntax.specs.rules.Expression.{symbol, quoted, list, Exprs, none, and}
use Rattle.syntax.specs.reference.Scan.{ordinary_run}
use Rattle.atoms.specs.Atom.{atom_value, string_at}

-- A byte of this class stands at i.
pub record Has (s : List ℕ) (i : ℕ) (c : ByteClass) : Type 0 where
  pub inside : i < length s
  pub is : byte_class (get_or s i 0) ≡ c

-- A run of expressions ends at i: there is a closing bracket, or the text ends.
pub data Ends (s : List ℕ) (i : ℕ) : Type 0 where
  at_bracket : (x : Bracket) → Has s i (closing x) → Ends s i
  at_end : i ≡ length s → Ends s i

-- From place i on stand the expressions es, and the run ends at e.
pub data RunStands (s : List ℕ) : ℕ → Exprs → ℕ → Type 0 where
  ended : {i : ℕ} → Ends s i → RunStands s i none i
  after_blank : {i e : ℕ} {es : Exprs} → Has s i blank → RunStands s (i + 1) es e → RunStands s i es e
  after_line_end : {i e : ℕ} {es : Exprs} → Has s i return → get_or s (i + 1) 0 ≡ 0x0A → RunStands s (i + 2) es e → RunStands s i es e
  a_symbol : {i e : ℕ} {es : Exprs} → Has s i ordinary → RunStands s (i + length (ordinary_run (drop i s))) es e
      → RunStands s i (and (symbol i (ordinary_run (drop i s))) es) e
  a_string : {i e : ℕ} {es : Exprs} → Has s i quote → (string_at i (drop i s)).number ≡ 0 → RunStands s (string_at i (drop i s)).next es e
      → RunStands s i (and (quoted i (atom_value (drop i s))) es) e
  a_list : {i m e : ℕ} {x : Bracket} {inner es : Exprs} → Has s i (opening x) → RunStands s (i + 1) inner m → Has s m (closing x) → RunStands s (m + 1) es e
      → RunStands s i (and (list i inner) es) e
