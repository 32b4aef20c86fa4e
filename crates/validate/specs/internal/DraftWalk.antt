-- The walk that judges a table's records: definitions that serve the contracts of private functions.
use Rattle.std.specs.Prelude.{ℕ, ◌+◌, ◌*◌, ◌≤◌, ◌<◌, ◌≡◌, Bool, true, false, cond, ◌&&◌, List, T, eqb, length, Option, Some, None}
use Rattle.elements.specs.rules.Class as Class
use Rattle.document.specs.rules.Record as Word
use Rattle.elements.specs.rules.Rules.{rule_of}
use Rattle.elements.specs.rules.Inside.{State, go, step, start}
use Rattle.inside.specs.Machine.{state_of}
use Rattle.base.specs.rules.Limits.{missing}
use Rattle.document.specs.rules.Document.{Trees, Node, Nodes, says, say_all}
use Rattle.document.specs.reference.RulesTest.{keeps_rules, keep_rules}
use Rattle.document.specs.rules.Record.{record_length}
use Rattle.document.specs.rules.Table.{count, count_all, pool, pool_all}
use Rattle.document.specs.rules.Canonical.{node_first, place_values, layout, layout_all, key_class, value_before, size_before, tree_levels, most_levels_in}
use Rattle.table.specs.Stored.{word_at, string_at, Stored, StoredAll}
use Rattle.validate.specs.declared.record.Row.{Row}
use Rattle.validate.specs.declared.draft.Walked.{Walked}
use Rattle.validate.specs.declared.draft.Entered.{Entered}
use Rattle.validate.specs.declared.draft.Led.{Led}
use Rattle.validate.specs.declared.draft.Led.TheVariants.{Due, Taken}

-- An answer tells whether something holds.
pub record Decided (P : Type 0) (answer : Bool) : Type 0 where
  pub sound : answer ≡ true → P
  pub complete : P → answer ≡ true

-- An answer tells whether something holds, by the place that follows it.
pub record DecidesEnd (P : Type 0) (end : ℕ) (answer : Option ℕ) : Type 0 where
  pub sound : (e : ℕ) → answer ≡ Some e → P × (e ≡ end)
  pub complete : P → answer ≡ Some end

-- An answer tells whether something holds of the next node number and the next place in the pool, and of which.
pub record DecidesNext (P : ℕ → ℕ → Type 0) (answer : Option Walked) : Type 0 where
  pub sound : (w : Walked) → answer ≡ Some w → P w.next w.pool
  pub complete : (e q : ℕ) → P e q → answer ≡ Some (record { next = e; pool = q })

-- "A missing string is 0, 0": the offset of n bytes that would stand at p.
unfoldable pub offset_of : ℕ → ℕ → ℕ
offset_of p n = cond (eqb n 0) 0 p

-- Words j and j + 1 name a string that stands at p, within a pool of that size.
pub record NamesStringAt (words : List ℕ) (i j p size : ℕ) : Type 0 where
  pub offset : word_at words i j ≡ offset_of p (word_at words i (j + 1))
  pub within : p + word_at words i (j + 1) ≤ size

-- "id or target, then type, then text": where the strings of node i end, from p on.
abbrev pub strings_end : List ℕ → ℕ → ℕ → ℕ
strings_end words i p = p + word_at words i Word.key_length + word_at words i Word.type_length + word_at words i Word.text_length

-- There is a record of node i, with this parent, and its strings stand from p on.
pub record RecordAt (words : List ℕ) (size i parent p : ℕ) : Type 0 where
  pub whole : record_length * i + record_length ≤ length words
  pub under : word_at words i Word.parent ≡ parent
  pub key_stands : NamesStringAt words i Word.key_offset p size
  pub type_at : NamesStringAt words i Word.type_offset (p + word_at words i Word.key_length) size
  pub text_at : NamesStringAt words i Word.text_offset (p + word_at words i Word.key_length + word_at words i Word.type_length) size

-- A record has this parent and end, a text, and no other string and no size.
pub record TextAlone (words : List ℕ) (i parent end : ℕ) : Type 0 where
  pub under : word_at words i Word.parent ≡ parent
  pub ends : word_at words i Word.end ≡ end
  pub no_key_at : word_at words i Word.key_offset ≡ 0
  pub no_key : word_at words i Word.key_length ≡ 0
  pub no_type_at : word_at words i Word.type_offset ≡ 0
  pub no_type : word_at words i Word.type_length ≡ 0
  pub some : word_at words i Word.text_length ≡ 0 → ⊥
  pub no_width : word_at words i Word.width ≡ missing
  pub no_height : word_at words i Word.height ≡ missing

-- The levels of an element's values.
unfoldable pub value_levels : List ℕ → ℕ → ℕ
value_levels words i = cond (eqb (word_at words i Word.key_length) 0 && (eqb (word_at words i Word.type_length) 0 && eqb (word_at words i Word.width) missing)) 0 1

-- Such a record may be that of an element: it has a kind and no text, width and height are missing together, and with its values it nests at most `left` levels.
pub record ElementAt (words : List ℕ) (i left : ℕ) : Type 0 where
  pub kind_low : Class.document ≤ word_at words i Word.kind
  pub kind_high : word_at words i Word.kind ≤ Class.cell
  pub no_text : word_at words i Word.text_length ≡ 0
  pub sized : word_at words i Word.width ≡ missing → word_at words i Word.height ≡ missing
  pub levels : value_levels words i < left

-- The values of node i, of kind k, in canonical order before the trees.
unfoldable pub node_values : List ℕ → List ℕ → ℕ → ℕ → Trees → Trees
node_values words bytes k i ts =
    value_before (key_class k) (string_at words bytes i Word.key_offset)
    (size_before (word_at words i Word.width) (word_at words i Word.height)
    (value_before Class.type (string_at words bytes i Word.type_offset) ts))

abbrev pub row_values : Row → ℕ → Trees → Trees
row_values row k = node_values row.table.now.nodes.now row.table.now.pool.now k row.number

-- The trees inside an element of kind k keep the rules from the state on that an answer gives, where it gives one.
abbrev pub keep_from : ℕ → Option ℕ → Trees → Bool
keep_from k None ts = false
keep_from k (Some state) ts = keep_rules k (state_of k state) ts

-- What W puts before the trees inside an element of kind k is taken, if the answer is a state, and leads from one state to the other.
pub record TakesValues (k : ℕ) (W : Trees → Trees) (state : ℕ) (answer : Option ℕ) : Type 0 where
  pub taken : (ts : Trees) → keep_rules k (state_of k state) (W ts) ≡ keep_from k answer ts

-- Where W is due, it goes behind the first of the trees; where not, it was put before.
abbrev pub behind_first : Bool → (Trees → Trees) → Trees → Trees
behind_first due W ts = cond due (place_values true W ts) ts

-- The same of the trees of an element's children, with W due or taken.
abbrev pub keep_led : ℕ → (Trees → Trees) → Option Led → Trees → Bool
keep_led k W None ts = false
keep_led k W (Some Due) ts = keep_rules k (state_of k 0) (behind_first true W ts)
keep_led k W (Some (Taken state)) ts = keep_rules k (state_of k state) (behind_first false W ts)

-- The values W of node i, of kind k, whose children end at `end`, are taken before the children and lead to a state, or are due behind the first child, which is
-- there, if there is such an answer.
pub record ValuesLead (k i end : ℕ) (W : Trees → Trees) (answer : Option Led) : Type 0 where
  pub taken : (ns : Nodes) → end ≡ i + 1 + count_all ns
      → keep_rules k (start k) (place_values (node_first (rule_of k).parameters) W (layout_all ns)) ≡ keep_led k W answer (layout_all ns)
  pub before_child : answer ≡ Some Due → i + 1 < end

-- A node keeps the rules, its layout says it, and nests at most `left` levels.
pub record LawfulWithin (left : ℕ) (n : Node) : Type 0 where
  pub keeps : T (keeps_rules 0 (layout n))
  pub said : says (layout n) ≡ n
  pub levels : tree_levels (layout n) ≤ left

-- A lawful node stands in the table with number i and in the pool from p on; the number e and the place q follow it.
pub record LawfulNodeAt (words bytes : List ℕ) (i parent p left e q : ℕ) : Type 0 where
  pub made : Node
  pub stored : Stored words bytes i parent p made
  pub lawful : LawfulWithin left made
  pub next : e ≡ i + count made
  pub after : q ≡ p + length (pool made)

abbrev pub LawfulRow : Row → ℕ → ℕ → ℕ → ℕ → ℕ → Type 0
LawfulRow row parent p left e q = LawfulNodeAt row.table.now.nodes.now row.table.now.pool.now row.number parent p left e q

-- Lawful children of node i, of kind k and read so far to the state s, stand in the table from number `at` up to `end` and in the pool from p to q.
-- W is what stands among their trees.
pub record ChildrenAt (words bytes : List ℕ) (W : Trees → Trees) (k i : ℕ) (s : State) (at p end left e q : ℕ) : Type 0 where
  pub made : Nodes
  pub stored : StoredAll words bytes at i p made
  pub keep : T (keep_rules k s (W (layout_all made)))
  pub said : say_all (layout_all made) ≡ made
  pub levels : most_levels_in (layout_all made) ≤ left
  pub end_is : end ≡ at + count_all made
  pub next : e ≡ end
  pub after : q ≡ p + length (pool_all made)

abbrev pub RowChildren : Row → (Trees → Trees) → ℕ → State → ℕ → ℕ → ℕ → ℕ → ℕ → ℕ → Type 0
RowChildren row W k s at p end left e q = ChildrenAt row.table.now.nodes.now row.table.now.pool.now W k row.number s at p end left e q

-- An answer tells whether a lawful child of a node stands in the table with number `at` and is taken, and what follows it.
pub record ChildTaken (row : Row) (k : ℕ) (s : State) (at p left : ℕ) (answer : Option Entered) : Type 0 where
  pub sound : (c : Entered) → answer ≡ Some c
      → LawfulNodeAt row.table.now.nodes.now row.table.now.pool.now at row.number p left c.next c.pool
      × (step k s (word_at row.table.now.nodes.now at Word.kind) ≡ go (state_of k c.state))
  pub complete : (e q : ℕ) (s' : State) → LawfulNodeAt row.table.now.nodes.now row.table.now.pool.now at row.number p left e q
      → step k s (word_at row.table.now.nodes.now at Word.kind) ≡ go s' → (c : Entered) × (answer ≡ Some c) × (c.next ≡ e) × (c.pool ≡ q)
