-- What the listing programs print. Document 01, "Judged examples": "Two programs, one a spelling, read standard input".
use Rattle.std.specs.Prelude.{ℕ, zero, suc, ◌+◌, ◌*◌, ◌/◌, ◌≡◌, cond, List, [], ◌∷◌, ◌++◌, eqb, ltb, length, get_or, take, replicate}
use Rattle.elements.specs.rules.Bytes.{codes}
use Rattle.base.specs.rules.Limits.{missing}
use Rattle.base.specs.rules.Numbers as Number
use Rattle.utf8.specs.rules.Position.{line_of, column_of}
use Rattle.document.specs.rules.Record.{record_length}
use Rattle.document.specs.rules.Record as Word
use Rattle.document.specs.rules.Canonical.{digit}
use Rattle.document.specs.rules.Spelling.{Spelling}
use Rattle.document.specs.reference.Outcome.{outcome}
use Rattle.document.specs.rules.Pair.{pair_answer}
use Rattle.document.specs.reference.Pair.{check_left}
use Rattle.document.specs.rules.Memory.{Memory, Outcome, over}

-- "over 32,768 bytes prints `too long`": the longest text that is read.
abbrev pub longest_text : ℕ
longest_text = 32768

-- "They lend 1,024 nodes"
abbrev pub lent_nodes : ℕ
lent_nodes = 1024

-- "and a pool of 32,768 bytes"
abbrev pub lent_pool : ℕ
lent_pool = 32768

-- The memory that a program lends to the read: the words of so many nodes, a place for each of them (docs/decisions/readings.md, B3) and the pool, all zero.
unfoldable pub lent_memory : Memory
lent_memory = record { nodes = replicate (lent_nodes * record_length) 0; places = replicate lent_nodes 0; pool = replicate lent_pool 0 }

-- A number in decimal digits with no leading zero; the first argument bounds how often it is divided.
unfoldable pub numeral_within : ℕ → ℕ → List ℕ
numeral_within zero n = digit n ∷ []
numeral_within (suc k) n =
    let longer = numeral_within k (n / 10) ++ (digit n ∷ []) in
    cond (ltb n 10) (digit n ∷ []) longer

-- As many divisions as the number itself are enough.
unfoldable pub numeral : ℕ → List ℕ
numeral n = numeral_within n n

abbrev pub space : ℕ
space = 0x20

-- Every line ends with U+000A, the last too (docs/decisions/readings.md, B1).
abbrev pub newline : ℕ
newline = 0x0A

-- The line of a text that is not read.
unfoldable pub too_long : List ℕ
too_long = codes "too long" ++ (newline ∷ [])

-- "a refusal prints one line as `refused 7 1:1` (number, line, column)"
unfoldable pub refused_line : ℕ → ℕ → ℕ → List ℕ
refused_line number line column =
    codes "refused " ++ (numeral number ++ (space ∷ (numeral line ++ (0x3A ∷ (numeral column ++ (newline ∷ []))))))

-- The line of a fault that the check found at a node of a text: "The place list turns a node into a place" (document 02, change request 1).
-- A text that the programs do not read has no such line.
unfoldable pub fault_line : List ℕ → List ℕ → ℕ → ℕ → List ℕ
fault_line text places number node =
    let p = get_or places node 0 in
    cond (ltb longest_text (length text)) too_long (refused_line number (line_of text p) (column_of text p))

-- "a header", with both counts
unfoldable pub header_line : ℕ → ℕ → List ℕ
header_line nodes pool = codes "nodes " ++ (numeral nodes ++ (codes " pool " ++ (numeral pool ++ (newline ∷ []))))

-- "`-` at the root", where the word is 4,294,967,295
unfoldable pub parent_word : ℕ → List ℕ
parent_word p = cond (eqb p missing) (codes "-") (numeral p)

-- "one line a node: number, kind, parent (`-` at the root), end"
unfoldable pub node_line : ℕ → ℕ → ℕ → ℕ → List ℕ
node_line number kind parent end =
    numeral number ++ (space ∷ (numeral kind ++ (space ∷ (parent_word parent ++ (space ∷ (numeral end ++ (newline ∷ [])))))))

-- The line of node k, from its words in the table.
unfoldable pub line_of_node : List ℕ → ℕ → List ℕ
line_of_node table k =
    node_line k (get_or table (k * record_length) 0) (get_or table (k * record_length + Word.parent) 0) (get_or table (k * record_length + Word.end) 0)

-- The lines of the first n nodes.
unfoldable pub node_lines : List ℕ → ℕ → List ℕ
node_lines table zero = []
node_lines table (suc n) = node_lines table n ++ line_of_node table n

-- "else a header and one line a node"
unfoldable pub document_lines : List ℕ → ℕ → ℕ → List ℕ
document_lines table nodes pool = header_line nodes pool ++ node_lines table nodes

-- As much of the lines as an output holds.
unfoldable pub part_fitting : List ℕ → List ℕ → List ℕ
part_fitting out lines = take (length out) lines

-- The listing of the document that a read left in memory.
unfoldable pub listing_of : Outcome → List ℕ
listing_of o = document_lines o.memory.nodes o.answer.nodes o.answer.pool

-- After a read: "a refusal prints one line ..; else" what the program prints of a document.
unfoldable pub after_read : (Outcome → List ℕ) → Outcome → List ℕ
after_read document o =
    cond (eqb o.answer.number Number.ok) (document o)
    (refused_line o.answer.number o.answer.line o.answer.column)

-- After a read that answers 0 and the check of what it left: "the listing programs .. answer as before, by the pair" (document 02, change request 1).
unfoldable pub after_check : List ℕ → Outcome → List ℕ
after_check text o =
    let a = pair_answer text o (check_left o) in
    cond (eqb a.number Number.ok) (listing_of o) (refused_line a.number a.line a.column)

-- All that a program prints on a text, if it prints this of a document.
unfoldable pub printed_by : (Outcome → List ℕ) → Spelling → List ℕ → List ℕ
printed_by document s text = cond (ltb longest_text (length text)) too_long (after_read document (outcome s text lent_memory))

-- All that a listing program prints.
abbrev pub printed : Spelling → List ℕ → List ℕ
printed s text = printed_by (after_check text) s text

-- The lines stand whole at the output's start, and the rest of it is as it was.
pub record Lists (lines start : List ℕ) (r : ℕ) (out : List ℕ) : Type 0 where
  pub size : r ≡ length lines
  pub bytes : out ≡ over lines start
