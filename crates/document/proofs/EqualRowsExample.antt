-- An example, computed: a row of a table without head, and an equal row of a table with head after it. Only the second has fault 15.
use mathlib.Core.Path.{◌≡◌, refl}
use mathlib.Core.List.{List, [], ◌∷◌, map}
use native.Mathlib.Omega.{arith}
use lib.ListN.{get_or}
use Rattle.elements.specs.rules.Class as Class
use Rattle.base.specs.rules.Limits.{missing}
use Rattle.document.specs.rules.Document.{Tree, element, empty, holds, Node, says, Document}
use Rattle.document.specs.rules.Visits.{Visit, visits, visits_of}
use Rattle.document.specs.rules.WellFormed.{BadRow, FirstSuch}
use Rattle.document.specs.reference.Check.{at_node, any_number, found_bad_row}
use Rattle.document.proofs.Compute.{computes}
use Rattle.document.proofs.RulesTest.{test_lawful}
use Rattle.document.proofs.BadRow.{bad_row_found}

-- A row of two cells.
abbrev row : Tree
row = element Class.row (holds (element Class.cell empty) (holds (element Class.cell empty) empty))

abbrev body : Tree
body = element Class.body (holds row empty)

abbrev headless : Tree
headless = element Class.table (holds (element Class.summary empty) (holds body empty))

-- Its head has one name.
abbrev headed : Tree
headed =
    element Class.table
    (holds (element Class.summary empty) (holds (element Class.head (holds (element Class.name empty) empty)) (holds body empty)))

abbrev section : Tree
section =
    element Class.section (holds (element Class.title empty) (holds (element Class.paragraph (holds headless (holds headed empty))) empty))

abbrev two_tables : Tree
two_tables = element Class.document (holds (element Class.title empty) (holds section empty))

pub two_tables_lem : Document (says two_tables)
unfolding computes
two_tables_lem = record { tree = two_tables; lawful = test_lawful two_tables tt; said = refl }

-- The parent words: node 8 is a row in the body 7 of the table 5, and node 16 one in the body 15 of the table 11, whose head is 13.
pub parent_words : map (λ (v : Visit). v.parent) (visits_of (says two_tables))
    ≡ missing ∷ 0 ∷ 0 ∷ 2 ∷ 2 ∷ 4 ∷ 5 ∷ 5 ∷ 7 ∷ 8 ∷ 8 ∷ 4 ∷ 11 ∷ 11 ∷ 13 ∷ 11 ∷ 15 ∷ 16 ∷ 16 ∷ []
unfolding computes visits visits_of
parent_words = refl

abbrev nodes : List Node
nodes = map (λ (v : Visit). v.visited) (visits_of (says two_tables))

pub equal_rows : get_or nodes 8 (says two_tables) ≡ get_or nodes 16 (says two_tables)
unfolding computes visits visits_of
equal_rows = refl

row_found : found_bad_row 0 any_number (says two_tables) ≡ at_node 16
unfolding computes
row_found = refl

-- The first bad row is node 16, and node 8 is none.
pub first_bad_row : FirstSuch (BadRow (says two_tables)) 16
first_bad_row = rw row_found at (bad_row_found (says two_tables) two_tables_lem)

pub headless_row : BadRow (says two_tables) 8 → ⊥
headless_row = first_bad_row.none_before 8 (omega arith)
