-- The walks over a node, an element, its children and a child meet their contracts: each way out is one law of `Nodes` or `Walks`.
-- The loop's invariant: the children from `j` on, in the state `s`, with the values behind the first where these are due, stand in the table
-- where all the children do with the values.
-- The measure is the records left from the node's on, and a rank.
use mathlib.Core.Path.{◌≡◌}
use mathlib.Core.Bool.{true}
use Prim.Native.Nat.{◌+◌, ◌*◌, ◌-◌, ◌≤◌}
use lib.ListN.{length}
use Rattle.elements.specs.rules.Rules.{rule_of}
use Rattle.elements.specs.rules.Inside.{start}
use Rattle.inside.specs.Machine.{state_of}
use Rattle.document.specs.rules.Canonical.{node_first, place_values}
use Rattle.validate.specs.internal.DraftWalk.{row_values, behind_first, RowChildren}
use Rattle.validate.proofs.lemmas.records.Decided.{Same}
use Prim.Native.Nat.{◌<◌}
use Rattle.validate.proofs.draft.+child_children_element_node.Given as goal

abbrev pub decreases-child : goal.decreases-child
decreases-child l = 4 * (l.row.now.table.now.count - l.row.now.number) + 1

abbrev pub decreases-children : goal.decreases-children
decreases-children l = 4 * (l.row.now.table.now.count - l.row.now.number) + 2

abbrev pub decreases-element : goal.decreases-element
decreases-element l = 4 * (l.row.now.table.now.count - l.row.now.number) + 3

abbrev pub decreases-node : goal.decreases-node
decreases-node l = 4 * (l.row.now.table.now.count - l.row.now.number) + 4

abbrev pub invariant-children-loop-j : goal.invariant-children-loop-j
invariant-children-loop-j l = (l.row.number < l.j) × (l.p ≤ length l.row.table.now.pool.now) × (l.due ≡ true → l.j < l.end)
    × Same (RowChildren l.row (behind_first l.due (row_values l.row l.kind)) l.kind (state_of l.kind l.state) l.j l.p l.end l.left)
    (RowChildren l.row (place_values (node_first (rule_of l.kind).parameters) (row_values l.row l.kind)) l.kind (start l.kind) (l.row.number + 1) l.at l.end l.left)

abbrev pub decreases-children-loop-j : goal.decreases-children-loop-j
decreases-children-loop-j l = l.end - l.j
