-- The measures: twice the span of nodes from number to end, and one more for `children`, which calls `spell` for one node of the same span.
-- The loop's invariant: what is written of the nodes that are left completes the spelling of all.
use Rattle.std.proofs.Common.{◌+◌, ◌*◌, ◌-◌, ◌≤◌}
use Rattle.printer.proofs.spell.Siblings.{Upto}
use Rattle.printer.proofs.spell.NodeTable.+children_spell.Given as goal

abbrev pub decreases-children : goal.decreases-children
decreases-children l = 2 * (l.end - l.from) + 1

abbrev pub decreases-spell : goal.decreases-spell
decreases-spell l = 2 * (l.end - l.i)

abbrev pub invariant-children-loop-i : goal.invariant-children-loop-i
invariant-children-loop-i l = (l.from ≤ l.i) × Upto l.self.nodes.now l.self.pool.now l.from l.end l.initial.output l.i l.output

abbrev pub decreases-children-loop-i : goal.decreases-children-loop-i
decreases-children-loop-i l = l.end - l.i
