-- `validate::binder` meets its contract. The loop's invariant: what binds the rows below the parent binds those below `a`.
use Rattle.document.specs.reference.Check.{Cells}
use Rattle.table.specs.Stored.{word_at}
use Rattle.validate.specs.internal.TableWords.{Below}
use Rattle.validate.proofs.faults.binder.Given as goal

abbrev pub invariant-loop-up : goal.invariant-loop-up
invariant-loop-up l = (c : Cells) → Below l.nodes (word_at l.nodes l.i 1) c → Below l.nodes l.a c

abbrev pub decreases-loop-up : goal.decreases-loop-up
decreases-loop-up l = l.a
