-- The outcome of a call of either function is the definition's, so whatever is proved of the definition holds of the call.
use mathlib.Core.Path.{◌≡◌}
use mathlib.Core.List.{List}
use Prim.Native.Nat.{ℕ}
use Rattle.document.specs.rules.Spelling.{Spelling}
use Rattle.document.specs.rules.Memory.{Memory}
use Rattle.document.specs.reference.Outcome.{outcome}
use Rattle.reader.specs.declared.Answer.{Answer}
use Rattle.reader.specs.Read.{Reads}
use Rattle.structural.specs.Demands.{called}

pub called_as : (s : Spelling) (text : List ℕ) (m : Memory) (r : Answer) (exit : Memory) → Reads s text m r exit → called r exit ≡ outcome s text m
unfolding called
called_as s text m r exit reads =
    let a = reads.answers in
    rw (a.number, a.place, a.line, a.column, a.nodes, a.pool, reads.leaves)
