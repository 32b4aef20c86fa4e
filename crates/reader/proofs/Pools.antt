-- "pool at most as long as the text", of every text within the limits that spells a document.
use Prim.Native.Nat.{ℕ, ◌≤◌}
use mathlib.Core.Path.{refl, ap}
use mathlib.Core.List.{List}
use native.Mathlib.Omega.{arith}
use lib.ListN.{length}
use Rattle.syntax.specs.rules.Expression.{Exprs, locate}
use Rattle.document.specs.rules.Document.{Node}
use Rattle.document.specs.rules.Spelling.{Spelling, Spells, WithinLimits}
use Rattle.document.specs.rules.Table.{pool}
use Rattle.document.specs.reference.Outcome.{one_expression}
use Rattle.document.proofs.NestedForms.{spelled_form, spelled_fine, spelled_means}
use Rattle.document.proofs.ReadingDecided.{spelled_one}
use Rattle.reader.specs.internal.RunStands.{RunStands}
use Rattle.reader.specs.internal.Counts.{pool_bytes}
use Rattle.reader.specs.internal.WalkAnswer.{read_walked}
use Rattle.reader.proofs.lemmas.read.ExpressionPlaces.{forest_stands}
use Rattle.reader.proofs.lemmas.walk.Counts.{bytes_pool}
use Rattle.reader.proofs.lemmas.read.AnswerBounds.{walk_within}
use Rattle.reader.proofs.lemmas.read.AnswerGroups.{root_node}

pub pool_within : (s : Spelling) (d : Node) (text : List ℕ) (sp : Spells s d text) → WithinLimits s text sp.forest → length (pool d) ≤ length text
unfolding read_walked
pool_within s d text sp l =
    let e = (spelled_form sp).expression in
    let es : Exprs = locate 0 sp.forest in
    let stands : RunStands text 0 es (length text) = forest_stands text sp.forest sp.syntax sp.spelled in
    let (p, n, b) = walk_within s text es stands (read_walked (one_expression s (length text) es)) refl in
    let within : pool_bytes e ≤ length text = rw (spelled_one sp l) at b in
    omega (arith, within, bytes_pool e (root_node e (spelled_fine sp)), ap (λ (x : Node). length (pool x)) (spelled_means sp))
