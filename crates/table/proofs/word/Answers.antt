-- `table::word` meets its contract.
use mathlib.Core.Path.{◌≡◌, sym}
use native.Mathlib.Omega.{arith}
use Prim.Native.Nat.{◌+◌, ◌*◌, ◌≤◌}
use lib.ListN.{length, get_or-eq_default}
use Rattle.document.specs.rules.Record.{record_length}
use Rattle.table.specs.Stored.{word_at}
use Rattle.table.proofs.word.Goals as goal

pub returns-in-Some : goal.returns-in-Some
unfolding word_at
returns-in-Some c = let good = c.well_formed in
    let (inside, at) = c.in-Some.ensures.lookup.3 in
    let same : c.saturating_add.result ≡ record_length * c.args.i + c.args.j = omega arith in
    rw same at (at 0)

pub returns-in-None : goal.returns-in-None
unfolding word_at
returns-in-None c = let past : length c.args.nodes.now ≤ record_length * c.args.i + c.args.j = omega (arith, c.in-None.ensures.lookup.3) in
    sym (get_or-eq_default c.args.nodes.now 0 past)
