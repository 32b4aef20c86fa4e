-- `scanner::scan` meets its contract. The loop's invariant: what follows `i`, with the brackets that are open, has the whole text's answer.
use mathlib.Core.Path.{◌≡◌}
use mathlib.Core.List.{[]}
use Prim.Native.Nat.{◌-◌, ◌≤◌, min}
use lib.ListN.{length}
use Rattle.lexer.proofs.ScanSteps.{scan_answer_at, answer_of}
use Rattle.lexer.proofs.scanner.scan.Given as goal

abbrev pub invariant-loop-i : goal.invariant-loop-i
invariant-loop-i l = (l.limit ≤ 64) × (length l.open ≤ l.limit) × (answer_of l.limit l.open l.text l.i ≡ scan_answer_at [] (min l.room 64) l.text 0)

abbrev pub decreases-loop-i : goal.decreases-loop-i
decreases-loop-i l = length l.text - l.i
