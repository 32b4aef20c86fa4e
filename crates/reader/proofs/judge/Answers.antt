-- `reader::judge` meets its contract: what the judge of each spelling ensures, said of the text's nested form.
use Prim.Native.Nat.{ℕ, ◌≤◌}
use mathlib.Core.Path.{◌≡◌}
use mathlib.Core.List.{List}
use lib.ListN.{length}
use Rattle.base.specs.rules.Limits.{imperative_levels, missing}
use Rattle.syntax.specs.rules.Expression.{Expr, Exprs, none, and, depth_all}
use Rattle.document.specs.rules.Spelling.{nested, imperative, most_levels}
use Rattle.document.specs.rules.Account.{as_it_stands, regrouped}
use Rattle.document.specs.reference.Imperative.{regroup}
use Rattle.document.proofs.BlockContents.{takes_regroup}
use Rattle.reader.specs.internal.JudgedText.{TapeOfText}
use Rattle.reader.specs.internal.RunStands.{RunStands}
use Rattle.reader.specs.internal.Tape.{Tape, taped}
use Rattle.reader.proofs.judge.Goals as goal

nested-tapes : (text : List ℕ) (n : ℕ) (t tape : Tape)
    → ((e : Expr) → RunStands text 0 (and e none) (length text) → n ≡ 0 → tape ≡ taped t 0 missing e) → TapeOfText nested text n t tape
nested-tapes text n t tape h es e as_it_stands st deep z = h e st z

imperative-tapes : (text : List ℕ) (n : ℕ) (t tape : Tape)
    → ((e : Expr) (es : Exprs) → RunStands text 0 (and e es) (length text) → depth_all (and e es) ≤ imperative_levels → n ≡ 0
    → tape ≡ taped t 0 missing (regroup e es)) → TapeOfText imperative text n t tape
unfolding most_levels
imperative-tapes text n t tape h es e (regrouped {e = x} {es = xs} k) st deep z = rw (takes_regroup x k) (h x xs st deep z)

pub returns-in-Nested : goal.returns-in-Nested
returns-in-Nested c =
    record { judges_text = rw c.in-Nested.is ((λ es st deep. c.judge_nested.ensures.value es st)); tape_of_text = rw c.in-Nested.is (nested-tapes _ _ _ _ c.judge_nested.ensures.tape_after) }

pub returns-in-Imperative : goal.returns-in-Imperative
unfolding most_levels
returns-in-Imperative c =
    record { judges_text = rw c.in-Imperative.is c.judge_imperative.ensures.value; tape_of_text = rw c.in-Imperative.is (imperative-tapes _ _ _ _ c.judge_imperative.ensures.tape_after) }
