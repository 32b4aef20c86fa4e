-- The spelling that the code's value names, and what the judge of a spelling answers and leaves on the tape. It serves the contracts of private functions.
use Rattle.std.specs.Prelude.{ℕ, ◌≤◌, ◌≡◌, List, length}
use Rattle.base.specs.rules.Limits.{missing}
use Rattle.syntax.specs.rules.Expression.{Expr, Exprs, depth_all}
use Rattle.document.specs.rules.Spelling as Defined
use Rattle.document.specs.rules.Spelling.{nested, imperative, most_levels}
use Rattle.document.specs.rules.Account.{NestedForm}
use Rattle.document.specs.reference.Outcome.{one_expression}
use Rattle.reader.specs.declared.Spelling.{Spelling}
use Rattle.reader.specs.declared.Spelling.TheVariants.{Nested, Imperative}
use Rattle.reader.specs.internal.RunStands.{RunStands}
use Rattle.reader.specs.internal.Tape.{Tape, taped}
use Rattle.reader.specs.internal.WalkAnswer.{Walked, read_walked}

abbrev pub spelled : Spelling → Defined.Spelling
spelled Nested = nested
spelled Imperative = imperative

-- The judge answers so of the text, if its expressions nest within the limit.
abbrev pub JudgesText : Defined.Spelling → List ℕ → Walked → Type 0
JudgesText s text w = (es : Exprs) → RunStands text 0 es (length text) → depth_all es ≤ most_levels s → w ≡ read_walked (one_expression s (length text) es)

-- It leaves so the tape t of a text that it answered with number n, if that is 0.
abbrev pub TapeOfText : Defined.Spelling → List ℕ → ℕ → Tape → Tape → Type 0
TapeOfText s text n t tape =
    (es : Exprs) (e : Expr) → NestedForm s es e → RunStands text 0 es (length text) → depth_all es ≤ most_levels s → n ≡ 0
    → tape ≡ taped t 0 missing e
