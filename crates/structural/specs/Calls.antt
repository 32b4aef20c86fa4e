-- What a caller from C or Rust gets: the definitions' answers as words of a lent list, for any lengths.
use Rattle.std.specs.Prelude.{ℕ, ◌≡◌, cond, List, [], ◌∷◌, ltb, length, get_or}
use Rattle.base.specs.rules.Limits.{missing}
use Rattle.document.specs.rules.Spelling.{Spelling}
use Rattle.document.specs.rules.Memory as Reading
use Rattle.document.specs.rules.Memory.{Memory, over}
use Rattle.document.specs.rules.Draft.{Checked, Printed}
use Rattle.document.specs.reference.Outcome.{outcome}
use Rattle.document.specs.reference.Printing.{checking, printing}

-- What is returned where the list for the answer is too short.
abbrev pub no_answer : ℕ
no_answer = missing

-- `whole` where the list for the answer has room for these words, else `untouched`.
unfoldable pub with_room : {A : Type 0} → List ℕ → List ℕ → A → A → A
with_room words answer whole untouched = cond (ltb (length answer) (length words)) untouched whole

-- A call whose answer is these words returned r, left `exit` of the memory `lent` and `left` of the list for the answer. With room for the words it
-- returns the first of them, the number, and leaves `filled` and the words; without, nothing is touched.
pub record Call {A : Type 0} (words : List ℕ) (filled lent : A) (answer : List ℕ) (r : ℕ) (exit : A) (left : List ℕ) : Type 0 where
  pub returned : r ≡ with_room words answer (get_or words 0 0) no_answer
  pub memory : exit ≡ with_room words answer filled lent
  pub answered : left ≡ with_room words answer (over words answer) answer

-- "number, place, line, column, node count, pool count"
unfoldable pub answer_words : Reading.Answer → List ℕ
answer_words a = a.number ∷ a.place ∷ a.line ∷ a.column ∷ a.nodes ∷ a.pool ∷ []

-- "Printing returns number and length."
unfoldable pub print_words : Printed → List ℕ
print_words p = p.number ∷ p.size ∷ []

-- The check returns number and node.
unfoldable pub check_words : Checked → List ℕ
check_words c = c.number ∷ c.node ∷ []

-- A read of the text into the memory m.
abbrev pub ReadCall : Spelling → List ℕ → Memory → List ℕ → ℕ → Memory → List ℕ → Type 0
ReadCall s text m = Call (answer_words (outcome s text m).answer) (outcome s text m).memory m

-- A check of a table: no memory is lent to it but the list for the answer.
abbrev pub CheckCall : List ℕ → ℕ → List ℕ → ℕ → List ℕ → ℕ → List ℕ → Type 0
CheckCall words n bytes m answer r left = Call {A = Unit {0}} (check_words (checking words n bytes m)) tt tt answer r tt left

-- A print of a table into the output.
abbrev pub PrintCall : List ℕ → ℕ → List ℕ → ℕ → List ℕ → List ℕ → ℕ → List ℕ → List ℕ → Type 0
PrintCall words n bytes m out = Call (print_words (printing words n bytes m out)) (printing words n bytes m out).out out
