-- The ways through the calls: the list for the answer is too short, or has room for the words.
use Prim.Native.Nat.{ℕ, ◌≤◌, ◌<◌}
use mathlib.Core.Path.{◌≡◌}
use mathlib.Core.List.{List, [], ◌∷◌, ◌++◌}
use borrow.Author.Tests.{lt-ltb, le-ltb}
use lib.ListN.{length, get_or, drop}
use Rattle.document.specs.rules.Spelling.{Spelling}
use Rattle.document.specs.rules.Memory.{Memory, over}
use Rattle.document.specs.reference.Outcome.{outcome}
use Rattle.document.specs.reference.Printing.{checking, printing}
use Rattle.printer.specs.declared.Printed.{Printed}
use Rattle.printer.specs.Prints.{Prints}
use Rattle.validate.specs.declared.Checked.{Checked}
use Rattle.validate.specs.Checks.{Checks}
use Rattle.reader.specs.declared.Answer.{Answer}
use Rattle.reader.specs.Read.{Reads}
use Rattle.structural.specs.Calls.{no_answer, with_room, Call, answer_words, check_words, print_words, ReadCall, CheckCall, PrintCall}

module _ {A : Type 0} (words : List ℕ) (filled lent : A) (answer : List ℕ) where
  call_short : length answer < length words → Call words filled lent answer no_answer lent answer
  unfolding with_room
  call_short h = let e = lt-ltb (length answer) (length words) h in record { returned = rw e; memory = rw e; answered = rw e }

  call_whole : length words ≤ length answer → Call words filled lent answer (get_or words 0 0) filled (over words answer)
  unfolding with_room
  call_whole h = let e = le-ltb (length answer) (length words) h in record { returned = rw e; memory = rw e; answered = rw e }

module _ (s : Spelling) (text : List ℕ) (m : Memory) (answer : List ℕ) where
  pub read_short : length answer < 6 → ReadCall s text m answer no_answer m answer
  unfolding answer_words
  read_short h = call_short (answer_words (outcome s text m).answer) (outcome s text m).memory m answer h

  pub read_whole : 6 ≤ length answer → (r : Answer) (exit : Memory) → Reads s text m r exit → (left : List ℕ)
      → left ≡ r.number ∷ r.place ∷ r.line ∷ r.column ∷ r.nodes ∷ r.pool ∷ [] → ReadCall s text m answer r.number exit (left ++ drop 6 answer)
  unfolding answer_words over
  read_whole h r exit reads left e =
      let a = reads.answers in
      rw (e, a.number, a.place, a.line, a.column, a.nodes, a.pool, reads.leaves)
      (call_whole (answer_words (outcome s text m).answer) (outcome s text m).memory m answer h)

module _ (words : List ℕ) (n : ℕ) (bytes : List ℕ) (m : ℕ) (answer : List ℕ) where
  pub check_short : length answer < 2 → CheckCall words n bytes m answer no_answer answer
  unfolding check_words
  check_short h = call_short (check_words (checking words n bytes m)) tt tt answer h

  pub check_whole : 2 ≤ length answer → (c : Checked) → Checks (checking words n bytes m) c
      → CheckCall words n bytes m answer c.number (c.number ∷ c.node ∷ drop 2 answer)
  unfolding check_words over
  check_whole h c call =
      rw (call.number, call.node) (call_whole (check_words (checking words n bytes m)) tt tt answer h)

module _ (words : List ℕ) (n : ℕ) (bytes : List ℕ) (m : ℕ) (out answer : List ℕ) where
  pub print_short : length answer < 2 → PrintCall words n bytes m out answer no_answer out answer
  unfolding print_words
  print_short h = call_short (print_words (printing words n bytes m out)) (printing words n bytes m out).out out answer h

  pub print_whole : 2 ≤ length answer → (p : Printed) (exit : List ℕ) → Prints (printing words n bytes m out) p exit
      → PrintCall words n bytes m out answer p.number exit (p.number ∷ p.length ∷ drop 2 answer)
  unfolding print_words over
  print_whole h p exit call =
      rw (call.number, call.size, call.out)
      (call_whole (print_words (printing words n bytes m out)) (printing words n bytes m out).out out answer h)
