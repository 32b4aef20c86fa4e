-- The part of a list from a place on and of a length, and the words of a record, where the list ends before them.
use Prim.Native.Nat.{ℕ, ◌+◌, ◌*◌, ◌-◌, ◌<◌, ◌≤◌, min}
use mathlib.Core.Path.{◌≡◌, ◌∙◌, sym, ap}
use mathlib.Core.List.{List}
use native.Mathlib.Omega.{arith}
use lib.Dec.{leb}
use lib.ListN.{length, take, drop, length-drop, get_or-eq_default}
use lib.Seq.{take_all}
use borrow.Author.Tests.{leb-true, leb-false}
use Rattle.std.proofs.lemmas.List.{take_min, drop_min}
use Rattle.base.proofs.Booleans.{bool_case}
use Rattle.document.specs.rules.Record.{record_length}
use Rattle.document.specs.reference.Printing.{part}
use Rattle.table.specs.Stored.{word_at}

-- As far as the list has it.
pub part_is : (s : List ℕ) (at size m k : ℕ) → m ≡ min at (length s) → k ≡ min size (length (take (length s - m) (drop m s)))
    → take k (take (length s - m) (drop m s)) ≡ part s at size
unfolding part
part_is s at size m k e f =
    rw (f, take_min)
    (ap (take size) (take_all (length s - m) (drop m s) (omega (arith, length-drop m s)) ∙ rw (e, drop_min)))

-- Where a place saturates, it is past the end as the one meant is.
pub word_saturated : (words : List ℕ) (i j k most : ℕ) → k ≡ min (j + 1) most → length words ≤ most → word_at words i k ≡ word_at words i (j + 1)
unfolding word_at
word_saturated words i j k most e h =
    bool_case (leb (j + 1) most)
    (λ b. let fits : j + 1 ≤ most = leb-true (j + 1) most b in let same : k ≡ j + 1 = omega arith in rw same)
    (λ b. let past : most < j + 1 = leb-false (j + 1) most b in
    let here : length words ≤ record_length * i + k = omega arith in
    let there : length words ≤ record_length * i + (j + 1) = omega arith in
    get_or-eq_default words 0 here ∙ sym (get_or-eq_default words 0 there))
