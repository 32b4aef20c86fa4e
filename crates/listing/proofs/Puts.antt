-- Bytes that are put one after another into an output.
use mathlib.Core.Path.{◌≡◌, refl, sym, ap, ◌∙◌}
use mathlib.Core.List.{List, [], ◌++◌}
use Prim.Native.Nat.{ℕ, ◌+◌, ◌<◌, max}
use native.Mathlib.Omega.{arith}
use lib.Dec.{leb}
use lib.ListN.{length, take, drop, length-append, length-take, take-append-drop, drop_of_length-le}
use lib.Seq.{sets, length-sets}
use borrow.Author.Tests.{leb-true, leb-false}
use Rattle.base.proofs.Booleans.{bool_case}
use Rattle.base.proofs.Stores.{sets_append, sets_past, sets_front}
use Rattle.document.specs.rules.Memory.{over}
use Rattle.listing.specs.Listing.{part_fitting}
use Rattle.listing.specs.declared.Output.{Output}
use Rattle.listing.specs.internal.Puts.{Puts, Appends}

pub puts_none : (l : List ℕ) (at : ℕ) → Puts l at [] l at
puts_none l at = record { next_place = omega arith; bytes_stored = refl }

pub puts_on : {l xs m ys n : List ℕ} {at j k : ℕ} → Puts l at xs m j → Puts m j ys n k → Puts l at (xs ++ ys) n k
puts_on {l} {xs} {m} {ys} {n} {at} {j} {k} p q =
    let same : length m ≡ length l = rw p.bytes_stored (length-sets l at xs) in
    let place : sets m j ys ≡ sets m (at + length xs) ys =
    bool_case
    (leb (at + length xs) (max at (length l)))
    (λ e. let f : j ≡ at + length xs = omega (arith, leb-true (at + length xs) (max at (length l)) e) in rw f)
    (λ e.
    let h : max at (length l) < at + length xs = leb-false (at + length xs) (max at (length l)) e in
    sets_past ys m j (omega arith) ∙ sym (sets_past ys m (at + length xs) (omega arith)))
    in
    record { next_place = rw length-append (omega arith); bytes_stored = rw (sets_append l xs ys at, ← p.bytes_stored) (q.bytes_stored ∙ place) }

pub appends_none : (a : Output) → Appends a [] a
appends_none a = record { same_output = refl; puts = puts_none a.out.now a.at }

pub appends_on : {a b c : Output} {xs ys : List ℕ} → Appends a xs b → Appends b ys c → Appends a (xs ++ ys) c
appends_on p q = record { same_output = q.same_output ∙ p.same_output; puts = puts_on p.puts q.puts }

-- What is put from the output's start on stands there as far as it reaches.
pub puts_whole : {l xs m : List ℕ} {k : ℕ} → Puts l 0 xs m k → (k ≡ length (part_fitting l xs)) × (m ≡ over (part_fitting l xs) l)
unfolding part_fitting over
puts_whole {l} {xs} {m} {k} p =
    let front = take (length l) xs in
    let rest = drop (length l) xs in
    let size = length-take (length l) xs in
    let past : sets (sets l 0 front) (0 + length front) rest ≡ sets l 0 front =
    bool_case
    (leb (length xs) (length l))
    (λ e. rw (drop_of_length-le xs {i = length l} (leb-true (length xs) (length l) e)))
    (λ e. sets_past rest (sets l 0 front) (0 + length front) (omega (arith, leb-false (length xs) (length l) e, length-sets l 0 front)))
    in (
      rw size (omega arith),
      p.bytes_stored ∙ ap (sets l 0) (sym (take-append-drop (length l) xs)) ∙ sets_append l front rest 0 ∙ past ∙ sets_front l front (omega arith),
    )

-- The same of what the output is left with.
pub left_whole : {l xs m left : List ℕ} {k : ℕ} → Puts l 0 xs m k → left ≡ m → left ≡ over (part_fitting l xs) l
left_whole p e = e ∙ (puts_whole p).1
