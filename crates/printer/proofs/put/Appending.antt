-- Pieces written to an output one after another.
use Rattle.std.proofs.Common.{◌≡◌, ℕ, ◌+◌, ◌≤◌, List, [], ◌++◌, length, refl, ◌∙◌, zero-add, arith}
use Rattle.std.proofs.lemmas.List.Edits.{sets}
use Rattle.base.specs.Adds.{greatest_word, Adds}
use Rattle.base.proofs.Adding.{adds_none, adds_join}
use Rattle.printer.specs.declared.put.Output.{Output}
use Rattle.printer.specs.internal.Appends.{Appends}

pub appends_none : (a : Output) → Appends a [] a
appends_none a = record { same_output = refl; adds = adds_none a.at a.out.now }

pub appends_join : {a b c : Output} {s t : List ℕ} → Appends a s b → Appends b t c → Appends a (s ++ t) c
appends_join p q = record { same_output = q.same_output ∙ p.same_output; adds = adds_join p.adds q.adds }

-- The same piece under another name.
pub appends_as : {a b : Output} {s t : List ℕ} → s ≡ t → Appends a s b → Appends a t b
appends_as e p = rw e at p

-- A piece written from the output's start on, where `left` is what the output is left with.
pub adds_whole : {s out later left : List ℕ} {r : ℕ} → Adds s 0 out r later → length s ≤ greatest_word → left ≡ later → (r ≡ length s) × (left ≡ sets out 0 s)
adds_whole {s} a h e =
    let fits : 0 + length s ≤ greatest_word = omega arith in
    (a.next_index fits ∙ zero-add (length s), e ∙ a.bytes_stored fits)
