-- Each text of `specs/Faults.antt` has the answer beside it; and reading the canonical spelling of an example gives its nodes again. Both by computation.
use mathlib.Core.Path.{◌≡◌, refl}
use mathlib.Core.List.{map}
use Rattle.document.specs.rules.Spelling.{nested}
use Rattle.utf8.specs.examples.Quoted.{utf8_of}
use Rattle.document.specs.examples.Judged.{answered, room, Tidied, printable, read_in}
use Rattle.document.proofs.Compute.{computes}
use Rattle.document.proofs.Judged.{AllAnswered}
use Rattle.examples.specs.Faults.{faults}

-- The numbers 2 to 12 and 15 to 18, nested and imperative.
pub faults_judged : AllAnswered faults
unfolding computes faults answered room utf8_of
faults_judged = refl

-- Reading the canonical spelling gives the same node words and pool.
pub read_back : map (λ (t : Tidied). (read_in t.spelling t.text).memory.nodes) printable
    ≡ map (λ (t : Tidied). (read_in nested t.canonical).memory.nodes) printable
unfolding computes printable read_in room utf8_of
read_back = refl
