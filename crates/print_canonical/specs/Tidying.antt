-- What the program prints of a document. Document 01, "Canonical spelling".
use Rattle.std.specs.Prelude.{ℕ, ◌*◌, List, [], ◌∷◌, ◌++◌, take}
use Rattle.document.specs.rules.Document.{says}
use Rattle.document.specs.rules.Record.{record_length}
use Rattle.document.specs.rules.Spelling.{nested}
use Rattle.document.specs.rules.Memory.{Outcome}
use Rattle.document.specs.rules.Canonical.{canonical}
use Rattle.document.specs.reference.Printing.{tree_of_table}
use Rattle.listing.specs.Listing.{newline, printed_by}

-- The canonical spelling of the document whose table a read left. The line end after it is the program's, as the spelling has "No final newline".
unfoldable pub spelling_of : Outcome → List ℕ
spelling_of o =
    let n = o.answer.nodes in
    let words = take (record_length * n) o.memory.nodes in
    canonical (says (tree_of_table n words (take o.answer.pool o.memory.pool))) ++ (newline ∷ [])

-- All that is printed on a text. Refusals, `too long` and the memory that is lent are as in the listing programs.
abbrev pub tidied : List ℕ → List ℕ
tidied = printed_by spelling_of nested
