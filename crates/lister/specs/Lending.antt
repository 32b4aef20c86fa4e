-- The code's spellings and lent memory are those of the definitions.
use Rattle.document.specs.rules.Spelling as Defined
use Rattle.document.specs.rules.Spelling.{nested, imperative}
use Rattle.document.specs.rules.Memory.{Memory}
use Rattle.lister.specs.declared.Spelling.{Spelling}
use Rattle.lister.specs.declared.Spelling.TheVariants.{Nested, Imperative}
use Rattle.lister.specs.declared.Lent.{Lent}

abbrev pub spelled : Spelling → Defined.Spelling
spelled Nested = nested
spelled Imperative = imperative

abbrev pub memory_of : Lent → Memory
memory_of l = record { nodes = l.nodes; places = l.places; pool = l.pool }
