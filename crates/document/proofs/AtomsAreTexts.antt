-- The symbols and strings of a text that is UTF-8 are texts: one or more code points.
use mathlib.Core.List.{List}
use Prim.Native.Nat.{ℕ}
use lib.Dec.{T}
use Rattle.utf8.specs.rules.Scalar.{IsUtf8}
use Rattle.syntax.specs.rules.Syntax.{Forest, another, Ok, bytes_of}
use Rattle.syntax.specs.rules.Expression.{locate}
use Rattle.syntax.specs.rules.Atoms.{IsText}
use Rattle.syntax.proofs.Atoms.{all_atoms_map, atoms_utf8}
use Rattle.document.specs.reference.RulesTest.{is_text}
use Rattle.document.proofs.RulesTest.{text_test}
use Rattle.document.proofs.NestedMeaning.{AllTexts}

pub texts : (f : Forest) → Ok another f → IsUtf8 (bytes_of f) → AllTexts (locate 0 f)
texts f ok u = all_atoms_map IsText (λ (s : List ℕ). T (is_text s)) text_test (locate 0 f) (atoms_utf8 0 another f ok u)
