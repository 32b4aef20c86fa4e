-- `name::put_division_name` meets its contract: in each arm the bytes are the name of the class, and 0 has none.
use native.Mathlib.Omega.{arith}
use Rattle.base.proofs.Adding.{adds_put}
use Rattle.elements.specs.rules.Class as Class
use Rattle.printer.proofs.name.ClassNames.{adds_name, adds_zero}
use Rattle.elements.specs.rules.Bytes.{codes}
use Rattle.elements.specs.rules.Class.{names, name_in, name_of, as_name}
use Rattle.printer.proofs.name.put_division_name.Goals as goal

pub returns-in_default : goal.returns-in_default
returns-in_default c = adds_zero _ _ _ (omega arith)

pub returns-in-1 : goal.returns-in-1
unfolding names name_in name_of as_name codes
returns-in-1 c = adds_name _ Class.document c.in-1.is (adds_put c.put_bytes.ensures)

pub returns-in-2 : goal.returns-in-2
unfolding names name_in name_of as_name codes
returns-in-2 c = adds_name _ Class.part c.in-2.is (adds_put c.put_bytes-in-2.ensures)

pub returns-in-3 : goal.returns-in-3
unfolding names name_in name_of as_name codes
returns-in-3 c = adds_name _ Class.section c.in-3.is (adds_put c.put_bytes-in-3.ensures)

pub returns-in-4 : goal.returns-in-4
unfolding names name_in name_of as_name codes
returns-in-4 c = adds_name _ Class.subsection c.in-4.is (adds_put c.put_bytes-in-4.ensures)
