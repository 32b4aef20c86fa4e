-- `name::put_list_name` meets its contract: in each arm the bytes are the name of the class, and there is no other.
use native.Mathlib.Omega.{arith}
use Rattle.base.proofs.Adding.{adds_put}
use Rattle.elements.specs.rules.Class as Class
use Rattle.printer.proofs.name.ClassNames.{adds_name}
use Rattle.elements.specs.rules.Bytes.{codes}
use Rattle.elements.specs.rules.Class.{names, name_in, name_of, as_name}
use Rattle.printer.proofs.name.put_list_name.Goals as goal

pub returns-in_default : goal.returns-in_default
returns-in_default c = absurd (omega arith)

pub returns-in-16 : goal.returns-in-16
unfolding names name_in name_of as_name codes
returns-in-16 c = adds_name _ Class.list_ordered c.in-16.is (adds_put c.put_bytes.ensures)

pub returns-in-17 : goal.returns-in-17
unfolding names name_in name_of as_name codes
returns-in-17 c = adds_name _ Class.list_unordered c.in-17.is (adds_put c.put_bytes-in-17.ensures)

pub returns-in-18 : goal.returns-in-18
unfolding names name_in name_of as_name codes
returns-in-18 c = adds_name _ Class.item c.in-18.is (adds_put c.put_bytes-in-18.ensures)

pub returns-in-19 : goal.returns-in-19
unfolding names name_in name_of as_name codes
returns-in-19 c = adds_name _ Class.table c.in-19.is (adds_put c.put_bytes-in-19.ensures)
