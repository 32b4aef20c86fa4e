-- `name::put_table_part_name` meets its contract: in each arm the bytes are the name of the class, and there is no other.
use native.Mathlib.Omega.{arith}
use Rattle.base.proofs.Adding.{adds_put}
use Rattle.elements.specs.rules.Class as Class
use Rattle.printer.proofs.name.ClassNames.{adds_name}
use Rattle.elements.specs.rules.Bytes.{codes}
use Rattle.elements.specs.rules.Class.{names, name_in, name_of, as_name}
use Rattle.printer.proofs.name.put_table_part_name.Goals as goal

pub returns-in_default : goal.returns-in_default
returns-in_default c = absurd (omega arith)

pub returns-in-20 : goal.returns-in-20
unfolding names name_in name_of as_name codes
returns-in-20 c = adds_name _ Class.summary c.in-20.is (adds_put c.put_bytes.ensures)

pub returns-in-21 : goal.returns-in-21
unfolding names name_in name_of as_name codes
returns-in-21 c = adds_name _ Class.head c.in-21.is (adds_put c.put_bytes-in-21.ensures)

pub returns-in-22 : goal.returns-in-22
unfolding names name_in name_of as_name codes
returns-in-22 c = adds_name _ Class.name c.in-22.is (adds_put c.put_bytes-in-22.ensures)

pub returns-in-23 : goal.returns-in-23
unfolding names name_in name_of as_name codes
returns-in-23 c = adds_name _ Class.body c.in-23.is (adds_put c.put_bytes-in-23.ensures)

pub returns-in-24 : goal.returns-in-24
unfolding names name_in name_of as_name codes
returns-in-24 c = adds_name _ Class.row c.in-24.is (adds_put c.put_bytes-in-24.ensures)

pub returns-in-25 : goal.returns-in-25
unfolding names name_in name_of as_name codes
returns-in-25 c = adds_name _ Class.cell c.in-25.is (adds_put c.put_bytes-in-25.ensures)
