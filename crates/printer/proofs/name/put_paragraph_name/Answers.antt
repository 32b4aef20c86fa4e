-- `name::put_paragraph_name` meets its contract: in each arm the bytes are the name of the class, and there is no other.
use native.Mathlib.Omega.{arith}
use Rattle.base.proofs.Adding.{adds_put}
use Rattle.elements.specs.rules.Class as Class
use Rattle.printer.proofs.name.ClassNames.{adds_name}
use Rattle.elements.specs.rules.Bytes.{codes}
use Rattle.elements.specs.rules.Class.{names, name_in, name_of, as_name}
use Rattle.printer.proofs.name.put_paragraph_name.Goals as goal

pub returns-in_default : goal.returns-in_default
returns-in_default c = absurd (omega arith)

pub returns-in-5 : goal.returns-in-5
unfolding names name_in name_of as_name codes
returns-in-5 c = adds_name _ Class.paragraph c.in-5.is (adds_put c.put_bytes.ensures)

pub returns-in-6 : goal.returns-in-6
unfolding names name_in name_of as_name codes
returns-in-6 c = adds_name _ Class.formal_item c.in-6.is (adds_put c.put_bytes-in-6.ensures)

pub returns-in-7 : goal.returns-in-7
unfolding names name_in name_of as_name codes
returns-in-7 c = adds_name _ Class.footnote c.in-7.is (adds_put c.put_bytes-in-7.ensures)

pub returns-in-8 : goal.returns-in-8
unfolding names name_in name_of as_name codes
returns-in-8 c = adds_name _ Class.title c.in-8.is (adds_put c.put_bytes-in-8.ensures)
