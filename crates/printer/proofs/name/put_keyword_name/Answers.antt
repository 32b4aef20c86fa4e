-- `name::put_keyword_name` meets its contract: in each arm the bytes are the name of the class, and a greater one has none.
use native.Mathlib.Omega.{arith}
use Rattle.base.proofs.Adding.{adds_put}
use Rattle.elements.specs.rules.Class as Class
use Rattle.printer.proofs.name.ClassNames.{adds_name, adds_past}
use Rattle.elements.specs.rules.Bytes.{codes}
use Rattle.elements.specs.rules.Class.{names, name_in, name_of, as_name}
use Rattle.printer.proofs.name.put_keyword_name.Goals as goal

pub returns-in_default : goal.returns-in_default
returns-in_default c = adds_past _ _ _ (omega arith)

pub returns-in-26 : goal.returns-in-26
unfolding names name_in name_of as_name codes
returns-in-26 c = adds_name _ Class.id c.in-26.is (adds_put c.put_bytes.ensures)

pub returns-in-27 : goal.returns-in-27
unfolding names name_in name_of as_name codes
returns-in-27 c = adds_name _ Class.type c.in-27.is (adds_put c.put_bytes-in-27.ensures)

pub returns-in-28 : goal.returns-in-28
unfolding names name_in name_of as_name codes
returns-in-28 c = adds_name _ Class.target c.in-28.is (adds_put c.put_bytes-in-28.ensures)

pub returns-in-29 : goal.returns-in-29
unfolding names name_in name_of as_name codes
returns-in-29 c = adds_name _ Class.size c.in-29.is (adds_put c.put_bytes-in-29.ensures)

pub returns-in-30 : goal.returns-in-30
unfolding names name_in name_of as_name codes
returns-in-30 c = adds_name _ Class.include c.in-30.is (adds_put c.put_bytes-in-30.ensures)

pub returns-in-31 : goal.returns-in-31
unfolding names name_in name_of as_name codes
returns-in-31 c = adds_name _ Class.import c.in-31.is (adds_put c.put_bytes-in-31.ensures)
