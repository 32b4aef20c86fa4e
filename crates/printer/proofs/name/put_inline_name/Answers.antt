-- `name::put_inline_name` meets its contract: in each arm the bytes are the name of the class, and a text has none.
use native.Mathlib.Omega.{arith}
use Rattle.base.proofs.Adding.{adds_put}
use Rattle.elements.specs.rules.Class as Class
use Rattle.printer.proofs.name.ClassNames.{adds_name, adds_text}
use Rattle.elements.specs.rules.Bytes.{codes}
use Rattle.elements.specs.rules.Class.{names, name_in, name_of, as_name}
use Rattle.printer.proofs.name.put_inline_name.Goals as goal

pub returns-in_default : goal.returns-in_default
returns-in_default c = adds_text _ _ _ (omega arith)

pub returns-in-10 : goal.returns-in-10
unfolding names name_in name_of as_name codes
returns-in-10 c = adds_name _ Class.term c.in-10.is (adds_put c.put_bytes.ensures)

pub returns-in-11 : goal.returns-in-11
unfolding names name_in name_of as_name codes
returns-in-11 c = adds_name _ Class.image c.in-11.is (adds_put c.put_bytes-in-11.ensures)

pub returns-in-12 : goal.returns-in-12
unfolding names name_in name_of as_name codes
returns-in-12 c = adds_name _ Class.verbatim c.in-12.is (adds_put c.put_bytes-in-12.ensures)

pub returns-in-13 : goal.returns-in-13
unfolding names name_in name_of as_name codes
returns-in-13 c = adds_name _ Class.link c.in-13.is (adds_put c.put_bytes-in-13.ensures)

pub returns-in-14 : goal.returns-in-14
unfolding names name_in name_of as_name codes
returns-in-14 c = adds_name _ Class.link_ext c.in-14.is (adds_put c.put_bytes-in-14.ensures)

pub returns-in-15 : goal.returns-in-15
unfolding names name_in name_of as_name codes
returns-in-15 c = adds_name _ Class.footnote_ref c.in-15.is (adds_put c.put_bytes-in-15.ensures)
