-- What the check of a table promises: the answer is the definition's.
use Rattle.std.specs.Prelude.{◌≡◌}
use Rattle.document.specs.rules.Draft as Defined
use Rattle.validate.specs.declared.Checked.{Checked}

pub record Checks (c : Defined.Checked) (r : Checked) : Type 0 where
  pub number : r.number ≡ c.number
  pub node : r.node ≡ c.node
