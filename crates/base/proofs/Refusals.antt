-- A refusal's number is not 0.
use mathlib.Core.Path.{◌≡◌}
use native.Mathlib.Omega.{arith}
use Rattle.base.specs.Refusals.{number}
use Rattle.base.specs.declared.refusal.Refusal.{Refusal}
use Rattle.base.specs.declared.refusal.Refusal.TheVariants.{TextTooLong, NotUtf8, ForbiddenCharacter, BadString, UnpairedBracket, TooDeep, NotOneExpression, NotAllowed, Absent, Malformed, OtherSort, Include, NodesShort, PoolShort, RowLength, RepeatedId, UnknownTarget, UnknownFootnote, NestedTooDeep, NotATable, OutputShort}

pub number_some : (r : Refusal) → number r ≡ 0 → ⊥
number_some TextTooLong e = omega arith
number_some NotUtf8 e = omega arith
number_some ForbiddenCharacter e = omega arith
number_some BadString e = omega arith
number_some UnpairedBracket e = omega arith
number_some TooDeep e = omega arith
number_some NotOneExpression e = omega arith
number_some NotAllowed e = omega arith
number_some Absent e = omega arith
number_some Malformed e = omega arith
number_some OtherSort e = omega arith
number_some Include e = omega arith
number_some NodesShort e = omega arith
number_some PoolShort e = omega arith
number_some RowLength e = omega arith
number_some RepeatedId e = omega arith
number_some UnknownTarget e = omega arith
number_some UnknownFootnote e = omega arith
number_some NestedTooDeep e = omega arith
number_some NotATable e = omega arith
number_some OutputShort e = omega arith
