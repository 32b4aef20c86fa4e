-- `Refusal::number` meets its contract.
use mathlib.Core.Path.{◌≡◌, refl}
use Prim.Native.Nat.{◌+◌}
use denote.Enum.Declared.{tag_of}
use Rattle.base.specs.Refusals.{number}
use Rattle.base.specs.contracts.refusal.Refusal.{the_type}
use Rattle.base.specs.declared.refusal.Refusal.{Refusal}
use Rattle.base.specs.declared.refusal.Refusal.TheVariants.{TextTooLong, NotUtf8, ForbiddenCharacter, BadString, UnpairedBracket, TooDeep, NotOneExpression, NotAllowed, Absent, Malformed, OtherSort, Include, NodesShort, PoolShort, RowLength, RepeatedId, UnknownTarget, UnknownFootnote, NestedTooDeep, NotATable, OutputShort}
use Rattle.base.proofs.refusal.Refusal.number.Goals as goal

tag_number : (r : Refusal) → tag_of the_type r + 1 ≡ number r
tag_number TextTooLong = refl
tag_number NotUtf8 = refl
tag_number ForbiddenCharacter = refl
tag_number BadString = refl
tag_number UnpairedBracket = refl
tag_number TooDeep = refl
tag_number NotOneExpression = refl
tag_number NotAllowed = refl
tag_number Absent = refl
tag_number Malformed = refl
tag_number OtherSort = refl
tag_number Include = refl
tag_number NodesShort = refl
tag_number PoolShort = refl
tag_number RowLength = refl
tag_number RepeatedId = refl
tag_number UnknownTarget = refl
tag_number UnknownFootnote = refl
tag_number NestedTooDeep = refl
tag_number NotATable = refl
tag_number OutputShort = refl

pub returns : goal.returns
returns c = tag_number c.args.self
