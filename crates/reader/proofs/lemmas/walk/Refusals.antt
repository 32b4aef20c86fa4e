-- A refusal by its number, of which none is 0, and what a `?` hands on.
use Prim.Native.Nat.{◌<◌}
use mathlib.Core.Path.{◌≡◌, refl, ap, ◌∙◌}
use native.Mathlib.Omega.{arith}
use lib.Dec.{eqb}
use denote.Enum.Bare.{sameb}
use Rattle.std.specs.Prelude.{Result, Err}
use Rattle.std.specs.Result.{IsErrAnd}
use Rattle.std.proofs.lemmas.Result.{err_from_is_err_and}
use Rattle.base.specs.rules.Numbers as Number
use Rattle.base.specs.Refusals.{number}
use Rattle.base.specs.contracts.refusal.Refusal.{the_type}
use Rattle.base.specs.declared.refusal.Refusal.{Refusal}
use Rattle.base.specs.declared.refusal.Refusal.TheVariants.{TextTooLong, NotUtf8, ForbiddenCharacter, BadString, UnpairedBracket, TooDeep, NotOneExpression, NotAllowed, Absent, Malformed, OtherSort, Include, NodesShort, PoolShort, RowLength, RepeatedId, UnknownTarget, UnknownFootnote, NestedTooDeep, NotATable, OutputShort}
use Rattle.reader.specs.declared.walk.Refused.{Refused}

told_apart : (r : Refusal) → (0 < number r) × (eqb (number r) Number.absent ≡ sameb the_type r Absent)
told_apart TextTooLong = (omega arith, refl)
told_apart NotUtf8 = (omega arith, refl)
told_apart ForbiddenCharacter = (omega arith, refl)
told_apart BadString = (omega arith, refl)
told_apart UnpairedBracket = (omega arith, refl)
told_apart TooDeep = (omega arith, refl)
told_apart NotOneExpression = (omega arith, refl)
told_apart NotAllowed = (omega arith, refl)
told_apart Absent = (omega arith, refl)
told_apart Malformed = (omega arith, refl)
told_apart OtherSort = (omega arith, refl)
told_apart Include = (omega arith, refl)
told_apart NodesShort = (omega arith, refl)
told_apart PoolShort = (omega arith, refl)
told_apart RowLength = (omega arith, refl)
told_apart RepeatedId = (omega arith, refl)
told_apart UnknownTarget = (omega arith, refl)
told_apart UnknownFootnote = (omega arith, refl)
told_apart NestedTooDeep = (omega arith, refl)
told_apart NotATable = (omega arith, refl)
told_apart OutputShort = (omega arith, refl)

pub refusal_some : (r : Refusal) → number r ≡ 0 → ⊥
refusal_some r e = omega (arith, told_apart r)

pub is_absent : (r : Refusal) → eqb (number r) Number.absent ≡ sameb the_type r Absent
is_absent r = (told_apart r).1

-- What a `?` hands on.
pub passed_up : {T : Type 0} (r : Result T Refused) {f : Refused} → IsErrAnd r (λ e. e ≡ f) → r ≡ Err f
passed_up r h = let e = err_from_is_err_and r h in e.1 ∙ ap Err e.2
