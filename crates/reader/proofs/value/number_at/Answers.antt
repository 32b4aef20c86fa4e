-- `number_at` meets its contract: each way out is one law of `SizeValues`.
use native.Mathlib.Omega.{arith}
use mathlib.Core.Logic.{⊎_elim}
use Rattle.reader.proofs.lemmas.value.SizeValues.{read_other, read_stuck, read_within, read_unfit, read_number}
use Rattle.reader.proofs.value.number_at.Goals as goal

pub returns-then-seen-ne-A_SYMBOL : goal.returns-then-seen-ne-A_SYMBOL
returns-then-seen-ne-A_SYMBOL c =
    ⊎_elim (λ e. read_other _ _ c.look-seen.ensures c.requires e) (λ e. read_stuck _ _ c.look-seen.ensures c.requires e.0 e.1)
    c.then-seen-ne-A_SYMBOL.either

pub decimal-requires : goal.decimal-requires
decimal-requires c = read_within _ _ c.look-seen.ensures c.requires c.if-seen-ne-A_SYMBOL.false c.if-next-from.false

pub returns-in_err-number : goal.returns-in_err-number
returns-in_err-number c =
    rw c.from_residual.ensures
    (read_unfit _ _ c.look-seen.ensures c.requires c.if-seen-ne-A_SYMBOL.false c.if-next-from.false c.in_err-number.ensures (omega arith))

pub returns-then-number-gt-MOST_NUMBER : goal.returns-then-number-gt-MOST_NUMBER
returns-then-number-gt-MOST_NUMBER c =
    read_unfit _ _ c.look-seen.ensures c.requires c.if-seen-ne-A_SYMBOL.false c.if-next-from.false c.in_ok-number.ensures
    c.if-number-gt-MOST_NUMBER.true

pub returns : goal.returns
returns c = read_number _ _ c.look-seen.ensures c.requires c.if-seen-ne-A_SYMBOL.false c.if-next-from.false c.in_ok-number.ensures
    c.if-number-gt-MOST_NUMBER.false
