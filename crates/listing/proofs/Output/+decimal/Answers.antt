-- `Output::decimal` meets its contract. The measure is the number.
use native.Mathlib.Omega.{arith}
use Rattle.listing.proofs.Decimals.{digit_alone, digit_after}
use Rattle.listing.proofs.Output.+decimal.Goals as goal

pub returns-then-n-lt10 : goal.returns-then-n-lt10
returns-then-n-lt10 t c = digit_alone c.args.n c.if-n-lt10.true c.byte.ensures

pub decimal-requires : goal.decimal-requires
decimal-requires t c = (omega (arith, c.decreases), tt)

pub returns : goal.returns
returns t c = digit_after c.args.n c.if-n-lt10.false c.decimal.ensures c.byte-2.ensures
