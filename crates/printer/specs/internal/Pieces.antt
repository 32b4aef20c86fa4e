-- Numbers by which the code picks a piece: definitions that serve the contracts of private functions.
use Rattle.std.specs.Prelude.{ℕ, Option, None, Some, cond, eqb, ltb}

-- What follows the backslash in `\" \n \r \t`; nothing for any other byte.
unfoldable pub letter_of : ℕ → Option ℕ
letter_of b =
    cond (eqb b 0x22) (Some 0x22)
    (cond (eqb b 0x0A) (Some 0x6E)
    (cond (eqb b 0x0D) (Some 0x72)
    (cond (eqb b 0x09) (Some 0x74) None)))

-- How many of five digits a number does not have.
unfoldable pub leading_of : ℕ → ℕ
leading_of n =
    cond (ltb n 10) 4
    (cond (ltb n 100) 3
    (cond (ltb n 1000) 2
    (cond (ltb n 10000) 1 0)))
