-- What the functions of the loop through a string answer, one step of it each.
use Rattle.std.specs.Prelude.{ℕ, ◌+◌, cond, List, [], ◌∷◌, eqb}
use Rattle.base.specs.rules.Numbers as Number
use Rattle.atoms.specs.Atom.{StringEnd}

unfoldable pub bad_string_end : ℕ → StringEnd
bad_string_end n = record { number = Number.bad_string; place = n; next = 0; length = 0 }

-- The string whose quote is at n has pieces that stand for d bytes, up to place i, where no piece stands.
unfoldable pub stopped_at : ℕ → ℕ → ℕ → List ℕ → StringEnd
stopped_at n i d [] = bad_string_end n
stopped_at n i d (b ∷ s) =
    cond (eqb b 0x22) (cond (eqb d 0) (bad_string_end n) (record { number = Number.ok; place = 0; next = i + 1; length = d })) (bad_string_end i)
