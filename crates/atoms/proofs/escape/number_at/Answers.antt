-- `escape::number_at` meets its contract: four digits are two pairs.
use mathlib.Core.Path.{◌≡◌, ◌∙◌}
use mathlib.Core.List.{List}
use mathlib.Core.Bool.{cond}
use Prim.Native.Nat.{ℕ, ◌+◌, ◌*◌}
use native.Mathlib.Omega.{arith}
use lib.ListN.{drop, get_or, drop_of_length-le}
use Rattle.std.specs.Prelude.{Some, None}
use Rattle.utf8.specs.rules.Scalar.{is_scalar}
use Rattle.syntax.specs.rules.Syntax.{is_hex, is_piece}
use Rattle.syntax.proofs.Escapes.{below_surrogates, surrogate, above_surrogates}
use Rattle.atoms.specs.internal.Escape.{pair_value, escape_value}
use Rattle.atoms.proofs.escape.HexValues.{high_bad, low_bad, both_good, pair_at}
use Rattle.atoms.proofs.escape.number_at.Goals as goal

-- What two good pairs tell.
two-pairs : (text : List ℕ) (place high low : ℕ) → Some high ≡ pair_value (get_or text (place + 2) 0) (get_or text (place + 2 + 1) 0)
    → Some low ≡ pair_value (get_or text (place + 4) 0) (get_or text (place + 4 + 1) 0)
    → let s = drop place text in
    escape_value (get_or s 2 0) (get_or s 3 0) (get_or s 4 0) (get_or s 5 0) ≡ cond (is_scalar (high * 256 + low)) (Some (high * 256 + low)) None
two-pairs text place high low e f =
    let s : List ℕ = drop place text in
    both_good (get_or s 2 0) (get_or s 3 0) (get_or s 4 0) (get_or s 5 0) high low (e ∙ pair_at text place 2) (f ∙ pair_at text place 4)

pub returns-then-text-place : goal.returns-then-text-place
unfolding escape_value is_piece is_hex
returns-then-text-place c = rw (drop_of_length-le _ c.if-text-place.true)

pub returns-in_err-high : goal.returns-in_err-high
returns-in_err-high c = let s : List ℕ = drop c.args.place c.args.text.now in
    c.from_residual.ensures ∙ high_bad (get_or s 2 0) (get_or s 3 0) (get_or s 4 0) (get_or s 5 0) (c.in_err-high.ensures ∙ pair_at c.args.text.now c.args.place 2)

pub returns-in_err-low : goal.returns-in_err-low
returns-in_err-low c = let s : List ℕ = drop c.args.place c.args.text.now in
    c.from_residual-in_err-low.ensures ∙ low_bad (get_or s 2 0) (get_or s 3 0) (get_or s 4 0) (get_or s 5 0) (c.in_err-low.ensures ∙ pair_at c.args.text.now c.args.place 4)

pub returns-then-value-lt55296 : goal.returns-then-value-lt55296
returns-then-value-lt55296 c =
    let value = two-pairs c.args.text.now c.args.place _ _ c.in_ok-high.ensures c.in_ok-low.ensures in
    rw (value, ← c.from.ensures, ← c.from-2.ensures, below_surrogates _ c.if-value-lt55296.true)

pub returns-then-value-lt57344 : goal.returns-then-value-lt57344
returns-then-value-lt57344 c =
    let value = two-pairs c.args.text.now c.args.place _ _ c.in_ok-high.ensures c.in_ok-low.ensures in
    rw (value, ← c.from.ensures, ← c.from-2.ensures, surrogate _ c.if-value-lt55296.false c.if-value-lt57344.true)

pub returns : goal.returns
returns c =
    let value = two-pairs c.args.text.now c.args.place _ _ c.in_ok-high.ensures c.in_ok-low.ensures in
    rw (value, ← c.from.ensures, ← c.from-2.ensures, above_surrogates _ c.if-value-lt57344.false (omega arith))
