-- `stores::put_symbol` meets its contract.
use mathlib.Core.Path.{◌≡◌, refl}
use mathlib.Core.List.{List}
use Prim.Native.Nat.{ℕ, ◌+◌, ◌-◌}
use native.Mathlib.Nat.{add-zero}
use native.Mathlib.Omega.{arith}
use lib.ListN.{length, take, drop, length-drop, drop_of_length-le}
use Rattle.syntax.specs.reference.Scan.{ordinary_run}
use Rattle.characters.proofs.Symbols.{run_fits, run_part}
use Rattle.atoms.proofs.stores.put_symbol.Goals as goal

here : (text : List ℕ) (i end : ℕ) → end ≡ i + length (ordinary_run (drop i text)) → take (end - i) (drop i text) ≡ ordinary_run (drop i text)
here text i end e = let size : end - i ≡ length (ordinary_run (drop i text)) = omega arith in rw size (run_part (drop i text))

pub returns-then-text-place : goal.returns-then-text-place
unfolding ordinary_run
returns-then-text-place c = rw (drop_of_length-le c.args.text.now c.if-text-place.true) (refl, refl)

pub slice_bounds-put_run-end : goal.slice_bounds-put_run-end
slice_bounds-put_run-end c = omega (
  arith,
  run_fits
      (drop c.args.place c.args.text.now),
  length-drop
      c.args.place c.args.text.now,
  c.symbol_end-end.ensures,
)

pub returns : goal.returns
returns c = (
  omega (arith, c.symbol_end-end.ensures),
  rw (
    add-zero c.args.at,
    here
        c.args.text.now
        c.args.place c.symbol_end-end.result
        c.symbol_end-end.ensures,
  ) at c.put_run.ensures,
)
