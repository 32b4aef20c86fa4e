-- Symbols, one byte at a time.
use mathlib.Core.Path.{◌≡◌, refl, ap}
use mathlib.Core.Bool.{Bool, true, false, cond}
use mathlib.Core.List.{List, [], ◌∷◌}
use Prim.Native.Nat.{ℕ, suc, ◌+◌, ◌≤◌, ◌<◌}
use native.Mathlib.Omega.{arith}
use native.Mathlib.Numerals.{add-one}
use lib.ListN.{length, take, drop, get_or}
use lib.Seq.{drop-cons}
use Rattle.syntax.specs.rules.Byte.{is_ordinary}
use Rattle.syntax.specs.reference.Scan.{ordinary_run}

run_more : (b : ℕ) (s : List ℕ) → is_ordinary b ≡ true → ordinary_run (b ∷ s) ≡ b ∷ ordinary_run s
unfolding ordinary_run
run_more b s e = rw e

-- A turn of the loop passes one byte of a symbol, and where no such byte stands the symbol ends.
pub run_turn : (text : List ℕ) (i : ℕ) → i < length text → is_ordinary (get_or text i 0) ≡ true
    → ordinary_run (drop i text) ≡ get_or text i 0 ∷ ordinary_run (drop (i + 1) text)
run_turn text i h e = rw (drop-cons text i 0 h, add-one i) (run_more (get_or text i 0) (drop (suc i) text) e)

pub run_stop : (text : List ℕ) (i : ℕ) → i < length text → is_ordinary (get_or text i 0) ≡ false → ordinary_run (drop i text) ≡ []
unfolding ordinary_run
run_stop text i h e = rw (drop-cons text i 0 h, e)

pub run_fits : (s : List ℕ) → length (ordinary_run s) ≤ length s
unfolding ordinary_run
run_fits [] = omega arith
run_fits (b ∷ s) = go (is_ordinary b) (run_fits s)
  where
    go : (t : Bool) → length (ordinary_run s) ≤ length s → length (cond t (b ∷ ordinary_run s) []) ≤ suc (length s)
    go true h = omega arith
    go false h = omega arith

-- A symbol is the text's bytes from its place on.
pub run_part : (s : List ℕ) → take (length (ordinary_run s)) s ≡ ordinary_run s
unfolding ordinary_run
run_part [] = refl
run_part (b ∷ s) = go (is_ordinary b) (run_part s)
  where
    go : (t : Bool) → take (length (ordinary_run s)) s ≡ ordinary_run s → take (length (cond t (b ∷ ordinary_run s) [])) (b ∷ s) ≡ cond t (b ∷ ordinary_run s) []
    go true e = ap (λ (l : List ℕ). b ∷ l) e
    go false e = refl
