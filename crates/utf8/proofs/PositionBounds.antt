-- Line and column of a place, whatever the text, are no greater than the place and the text allow.
use Prim.Native.Nat.{ℕ, suc, ◌+◌, ◌≤◌, min}
use mathlib.Core.List.{List, [], ◌∷◌}
use native.Mathlib.Omega.{arith}
use lib.Dec.{eqb}
use lib.ListN.{length, take, length-take}
use Rattle.base.proofs.Booleans.{cond_case}
use Rattle.utf8.specs.rules.Position.{line_feed, line_feeds, line_of, has_line_feed, last_line, is_continuation, characters, column_of}

feeds_within : (s : List ℕ) → line_feeds s ≤ length s
unfolding line_feeds
feeds_within [] = omega arith
feeds_within (b ∷ s) =
    let h : line_feeds s ≤ length s = feeds_within s in
    cond_case (λ (n : ℕ). n ≤ suc (length s)) (eqb b line_feed) (λ e. omega arith) (λ e. omega arith)

characters_within : (s : List ℕ) → characters s ≤ length s
unfolding characters
characters_within [] = omega arith
characters_within (b ∷ s) =
    let h : characters s ≤ length s = characters_within s in
    cond_case (λ (n : ℕ). n ≤ suc (length s)) (is_continuation b) (λ e. omega arith) (λ e. omega arith)

last_within : (s : List ℕ) → length (last_line s) ≤ length s
unfolding last_line
last_within [] = omega arith
last_within (b ∷ s) =
    let h : length (last_line s) ≤ length s = last_within s in
    cond_case (λ (l : List ℕ). length l ≤ suc (length s)) (has_line_feed s) (λ e. omega arith)
    (λ e. cond_case (λ (l : List ℕ). length l ≤ suc (length s)) (eqb b line_feed) (λ f. omega arith) (λ f. omega arith))

-- Neither line nor column passes the place, or the length of the text, by more than one.
pub record PositionWithin (most line column : ℕ) : Type 0 where
  pub line_within : line ≤ most + 1
  pub column_within : column ≤ most + 1

pub position_within : (text : List ℕ) (p : ℕ) → PositionWithin (min p (length text)) (line_of text p) (column_of text p)
unfolding line_of column_of
position_within text p =
    let t = length-take p text in
    record {
      line_within = omega (arith, feeds_within (take p text));
      column_within = omega (arith, characters_within (last_line (take p text)), last_within (take p text));
    }
