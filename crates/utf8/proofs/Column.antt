-- Line and column of a place, counted one byte at a time.
use mathlib.Core.Path.{◌≡◌, refl, ◌∙◌}
use mathlib.Core.Bool.{Bool, true, false, cond, ◌||◌}
use mathlib.Core.List.{List, [], ◌∷◌}
use Prim.Native.Nat.{ℕ, suc, ◌+◌, ◌≤◌, ◌<◌, min}
use native.Mathlib.Omega.{arith}
use native.Mathlib.Numerals.{add-one}
use lib.Dec.{eqb}
use lib.ListN.{length, take, drop, get_or, length-take, drop_of_length-le}
use lib.Seq.{drop-cons, get_or-take}
use Rattle.utf8.specs.rules.Position.{line_feed, line_feeds, has_line_feed, last_line, is_continuation, characters}
use Rattle.base.proofs.Booleans.{cond_case}

-- The line and the column after one more byte.
abbrev pub next_line : ℕ → ℕ → ℕ
next_line b line = cond (eqb b line_feed) (line + 1) line

abbrev pub next_column : ℕ → ℕ → ℕ
next_column b column = cond (eqb b line_feed) 1 (cond (is_continuation b) column (column + 1))

-- The column after the rest r, from the column before it: where r has a line feed, what stood before is of no account.
unfoldable pub column_after : ℕ → List ℕ → ℕ
column_after column r = cond (has_line_feed r) (1 + characters (last_line r)) (column + characters r)

or_false : (a b : Bool) → a || b ≡ false → (a ≡ false) × (b ≡ false)
or_false true b e = (e, cc)
or_false false b e = (refl, e)

last_line_lem : (r : List ℕ) → has_line_feed r ≡ false → last_line r ≡ r
unfolding has_line_feed last_line
last_line_lem [] e = refl
last_line_lem (b ∷ r) e =
    let (f, g) = or_false (eqb b line_feed) (has_line_feed r) e in
    rw (f, g)

pub column_start : (r : List ℕ) → column_after 1 r ≡ 1 + characters (last_line r)
unfolding column_after
column_start r = cond_case (λ (n : ℕ). n ≡ 1 + characters (last_line r)) (has_line_feed r) (λ e. refl) (λ e. rw (last_line_lem r e))

pub column_end : (column : ℕ) → column_after column [] ≡ column
unfolding column_after has_line_feed characters
column_end column = omega arith

-- By whether the byte is a line feed, one follows it, and it continues a character.
by_cases : (column b : ℕ) (r : List ℕ) (feed feeds more : Bool)
    → cond (feed || feeds) (1 + characters (cond feeds (last_line r) (cond feed r (b ∷ r)))) (column + cond more (characters r) (suc (characters r)))
    ≡ cond feeds (1 + characters (last_line r)) (cond feed 1 (cond more column (column + 1)) + characters r)
by_cases column b r true true more = refl
by_cases column b r false true more = refl
by_cases column b r true false more = refl
by_cases column b r false false true = refl
by_cases column b r false false false = omega arith

pub column_step : (column b : ℕ) (r : List ℕ) → column_after column (b ∷ r) ≡ column_after (next_column b column) r
unfolding column_after has_line_feed last_line characters
column_step column b r = by_cases column b r (eqb b line_feed) (has_line_feed r) (is_continuation b)

by_feed : (line feeds : ℕ) (feed : Bool) → line + cond feed (suc feeds) feeds ≡ cond feed (line + 1) line + feeds
by_feed line feeds true = omega arith
by_feed line feeds false = refl

pub line_step : (line b : ℕ) (r : List ℕ) → line + line_feeds (b ∷ r) ≡ next_line b line + line_feeds r
unfolding line_feeds
line_step line b r = by_feed line (line_feeds r) (eqb b line_feed)

-- What is left before a place, from i on, is the byte at i and what is left from i + 1 on.
pub left_step : (text : List ℕ) (place i : ℕ) → i < min place (length text) → drop i (take place text) ≡ get_or text i 0 ∷ drop (i + 1) (take place text)
left_step text place i h =
    let inside : i < length (take place text) = omega (arith, length-take place text) in
    let before : i < place = omega arith in
    drop-cons (take place text) i 0 inside ∙ rw (add-one i, get_or-take place text i 0 before)

pub left_end : (text : List ℕ) (place i : ℕ) → min place (length text) ≤ i → drop i (take place text) ≡ []
left_end text place i h =
    let past : length (take place text) ≤ i = omega (arith, length-take place text) in
    drop_of_length-le (take place text) past

-- Neither grows by more than one for a byte.
pub next_line_bound : (b line : ℕ) → next_line b line ≤ line + 1
next_line_bound b line = cond_case (λ (n : ℕ). n ≤ line + 1) (eqb b line_feed) (λ e. omega arith) (λ e. omega arith)

pub next_column_bound : (b column : ℕ) → next_column b column ≤ column + 1
next_column_bound b column =
    cond_case (λ (n : ℕ). n ≤ column + 1) (eqb b line_feed) (λ e. omega arith)
    (λ e. cond_case (λ (n : ℕ). n ≤ column + 1) (is_continuation b) (λ f. omega arith) (λ f. omega arith))
