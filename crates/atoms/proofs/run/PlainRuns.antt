-- Runs of the bytes of a string that stand for themselves.
use mathlib.Core.Path.{◌≡◌, refl, sym, ap, ◌∙◌}
use mathlib.Core.Bool.{Bool, true, false, cond, ◌&&◌}
use mathlib.Core.List.{List, [], ◌∷◌}
use Prim.Native.Nat.{ℕ, zero, suc, ◌+◌, ◌≤◌, ◌<◌}
use native.Mathlib.Nat.{add-zero}
use native.Mathlib.Omega.{arith}
use lib.Dec.{leb, leb-suc-suc}
use borrow.Author.Tests.{leb-true, le-leb, lt-leb}
use lib.ListN.{length, take, drop, get_or, drop_of_length-le}
use lib.Seq.{drop-cons, drop-drop}
use Rattle.syntax.specs.rules.Byte.{is_raw}
use Rattle.syntax.specs.rules.Syntax.{raw, is_piece}
use Rattle.syntax.specs.reference.Scan.{Quoted, piece, quoted_from}
use Rattle.syntax.proofs.Strings.{raw_tests}
use Rattle.atoms.specs.internal.Run.{plain_run}

-- So many plain bytes stand at the front, and so many more after them.
front : (m n : ℕ) (s : List ℕ) → leb m (length (plain_run s)) && leb n (length (plain_run (drop m s))) ≡ leb (m + n) (length (plain_run s))
unfolding plain_run
front zero n s = rw (le-leb 0 (length (plain_run s)) (omega arith)) (ap (λ (k : ℕ). leb k (length (plain_run s))) (omega arith))
front (suc m) n [] = rw (lt-leb (suc m) 0 (omega arith), lt-leb (suc m + n) 0 (omega arith))
front (suc m) n (b ∷ s) = go (is_raw b) (front m n s)
  where
    go : (t : Bool) → leb m (length (plain_run s)) && leb n (length (plain_run (drop m s))) ≡ leb (m + n) (length (plain_run s))
        → leb (suc m) (length (cond t (b ∷ plain_run s) [])) && leb n (length (plain_run (drop m s))) ≡ leb (suc m + n) (length (cond t (b ∷ plain_run s) []))
    go true e =
        let next : suc m + n ≡ suc (m + n) = omega arith in
        rw (next, leb-suc-suc m (length (plain_run s)), leb-suc-suc (m + n) (length (plain_run s))) e
    go false e = rw (lt-leb (suc m) 0 (omega arith), lt-leb (suc m + n) 0 (omega arith))

rest : (n : ℕ) (s : List ℕ) → n ≤ length (plain_run s) → n + length (plain_run (drop n s)) ≡ length (plain_run s)
unfolding plain_run
rest zero s h = omega arith
rest (suc n) [] h = absurd (omega arith)
rest (suc n) (b ∷ s) h = go (is_raw b) (rest n s) h
  where
    go : (t : Bool) → (n ≤ length (plain_run s) → n + length (plain_run (drop n s)) ≡ length (plain_run s))
        → suc n ≤ length (cond t (b ∷ plain_run s) []) → suc n + length (plain_run (drop n s)) ≡ length (cond t (b ∷ plain_run s) [])
    go true f h = omega (arith, f (omega arith))
    go false f h = absurd (omega arith)

-- The length of the run from a place of a text on.
abbrev pub plains : List ℕ → ℕ → ℕ
plains text i = length (plain_run (drop i text))

module _ (text : List ℕ) (i : ℕ) where
  pub plain_blocks : (m n : ℕ) → leb m (plains text i) && leb n (plains text (i + m)) ≡ leb (m + n) (plains text i)
  plain_blocks m n = rw (drop-drop m i text) at (front m n (drop i text))

  -- From a place of the run on it ends where it ends.
  pub plain_passed : (n : ℕ) → leb n (plains text i) ≡ true → i + n + plains text (i + n) ≡ i + plains text i
  plain_passed n e = omega (arith, rw (drop-drop n i text) at (rest n (drop i text) (leb-true n (plains text i) e)))

  pub plain_past : length text ≤ i → plains text i ≡ 0
  unfolding plain_run
  plain_past h = rw (drop_of_length-le text h)

  -- By the byte at the place.
  pub plain_one : i < length text → is_raw (get_or text i 0) ≡ leb 1 (plains text i)
  unfolding plain_run
  plain_one h = rw (drop-cons text i 0 h) (go (is_raw (get_or text i 0)))
    where
      go : (t : Bool) → t ≡ leb 1 (length (cond t (get_or text i 0 ∷ plain_run (drop (suc i) text)) []))
      go true = sym (le-leb 1 (suc (length (plain_run (drop (suc i) text)))) (omega arith))
      go false = sym (lt-leb 1 0 (omega arith))

pub plain_stop : (text : List ℕ) (i : ℕ) → i < length text → is_raw (get_or text i 0) ≡ false → plains text i ≡ 0
unfolding plain_run
plain_stop text i h e = rw (drop-cons text i 0 h, e)

pub plain_more : (text : List ℕ) (i n : ℕ) → i + n < length text → leb n (plains text i) && is_raw (get_or text (i + n) 0) ≡ leb (n + 1) (plains text i)
plain_more text i n h = rw (plain_one text (i + n) h) (plain_blocks text i n 1)

-- A run is the text's bytes from its place on.
pub plain_part : (s : List ℕ) → take (length (plain_run s)) s ≡ plain_run s
unfolding plain_run
plain_part [] = refl
plain_part (b ∷ s) = go (is_raw b) (plain_part s)
  where
    go : (t : Bool) → take (length (plain_run s)) s ≡ plain_run s → take (length (cond t (b ∷ plain_run s) [])) (b ∷ s) ≡ cond t (b ∷ plain_run s) []
    go true e = ap (λ (l : List ℕ). b ∷ l) e
    go false e = refl

-- ---- a string over a run

-- Plain bytes in front of what follows.
unfoldable pub raws : List ℕ → Quoted → Quoted
raws [] q = q
raws (b ∷ s) q = piece (raw b) (raws s q)

-- A string over a run goes on after it.
quoted_run : (s : List ℕ) (n : ℕ) → quoted_from 0 n s ≡ raws (plain_run s) (quoted_from 0 (n + length (plain_run s)) (drop (length (plain_run s)) s))
unfolding quoted_from plain_run raws is_piece
quoted_run [] n = refl
quoted_run (b ∷ s) n = go (is_raw b) refl (quoted_run s (n + 1))
  where
    go : (t : Bool) → is_raw b ≡ t → quoted_from 0 (n + 1) s ≡ raws (plain_run s) (quoted_from 0 (n + 1 + length (plain_run s)) (drop (length (plain_run s)) s))
        → quoted_from 0 n (b ∷ s) ≡ raws (cond t (b ∷ plain_run s) []) (quoted_from 0 (n + length (cond t (b ∷ plain_run s) [])) (drop (length (cond t (b ∷ plain_run s) [])) (b ∷ s)))
    go true e f =
        let (x, y) = raw_tests b (rw e tt) in
        let next : n + 1 + length (plain_run s) ≡ n + suc (length (plain_run s)) = omega arith in
        rw (x, y, ← next) (ap (piece (raw b)) f)
    go false e f = rw (add-zero n)

-- The same at a place of a text.
pub quoted_passed : (text : List ℕ) (i end : ℕ) → end ≡ i + plains text i
    → quoted_from 0 i (drop i text) ≡ raws (plain_run (drop i text)) (quoted_from 0 end (drop end text))
quoted_passed text i end e = rw (e, ← drop-drop (plains text i) i text) (quoted_run (drop i text) i)

-- No plain byte stands after a run.
pub plain_ended : (text : List ℕ) (i end : ℕ) → end ≡ i + plains text i → end < length text → is_raw (get_or text end 0) ≡ false
plain_ended text i end e h =
    let none : plains text end ≡ 0 = omega (arith, rw (← e) at (plain_passed text i (plains text i) (le-leb (plains text i) (plains text i) (omega arith)))) in
    plain_one text end h ∙ rw none
