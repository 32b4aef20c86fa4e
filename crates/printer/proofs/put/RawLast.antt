-- The tail of bytes that stand for themselves does so too.
use Prim.Native.Nat.{ℕ, zero, suc, ◌+◌, ◌-◌, ◌<◌, ◌≤◌, min}
use mathlib.Core.Path.{◌≡◌, refl, sym, ap, ◌∙◌}
use mathlib.Core.Bool.{Bool, true, false, cond, ◌&&◌, ◌||◌}
use mathlib.Core.List.{List, [], ◌∷◌, ◌++◌}
use native.Mathlib.Omega.{arith}
use lib.Dec.{eqb, ltb}
use lib.ListN.{length, take, drop, length-append, length-drop, take-append-drop}
use lib.Seq.{take_all, drop_at, drop-append_seam, drop-drop}
use Rattle.base.proofs.Booleans.{both, true_T, T_true}
use Rattle.document.specs.rules.Canonical.{unicode_before, byte_before, bytes_before}
use Rattle.printer.specs.internal.Raw.{Raw, RawTo}
use Rattle.printer.proofs.put.Pieces.{bytes_both}
use Rattle.printer.proofs.put.RawBytes.{raw_start, raw_on}

-- A byte is spelled by one byte or more, so no spelling is shorter than its string.
module _ (k : List ℕ) where
  longer_pick : (c : Bool) (x y : List ℕ) → length k < length x → length k < length y → length k < length (cond c x y)
  longer_pick true x y a b = a
  longer_pick false x y a b = b

  longer_byte : (b : ℕ) → length k < length (byte_before b k)
  unfolding byte_before unicode_before
  longer_byte b =
      longer_pick (eqb b 0x22) _ _ (omega arith)
      (longer_pick (eqb b 0x0A) _ _ (omega arith)
      (longer_pick (eqb b 0x0D) _ _ (omega arith)
      (longer_pick (eqb b 0x09) _ _ (omega arith) (longer_pick (eqb b 0x5C || ltb b 0x20 || eqb b 0x7F) _ _ (omega arith) (omega arith)))))

longer_bytes : (s : List ℕ) → length s ≤ length (bytes_before s [])
unfolding bytes_before
longer_bytes [] = omega arith
longer_bytes (b ∷ s) = omega (arith, longer_byte (bytes_before s []) b, longer_bytes s)

raw_tail : (s t : List ℕ) → Raw (s ++ t) → Raw t
unfolding Raw
raw_tail s t e =
    let joined : bytes_before s [] ++ bytes_before t [] ≡ s ++ t = sym (bytes_both s t) ∙ e in
    let sizes : length (bytes_before s []) + length (bytes_before t []) ≡ length s + length t
    = sym (length-append (bytes_before s []) (bytes_before t [])) ∙ ap length joined ∙ length-append s t in
    let same : length (bytes_before s []) ≡ length s = omega (arith, longer_bytes s, longer_bytes t) in
    sym (drop_at (bytes_before s []) (bytes_before t []) (length s) same)
    ∙ ap (λ (l : List ℕ). drop (length s) l) joined
    ∙ drop-append_seam s t

module _ (s : List ℕ) (from : ℕ) where
  -- The last eight bytes, of which some are known already.
  raw_last : (i last : ℕ) → RawTo s from i → last ≤ i → last + 8 ≡ length s → Raw (take 8 (drop last s)) → RawTo s from (length s)
  raw_last i last a h e b =
      let inside : i ≤ length s = a.within in
      let size : length (drop last s) ≤ 8 = simp length-drop (omega arith) in
      let whole : Raw (drop last s) = rw (take_all 8 (drop last s) size) at b in
      let place : last + (i - last) ≡ i = omega arith in
      let parts : take (i - last) (drop last s) ++ drop i s ≡ drop last s
      = rw (drop-drop (i - last) last s, place) at (take-append-drop (i - last) (drop last s)) in
      let joined : Raw (take (i - last) (drop last s) ++ drop i s) = rw parts whole in
      let rest : Raw (drop i s) = raw_tail (take (i - last) (drop last s)) (drop i s) joined in
      let count : i + (length s - i) ≡ length s = omega arith in
      let all : take (length s - i) (drop i s) ≡ drop i s = take_all (length s - i) (drop i s) (simp length-drop (omega arith)) in
      let raw : Raw (take (length s - i) (drop i s)) = rw all rest in
      rw count at (raw_on s from i (length s - i) a (omega arith) raw)

  -- Two blocks of eight, the second the last, that reach over all from an index on.
  pub raw_over : (first last : ℕ) {p q : Bool} → from ≤ length s → length s ≤ from + 16 → last + 8 ≡ length s → first ≡ min from last
      → (p ≡ true → Raw (take 8 (drop first s))) → (q ≡ true → Raw (take 8 (drop last s))) → p && q ≡ true → RawTo s from (length s)
  raw_over first last {p} {q} h g e m f k t = go (last - from) refl
    where
      go : (n : ℕ) → last - from ≡ n → RawTo s from (length s)
      go zero d =
          let (x, y) = both p q (true_T t) in
          raw_last from last (raw_start s from h) (omega arith) e (k (T_true q y))
      go (suc n) d =
          let (x, y) = both p q (true_T t) in
          let same : first ≡ from = omega arith in
          let block : Raw (take 8 (drop from s)) = rw same at (f (T_true p x)) in
          let head : RawTo s from (from + 8) = raw_on s from from 8 (raw_start s from h) (omega arith) block in
          raw_last (from + 8) last head (omega arith) e (k (T_true q y))
