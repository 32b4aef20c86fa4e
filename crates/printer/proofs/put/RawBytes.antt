-- Bytes of a string that stand for themselves.
use Prim.Native.Nat.{ℕ, ◌+◌, ◌-◌, ◌<◌, ◌≤◌}
use mathlib.Core.Path.{◌≡◌, refl, sym, ap, ◌∙◌}
use mathlib.Core.Bool.{Bool, true, false, not, ◌&&◌}
use mathlib.Core.List.{List, [], ◌∷◌, ◌++◌}
use native.Mathlib.Numerals.{add-one}
use native.Mathlib.Omega.{arith}
use lib.Dec.{eqb, ltb}
use lib.ListN.{length, get_or, take, drop, length-drop}
use lib.Seq.{take-suc, take-add, drop-cons, drop-drop, get_or-drop}
use borrow.Author.Tests.{ltb-true, le-ltb, ne_eqb}
use Rattle.base.proofs.Booleans.{both, true_T, T_true, not-true}
use Rattle.document.specs.rules.Canonical.{byte_before, bytes_before}
use Rattle.printer.specs.internal.Raw.{Raw, RawTo}
use Rattle.printer.specs.declared.put.Output.{Output}
use Rattle.printer.specs.internal.Appends.{Appends}
use Rattle.printer.proofs.put.Appending.{appends_as, appends_join}
use Rattle.printer.proofs.put.Pieces.{bytes_both}

pub raw_none : Raw []
unfolding Raw bytes_before
raw_none = refl

raw_both : (s t : List ℕ) → Raw s → Raw t → Raw (s ++ t)
unfolding Raw
raw_both s t a b = bytes_both s t ∙ rw (a, b)

-- A byte that is neither a quote, a backslash, a control nor 0x7F.
pub raw_tested : (b : ℕ) → not (eqb b 0x22) && not (eqb b 0x5C) && ltb 0x1F b && not (eqb b 0x7F) ≡ true → Raw (b ∷ [])
unfolding Raw bytes_before byte_before
raw_tested b e =
    let (abc, d) = both (not (eqb b 0x22) && not (eqb b 0x5C) && ltb 0x1F b) (not (eqb b 0x7F)) (true_T e) in
    let (ab, c) = both (not (eqb b 0x22) && not (eqb b 0x5C)) (ltb 0x1F b) abc in
    let (a, b') = both (not (eqb b 0x22)) (not (eqb b 0x5C)) ab in
    let high : 0x1F < b = ltb-true 0x1F b (T_true _ c) in
    let quote : eqb b 0x22 ≡ false = not-true (eqb b 0x22) (T_true _ a) in
    let backslash : eqb b 0x5C ≡ false = not-true (eqb b 0x5C) (T_true _ b') in
    let delete : eqb b 0x7F ≡ false = not-true (eqb b 0x7F) (T_true _ d) in
    let low : ltb b 0x20 ≡ false = le-ltb b 0x20 (omega arith) in
    rw (quote, ne_eqb b 0x0A (λ v. omega arith), ne_eqb b 0x0D (λ v. omega arith), ne_eqb b 0x09 (λ v. omega arith), backslash, low, delete)

module _ (s : List ℕ) (i : ℕ) where
  pub raw_first : {p : Bool} → i < length s → (p ≡ true → Raw (get_or s i 0 ∷ [])) → p ≡ true → Raw (take 1 (drop i s))
  raw_first h a e = rw (drop-cons s i 0 h) (a e)

  -- One byte more of a block, by the tests of the bytes before it and of the byte.
  pub raw_more : (n : ℕ) {p q : Bool} → i + n < length s → (p ≡ true → Raw (take n (drop i s))) → (q ≡ true → Raw (get_or s (i + n) 0 ∷ []))
      → p && q ≡ true → Raw (take (n + 1) (drop i s))
  raw_more n {p} {q} h a b e =
      let (f, g) = both p q (true_T e) in
      let inside : n < length (drop i s) = simp length-drop (omega arith) in
      rw (add-one n, take-suc (drop i s) n 0 inside, get_or-drop i s n 0) (raw_both (take n (drop i s)) (get_or s (i + n) 0 ∷ []) (a (T_true p f)) (b (T_true q g)))

module _ (s : List ℕ) (from : ℕ) where
  pub raw_start : from ≤ length s → RawTo s from from
  unfolding Raw bytes_before
  raw_start h =
      let none : from - from ≡ 0 = omega arith in
      record { in_order = omega arith; within = h; raw = rw none refl }

  -- Bytes that stand for themselves behind such bytes.
  pub raw_on : (i n : ℕ) → RawTo s from i → i + n ≤ length s → Raw (take n (drop i s)) → RawTo s from (i + n)
  raw_on i n a h b =
      let low : from ≤ i = a.in_order in
      let size : i + n - from ≡ (i - from) + n = omega arith in
      let place : from + (i - from) ≡ i = omega arith in
      record {
        in_order = omega arith;
        within = h;
        raw = rw (size, take-add (i - from) n (drop from s), drop-drop (i - from) from s, place)
            (raw_both (take (i - from) (drop from s)) (take n (drop i s)) a.raw b);
      }

  pub raw_join : (i to : ℕ) → RawTo s from i → RawTo s i to → RawTo s from to
  raw_join i to a b =
      let low : i ≤ to = b.in_order in
      let high : to ≤ length s = b.within in
      let size : i + (to - i) ≡ to = omega arith in
      rw size at (raw_on i (to - i) a (omega arith) b.raw)

  -- Two blocks of eight, by their tests.
  pub raw_two : (i : ℕ) {p q : Bool} → RawTo s from i → i + 16 ≤ length s → (p ≡ true → Raw (take 8 (drop i s)))
      → (q ≡ true → Raw (take 8 (drop (i + 8) s))) → p && q ≡ true → RawTo s from (i + 16)
  raw_two i {p} {q} a h f g e =
      let (x, y) = both p q (true_T e) in
      let place : i + 8 + 8 ≡ i + 16 = omega arith in
      rw place at (raw_on (i + 8) 8 (raw_on i 8 a (omega arith) (f (T_true p x))) (omega arith) (g (T_true q y)))

  raw_written : (to : ℕ) → RawTo s from to → bytes_before (take from s) [] ++ take (to - from) (drop from s) ≡ bytes_before (take to s) []
  unfolding Raw
  raw_written to a =
      let low : from ≤ to = a.in_order in
      let size : to ≡ from + (to - from) = omega arith in
      let run : List ℕ = take (to - from) (drop from s) in
      ap (λ (l : List ℕ). bytes_before (take from s) [] ++ l) (sym a.raw) ∙ sym (bytes_both (take from s) run)
      ∙ ap (λ (l : List ℕ). bytes_before l []) (sym (ap (λ (n : ℕ). take n s) size ∙ take-add from (to - from) s))

  -- Such bytes are written as they are, behind the bytes before them.
  pub appends_raw : (to : ℕ) {a b c : Output} → RawTo s from to → Appends a (bytes_before (take from s) []) b
      → Appends b (take (to - from) (drop from s)) c → Appends a (bytes_before (take to s) []) c
  appends_raw to r p q = appends_as (raw_written to r) (appends_join p q)
