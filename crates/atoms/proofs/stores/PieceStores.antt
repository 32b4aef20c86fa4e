-- Bytes that are written one after another. A store past the end writes nothing, so no bound is asked.
use mathlib.Core.Path.{◌≡◌, refl}
use mathlib.Core.List.{List, [], ◌∷◌}
use Prim.Native.Nat.{ℕ, suc, ◌+◌, ◌-◌, ◌≤◌, ◌<◌}
use native.Mathlib.Omega.{arith}
use lib.ListN.{length, take, get_or, set}
use lib.Seq.{sets, take_all}

-- One to three stores, by the size of what is written.
module _ (out : List ℕ) (at k size a b c : ℕ) where
  abbrev Put : List ℕ → Type 0
  Put l = l ≡ sets out (at + k) (a ∷ take (size - 1) (b ∷ c ∷ []))

  pub put_one : (l : List ℕ) → size ≤ 1 → l ≡ set out (at + k) a → Put l
  put_one l h e = let n : size - 1 ≡ 0 = omega arith in rw n e

  pub put_two : (l m : List ℕ) → 1 < size → size ≤ 2 → l ≡ set out (at + k) a → m ≡ set l (at + (k + 1)) b → Put m
  put_two l m h g e f =
      let n : size - 1 ≡ 1 = omega arith in
      let next : suc (at + k) ≡ at + (k + 1) = omega arith in
      rw (n, next, ← e) f

  pub put_three : (l m o : List ℕ) → 2 < size → l ≡ set out (at + k) a → m ≡ set l (at + (k + 1)) b → o ≡ set m (at + (k + 2)) c → Put o
  put_three l m o h e f g =
      let all : take (size - 1) (b ∷ c ∷ []) ≡ b ∷ c ∷ [] = take_all (size - 1) (b ∷ c ∷ []) (omega arith) in
      let next : suc (at + k) ≡ at + (k + 1) = omega arith in
      let last : suc (at + (k + 1)) ≡ at + (k + 2) = omega arith in
      rw (all, next, last, ← e, ← f) g

-- One to three bytes, one by one.
pub bytes_of : (v : List ℕ) → 0 < length v → length v ≤ 3 → get_or v 0 0 ∷ take (length v - 1) (get_or v 1 0 ∷ get_or v 2 0 ∷ []) ≡ v
bytes_of [] h g = absurd (omega arith)
bytes_of (a ∷ []) h g = refl
bytes_of (a ∷ b ∷ []) h g = refl
bytes_of (a ∷ b ∷ c ∷ []) h g = refl
bytes_of (a ∷ b ∷ c ∷ d ∷ v) h g = absurd (omega arith)
