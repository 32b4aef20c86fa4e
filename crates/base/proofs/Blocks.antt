-- Bytes copied by blocks.
use Prim.Native.Nat.{ℕ, zero, suc, ◌+◌, ◌-◌, ◌<◌, ◌≤◌}
use mathlib.Core.Path.{◌≡◌, refl, sym, ap, ◌∙◌}
use mathlib.Core.List.{List, [], ◌∷◌, ◌++◌}
use native.Mathlib.Omega.{arith}
use lib.ListN.{length, take, drop, set, length-drop, drop_of_length-le}
use lib.Seq.{sets, set-set, set_comm, drop-drop, take-add, take_all, length-take-le}
use Rattle.base.proofs.Stores.{sets_append}

-- A store before a run of stores may come before it.
set_before : (l : List ℕ) (i j x : ℕ) (vs : List ℕ) → i < j → set (sets l j vs) i x ≡ sets (set l i x) j vs
set_before l i j x [] h = refl
set_before l i j x (v ∷ vs) h = set_before (set l j v) i (suc j) x vs (omega arith) ∙ rw (set_comm l j i v x (λ e. omega arith))

-- What is stored twice is stored once.
sets_over : (l : List ℕ) (j : ℕ) (vs ws : List ℕ) → sets (sets l j vs) j (vs ++ ws) ≡ sets l j (vs ++ ws)
sets_over l j [] ws = refl
sets_over l j (v ∷ vs) ws =
    let m : List ℕ = set l j v in
    let e : set (sets m (suc j) vs) j v ≡ sets m (suc j) vs
    = set_before m j (suc j) v vs (omega arith) ∙ ap (λ (x : List ℕ). sets x (suc j) vs) (set-set l j v v) in
    ap (λ (x : List ℕ). sets x (suc j) (vs ++ ws)) e ∙ sets_over m (suc j) vs ws

-- Two copies of k bytes, of which the second begins r bytes after the first, are one of k + r bytes.
pub two_blocks : (out : List ℕ) (at : ℕ) (s : List ℕ) (from k r : ℕ) → r ≤ k → from + k + r ≤ length s
    → sets (sets out at (take k (drop from s))) (at + r) (take k (drop (from + r) s)) ≡ sets out at (take (r + k) (drop from s))
two_blocks out at s from k r h w =
    let d : List ℕ = drop from s in
    let p : List ℕ = take r d in
    let q : List ℕ = take (k - r) (drop r d) in
    let long : length p ≡ r = length-take-le r d (omega (arith, length-drop from s)) in
    let e : k ≡ r + (k - r) = omega arith in
    let f : k ≡ (k - r) + r = omega arith in
    let first : take k d ≡ p ++ q = ap (λ (n : ℕ). take n d) e ∙ take-add r (k - r) d in
    let second : take k (drop r d) ≡ q ++ take r (drop (k - r) (drop r d)) = ap (λ (n : ℕ). take n (drop r d)) f ∙ take-add (k - r) r (drop r d) in
    let both : take (r + k) d ≡ p ++ take k (drop r d) = take-add r k d in
    rw (← drop-drop r from s, both, sets_append out p (take k (drop r d)) at, long, first, sets_append out p q at, long, second)
    (sets_over (sets out at p) (at + r) q (take r (drop (k - r) (drop r d))))

pub two_copies : (out m z s : List ℕ) (at from k n : ℕ) → k ≤ n → n ≤ k + k → from + n ≤ length s → m ≡ sets out at (take k (drop from s))
    → z ≡ sets m (at + (n - k)) (take k (drop (from + (n - k)) s)) → z ≡ sets out at (take n (drop from s))
two_copies out m z s at from k n h g w p q =
    let e : n - k + k ≡ n = omega arith in
    q ∙ rw p (two_blocks out at s from k (n - k) (omega arith) (omega arith)) ∙ ap (λ (i : ℕ). sets out at (take i (drop from s))) e

-- From the end of the bytes on there is nothing, and no more than the rest of them.
pub none_copied : (out : List ℕ) (at : ℕ) (s : List ℕ) (from count : ℕ) → length s ≤ from → out ≡ sets out at (take count (drop from s))
none_copied out at s from count h = rw (drop_of_length-le s h) (go count)
  where
    go : (n : ℕ) → out ≡ sets out at (take n [])
    go zero = refl
    go (suc n) = refl

pub rest_copied : (s : List ℕ) (from count : ℕ) → length s < from + count → take (length s - from) (drop from s) ≡ take count (drop from s)
rest_copied s from count h =
    take_all (length s - from) (drop from s) (omega (arith, length-drop from s)) ∙ sym (take_all count (drop from s) (omega (arith, length-drop from s)))
