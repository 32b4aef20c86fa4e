-- Bytes copied at once: a block, and as many as the output has room for.
use Prim.Native.Nat.{ℕ, ◌+◌, ◌-◌, ◌<◌, ◌≤◌, min}
use mathlib.Core.Path.{◌≡◌, sym, ap, ◌∙◌}
use mathlib.Core.List.{List, ◌++◌, append_assoc}
use native.Mathlib.Numerals.{add-one}
use native.Mathlib.Omega.{arith}
use lib.Dec.{leb}
use lib.ListN.{length, get_or, take, drop, set, take-append-drop, length-drop, drop_of_length-le}
use lib.Seq.{sets, sets-eq, length-sets, length-take-le, take_all, take-suc, take-suc-set, drop-drop}
use borrow.Author.Tests.{leb-true, leb-false}
use Rattle.base.proofs.Booleans.{bool_case}
use Rattle.base.proofs.Stores.{sets_append, sets_past}

-- A part of a slice written over is a run of stores.
pub part_stored : (out part : List ℕ) (at n : ℕ) → length part ≡ n → at + n ≤ length out
    → take at out ++ (part ++ drop (at + n - at) (drop at out)) ≡ sets out at part
part_stored out part at n e h =
    let count : at + n - at ≡ n = omega arith in
    let within : at + length part ≤ length out = omega arith in
    rw count (sym (sets-eq part out at within ∙ rw (e, drop-drop, append_assoc (take at out) part (drop (at + n) out))))

-- A block of a list, copied.
pub block_copied : (out s part : List ℕ) (at from n : ℕ) → at + n ≤ length out → from + n ≤ length s → part ≡ take (from + n - from) (drop from s)
    → take at out ++ (part ++ drop (at + n - at) (drop at out)) ≡ sets out at (take n (drop from s))
block_copied out s part at from n h g e =
    let count : from + n - from ≡ n = omega arith in
    let same : part ≡ take n (drop from s) = rw count at e in
    let size : length (take n (drop from s)) ≡ n = length-take-le n (drop from s) (omega (arith, length-drop from s)) in
    rw same (part_stored out (take n (drop from s)) at n size h)

-- One byte more of a copy.
pub copied_more : (bytes out : List ℕ) (i : ℕ) → i < length bytes → i < length out → take i out ≡ take i bytes
    → take (i + 1) (set out i (get_or bytes i 0)) ≡ take (i + 1) bytes
copied_more bytes out i h g e = rw (add-one i, take-suc-set out i (get_or bytes i 0), take-suc bytes i 0, e)

-- All of it.
pub copied_all : (bytes out : List ℕ) (i : ℕ) → length bytes ≤ i → length out ≡ length bytes → take i out ≡ take i bytes → out ≡ bytes
copied_all bytes out i h l e = sym (take_all i out (omega arith)) ∙ e ∙ take_all i bytes h

-- A run of stores is the copy of the bytes that there are places for.
module _ (out s : List ℕ) (at n : ℕ) (h : at ≤ length out) (e : n ≡ min (length s) (length out - at)) where
  -- The bytes past the last place are stored nowhere.
  room_all : (mid : List ℕ) → length mid ≡ length out → sets mid (at + length (take n s)) (drop n s) ≡ mid
  room_all mid l =
      let size = length-take-le n s (omega arith) in
      bool_case (leb (length s) n)
      (λ b. let all : length s ≤ n = leb-true (length s) n b in rw (drop_of_length-le s all))
      (λ b. let some : n < length s = leb-false (length s) n b in sets_past (drop n s) mid (at + length (take n s)) (omega arith))

  pub room_copied : (part : List ℕ) → part ≡ take n s → take at out ++ (part ++ drop (at + n - at) (drop at out)) ≡ sets out at s
  room_copied part f =
      rw f (part_stored out (take n s) at n (length-take-le n s (omega arith)) (omega arith)
      ∙ sym (ap (sets out at) (sym (take-append-drop n s)) ∙ sets_append out (take n s) (drop n s) at
      ∙ room_all (sets out at (take n s)) (length-sets out at (take n s))))
