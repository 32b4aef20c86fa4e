-- Every text is the bytes of concrete syntax that fits the room, or has a fault 3 to 6. So the scan accepts nothing else and refuses for nothing else.
use Prim.Native.Nat.{ℕ, ◌≤◌}
use mathlib.Core.Path.{◌≡◌, refl}
use mathlib.Core.List.{List, [], ◌∷◌}
use native.Mathlib.Omega.{arith}
use lib.Dec.{T, eqb}
use borrow.Author.Tests.{eqb-true, eqb-false}
use Rattle.base.proofs.Booleans.{bool_case}
use Rattle.syntax.specs.rules.Byte.{Bracket, open_byte, close_byte, same_bracket}
use Rattle.syntax.specs.rules.Syntax.{Leaf, space, line_end, word, string, leaf_before, is_leaf, are_ordinary, Before, a_symbol}
use Rattle.syntax.specs.rules.Syntax.{another, after, may_follow, Forest, end, leaf, brackets, bytes_before, bytes_of, Ok, levels}
use Rattle.syntax.specs.reference.Scan.{refused, scanned, scan}
use Rattle.syntax.specs.rules.Fault.{Opened, outside, within, opened_before, size, open_levels, OkOpened, unopened, other_partner, left_open, too_deep, Fault, TextVerdict, good, faulty}
use Rattle.syntax.proofs.ByteClasses.{FitsAfter, bracket_same}
use Rattle.syntax.proofs.Runs.{last_of}
use Rattle.syntax.proofs.SyntaxAccepted.{accepted}
use Rattle.syntax.proofs.BeforeFault.{last_opened, with_run, with_bytes, with_last, with_ok, open_levels_lem}
use Rattle.syntax.proofs.FaultsRefused.{fault_refused}
use Rattle.syntax.proofs.LeavesAndBrackets.{Lexed, nothing, leaves, opens, closes, stops, lexed}

-- A leaf whose bytes may follow may follow.
follows : (m : Before) (l : Leaf) (k : List ℕ) → T (is_leaf l) → FitsAfter m (leaf_before l k) → T (may_follow m l)
unfolding may_follow leaf_before is_leaf are_ordinary FitsAfter
follows another l k t h = tt
follows a_symbol (space b) k t h = tt
follows a_symbol line_end k t h = tt
follows a_symbol (word b bs) k t h = rw h at t
follows a_symbol (string p ps) k t h = tt

module _ (room : ℕ) where
  at_end : (o : Opened) → OkOpened room o → TextVerdict room (opened_before o [])
  unfolding OkOpened opened_before bytes_of
  at_end (outside f) u = good f u.0 refl u.1
  at_end (within o b f) u = faulty 5 (size o) (record { before = within o b f; ok = u; rest = []; bytes = refl; hit = left_open })

  -- From any place at which these bytes may follow there is a verdict on the whole text.
  Reached : List ℕ → Type 0
  Reached s = (o : Opened) → OkOpened room o → FitsAfter (last_opened o) s → TextVerdict room (opened_before o s)

  at_leaf : (l : Leaf) (k : List ℕ) → T (is_leaf l) → FitsAfter (after l) k → Reached k → Reached (leaf_before l k)
  unfolding Reached Ok last_of bytes_before levels
  at_leaf l k t h next o u g =
      let more : Ok (last_opened o) (leaf l end) = (follows (last_opened o) l k t g, t, tt) in
      let l-levels : open_levels o ≤ room = open_levels_lem room o u in
      rw (with_bytes o (leaf l end) k) at (next (with_run o (leaf l end)) (with_ok room o (leaf l end) u more (omega arith)) (rw (with_last o (leaf l end)) h))

  at_open : (b : Bracket) (k : List ℕ) → Reached k → Reached (open_byte b ∷ k)
  unfolding Reached OkOpened Ok opened_before bytes_before levels last_opened last_of FitsAfter
  at_open b k next o u g =
      bool_case (eqb (open_levels o) room)
      (λ e. faulty 6 (size o) (record { before = o; ok = u; rest = open_byte b ∷ k; bytes = refl; hit = too_deep b (eqb-true (open_levels o) room e) }))
      (λ e. let l : open_levels o ≤ room = open_levels_lem room o u in
      let d : open_levels o ≡ room → ⊥ = eqb-false (open_levels o) room e in
      next (within o b end) (u, tt, omega arith) tt)

  at_close : (c : Bracket) (k : List ℕ) → Reached k → Reached (close_byte c ∷ k)
  unfolding Reached OkOpened Ok opened_before bytes_before levels last_opened last_of FitsAfter
  at_close c k next (outside f) u g =
      faulty 5 (size (outside f)) (record { before = outside f; ok = u; rest = close_byte c ∷ k; bytes = refl; hit = unopened c })
  at_close c k next (within o b f) u g =
      bool_case (same_bracket c b)
      (λ e. let whole : Forest = brackets b f end in
      let ok : OkOpened room (with_run o whole) = with_ok room o whole u.0 (u.1, tt) (omega arith) in
      rw (bracket_same c b e) (rw (with_bytes o whole k) at (next (with_run o whole) ok (rw (with_last o whole) tt))))
      (λ e. faulty 5 (size (within o b f)) (record { before = within o b f; ok = u; rest = close_byte c ∷ k; bytes = refl; hit = other_partner c e }))

  -- So it is from each place of a text, by what stands there.
  reached : {s : List ℕ} → Lexed s → Reached s
  unfolding Reached
  reached nothing = λ o u h. at_end o u
  reached (leaves l k t g r) = at_leaf l k t g (reached r)
  reached (opens b k r) = at_open b k (reached r)
  reached (closes b k r) = at_close b k (reached r)
  reached (stops {s = s} n hit) =
      λ o u h. let (p, x) = hit room o in faulty n p (record { before = o; ok = u; rest = s; bytes = refl; hit = x })

-- Every text is one of the two.
pub verdict : (room : ℕ) (text : List ℕ) → TextVerdict room text
unfolding Reached OkOpened Ok levels opened_before bytes_before last_opened last_of FitsAfter
verdict room text = reached room (lexed text) (outside end) (tt, omega arith) tt

-- The scan accepts nothing but the bytes of concrete syntax for whose levels there is room.
pub accepts : (room : ℕ) (text : List ℕ) (f : Forest) → scan room text ≡ scanned f → Ok another f × (bytes_of f ≡ text) × (levels f ≤ room)
accepts room text f e = go (verdict room text)
  where
    go : TextVerdict room text → Ok another f × (bytes_of f ≡ text) × (levels f ≤ room)
    go (good g o b l) =
        let s : scan room (bytes_of g) ≡ scanned g = accepted g room o l in
        let same : f ≡ g = cc in
        rw same (o, b, l)
    go (faulty n p r) =
        let s : scan room text ≡ refused n p = fault_refused room text n p r in
        let z : ◌≡◌ {A = ℕ} 0 1 = cc in
        absurd (omega arith)

-- It refuses a text only with a fault that the text has.
pub refused_fault : (room : ℕ) (text : List ℕ) (n p : ℕ) → scan room text ≡ refused n p → Fault room text n p
refused_fault room text n p e = go (verdict room text)
  where
    go : TextVerdict room text → Fault room text n p
    go (good g o b l) =
        let s : scan room (bytes_of g) ≡ scanned g = accepted g room o l in
        let z : ◌≡◌ {A = ℕ} 0 1 = cc in
        absurd (omega arith)
    go (faulty m q r) =
        let s : scan room text ≡ refused m q = fault_refused room text m q r in
        let same_number : n ≡ m = cc in
        let same_place : p ≡ q = cc in
        rw (same_number, same_place) r
