-- The names of the classes, as the code picks them.
use Prim.Native.Nat.{ℕ, ◌≤◌, ◌<◌}
use mathlib.Core.Path.{◌≡◌, refl, sym}
use mathlib.Core.Bool.{Bool, true, ◌&&◌}
use mathlib.Core.List.{List, [], ◌∷◌}
use native.Mathlib.Omega.{arith}
use lib.Dec.{T, leb, leb→le}
use borrow.Author.Tests.{ne_eqb}
use Rattle.elements.specs.rules.Bytes.{codes}
use Rattle.elements.specs.rules.Class.{Named, text, import, as_name, names, name_in, name_of}
use Rattle.base.specs.Adds.{Adds}
use Rattle.base.proofs.Adding.{adds_as, adds_none}
use Rattle.base.proofs.Booleans.{both}

-- A class that is k has the name of k.
pub adds_name : (c k : ℕ) {at r : ℕ} {out later : List ℕ} → c ≡ k → Adds (name_of k) at out r later → Adds (name_of c) at out r later
adds_name c k e a = rw e a

-- Number 0 has no name.
pub adds_zero : (c at : ℕ) (out : List ℕ) → c ≡ 0 → Adds (name_of c) at out at out
unfolding codes as_name names name_in name_of
adds_zero c at out e = adds_name c 0 e (adds_none at out)

-- A text has no name.
pub adds_text : (c at : ℕ) (out : List ℕ) → c ≡ text → Adds (name_of c) at out at out
unfolding codes as_name names name_in name_of
adds_text c at out e = adds_name c text e (adds_none at out)

-- No class of those named is greater than m.
none_past : List Named → ℕ → Bool
none_past [] m = true
none_past (n ∷ ns) m = leb n.class m && none_past ns m

unnamed : (ns : List Named) (m c : ℕ) → T (none_past ns m) → m < c → name_in ns c ≡ []
unfolding none_past name_in
unnamed [] m c w h = refl
unnamed (n ∷ ns) m c w h =
    let b = both (leb n.class m) (none_past ns m) w in
    let l : n.class ≤ m = leb→le n.class m b.0 in
    rw (ne_eqb c n.class (λ e. omega arith)) (unnamed ns m c b.1 h)

-- A class past the last one has no name.
pub adds_past : (c at : ℕ) (out : List ℕ) → import < c → Adds (name_of c) at out at out
unfolding codes as_name names none_past name_of
adds_past c at out h = adds_as (sym (unnamed names import c tt h)) (adds_none at out)
