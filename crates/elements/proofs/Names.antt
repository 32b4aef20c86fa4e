-- A name and its class tell each other: what is printed of a class is read back as that class, and what has a class is printed of it.
-- Each theorem is one test that antt computes over all names.
use Prim.Native.Nat.{ℕ, ◌≤◌}
use mathlib.Core.Path.{◌≡◌, refl, sym, ◌∙◌}
use mathlib.Core.Bool.{Bool, ◌||◌}
use mathlib.Core.List.{List, [], ◌∷◌, Memᴰ}
use native.Mathlib.Omega.{arith}
use borrow.Author.Tests.{ne_eqb}
use lib.Dec.{T, eqb, eqb→eq}
use Rattle.base.proofs.Booleans.{cond_case, both, true_T}
use Rattle.base.proofs.Tables.{every, each, below, each_below}
use Rattle.elements.specs.rules.Bytes.{same}
use Rattle.elements.specs.rules.Class.{Named, names, text, class_in, class_of, name_in, name_of}
use Rattle.elements.proofs.Same.{same_equal}

abbrev reads_back : Named → Bool
reads_back n = eqb (class_of n.spelled) n.class

-- No two names are spelled the same.
pub class_of_name : (n : Named) → Memᴰ n names → class_of n.spelled ≡ n.class
unfolding class_of class_in names same
class_of_name n h = eqb→eq _ _ (each reads_back h tt)

abbrev prints : ℕ → Bool
prints c = eqb c 0 || eqb c text || eqb (class_of (name_of c)) c

all_print : T (below prints 32)
unfolding class_of class_in name_of name_in names same
all_print = tt

-- Every class but that of a text, which leads no list, has a name of its own.
pub name_of_class : (c : ℕ) → 1 ≤ c → c ≤ 31 → (c ≡ text → ⊥) → class_of (name_of c) ≡ c
name_of_class c low high other =
    let tested : T (prints c) = each_below prints 32 c (omega arith) all_print in
    eqb→eq _ _ (rw (ne_eqb c 0 (λ e. omega arith), ne_eqb c text other) at tested)

-- The name is what is printed of its class.
abbrev printed : Named → Bool
printed n = same (name_of n.class) n.spelled

named_in : (ns : List Named) (s : List ℕ) → T (every printed ns) → (class_in ns s ≡ 0 → ⊥) → name_of (class_in ns s) ≡ s
unfolding class_in
named_in [] s t h = absurd (h refl)
named_in (n ∷ ns) s t h =
    let (now, later) = both (printed n) (every printed ns) t in
    cond_case
    (λ (c : ℕ). (c ≡ 0 → ⊥) → name_of c ≡ s)
    (same s n.spelled)
    (λ e h'. same_equal (name_of n.class) n.spelled now ∙ sym (same_equal s n.spelled (true_T e)))
    (λ e h'. named_in ns s later h')
    h

all_printed : T (every printed names)
unfolding name_of name_in names same
all_printed = tt

-- Bytes that have a class are its name.
pub named : (s : List ℕ) (c : ℕ) → class_of s ≡ c → (c ≡ 0 → ⊥) → name_of c ≡ s
unfolding class_of
named s c e h = rw e at (named_in names s all_printed (λ z. h (sym e ∙ z)))
