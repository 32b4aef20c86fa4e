-- The code's rows against the rules, by tests that antt computes: each row, and of `rules` itself what the code leaves out.
use Prim.Native.Nat.{ℕ, ◌+◌, ◌-◌, ◌*◌, ◌/◌, ◌%◌, ◌^◌, ◌<◌, ◌≤◌}
use mathlib.Core.Path.{◌≡◌, ◌∙◌, refl, sym, ap}
use mathlib.Core.Bool.{Bool, true, false, not, ◌&&◌, true≢false}
use mathlib.Core.List.{List, [], ◌∷◌}
use native.Mathlib.Omega.{arith}
use lib.Dec.{T, eqb, leb, ltb, eqb→eq, leb→le, ltb→lt}
use lib.ListN.{length, drop, drop_of_length-le}
use lib.Seq.{drop-drop}
use borrow.Author.Tests.{ne_eqb, leb-true, leb-false, lt-ltb, le-ltb}
use Rattle.base.proofs.Booleans.{both, not_T_false}
use Rattle.base.proofs.Tables.{every, each, below, each_below, alike, alike_eq}
use Rattle.elements.specs.rules.Bytes.{among}
use Rattle.elements.specs.rules.Class as Class
use Rattle.elements.specs.rules.Rules.{Slot, must, may, id_type, alternatives_of, Rule, rules, rule_in, rule_of}
use Rattle.elements.specs.rules.Inside.{some_has, allows, is_include, may_be_empty}
use Rattle.inside.specs.internal.Table.{led, coded, packed, code, bits}
use Rattle.elements.proofs.Same.{each_among}
use Rattle.elements.proofs.EachRow.{empty, each_kind}
use Rattle.elements.proofs.Alternatives.{one_has}
use Rattle.kind.proofs.Arms.{Missed}

-- From 26 on there is no row.
abbrev known : Rule → Bool
known r = ltb r.kind 26

past : (k : ℕ) → 26 ≤ k → (rs : List Rule) → T (every known rs) → rule_in rs k ≡ empty k
unfolding rule_in
past k h [] t = refl
past k h (r ∷ rs) t =
    let (now, later) = both (known r) (every known rs) t in
    let low : r.kind < 26 = ltb→lt _ _ now in
    rw (ne_eqb k r.kind (λ e. omega arith)) (past k h rs later)

pub no_row : (k : ℕ) → 26 ≤ k → rule_of k ≡ empty k
unfolding rule_of rules
no_row k h = past k h rules tt

abbrev at_most_four : Rule → Bool
at_most_four r = leb (length r.parameters) 4

pub past_four : (k i : ℕ) → 4 ≤ i → drop i (rule_of k).parameters ≡ []
unfolding rules
past_four k i h =
    let few : length (rule_of k).parameters ≤ 4 = leb→le _ _ (each_kind at_most_four tt k tt) in
    let fits : length (rule_of k).parameters ≤ i = omega arith in
    drop_of_length-le (rule_of k).parameters fits

-- The content of a verbatim alone is exactly one child.
abbrev empty_alike : ℕ → Bool
empty_alike k = alike (may_be_empty (rule_of k).content) (not (eqb k Class.verbatim))

pub empty_but_verbatim : (k : ℕ) → may_be_empty (rule_of k).content ≡ not (eqb k Class.verbatim)
unfolding rules rule_in rule_of may_be_empty
empty_but_verbatim k = go (leb 26 k) refl
  where
    go : (b : Bool) → leb 26 k ≡ b → may_be_empty (rule_of k).content ≡ not (eqb k Class.verbatim)
    go true e =
        let high : 26 ≤ k = leb-true 26 k e in
        rw (no_row k high, ne_eqb k Class.verbatim (λ v. omega arith))
    go false e = alike_eq _ _ (each_below empty_alike 26 k (leb-false 26 k e) tt)

-- A class from 32 on may stand nowhere.
abbrev low : ℕ → Bool
low n = ltb n 32

abbrev classes_below : List (List ℕ) → Bool
classes_below kss = every (every low) kss

abbrev content_below : Rule → Bool
content_below r = classes_below (alternatives_of r.content)

not_in : (c : ℕ) → 32 ≤ c → (kss : List (List ℕ)) → T (classes_below kss) → T (some_has kss c) → ⊥
not_in c h kss t s =
    let (ks, m, a) = one_has c kss s in
    omega (arith, ltb→lt c 32 (each_among low c ks a (each (every low) m t)))

pub past_classes : (k c : ℕ) → 32 ≤ c → allows (rule_of k).content c ≡ false
unfolding rules allows alternatives_of
past_classes k c h = not_T_false _ (not_in c h (alternatives_of (rule_of k).content) (each_kind content_below tt k tt))

-- Include and import may stand nowhere.
abbrev takes_none : Rule → Bool
takes_none r = not (allows r.content Class.include) && not (allows r.content Class.import)

refuted : (b : Bool) → T (not b) → b ≡ true → ⊥
refuted true t e = t
refuted false t e = true≢false (sym e)

pub no_include : (k c : ℕ) → allows (rule_of k).content c ≡ true → is_include c ≡ false
unfolding rules allows some_has alternatives_of among is_include
no_include k c a =
    let t = (rule_of k).content in
    let (include, import) = both (not (allows t Class.include)) (not (allows t Class.import)) (each_kind takes_none tt k tt) in
    rw (ne_eqb c Class.include (λ e. refuted _ include (rw e at a)), ne_eqb c Class.import (λ e. refuted _ import (rw e at a)))

-- A number stands for the first of these parameters.
stands : ℕ → List Slot → Bool
stands x [] = eqb x 0
stands x (must n ∷ ps) = eqb x n && (leb 1 x && ltb x 64)
stands x (may n ∷ ps) = eqb x (64 + n) && ltb x 255
stands x (id_type ∷ []) = eqb x 255
stands x (id_type ∷ (p ∷ ps)) = false

led_stands : (x : ℕ) (ps : List Slot) → T (stands x ps) → ps ≡ led (coded x) (drop 1 ps)
unfolding led coded stands
led_stands x [] t = rw (eqb→eq x 0 t)
led_stands x (must n ∷ ps) t =
    let (same, rest) = both (eqb x n) (leb 1 x && ltb x 64) t in
    let (some, small) = both (leb 1 x) (ltb x 64) rest in
    let positive : 1 ≤ x = leb→le 1 x some in
    rw (ne_eqb x 0 (λ e. omega arith), lt-ltb x 64 (ltb→lt x 64 small), eqb→eq x n same)
led_stands x (may n ∷ ps) t =
    let (equal, small) = both (eqb x (64 + n)) (ltb x 255) t in
    let same : x ≡ 64 + n = eqb→eq x (64 + n) equal in
    let high : x < 255 = ltb→lt x 255 small in
    let n' : n ≡ x - 64 = omega arith in
    rw (ne_eqb x 0 (λ e. omega arith), le-ltb x 64 (omega arith), ne_eqb x 255 (λ e. omega arith), n')
led_stands x (id_type ∷ []) t = rw (eqb→eq x 255 t)
led_stands x (id_type ∷ (p ∷ ps)) t = absurd t

-- The bytes of a row's number stand for its parameters.
abbrev slot_stands : Rule → ℕ → Bool
slot_stands r i = stands (packed r.parameters / 2 ^ (8 * i) % 256) (drop i r.parameters)

abbrev row_stands : Rule → Bool
row_stands r = below (slot_stands r) 4

pub slot_at : (k i : ℕ) → i < 4
    → drop i (rule_of k).parameters ≡ led (coded (packed (rule_of k).parameters / 2 ^ (8 * i) % 256)) (drop (i + 1) (rule_of k).parameters)
unfolding packed code stands rules
slot_at k i h =
    led_stands _ _ (each_below (slot_stands (rule_of k)) 4 i h (each_kind row_stands tt k tt))
    ∙ ap (led (coded (packed (rule_of k).parameters / 2 ^ (8 * i) % 256))) (drop-drop 1 i (rule_of k).parameters)

-- The bits of a row's number are the classes that may stand in it.
abbrev class_alike : Rule → ℕ → Bool
class_alike r c = alike (eqb (bits r.content 32 / 2 ^ c % 2) 1) (allows r.content c)

abbrev content_alike : Rule → Bool
content_alike r = below (class_alike r) 32

pub content_at : (k c : ℕ) → c < 32 → eqb (bits (rule_of k).content 32 / 2 ^ c % 2) 1 ≡ allows (rule_of k).content c
unfolding bits allows some_has alternatives_of among rules
content_at k c h = alike_eq _ _ (each_below (class_alike (rule_of k)) 32 c h (each_kind content_alike tt k tt))

-- A number that is no row's kind has no row.
abbrev kinds : List Rule → List ℕ
kinds [] = []
kinds (r ∷ rs) = r.kind ∷ kinds rs

missed : (k : ℕ) (N : Type 0) (rs : List Rule) → Missed k N (kinds rs) → N × (rule_in rs k ≡ empty k)
unfolding rule_in
missed k N [] n = (n, refl)
missed k N (r ∷ rs) m =
    let ((n, other), e) = missed k (N × (k ≡ r.kind → ⊥)) rs m in
    (n, rw (ne_eqb k r.kind other) e)

pub no_rule : (k : ℕ) → Missed k (Unit {0}) (kinds rules) → rule_of k ≡ empty k
unfolding rule_of
no_rule k m = (missed k (Unit {0}) rules m).1
