-- The significance of a child tells its alternative: all kinds of one alternative of a row have one significance, and those of another have another.
-- One test that antt computes over the rows.
use Prim.Native.Nat.{ℕ}
use mathlib.Core.Path.{◌≡◌, sym, ◌∙◌}
use mathlib.Core.Bool.{Bool}
use mathlib.Core.List.{List, Memᴰ}
use lib.Dec.{T, eqb}
use borrow.Author.Tests.{eqb-true, eq-eqb}
use Rattle.base.proofs.Booleans.{true_T}
use Rattle.base.proofs.Tables.{every, each, alike, alike_eq}
use Rattle.elements.specs.rules.Bytes.{same, among}
use Rattle.elements.specs.rules.Class.{significance}
use Rattle.elements.specs.rules.Rules.{alternatives_of, Rule, rules, rule_of}
use Rattle.elements.proofs.Same.{same_equal, same_itself, each_among}
use Rattle.elements.proofs.EachRow.{each_kind}

module _ (kss : List (List ℕ)) where
  -- A kind d of hs is as significant as a kind c of ks where the two are the same alternative, and only there.
  abbrev pair : List ℕ → ℕ → List ℕ → ℕ → Bool
  pair ks c hs d = alike (eqb (significance d) (significance c)) (same hs ks)

  abbrev kind_told : List ℕ → ℕ → Bool
  kind_told ks c = every (λ hs. every (pair ks c hs) hs) kss

  abbrev told : Bool
  told = every (λ ks. every (kind_told ks) ks) kss

  pair_told : T told → {ks hs : List ℕ} → Memᴰ ks kss → Memᴰ hs kss → (c d : ℕ) → T (among c ks) → T (among d hs)
      → eqb (significance d) (significance c) ≡ same hs ks
  pair_told t {ks} {hs} m n c d a b =
      let of_kind : T (kind_told ks c) = each_among (kind_told ks) c ks a (each (λ ks. every (kind_told ks) ks) m t) in
      alike_eq _ _ (each_among (pair ks c hs) d hs b (each (λ hs. every (pair ks c hs) hs) n of_kind))

abbrev row_told : Rule → Bool
row_told r = told (alternatives_of r.content)

all_told : T (every row_told rules)
unfolding rules alternatives_of significance same
all_told = tt

-- Of the row of a kind.
module _ (k : ℕ) {ks hs : List ℕ} (m : Memᴰ ks (alternatives_of (rule_of k).content)) (c d : ℕ) (a : T (among c ks)) where
  row_pair : Memᴰ hs (alternatives_of (rule_of k).content) → T (among d hs) → eqb (significance d) (significance c) ≡ same hs ks
  unfolding alternatives_of
  row_pair n b = pair_told (alternatives_of (rule_of k).content) (each_kind row_told all_told k tt) m n c d a b

  pub one_alternative : Memᴰ hs (alternatives_of (rule_of k).content) → T (among d hs) → significance d ≡ significance c → hs ≡ ks
  one_alternative n b e = same_equal hs ks (true_T (sym (row_pair n b) ∙ eq-eqb _ _ e))

-- All kinds of one alternative have one significance.
pub one_significance : (k : ℕ) {ks : List ℕ} → Memᴰ ks (alternatives_of (rule_of k).content) → (c d : ℕ) → T (among c ks) → T (among d ks)
    → significance d ≡ significance c
one_significance k {ks} m c d a b = eqb-true _ _ (row_pair k m c d a m b ∙ same_itself ks)
