-- What is tested of each row of the rules, and of the row of a number that has none, holds of every number's row.
use Prim.Native.Nat.{ℕ}
use mathlib.Core.Bool.{Bool}
use mathlib.Core.List.{List, [], ◌∷◌}
use lib.Dec.{T, eqb}
use Rattle.base.proofs.Booleans.{cond_case, both}
use Rattle.base.proofs.Tables.{every}
use Rattle.elements.specs.rules.Rules.{alternatives, Rule, rules, rule_in, rule_of}

-- The row of a number that has none.
abbrev pub empty : ℕ → Rule
empty k = record { kind = k; parameters = []; content = alternatives [] }

module _ (test : Rule → Bool) where
  in_rows : (k : ℕ) → T (test (empty k)) → (rs : List Rule) → T (every test rs) → T (test (rule_in rs k))
  unfolding rule_in
  in_rows k h [] t = h
  in_rows k h (r ∷ rs) t =
      let (now, later) = both (test r) (every test rs) t in
      cond_case (λ (q : Rule). T (test q)) (eqb k r.kind) (λ e. now) (λ e. in_rows k h rs later)

  pub each_kind : T (every test rules) → (k : ℕ) → T (test (empty k)) → T (test (rule_of k))
  unfolding rule_of
  each_kind t k h = in_rows k h rules t
