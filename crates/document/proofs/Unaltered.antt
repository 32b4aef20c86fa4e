-- Over the definitions: every text has one of the numbered answers, and every number but 0 leaves the lent memory as it was.
use Prim.Native.Nat.{ℕ, ◌≤◌}
use mathlib.Core.Path.{◌≡◌, refl}
use mathlib.Core.Logic.{◌⊎◌, inl}
use mathlib.Core.List.{List}
use native.Mathlib.Omega.{arith}
use Rattle.base.specs.rules.Numbers as Number
use Rattle.document.specs.rules.Spelling.{Spelling}
use Rattle.document.specs.reference.Outcome.{outcome}
use Rattle.document.specs.rules.Memory.{answer_at, Memory, Outcome, refusal, no_room, filled}
use Rattle.document.specs.rules.Account as Account
use Rattle.document.specs.rules.Account.{Answers, too_long, ill_formed, no_node_room, no_pool_room, accepted}
use Rattle.document.proofs.Account.{answers}
use Rattle.document.proofs.RefusalNumbers.{refused_number}

-- At most 14, or 19.
abbrev pub OfReading : ℕ → Type 0
OfReading n = (n ≤ Number.pool_short) ⊎ (n ≡ Number.nested_too_deep)

numbered : (s : Spelling) (text : List ℕ) (m : Memory) (o : Outcome) → Answers s text m o
    → OfReading o.answer.number × ((o.answer.number ≡ Number.ok → ⊥) → o.memory ≡ m)
unfolding refusal no_room filled answer_at
numbered s text m o (too_long long) = (inl (omega arith), λ _. refl)
numbered s text m o (ill_formed short f) = (inl (omega arith), λ _. refl)
numbered s text m o (Account.refused short utf8 f) = ((refused_number f).1, λ _. refl)
numbered s text m o (no_node_room sp l none) = (inl (omega arith), λ _. refl)
numbered s text m o (no_pool_room sp l nodes none) = (inl (omega arith), λ _. refl)
numbered s text m o (accepted sp l nodes bytes) = (inl (omega arith), λ z. absurd (z refl))

pub kept_unless_filled : (s : Spelling) (text : List ℕ) (m : Memory)
    → OfReading (outcome s text m).answer.number × (((outcome s text m).answer.number ≡ Number.ok → ⊥) → (outcome s text m).memory ≡ m)
kept_unless_filled s text m = numbered s text m (outcome s text m) (answers s text m)
