-- The tape that a walk leaves: it is as long as it was, and after a run it is as after the first expression and then the others.
use Prim.Native.Nat.{ℕ, ◌+◌}
use mathlib.Core.Path.{◌≡◌, refl, ◌∙◌}
use mathlib.Core.Bool.{true}
use lib.Dec.{eqb}
use lib.ListN.{length, length-set}
use Rattle.base.proofs.Booleans.{cond_case}
use Rattle.elements.specs.rules.Class as Class
use Rattle.syntax.specs.rules.Expression.{Expr, symbol, quoted, list, Exprs, none, and}
use Rattle.document.specs.rules.Lead.{lead_class}
use Rattle.reader.specs.internal.Counts.{node_count, node_count_in}
use Rattle.reader.specs.internal.Tape.{Tape, entered, left, key_noted, type_noted, size_noted, noted, taped, taped_list, taped_all}

pub length_entered : (t : Tape) (n at c p e : ℕ) → length (entered t n at c p e) ≡ length t
unfolding entered
length_entered t n at c p e = length-set t n _

length_left : (t : Tape) (n e : ℕ) → length (left t n e) ≡ length t
unfolding left
length_left t n e = length-set t n _

length_noted : (t : Tape) (n c : ℕ) (es : Exprs) → length (noted t n c es) ≡ length t
unfolding noted key_noted type_noted size_noted
length_noted t n c es =
    cond_case (λ (z : Tape). length z ≡ length t) (eqb c Class.size)
    (λ e. length-set t n _)
    (λ e. cond_case (λ (z : Tape). length z ≡ length t) (eqb c Class.type) (λ e. length-set t n _) (λ e. length-set t n _))

mutual
  unfolding taped

  pub length_taped : (t : Tape) (n parent : ℕ) (e : Expr) → length (taped t n parent e) ≡ length t
  length_taped t n parent (symbol at s) = length_entered t n at Class.text parent (n + 1)
  length_taped t n parent (quoted at s) = length_entered t n at Class.text parent (n + 1)
  length_taped t n parent (list at es) = length_list t n parent at es

  length_list : (t : Tape) (n parent at : ℕ) (es : Exprs) → length (taped_list t n parent at es) ≡ length t
  length_list t n parent at none = refl
  length_list t n parent at (and lead es) =
      cond_case (λ (z : Tape). length z ≡ length t) (Class.is_element (lead_class lead))
      (λ h. length_left (taped_all (entered t n at (lead_class lead) parent 0) (n + 1) n es) n (n + 1 + node_count_in es)
      ∙ length_all (entered t n at (lead_class lead) parent 0) (n + 1) n es ∙ length_entered t n at (lead_class lead) parent 0)
      (λ h. length_noted t parent (lead_class lead) es)

  pub length_all : (t : Tape) (n parent : ℕ) (es : Exprs) → length (taped_all t n parent es) ≡ length t
  length_all t n parent none = refl
  length_all t n parent (and e es) = length_all (taped t n parent e) (n + node_count e) parent es ∙ length_taped t n parent e

-- The tape after a run, by its first expression.
pub taped_first : (t t' : Tape) (n node : ℕ) (e : Expr) (es : Exprs) → t' ≡ taped t n node e
    → taped_all t' (n + node_count e) node es ≡ taped_all t n node (and e es)
unfolding taped
taped_first t t' n node e es h = rw h

pub taped_on : (t t' z : Tape) (n node : ℕ) (e : Expr) (es : Exprs) → t' ≡ taped t n node e → z ≡ taped_all t' (n + node_count e) node es
    → z ≡ taped_all t n node (and e es)
taped_on t t' z n node e es h g = g ∙ taped_first t t' n node e es h

-- An element is entered, its content is walked, and it is left.
pub element_tape_lem : (t t₁ t₂ z : Tape) (n node at c m : ℕ) (es : Exprs) → t₁ ≡ entered t n at c node 0 → t₂ ≡ taped_all t₁ (n + 1) n es
    → z ≡ left t₂ n m → m ≡ n + 1 + node_count_in es → z ≡ left (taped_all (entered t n at c node 0) (n + 1) n es) n (n + 1 + node_count_in es)
element_tape_lem t t₁ t₂ z n node at c m es a b d e = d ∙ rw (e, b, a)

-- That is the tape after the list which the element is.
pub taped_element : (t : Tape) (n node at c : ℕ) (lead : Expr) (es : Exprs) → lead_class lead ≡ c → Class.is_element c ≡ true
    → taped t n node (list at (and lead es)) ≡ left (taped_all (entered t n at c node 0) (n + 1) n es) n (n + 1 + node_count_in es)
unfolding taped
taped_element t n node at c lead es e h = rw (e, h)
