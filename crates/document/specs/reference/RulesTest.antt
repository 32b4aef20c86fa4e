-- The rules of documents as a test. It need not be believed: that it tells the trees that keep the rules is proved in `proofs/RulesTest.antt`.
use Rattle.std.specs.Prelude.{ℕ, Bool, false, ◌&&◌, List, eqb, length}
use Rattle.utf8.specs.reference.Sequence.{valid_up_to}
use Rattle.elements.specs.rules.Class as Class
use Rattle.elements.specs.rules.Inside.{State, Step, go, bad, step, start, ended}
use Rattle.document.specs.rules.Value.{non_empty, is_value, is_size}
use Rattle.document.specs.rules.Document.{Tree, text, value, size, element, Trees, empty, holds, tree_class}

unfoldable pub is_text : List ℕ → Bool
is_text s = non_empty s && eqb (valid_up_to s) (length s)

unfoldable pub step_goes_on : Step → (State → Bool) → Bool
step_goes_on (go s) rest = rest s
step_goes_on (bad n) rest = false

-- The tree, inside an element of kind k, keeps the rules.
unfoldable mutual
  pub keeps_rules : ℕ → Tree → Bool
  keeps_rules k (text s) = is_text s
  keeps_rules k (value c s) = is_value k c s
  keeps_rules k (size w h) = is_size w h
  keeps_rules k (element c ts) = Class.is_element c && keep_rules c (start c) ts

  -- What follows inside an element of kind k, read so far to this state.
  pub keep_rules : ℕ → State → Trees → Bool
  keep_rules k s empty = ended k s
  keep_rules k s (holds t ts) = keeps_rules k t && step_goes_on (step k s (tree_class t)) (λ s'. keep_rules k s' ts)

-- A tree that keeps the rules, its root of kind 1.
unfoldable pub is_document : Tree → Bool
is_document t = eqb (tree_class t) Class.document && keeps_rules 0 t
