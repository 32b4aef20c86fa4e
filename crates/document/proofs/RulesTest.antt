-- The test of the rules tells the trees that keep them.
use Prim.Native.Nat.{ℕ}
use mathlib.Core.Path.{◌≡◌, refl}
use mathlib.Core.Bool.{Bool}
use mathlib.Core.List.{List, [], ◌∷◌}
use native.Mathlib.Omega.{arith}
use borrow.Author.Tests.{eq-eqb}
use lib.Dec.{T, eqb, eqb→eq}
use lib.ListN.{length}
use Rattle.base.proofs.Booleans.{both, both_true, true_T}
use Rattle.utf8.specs.reference.Sequence.{valid_up_to}
use Rattle.utf8.proofs.Agree.{valid_utf8, utf8_valid}
use Rattle.elements.specs.rules.Class as Class
use Rattle.elements.specs.rules.Inside.{State, Step, go, bad, step, start}
use Rattle.syntax.specs.rules.Atoms.{IsText}
use Rattle.document.specs.rules.Value.{non_empty}
use Rattle.document.specs.rules.Document.{Tree, text, value, size, element, Trees, empty, holds, tree_class, GoesOn, KeepsRules, KeepRules, Lawful}
use Rattle.document.specs.reference.RulesTest.{is_text, step_goes_on, keeps_rules, keep_rules, is_document}

pub text_test : (s : List ℕ) → IsText s → T (is_text s)
unfolding is_text non_empty
text_test [] t = t.not_empty refl
text_test (b ∷ s) t = true_T (eq-eqb (valid_up_to (b ∷ s)) (length (b ∷ s)) (utf8_valid (b ∷ s) t.is_utf8))

pub test_text : (s : List ℕ) → T (is_text s) → IsText s
unfolding is_text non_empty
test_text [] t = absurd t
test_text (b ∷ s) t =
    record {
      not_empty = λ e. (let z : ◌≡◌ {A = ℕ} 0 1 = cc in omega arith);
      is_utf8 = valid_utf8 (b ∷ s) (eqb→eq (valid_up_to (b ∷ s)) (length (b ∷ s)) t);
    }

goes_test : (st : Step) (Rest : State → Type 0) (rest : State → Bool) → ((s : State) → Rest s → T (rest s)) → GoesOn st Rest → T (step_goes_on st rest)
unfolding GoesOn step_goes_on
goes_test (go s) Rest rest f g = f s g
goes_test (bad n) Rest rest f g = g

test_goes : (st : Step) (Rest : State → Type 0) (rest : State → Bool) → ((s : State) → T (rest s) → Rest s) → T (step_goes_on st rest) → GoesOn st Rest
unfolding GoesOn step_goes_on
test_goes (go s) Rest rest f g = f s g
test_goes (bad n) Rest rest f g = g

mutual
  unfolding KeepsRules keeps_rules

  pub kept_test : (k : ℕ) (t : Tree) → KeepsRules k t → T (keeps_rules k t)
  kept_test k (text s) h = text_test s h
  kept_test k (value c s) h = h
  kept_test k (size w v) h = h
  kept_test k (element c ts) h = both_true (Class.is_element c) (keep_rules c (start c) ts) h.0 (all_kept_test c (start c) ts h.1)

  pub all_kept_test : (k : ℕ) (s : State) (ts : Trees) → KeepRules k s ts → T (keep_rules k s ts)
  all_kept_test k s empty h = h
  all_kept_test k s (holds t ts) h =
      both_true (keeps_rules k t) (step_goes_on (step k s (tree_class t)) (λ s'. keep_rules k s' ts)) (kept_test k t h.0)
      (goes_test (step k s (tree_class t)) (λ s'. KeepRules k s' ts) (λ s'. keep_rules k s' ts) (λ s' r. all_kept_test k s' ts r) h.1)

mutual
  unfolding KeepsRules keeps_rules

  pub test_kept : (k : ℕ) (t : Tree) → T (keeps_rules k t) → KeepsRules k t
  test_kept k (text s) h = test_text s h
  test_kept k (value c s) h = h
  test_kept k (size w v) h = h
  test_kept k (element c ts) h =
      let (e, hs) = both (Class.is_element c) (keep_rules c (start c) ts) h in
      (e, test_all_kept c (start c) ts hs)

  pub test_all_kept : (k : ℕ) (s : State) (ts : Trees) → T (keep_rules k s ts) → KeepRules k s ts
  test_all_kept k s empty h = h
  test_all_kept k s (holds t ts) h =
      let (one, rest) = both (keeps_rules k t) (step_goes_on (step k s (tree_class t)) (λ s'. keep_rules k s' ts)) h in
      (test_kept k t one, test_goes (step k s (tree_class t)) (λ s'. KeepRules k s' ts) (λ s'. keep_rules k s' ts) (λ s' r. test_all_kept k s' ts r) rest)

-- Of documents.
pub lawful_test : (t : Tree) → Lawful t → T (is_document t)
unfolding is_document
lawful_test t l = both_true (eqb (tree_class t) Class.document) (keeps_rules 0 t) (true_T (eq-eqb _ _ l.root)) (kept_test 0 t l.keeps)

pub test_lawful : (t : Tree) → T (is_document t) → Lawful t
unfolding is_document
test_lawful t h =
    let (root, keeps) = both (eqb (tree_class t) Class.document) (keeps_rules 0 t) h in
    record { root = eqb→eq (tree_class t) Class.document root; keeps = test_kept 0 t keeps }
