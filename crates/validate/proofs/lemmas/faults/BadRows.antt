-- The search for a row whose number of cells is not what the table's head demands.
use Prim.Native.Nat.{ℕ, suc, ◌+◌, ◌-◌, ◌<◌, ◌≤◌}
use mathlib.Core.Path.{◌≡◌, ◌∙◌, refl, sym, ap, subst}
use mathlib.Core.Bool.{Bool, true, false, not}
use mathlib.Core.List.{List}
use native.Mathlib.Numerals.{add-one}
use native.Mathlib.Omega.{arith}
use lib.Dec.{eqb}
use borrow.Author.Tests.{eq-eqb, ne_eqb}
use Rattle.elements.specs.rules.Class as Class
use Rattle.document.specs.rules.Document.{Nodes}
use Rattle.document.specs.reference.Check.{First, nowhere, at_node, Cells, any_number, exactly, cells_in, differs}
use Rattle.document.specs.rules.Visits.{child_count}
use Rattle.std.specs.Prelude.{Option, Some, None}
use Rattle.table.specs.Stored.{word_at}
use Rattle.validate.specs.internal.TableWords.{found, cells_found, Family, Below, in_table, in_body, elsewhere, Binder, Spot, Searched}

pub found_nothing : (f : First) → found f ≡ None → f ≡ nowhere
unfolding found
found_nothing nowhere e = refl
found_nothing (at_node i) e = cc

pub found_at : (f : First) (i : ℕ) → found f ≡ Some i → f ≡ at_node i
unfolding found
found_at nowhere i e = cc
found_at (at_node j) i e = cc

any_found : (c : Cells) → cells_found c ≡ None → c ≡ any_number
unfolding cells_found
any_found any_number e = refl
any_found (exactly n) e = cc

exactly_found : (c : Cells) (n : ℕ) → cells_found c ≡ Some n → c ≡ exactly n
unfolding cells_found
exactly_found any_number n e = cc
exactly_found (exactly m) n e = cc

-- Below what is no body, a table's head demands a number of cells, or nothing does.
table_binds : (words : List ℕ) (r : ℕ) (c : Cells) (v : Option ℕ) → Binder words r c → word_at words r 0 ≡ Class.table
    → ((ns : Nodes) → Family words r ns → v ≡ cells_found (cells_in ns)) → cells_found c ≡ v
table_binds words r c v b k h = go c b.binds
  where
    go : (c : Cells) → Below words r c → cells_found c ≡ v
    go c (in_table ns t f) = sym (h ns f)
    go c (in_body t l x) = absurd (b.no_body t)
    go c (elsewhere t n) = absurd (t k)

none_binds : (words : List ℕ) (r : ℕ) (c : Cells) → Binder words r c → (word_at words r 0 ≡ Class.table → ⊥) → c ≡ any_number
none_binds words r c b k = go c b.binds
  where
    go : (c : Cells) → Below words r c → c ≡ any_number
    go c (in_table ns t f) = absurd (k t)
    go c (in_body t l x) = absurd (b.no_body t)
    go c (elsewhere t n) = refl

module _ (words : List ℕ) (i : ℕ) (b : Bool) (s : Spot words i b) where
  pub spot_other : (word_at words i 0 ≡ Class.row → ⊥) → false ≡ b
  spot_other k = sym (s.test ∙ rw (ne_eqb (word_at words i 0) Class.row k))

  module _ (k : word_at words i 0 ≡ Class.row) (r : ℕ) (bind : (c : Cells) → Below words (word_at words i 1) c → Binder words r c) where
    spot_row : (c : Cells) → s.must ≡ c → b ≡ differs c (child_count s.cells)
    spot_row c e = s.test ∙ rw (eq-eqb (word_at words i 0) Class.row k) (ap (λ (x : Cells). differs x (child_count s.cells)) e)

    pub spot_free : (word_at words r 0 ≡ Class.table → ⊥) → false ≡ b
    unfolding differs
    spot_free t = sym (spot_row any_number (none_binds words r s.must (bind s.must (s.bound k)) t))

    module _ (t : word_at words r 0 ≡ Class.table) (v : Option ℕ) (h : (ns : Nodes) → Family words r ns → v ≡ cells_found (cells_in ns)) where
      must_found : cells_found s.must ≡ v
      must_found = table_binds words r s.must v (bind s.must (s.bound k)) t h

      pub spot_no_head : v ≡ None → false ≡ b
      unfolding differs
      spot_no_head e = sym (spot_row any_number (any_found s.must (must_found ∙ e)))

      pub spot_head : (n m : ℕ) → v ≡ Some n → ((ns : Nodes) → Family words i ns → m ≡ child_count ns) → not (eqb n m) ≡ b
      unfolding differs
      spot_head n m e g =
          sym (spot_row (exactly n) (exactly_found s.must n (must_found ∙ e)) ∙ ap (λ (x : ℕ). not (eqb n x)) (sym (g s.cells s.family)))

-- A turn of the search: the row at i is answered, or the search goes on at j with n nodes left.
pub record SearchStep (words : List ℕ) (n i j : ℕ) (f : First) : Type 0 where
  pub test : Bool
  pub spot : Spot words i test
  pub here : test ≡ true → f ≡ at_node i
  pub on : test ≡ false → Searched words n j f

search_step_of : (words : List ℕ) (n i : ℕ) (f : First) → Searched words (suc n) i f → SearchStep words n i (suc i) f
unfolding Searched
search_step_of words n i f (b, g, spot, q, t) =
    record { test = b; spot = spot; here = λ x. q ∙ rw x; on = λ x. let y : f ≡ g = q ∙ rw x in rw y t }

pub search_step : (words : List ℕ) (n i : ℕ) (f : First) → i < n → Searched words (n - i) i f → SearchStep words (n - (i + 1)) i (i + 1) f
search_step words n i f l s =
    let e : n - i ≡ suc (n - (i + 1)) = omega arith in
    subst (λ (j : ℕ). SearchStep words (n - (i + 1)) i j f) (sym (add-one i))
    (search_step_of words (n - (i + 1)) i f (subst (λ (m : ℕ). Searched words m i f) e s))

pub search_end : (words : List ℕ) (n i : ℕ) (f : First) → n ≤ i → Searched words (n - i) i f → f ≡ nowhere
unfolding Searched
search_end words n i f l s =
    let e : n - i ≡ 0 = omega arith in
    rw e at s
