-- The children of a node, found by their end words, and the cells that a table's head demands of rows below it.
use Prim.Native.Nat.{ℕ, suc, ◌+◌, ◌<◌}
use mathlib.Core.Path.{◌≡◌, ◌∙◌, refl, sym, ap}
use mathlib.Core.List.{List}
use native.Mathlib.Omega.{arith}
use borrow.Author.Tests.{eq-eqb, ne_eqb}
use Rattle.elements.specs.rules.Class as Class
use Rattle.document.specs.rules.Document.{Node, node, Nodes, childless, child}
use Rattle.document.specs.rules.Table.{count, count_all}
use Rattle.document.specs.reference.Check.{any_number, exactly, head_cells, cells_in}
use Rattle.document.specs.rules.Visits.{child_count}
use Rattle.table.specs.Stored.{word_at}
use Rattle.validate.specs.internal.TableWords.{Shape, Shapes, Family}

-- The siblings from number i on that end at e: none, or one and those from its end on.
pub record FirstSibling (words : List ℕ) (p i e : ℕ) (ms : Nodes) : Type 0 where
  pub first : Node
  pub rest : Nodes
  pub split : ms ≡ child first rest
  pub shape : Shape words p i first
  pub shapes : Shapes words p (word_at words i 2) rest
  pub ends : word_at words i 2 + count_all rest ≡ e
  pub on : i < word_at words i 2

pub first_sibling : (words : List ℕ) (p i e : ℕ) (ms : Nodes) → Shapes words p i ms → i + count_all ms ≡ e → i < e → FirstSibling words p i e ms
unfolding Shape count
first_sibling words p i e childless s q l = absurd (omega arith)
first_sibling words p i e (child (node k key type text w h ns) ms) (s, t) q l =
    let end : word_at words i 2 ≡ i + suc (count_all ns) = s.2.0 in
    record { first = node k key type text w h ns; rest = ms; split = refl; shape = s; shapes = rw end t; ends = omega arith; on = omega arith }

pub no_more : (ms : Nodes) (i e : ℕ) → i + count_all ms ≡ e → e < suc i → ms ≡ childless
unfolding count
no_more childless i e q l = refl
no_more (child (node k key type text w h ns) ms) i e q l = absurd (omega arith)

-- What is left to count, or to look at for a head, at number i.
pub record ChildrenCounted (words : List ℕ) (p i e n : ℕ) (ns : Nodes) : Type 0 where
  pub left : Nodes
  pub shapes : Shapes words p i left
  pub ends : i + count_all left ≡ e
  pub total : n + child_count left ≡ child_count ns

pub record HeadSought (words : List ℕ) (p i e : ℕ) (ns : Nodes) : Type 0 where
  pub left : Nodes
  pub shapes : Shapes words p i left
  pub ends : i + count_all left ≡ e
  pub sought : cells_in left ≡ cells_in ns

module _ (words : List ℕ) (p e : ℕ) (ns : Nodes) where
  pub counted_on : (i n : ℕ) → ChildrenCounted words p i e n ns → i < e → (i < word_at words i 2) × ChildrenCounted words p (word_at words i 2) e (n + 1) ns
  unfolding child_count
  counted_on i n c l =
      let t = first_sibling words p i e c.left c.shapes c.ends l in
      let q : n + child_count (child t.first t.rest) ≡ child_count ns = rw t.split at c.total in
      (t.on, record { left = t.rest; shapes = t.shapes; ends = t.ends; total = omega arith })

  pub counted_end : (i n : ℕ) → ChildrenCounted words p i e n ns → e < suc i → n ≡ child_count ns
  unfolding child_count
  counted_end i n c l =
      let q : n + child_count childless ≡ child_count ns = rw (no_more c.left i e c.ends l) at c.total in
      omega arith

  -- A head is found.
  pub sought_head : (i : ℕ) → HeadSought words p i e ns → i < e → word_at words i 0 ≡ Class.head
      → (ms : Nodes) × Family words i ms × (cells_in ns ≡ exactly (child_count ms))
  sought_head i c l h =
      let t = first_sibling words p i e c.left c.shapes c.ends l in
      go t.first t.rest t.shape (sym c.sought ∙ ap cells_in t.split)
    where
      go : (m : Node) (ms : Nodes) → Shape words p i m → cells_in ns ≡ cells_in (child m ms)
          → (ms : Nodes) × Family words i ms × (cells_in ns ≡ exactly (child_count ms))
      go (node k key type text w g us) ms s q =
          unfold Shape cells_in head_cells in
          (us, s.2, q ∙ rw (eq-eqb k Class.head (sym s.0 ∙ h)))

  pub sought_on : (i : ℕ) → HeadSought words p i e ns → i < e → (word_at words i 0 ≡ Class.head → ⊥)
      → (i < word_at words i 2) × HeadSought words p (word_at words i 2) e ns
  sought_on i c l h =
      let t = first_sibling words p i e c.left c.shapes c.ends l in
      (t.on, record { left = t.rest; shapes = t.shapes; ends = t.ends; sought = go t.first t.rest t.shape (sym c.sought ∙ ap cells_in t.split) })
    where
      go : (m : Node) (ms : Nodes) → Shape words p i m → cells_in ns ≡ cells_in (child m ms) → cells_in ms ≡ cells_in ns
      go (node k key type text w g us) ms s q =
          unfold Shape cells_in head_cells in
          sym (q ∙ rw (ne_eqb k Class.head (λ x. h (s.0 ∙ x))))

  pub sought_end : (i : ℕ) → HeadSought words p i e ns → e < suc i → cells_in ns ≡ any_number
  unfolding cells_in
  sought_end i c l = sym c.sought ∙ rw (no_more c.left i e c.ends l)
