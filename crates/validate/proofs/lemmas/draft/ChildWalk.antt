-- The walk over an element's children: the end, one child, and the values.
use Prim.Native.Nat.{ℕ, ◌+◌, ◌≤◌, ◌<◌}
use mathlib.Core.Path.{◌≡◌, refl, sym, ap, subst, ◌∙◌}
use mathlib.Core.Bool.{Bool, true, false, cond, true≢false}
use mathlib.Core.List.{List}
use native.Mathlib.Omega.{arith}
use lib.Dec.{T, eqb}
use lib.ListN.{length, get_or, length-append, length-take, length-drop}
use borrow.Author.Tests.{eqb-true}
use Rattle.std.specs.Prelude.{Option, Some, None}
use Rattle.std.proofs.lemmas.Option.{same_Some}
use Rattle.base.proofs.Booleans.{cond_case, both, both_true, T_true, true_T}
use Rattle.elements.specs.rules.Class as Class
use Rattle.elements.specs.rules.Inside.{State, go, bad, step, ended}
use Rattle.inside.specs.Machine.{state_of}
use Rattle.document.specs.rules.Document.{Tree, Trees, holds, tree_class, Node, node, Nodes, childless, child, is_node, says, say_all}
use Rattle.document.specs.reference.RulesTest.{step_goes_on, keeps_rules, keep_rules}
use Rattle.document.specs.rules.Record.{record_length}
use Rattle.document.specs.rules.Table.{count, count_all, pool, pool_all}
use Rattle.document.specs.rules.Canonical.{place_values, layout, layout_all, most_levels_in}
use Rattle.document.proofs.NestedMeaning.{goes_on}
use Rattle.table.specs.Stored.{word_at, Stored, StoredAll}
use Rattle.validate.specs.declared.lent.Table.{Table}
use Rattle.validate.specs.declared.record.Row.{Row}
use Rattle.validate.specs.declared.draft.Walked.{Walked}
use Rattle.validate.specs.declared.draft.Entered.{Entered}
use Rattle.validate.specs.internal.DraftWalk.{DecidesNext, behind_first, LawfulNodeAt, LawfulRow, RowChildren, ChildTaken}
use Rattle.table.proofs.Stored.{recorded_word, rows_stored}
use Rattle.document.proofs.TableDetermines.{count_positive}
use Rattle.validate.proofs.lemmas.records.RecordTests.{row_word}
use Rattle.validate.proofs.lemmas.records.Decided.{decides_the, the_numbers, Same}
use Rattle.validate.proofs.lemmas.draft.ValuePlaces.{layout_node}
use Rattle.validate.proofs.lemmas.draft.LawfulNodes.{element_range}

-- What stands in the table goes forward, and stays within the pool.
pub node_forward : {words bytes : List ℕ} {i parent p left e q : ℕ} → LawfulNodeAt words bytes i parent p left e q → i < e
node_forward a = omega (arith, a.next, count_positive a.made)

pub node_within : {words bytes : List ℕ} {i parent p left e q : ℕ} → LawfulNodeAt words bytes i parent p left e q → p ≤ length bytes → q ≤ length bytes
node_within {words} {bytes} {i} {parent} {p} a h =
    omega (arith, a.after, simp (length-take, length-drop) at (ap length (rows_stored a.made words bytes i parent p a.stored).1))

-- The class of a node's tree is its record's kind.
pub class_word : (words bytes : List ℕ) (i parent p : ℕ) (n : Node) → Stored words bytes i parent p n → tree_class (layout n) ≡ word_at words i 0
unfolding layout tree_class Stored
class_word words bytes i parent p (node k key type string w h ns) s =
    cond_case (λ (t : Tree). tree_class t ≡ word_at words i 0) (eqb k Class.text)
    (λ e. sym (eqb-true k Class.text e) ∙ sym (recorded_word words _ i 0 s.0 (omega arith)))
    (λ e. sym (recorded_word words _ i 0 s.0 (omega arith)))

-- A node's tree keeps the rules in any element.
keeps_any : (k : ℕ) (n : Node) → keeps_rules k (layout n) ≡ keeps_rules 0 (layout n)
unfolding layout keeps_rules
keeps_any k (node c key type string w h ns) = cond_case (λ (t : Tree). keeps_rules k t ≡ keeps_rules 0 t) (eqb c Class.text) (λ e. refl) (λ e. refl)

-- A node's kind is at most 25.
class_low : (n : Node) → T (keeps_rules 0 (layout n)) → tree_class (layout n) ≤ 25
unfolding layout keeps_rules tree_class
class_low (node c key type string w h ns) =
    cond_case (λ (t : Tree). T (keeps_rules 0 t) → tree_class t ≤ 25) (eqb c Class.text) (λ e t. omega arith)
    (λ e t. (element_range c (both (Class.is_element c) _ t).0).1)

pub kind_word : {words bytes : List ℕ} {i parent p left e q : ℕ} → LawfulNodeAt words bytes i parent p left e q → word_at words i 0 ≤ 25
kind_word {words} {bytes} {i} {parent} {p} a =
    rw (← (class_word words bytes i parent p a.made a.stored)) (class_low a.made a.lawful.keeps)

-- Where the values are due, they stand behind the first child.
pub behind_child : (due : Bool) (W : Trees → Trees) (t : Tree) (ts : Trees) → behind_first due W (holds t ts) ≡ holds t (cond due (W ts) ts)
unfolding place_values
behind_child true W t ts = refl
behind_child false W t ts = refl

-- What is decided of a row is decided of the node that it is of.
pub of_node : (own : Row) {t : Table} {j : ℕ} → own.table.now ≡ t → own.number ≡ j → {parent p left : ℕ} {answer : Option Walked}
    → DecidesNext (LawfulRow own parent p left) answer → DecidesNext (LawfulNodeAt t.nodes.now t.pool.now j parent p left) answer
of_node own {t} {j} e f d = rw (← e, ← f) d

pub word_of_node : (own : Row) {t : Table} {j : ℕ} → own.table.now ≡ t → own.number ≡ j → (n : ℕ) → n < record_length → get_or own.words.now n 0 ≡ word_at t.nodes.now j n
word_of_node own {t} {j} e f n h = rw (← e, ← f) (row_word own n h)

module _ (row : Row) (k : ℕ) where
  abbrev words : List ℕ
  words = row.table.now.nodes.now

  abbrev bytes : List ℕ
  bytes = row.table.now.pool.now

  abbrev i : ℕ
  i = row.number

  -- The nodes and the pool places of children that stand in the table.
  abbrev Kids : (Trees → Trees) → State → ℕ → ℕ → ℕ → ℕ → ℕ → ℕ → Type 0
  Kids W s j p end left e q = RowChildren row W k s j p end left e q

  -- ---- the end

  no_children : (ns : Nodes) → count_all ns ≡ 0 → ns ≡ childless
  unfolding count
  no_children childless e = refl
  no_children (child n ns) e = absurd (omega (arith, count_positive n))

  ended_there : {s : State} {j p end left e q : ℕ} → j ≡ end → Kids (λ ts. ts) s j p end left e q → (ended k s ≡ true) × (end ≡ e) × (p ≡ q)
  unfolding keeps_rules layout pool
  ended_there {s} h c =
      let none = no_children c.made (omega (arith, c.end_is)) in
      (T_true (ended k s) (rw none at c.keep), sym c.next, omega (arith, rw none at c.after))

  pub end_taken : {s : State} {j p end left : ℕ} → j ≡ end → ended k s ≡ true
      → DecidesNext (Kids (λ ts. ts) s j p end left) (Some (record { next = end; pool = p }))
  unfolding keeps_rules StoredAll says layout count pool most_levels_in
  end_taken {s} {j} {p} {end} {left} h t =
      let there : Kids (λ ts. ts) s j p end left end p =
      record { made = childless; stored = tt; keep = true_T t; said = refl; levels = omega arith; end_is = omega arith; next = refl; after = omega arith } in
      decides_the (record { next = end; pool = p }) there (λ e q c. let (u, n, m) = ended_there h c in (n, m))

  pub end_refused : {s : State} {j p end left e q : ℕ} → j ≡ end → ended k s ≡ false → Kids (λ ts. ts) s j p end left e q → ⊥
  end_refused h f c = true≢false (sym (ended_there h c).0 ∙ f)

  pub end_passed : {W : Trees → Trees} {s : State} {j p end left e q : ℕ} → end ≤ j → (j ≡ end → ⊥) → Kids W s j p end left e q → ⊥
  end_passed h f c = f (omega (arith, c.end_is))

  -- ---- one child

  module _ (W W' : Trees → Trees) (before : (t : Tree) (ts : Trees) → W' (holds t ts) ≡ holds t (W ts)) where
    -- The first child, and the others.
    record FirstAndRest (s : State) (j p end left e q : ℕ) : Type 0 where
      state : State
      next : ℕ
      place : ℕ
      first : LawfulNodeAt words bytes j i p left next place
      taken : step k s (word_at words j 0) ≡ go state
      rest : Kids W state next place end left e q

    first_and_rest : {s : State} {j p end left e q : ℕ} → j < end → Kids W' s j p end left e q → FirstAndRest s j p end left e q
    unfolding StoredAll keeps_rules says layout count pool most_levels_in
    first_and_rest {s} {j} {p} {end} {left} {e} {q} h c = by c.made c.stored c.keep c.said c.levels c.end_is c.after
      where
        by : (ns : Nodes) → StoredAll words bytes j i p ns → T (keep_rules k s (W' (layout_all ns))) → say_all (layout_all ns) ≡ ns
            → most_levels_in (layout_all ns) ≤ left → end ≡ j + count_all ns → q ≡ p + length (pool_all ns) → FirstAndRest s j p end left e q
        by childless a b f g m o = absurd (omega arith)
        by (child n ns) a b f g m o =
            let (here, on) = both (keeps_rules k (layout n)) (step_goes_on (step k s (tree_class (layout n))) (λ s'. keep_rules k s' (W (layout_all ns)))) (rw (before (layout n) (layout_all ns)) at b) in
            let (s', t, later) = goes_on (step k s (tree_class (layout n))) (λ s'. keep_rules k s' (W (layout_all ns))) on in
            let said = rw (T_true (is_node (layout n)) (layout_node n)) at f in
            record {
              state = s';
              next = j + count n;
              place = p + length (pool n);
              first = record {
                made = n;
                stored = a.0;
                lawful = record { keeps = rw (keeps_any k n) at here; said = cc said; levels = omega arith };
                next = refl;
                after = refl;
              };
              taken = ap (step k s) (sym (class_word words bytes j i p n a.0)) ∙ t;
              rest = record {
                made = ns;
                stored = a.1;
                keep = later;
                said = cc said;
                levels = omega arith;
                end_is = omega arith;
                next = c.next;
                after = omega (arith, simp length-append at o);
              };
            }

    joined : {s : State} {j p end left e q : ℕ} → FirstAndRest s j p end left e q → Kids W' s j p end left e q
    unfolding StoredAll keeps_rules says layout count pool most_levels_in step_goes_on
    joined {s} {j} {p} {end} {left} c =
        let n = c.first.made in
        let ns = c.rest.made in
        let class = class_word words bytes j i p n c.first.stored in
        record {
          made = child n ns;
          stored = (c.first.stored, rw (← c.first.next, ← c.first.after) c.rest.stored);
          keep = rw (before (layout n) (layout_all ns), keeps_any k n, class, c.taken) (both_true (keeps_rules 0 (layout n)) _ c.first.lawful.keeps c.rest.keep);
          said = rw (T_true (is_node (layout n)) (layout_node n)) (cc (c.first.lawful.said, c.rest.said));
          levels = omega (arith, c.first.lawful.levels, c.rest.levels);
          end_is = omega (arith, c.rest.end_is, c.first.next);
          next = c.rest.next;
          after = simp length-append (omega (arith, c.rest.after, c.first.after));
        }

    module _ {s : State} {j p end left : ℕ} (h : j < end) where
      -- Where the child is taken, the others are left.
      pub child_same : {c : Entered} → ChildTaken row k s j p left (Some c) → Same (Kids W (state_of k c.state) c.next c.pool end left) (Kids W' s j p end left)
      child_same {c} t =
          let (one, taken) = t.sound c refl in
          record {
            to = λ e q r. joined (record { state = state_of k c.state; next = c.next; place = c.pool; first = one; taken = taken; rest = r });
            from = λ e q r.
                let d = first_and_rest h r in
                let (other, is, n, m) = t.complete d.next d.place d.state d.first d.taken in
                let same : d.state ≡ state_of k c.state = cc (taken, d.taken) in
                let next : c.next ≡ d.next = cc in
                let pool : c.pool ≡ d.place = cc in
                rw (next, pool, ← same) d.rest;
          }

      pub child_none : ChildTaken row k s j p left None → (e q : ℕ) → Kids W' s j p end left e q → ⊥
      child_none t e q r =
          let d = first_and_rest h r in
          let (other, is, n, m) = t.complete d.next d.place d.state d.first d.taken in
          cc

  -- ---- the values

  -- The same children, with something else among their trees.
  kept : {W W' : Trees → Trees} {s s' : State} {j p end left e q : ℕ} (c : Kids W s j p end left e q) → T (keep_rules k s' (W' (layout_all c.made)))
      → Kids W' s' j p end left e q
  kept c h =
      record {
        made = c.made;
        stored = c.stored;
        keep = h;
        said = c.said;
        levels = c.levels;
        end_is = c.end_is;
        next = c.next;
        after = c.after;
      }

  -- Where the values are taken, the children are left.
  pub values_same : {W W' : Trees → Trees} {s s' : State} {j p end left : ℕ}
      → ((ns : Nodes) → end ≡ j + count_all ns → keep_rules k s (W (layout_all ns)) ≡ keep_rules k s' (W' (layout_all ns)))
      → Same (Kids W' s' j p end left) (Kids W s j p end left)
  values_same t =
      record {
        to = λ e q c. kept c (rw (t c.made c.end_is) c.keep);
        from = λ e q c. kept c (rw (t c.made c.end_is) at c.keep);
      }

  pub values_none : {W : Trees → Trees} {s : State} {j p end left : ℕ}
      → ((ns : Nodes) → end ≡ j + count_all ns → keep_rules k s (W (layout_all ns)) ≡ false) → (e q : ℕ) → Kids W s j p end left e q → ⊥
  values_none t e q c = rw (t c.made c.end_is) at c.keep

  -- ---- the answer of one child

  module _ {s : State} {j p left : ℕ} where
    pub child_missing : ((e q : ℕ) → LawfulNodeAt words bytes j i p left e q → ⊥) → ChildTaken row k s j p left None
    child_missing f = record { sound = λ c e. cc; complete = λ e q s' a t. absurd (f e q a) }

    pub child_stopped : (fault : ℕ) → step k s (word_at words j 0) ≡ bad fault → ChildTaken row k s j p left None
    child_stopped fault f = record { sound = λ c e. cc; complete = λ e q s' a t. let g : bad fault ≡ go s' = sym f ∙ t in cc }

    pub child_stepped : {w : Walked} {state : ℕ} → DecidesNext (LawfulNodeAt words bytes j i p left) (Some w) → step k s (word_at words j 0) ≡ go (state_of k state)
        → ChildTaken row k s j p left (Some (record { next = w.next; pool = w.pool; state = state }))
    child_stepped {w} {state} d t =
        let the : Entered = record { next = w.next; pool = w.pool; state = state } in
        let Taken : Entered → Type 0 = λ c. LawfulNodeAt words bytes j i p left c.next c.pool × (step k s (word_at words j 0) ≡ go (state_of k c.state)) in
        record {
          sound = λ c e. subst Taken (same_Some the c e) (d.sound w refl, t);
          complete = λ e q s' a u. let (n, m) = the_numbers d a in (the, refl, n, m);
        }
