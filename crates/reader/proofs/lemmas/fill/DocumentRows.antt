-- The rows of the entries that a walk over fine expressions noted are those of what the expressions say.
use Prim.Native.Nat.{ℕ, suc, ◌+◌, ◌≤◌, ◌<◌}
use mathlib.Core.Path.{◌≡◌, refl, sym, ap, subst, ◌∙◌}
use mathlib.Core.Bool.{true, false, not}
use mathlib.Core.List.{List, [], ◌∷◌}
use native.Mathlib.Omega.{arith}
use borrow.Author.Tests.{ne_eqb}
use lib.Dec.{T, eqb, T_not}
use lib.ListN.{length, drop}
use lib.Seq.{get_or-set_same}
use Rattle.base.proofs.Booleans.{bool_case, both, true_T, not_T_false}
use Rattle.elements.specs.rules.Class as Class
use Rattle.elements.specs.rules.Inside.{start}
use Rattle.atoms.specs.Atom.{atom_value}
use Rattle.syntax.specs.rules.Expression.{Expr, symbol, quoted, list, Exprs, none, and}
use Rattle.base.specs.rules.Limits.{missing}
use Rattle.document.specs.rules.Document.{text, key_in, type_in, width_in, height_in}
use Rattle.document.specs.rules.Lead.{lead_class}
use Rattle.document.specs.reference.Meaning.{fine, judge, judge_list, tree_of, trees_of, places}
use Rattle.document.proofs.NestedMeaning.{not_fine}
use Rattle.document.proofs.BlockExpressions.{EndsFine}
use Rattle.reader.specs.internal.Counts.{node_count, node_count_of_list, node_count_in}
use Rattle.reader.specs.declared.tape.Entry.{Entry}
use Rattle.reader.specs.internal.Tape.{Tape, not_met, entry_at, entered, with_end, left, taped, taped_list, taped_all, Located, LocatedAll}
use Rattle.reader.specs.internal.Filling.{Filling, held_at, with_row, next_row}
use Rattle.reader.proofs.lemmas.fill.SingleValues.{EachFine, element_fine, read_each}
use Rattle.reader.proofs.lemmas.fill.Rows.{rows_of, rows_grow, rows_add}
use Rattle.reader.proofs.lemmas.tape.AfterWalk.{length_taped, length_all, length_entered}
use Rattle.reader.proofs.lemmas.tape.ChangedEntries.{front, element_tape, left_other, all_other, all_front}
use Rattle.reader.proofs.lemmas.fill.EntryValues.{HoldsValues, values_noted}
use Rattle.reader.proofs.lemmas.fill.RunWrites.{WroteRun, wrote_none, wrote_on, wrote_value, wrote_text, wrote_element}

-- The entry of a node that was entered, and of one that was left.
entered_entry : (t : Tape) (n at c parent end : ℕ) → n < length t
    → entry_at (entered t n at c parent end) n
    ≡ record { place = at; class = c; parent = parent; end = end; key = 0; typename = 0; width = missing; height = missing }
unfolding entered
entered_entry t n at c parent end l = get_or-set_same t n _ not_met l

left_entry : (t : Tape) (n end : ℕ) → n < length t → entry_at (left t n end) n ≡ with_end (entry_at t n) end
unfolding left
left_entry t n end l = get_or-set_same t n _ not_met l

-- An element is no text.
element_no_text : (c : ℕ) → Class.is_element c ≡ true → eqb c Class.text ≡ false
unfolding Class.is_element
element_no_text c i = not_T_false (eqb c Class.text) (T_not (eqb c Class.text) (both (Class.is_kind c) (not (eqb c Class.text)) (true_T i)).1)

-- The tape T has the entries of t for k nodes from n on.
abbrev Agrees : Tape → Tape → ℕ → ℕ → Type 0
Agrees T t n k = (i : ℕ) → n ≤ i → i < n + k → entry_at T i ≡ entry_at t i

-- What an entry says of an element, but for its values.
record Entered (x : Entry) (at c parent end : ℕ) : Type 0 where
  pub place_is : x.place ≡ at
  pub class_is : x.class ≡ c
  pub parent_is : x.parent ≡ parent
  pub end_is : x.end ≡ end

module _ (T t : Tape) (n at c parent : ℕ) (es : Exprs) (l : n + suc (node_count_in es) ≤ length t)
    (g : Agrees T (element_tape t n parent at c es) n (suc (node_count_in es))) where
  abbrev begun : Tape
  begun = entered t n at c parent 0

  abbrev walked : Tape
  walked = taped_all begun (n + 1) n es

  within : n < length begun
  within = rw (length_entered t n at c parent 0) (omega arith)

  -- Beside the end of its own entry, the tape has the entries after the walk.
  own_entry : entry_at T n ≡ with_end (entry_at walked n) (n + 1 + node_count_in es)
  own_entry =
      g n (omega arith) (omega arith)
      ∙ left_entry walked n (n + 1 + node_count_in es) (rw (length_all begun (n + 1) n es) within)

  inner_agrees : Agrees T walked (n + 1) (node_count_in es)
  inner_agrees i h h' = g i (omega arith) (omega arith) ∙ left_other walked n (n + 1 + node_count_in es) i (λ e. omega arith)

  own_front : front (entry_at walked n) ≡ (at, c, parent)
  own_front =
      all_front begun (n + 1) n es n (λ q q'. omega arith) ∙ ap front (entered_entry t n at c parent 0 (omega arith))

  element_entered : Entered (entry_at T n) at c parent (n + 1 + node_count_in es)
  element_entered = rw own_entry (record {
    place_is = ap (λ (p : ℕ × ℕ × ℕ). p.0) own_front;
    class_is = ap (λ (p : ℕ × ℕ × ℕ). p.1) own_front;
    parent_is = ap (λ (p : ℕ × ℕ × ℕ). p.2) own_front;
    end_is = refl;
  })

  element_valued : (s : List ℕ) (k : ℕ) → LocatedAll s es → EndsFine k c (start c) es → HoldsValues s (entry_at T n) es
  element_valued s k o r =
      let v = values_noted s begun k c n es within (rw (entered_entry t n at c parent 0 (omega arith)) (refl, refl, refl, refl)) o r in
      rw own_entry (record { key_is = v.key_is; type_is = v.type_is; width_is = v.width_is; height_is = v.height_is })

-- The rows of those entries.
text_row_lem : (s : List ℕ) (x : Entry) (a : Filling) (at parent end : ℕ) (b : List ℕ)
    → x ≡ record { place = at; class = Class.text; parent = parent; end = end; key = 0; typename = 0; width = missing; height = missing }
    → (0 < at) × (atom_value (drop at s) ≡ b) → next_row s x a ≡ with_row at Class.text parent end missing missing [] [] b a
unfolding next_row held_at
text_row_lem s x a at parent end b e (p, v) = rw (e, ne_eqb at 0 (λ q. omega arith), v)

element_row_lem : (s : List ℕ) (x : Entry) (a : Filling) (at c parent end : ℕ) (es : Exprs) → Class.is_element c ≡ true → Entered x at c parent end
    → HoldsValues s x es
    → next_row s x a
    ≡ with_row at c parent end (width_in (trees_of es)) (height_in (trees_of es)) (key_in (trees_of es)) (type_in (trees_of es)) [] a
unfolding next_row
element_row_lem s x a at c parent end es i e v =
    rw (e.class_is, element_no_text c i, e.place_is, e.parent_is, e.end_is, v.key_is, v.type_is, v.width_is, v.height_is)

module _ (s : List ℕ) (T : Tape) where
  one_row : (a : Filling) → rows_of s T 1 a ≡ next_row s (entry_at T a.node) a
  unfolding rows_of
  one_row a = refl

  no_rows : (a : Filling) → rows_of s T 0 a ≡ a
  unfolding rows_of
  no_rows a = refl

  wrote_atom : (x : Expr) (at : ℕ) (b : List ℕ) (t : Tape) (n parent : ℕ) (a : Filling) → tree_of x ≡ text b → places x ≡ at ∷ [] → a.node ≡ n
      → n + 1 ≤ length t → Agrees T (entered t n at Class.text parent (n + 1)) n 1 → (0 < at) × (atom_value (drop at s) ≡ b)
      → WroteRun parent (and x none) a (rows_of s T 1 a)
  wrote_atom x at b t n parent a e f m l g v =
      let w : entry_at T a.node
      ≡ record { place = at; class = Class.text; parent = parent; end = a.node + 1; key = 0; typename = 0; width = missing; height = missing } =
      rw m (g n (omega arith) (omega arith) ∙ entered_entry t n at Class.text parent (n + 1) (omega arith)) in
      rw (one_row a, text_row_lem s (entry_at T a.node) a at parent (a.node + 1) b w v) (wrote_text parent at x b a e f)

  -- A list, given what is written of what it holds.
  wrote_by : (at k : ℕ) (lead : Expr) (es : Exprs) (t : Tape) (n parent : ℕ) (a : Filling) → a.node ≡ n
      → n + node_count_of_list (and lead es) ≤ length t
      → Agrees T (taped_list t n parent at (and lead es)) n (node_count_of_list (and lead es)) → LocatedAll s es → judge_list k at (and lead es) ≡ fine
      → ((u : Tape) (b : Filling) → b.node ≡ n + 1 → n + 1 + node_count_in es ≤ length u → Agrees T (taped_all u (n + 1) n es) (n + 1) (node_count_in es)
      → EachFine (lead_class lead) es → WroteRun n es b (rows_of s T (node_count_in es) b))
      → WroteRun parent (and (list at (and lead es)) none) a (rows_of s T (node_count_of_list (and lead es)) a)
  unfolding taped node_count with_row
  wrote_by at k lead es t n parent a m l g o f inside =
      bool_case (Class.is_element (lead_class lead))
      (λ i.
      let c : ℕ = lead_class lead in
      let l' : n + suc (node_count_in es) ≤ length t = rw i at l in
      let g' : Agrees T (element_tape t n parent at c es) n (suc (node_count_in es)) = rw i at g in
      let rd : EndsFine at c (start c) es = element_fine k at lead es i f in
      let en : Entered (entry_at T a.node) at c parent (n + 1 + node_count_in es) = rw m (element_entered T t n at c parent es l' g') in
      let va : HoldsValues s (entry_at T a.node) es = rw m (element_valued T t n at c parent es l' g' s at o rd) in
      let row : Filling =
      with_row at c parent (a.node + 1 + node_count_in es) (width_in (trees_of es)) (height_in (trees_of es)) (key_in (trees_of es)) (type_in (trees_of es)) [] a in
      let first : rows_of s T 1 a ≡ row = one_row a ∙ element_row_lem s (entry_at T a.node) a at c parent (n + 1 + node_count_in es) es i en va ∙ rw m in
      let q : suc (node_count_in es) ≡ 1 + node_count_in es = omega arith in
      let all : rows_of s T (suc (node_count_in es)) a ≡ rows_of s T (node_count_in es) row =
      ap (λ (x : ℕ). rows_of s T x a) q ∙ rows_add s T 1 (node_count_in es) a ∙ ap (rows_of s T (node_count_in es)) first in
      let below = inside (entered t n at c parent 0) row (rw m) (rw (length_entered t n at c parent 0) (omega arith))
      (inner_agrees T t n at c parent es l' g') (read_each at c (start c) es rd) in
      rw (i, all) (wrote_element parent at c lead es a (rows_of s T (node_count_in es) row) i refl
      (subst (λ (x : ℕ). WroteRun x es row (rows_of s T (node_count_in es) row)) (sym m) below)))
      (λ i. rw (i, no_rows a) (wrote_value parent at lead es a i))

  mutual
    unfolding taped node_count judge tree_of places

    pub wrote_one : (e : Expr) (k : ℕ) (t : Tape) (n parent : ℕ) (a : Filling) → a.node ≡ n → n + node_count e ≤ length t
        → Agrees T (taped t n parent e) n (node_count e) → Located s e → judge k e ≡ fine → WroteRun parent (and e none) a (rows_of s T (node_count e) a)
    wrote_one (symbol at b) k t n parent a m l g o f = wrote_atom (symbol at b) at b t n parent a refl refl m l g o
    wrote_one (quoted at b) k t n parent a m l g o f = wrote_atom (quoted at b) at b t n parent a refl refl m l g o
    wrote_one (list at es) k t n parent a m l g o f = wrote_list es at k t n parent a m l g o f

    wrote_list : (es : Exprs) (at k : ℕ) (t : Tape) (n parent : ℕ) (a : Filling) → a.node ≡ n → n + node_count_of_list es ≤ length t
        → Agrees T (taped_list t n parent at es) n (node_count_of_list es) → LocatedAll s es → judge_list k at es ≡ fine
        → WroteRun parent (and (list at es) none) a (rows_of s T (node_count_of_list es) a)
    wrote_list none at k t n parent a m l g o f = absurd (not_fine 8 at f)
    wrote_list (and lead es) at k t n parent a m l g o f =
        wrote_by at k lead es t n parent a m l g o.1 f
        (λ u b m' l' g' f'. wrote_all es (lead_class lead) u (n + 1) n b m' (omega arith) l' g' o.1 f')

    pub wrote_all : (es : Exprs) (k : ℕ) (t : Tape) (n parent : ℕ) (a : Filling) → a.node ≡ n → parent < n → n + node_count_in es ≤ length t
        → Agrees T (taped_all t n parent es) n (node_count_in es) → LocatedAll s es → EachFine k es → WroteRun parent es a (rows_of s T (node_count_in es) a)
    wrote_all none k t n parent a m p l g o f = rw (no_rows a) (wrote_none parent a)
    wrote_all (and e es) k t n parent a m p l g o f =
        let b : Filling = rows_of s T (node_count e) a in
        let here : Agrees T (taped t n parent e) n (node_count e) =
        λ i h h'. g i h (omega arith) ∙ all_other (taped t n parent e) (n + node_count e) parent es i (λ q q'. omega arith) (λ q. omega arith) in
        let there : Agrees T (taped_all (taped t n parent e) (n + node_count e) parent es) (n + node_count e) (node_count_in es) =
        λ i h h'. g i (omega arith) (omega arith) in
        rw (rows_add s T (node_count e) (node_count_in es) a)
        (wrote_on parent e es a b (rows_of s T (node_count_in es) b) (wrote_one e k t n parent a m (omega arith) here o.0 f.0)
        (wrote_all es k (taped t n parent e) (n + node_count e) parent b ((rows_grow s T (node_count e) a).node_is ∙ ap (λ (x : ℕ). x + node_count e) m) (omega arith)
        (rw (length_taped t n parent e) (omega arith)) there o.1 f.1))
