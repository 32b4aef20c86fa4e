-- In an element that is fine, the values in its entry are those of the lists that it holds.
use Prim.Native.Nat.{ℕ, ◌+◌, ◌<◌}
use mathlib.Core.Path.{◌≡◌, refl, sym, ap, ◌∙◌}
use mathlib.Core.Bool.{false}
use mathlib.Core.Logic.{◌⊎◌, ⊎_elim}
use mathlib.Core.List.{List}
use native.Mathlib.Omega.{arith}
use borrow.Author.Tests.{ne_eqb, eqb-true}
use lib.Dec.{T, eqb}
use lib.ListN.{length}
use lib.Seq.{get_or-set_same}
use Rattle.base.proofs.Booleans.{cond_case, bool_case}
use Rattle.elements.specs.rules.Class as Class
use Rattle.elements.specs.rules.Inside.{start}
use Rattle.syntax.specs.rules.Expression.{Expr, symbol, quoted, list, Exprs, none, and, place}
use Rattle.base.specs.rules.Limits.{missing}
use Rattle.document.specs.rules.Document.{key_in, type_in, width_in, height_in, width_or, height_or}
use Rattle.document.specs.reference.RulesTest.{keeps_rules}
use Rattle.document.specs.rules.Lead.{lead_class, list_class, expr_class}
use Rattle.document.specs.reference.Meaning.{fine, judge, text_bytes, only_one, size_tree, value_tree, trees_of}
use Rattle.document.proofs.NestedMeaning.{not_fine}
use Rattle.document.proofs.BlockExpressions.{EndsFine}
use Rattle.reader.specs.declared.tape.Entry.{Entry}
use Rattle.reader.specs.internal.Counts.{node_count}
use Rattle.reader.specs.internal.Tape.{Tape, not_met, entry_at, with_key, with_type, with_size, key_noted, type_noted, size_noted, noted, value_place, taped, taped_all, LocatedAll}
use Rattle.reader.specs.internal.Filling.{held_at}
use Rattle.reader.proofs.lemmas.fill.SingleValues.{EachFine, OneText, no_text, one_symbol, one_string, Without, Single, nowhere, here, later}
use Rattle.reader.proofs.lemmas.fill.SingleValues.{keys, types, sizes, read_single, read_each, value_keeps}
use Rattle.reader.proofs.lemmas.fill.ElementValues.{key_class_lem, no_key, no_type, no_size, without_key, without_type, without_size, no_element, key_here, type_here, size_here}
use Rattle.reader.proofs.lemmas.tape.AfterWalk.{length_taped}
use Rattle.reader.proofs.lemmas.tape.ChangedEntries.{set_keeps, entered_other, element_other}

-- A word of an element's entry is for the one list of class a or b in it, and begins as d: `Wants es w` says that w is right for an element that holds es.
record Field (s : List ℕ) (a b d : ℕ) (word : Entry → ℕ) (Wants : Exprs → ℕ → Type 0) : Type 0 where
  pub values : (Class.is_element a ≡ false) × (Class.is_element b ≡ false)
  pub kept : (k c : ℕ) (es : Exprs) (t : Tape) (n : ℕ) → T (keeps_rules k (value_tree c es)) → (c ≡ a → ⊥) → (c ≡ b → ⊥)
      → word (entry_at (noted t n c es) n) ≡ word (entry_at t n)
  pub without : (k : ℕ) (es : Exprs) → EachFine k es → Without a b es → Wants es d
  pub held : (k at : ℕ) (lead : Expr) (inner es : Exprs) (t : Tape) (n : ℕ) → (lead_class lead ≡ a) ⊎ (lead_class lead ≡ b)
      → EachFine k (and (list at (and lead inner)) es) → Without a b es → LocatedAll s inner → n < length t
      → Wants (and (list at (and lead inner)) es) (word (entry_at (noted t n (lead_class lead) inner) n))
  pub passed : (k w : ℕ) (e : Expr) (es : Exprs) → judge k e ≡ fine → (expr_class e ≡ a → ⊥) → (expr_class e ≡ b → ⊥) → Wants es w → Wants (and e es) w

value_taped : (t : Tape) (n parent at : ℕ) (lead : Expr) (es : Exprs) → Class.is_element (lead_class lead) ≡ false
    → taped t n parent (list at (and lead es)) ≡ noted t parent (lead_class lead) es
unfolding taped
value_taped t n parent at lead es i = rw i

module _ {s : List ℕ} {a b d : ℕ} {word : Entry → ℕ} {Wants : Exprs → ℕ → Type 0} (f : Field s a b d word Wants) where
  -- An expression of another class keeps the word.
  one_kept : (k : ℕ) (t : Tape) (m n : ℕ) (e : Expr) → n < m → judge k e ≡ fine → (expr_class e ≡ a → ⊥) → (expr_class e ≡ b → ⊥)
      → word (entry_at (taped t m n e) n) ≡ word (entry_at t n)
  unfolding taped judge expr_class list_class
  one_kept k t m n (symbol at x) h g u v = ap word (entered_other t m at Class.text n (m + 1) n (λ q. omega arith))
  one_kept k t m n (quoted at x) h g u v = ap word (entered_other t m at Class.text n (m + 1) n (λ q. omega arith))
  one_kept k t m n (list at none) h g u v = absurd (not_fine 8 at g)
  one_kept k t m n (list at (and lead es)) h g u v =
      cond_case (λ (x : Tape). word (entry_at x n) ≡ word (entry_at t n)) (Class.is_element (lead_class lead))
      (λ i. ap word (element_other t m n at (lead_class lead) es n (λ q q'. omega arith)))
      (λ i. f.kept k (lead_class lead) es t n (value_keeps k at lead es i g) u v)

  all_kept : (k : ℕ) (t : Tape) (m n : ℕ) (es : Exprs) → n < m → EachFine k es → Without a b es
      → word (entry_at (taped_all t m n es) n) ≡ word (entry_at t n)
  unfolding taped
  all_kept k t m n none h g w = refl
  all_kept k t m n (and e es) h g w =
      all_kept k (taped t m n e) (m + node_count e) n es (omega arith) g.1 w.2 ∙ one_kept k t m n e h g.0 w.0 w.1

  -- The word after a run in which at most one list is of class a or b.
  word_wanted : (k : ℕ) (t : Tape) (m n : ℕ) (es : Exprs) → n < m → n < length t → word (entry_at t n) ≡ d → EachFine k es → LocatedAll s es
      → Single a b es → Wants es (word (entry_at (taped_all t m n es) n))
  unfolding taped expr_class list_class
  word_wanted k t m n es h l e g o (nowhere w) = rw (all_kept k t m n es h g w, e) (f.without k es g w)
  word_wanted k t m n es h l e g o (here {at} {lead} {inner} {es = rest} x w) =
      let i : Class.is_element (lead_class lead) ≡ false = ⊎_elim (λ q. rw q f.values.0) (λ q. rw q f.values.1) x in
      rw (
        all_kept k (taped t m n (list at (and lead inner))) (m + node_count (list at (and lead inner))) n rest (omega arith) g.1 w,
        value_taped t m
            n at lead inner i,
      )
      (f.held k at lead inner rest t n x g w o.0.1 l)
  word_wanted k t m n es h l e g o (later {e = x} {es = rest} u v q) =
      f.passed k _ x rest g.0 u v
      (word_wanted k (taped t m n x) (m + node_count x) n rest (omega arith) (rw (length_taped t m n x) l) (one_kept k t m n x h g.0 u v ∙ e) g.1
      o.1 q)

-- What a list of each class notes.
abbrev size_of : Tape → ℕ → Exprs → Tape
size_of t n es = size_noted t n (width_or 0 (size_tree es)) (height_or 0 (size_tree es))

note_size : (t : Tape) (n c : ℕ) (es : Exprs) → c ≡ Class.size → noted t n c es ≡ size_of t n es
unfolding noted
note_size t n c es e = rw e

note_type : (t : Tape) (n c : ℕ) (es : Exprs) → c ≡ Class.type → noted t n c es ≡ type_noted t n (value_place es)
unfolding noted
note_type t n c es e = rw e

note_key : (t : Tape) (n c : ℕ) (es : Exprs) → (c ≡ Class.id) ⊎ (c ≡ Class.target) → noted t n c es ≡ key_noted t n (value_place es)
unfolding noted
note_key t n c es = ⊎_elim (λ e. rw e) (λ e. rw e)

-- The entry then.
size_entry : (t : Tape) (n w h : ℕ) → n < length t → entry_at (size_noted t n w h) n ≡ with_size (entry_at t n) w h
unfolding size_noted
size_entry t n w h l = get_or-set_same t n _ not_met l

type_entry : (t : Tape) (n p : ℕ) → n < length t → entry_at (type_noted t n p) n ≡ with_type (entry_at t n) p
unfolding type_noted
type_entry t n p l = get_or-set_same t n _ not_met l

key_entry : (t : Tape) (n p : ℕ) → n < length t → entry_at (key_noted t n p) n ≡ with_key (entry_at t n) p
unfolding key_noted
key_entry t n p l = get_or-set_same t n _ not_met l

-- The class of a value that is no size and no type.
key_sort : (k c : ℕ) (es : Exprs) → eqb c Class.size ≡ false → eqb c Class.type ≡ false → T (keeps_rules k (value_tree c es))
    → (c ≡ Class.id) ⊎ (c ≡ Class.target)
unfolding value_tree keeps_rules
key_sort k c es e f v = key_class_lem k c (only_one text_bytes es) (rw (e, f) at v) f

-- A list notes a word of its own only.
note_sort : (P : Tape → Type 0) (k c : ℕ) (es : Exprs) (t : Tape) (n : ℕ) → T (keeps_rules k (value_tree c es)) → (c ≡ Class.size → P (size_of t n es))
    → (c ≡ Class.type → P (type_noted t n (value_place es))) → ((c ≡ Class.id) ⊎ (c ≡ Class.target) → P (key_noted t n (value_place es)))
    → P (noted t n c es)
unfolding noted
note_sort P k c es t n v z y i =
    cond_case P (eqb c Class.size) (λ e. z (eqb-true c Class.size e))
    (λ e. bool_case (eqb c Class.type) (λ f. rw f (y (eqb-true c Class.type f))) (λ f. rw f (i (key_sort k c es e f v))))

-- The bytes of the one symbol or string that a list holds are found at the first place in it.
held_one : (s : List ℕ) (es : Exprs) → OneText es → LocatedAll s es → held_at s (value_place es) ≡ only_one text_bytes es
unfolding held_at value_place place only_one text_bytes
held_one s es no_text o = refl
held_one s es (one_symbol {at} {s = b}) o = rw (ne_eqb at 0 (λ e. let h = o.0.0 in omega arith)) o.0.1
held_one s es (one_string {at} {s = b}) o = rw (ne_eqb at 0 (λ e. let h = o.0.0 in omega arith)) o.0.1

-- The four fields.
key_field : (s : List ℕ) → Field s Class.id Class.target 0 (λ (x : Entry). x.key) (λ es w. held_at s w ≡ key_in (trees_of es))
unfolding held_at trees_of key_in type_noted size_noted
key_field s = record {
  values = (no_element.0, no_element.1);
  kept = λ k c es t n v x y.
      note_sort (λ (u : Tape). (entry_at u n).key ≡ (entry_at t n).key) k c es t n v
      (λ e. set_keeps (λ (x : Entry). x.key) t n n _ refl)
      (λ e. set_keeps (λ (x : Entry). x.key) t n n _ refl)
      (λ e. absurd (⊎_elim x y e));
  without = λ k es g w. sym (without_key k es g w);
  held = λ k at lead inner es t n x g w o l.
      let q = key_here k at lead inner es x g w in
      rw (note_key t n (lead_class lead) inner x, key_entry t n (value_place inner) l) (held_one s inner q.1 o ∙ sym q.0);
  passed = λ k w e es g x y h. rw (no_key k e g x y) h;
}

type_field : (s : List ℕ) → Field s Class.type Class.type 0 (λ (x : Entry). x.typename) (λ es w. held_at s w ≡ type_in (trees_of es))
unfolding held_at trees_of type_in key_noted size_noted
type_field s = record {
  values = (no_element.2, no_element.2);
  kept = λ k c es t n v x y.
      note_sort (λ (u : Tape). (entry_at u n).typename ≡ (entry_at t n).typename) k c es t n v
      (λ e. set_keeps (λ (x : Entry). x.typename) t n n _ refl)
      (λ e. absurd (x e))
      (λ e. set_keeps (λ (x : Entry). x.typename) t n n _ refl);
  without = λ k es g w. sym (without_type es w);
  held = λ k at lead inner es t n x g w o l.
      let c : lead_class lead ≡ Class.type = ⊎_elim (λ e. e) (λ e. e) x in
      let q = type_here k at lead inner es c g w in
      rw (note_type t n (lead_class lead) inner c, type_entry t n (value_place inner) l) (held_one s inner q.1 o ∙ sym q.0);
  passed = λ k w e es g x y h. rw (no_type e x) h;
}

-- No list but a size notes a width and a height.
size_kept : (k c : ℕ) (es : Exprs) (t : Tape) (n : ℕ) → T (keeps_rules k (value_tree c es)) → (c ≡ Class.size → ⊥)
    → ((entry_at (noted t n c es) n).width ≡ (entry_at t n).width) × ((entry_at (noted t n c es) n).height ≡ (entry_at t n).height)
unfolding key_noted type_noted
size_kept k c es t n v x =
    note_sort (λ (u : Tape). ((entry_at u n).width ≡ (entry_at t n).width) × ((entry_at u n).height ≡ (entry_at t n).height)) k c es t n v
    (λ e. absurd (x e))
    (λ e. (set_keeps (λ (x : Entry). x.width) t n n _ refl, set_keeps (λ (x : Entry). x.height) t n n _ refl))
    (λ e. (set_keeps (λ (x : Entry). x.width) t n n _ refl, set_keeps (λ (x : Entry). x.height) t n n _ refl))

size_held : (t : Tape) (n : ℕ) (lead : Expr) (inner : Exprs) → lead_class lead ≡ Class.size → n < length t
    → ((entry_at (noted t n (lead_class lead) inner) n).width ≡ width_or 0 (size_tree inner))
    × ((entry_at (noted t n (lead_class lead) inner) n).height ≡ height_or 0 (size_tree inner))
size_held t n lead inner c l =
    rw (note_size t n (lead_class lead) inner c, size_entry t n (width_or 0 (size_tree inner)) (height_or 0 (size_tree inner)) l) (refl, refl)

width_field : (s : List ℕ) → Field s Class.size Class.size missing (λ (x : Entry). x.width) (λ es w. w ≡ width_in (trees_of es))
unfolding trees_of width_in
width_field s = record {
  values = (no_element.3, no_element.3);
  kept = λ k c es t n v x y. (size_kept k c es t n v x).0;
  without = λ k es g w. sym (without_size es w).0;
  held = λ k at lead inner es t n x g w o l.
      let c : lead_class lead ≡ Class.size = ⊎_elim (λ e. e) (λ e. e) x in
      (size_held t n lead inner c l).0 ∙ sym (size_here k at lead inner es c g.0).0;
  passed = λ k w e es g x y h. h ∙ sym (no_size (width_in (trees_of es)) e x).0;
}

height_field : (s : List ℕ) → Field s Class.size Class.size missing (λ (x : Entry). x.height) (λ es w. w ≡ height_in (trees_of es))
unfolding trees_of height_in
height_field s = record {
  values = (no_element.3, no_element.3);
  kept = λ k c es t n v x y. (size_kept k c es t n v x).1;
  without = λ k es g w. sym (without_size es w).1;
  held = λ k at lead inner es t n x g w o l.
      let c : lead_class lead ≡ Class.size = ⊎_elim (λ e. e) (λ e. e) x in
      (size_held t n lead inner c l).1 ∙ sym (size_here k at lead inner es c g.0).1;
  passed = λ k w e es g x y h. h ∙ sym (no_size (height_in (trees_of es)) e x).1;
}

-- An entry has the values of an element that holds es.
pub record HoldsValues (s : List ℕ) (x : Entry) (es : Exprs) : Type 0 where
  pub key_is : held_at s x.key ≡ key_in (trees_of es)
  pub type_is : held_at s x.typename ≡ type_in (trees_of es)
  pub width_is : x.width ≡ width_in (trees_of es)
  pub height_is : x.height ≡ height_in (trees_of es)

-- So it is after the walk over what a fine element holds, where node n had no values.
pub values_noted : (s : List ℕ) (t : Tape) (at k n : ℕ) (es : Exprs) → n < length t
    → ((entry_at t n).key ≡ 0) × ((entry_at t n).typename ≡ 0) × ((entry_at t n).width ≡ missing) × ((entry_at t n).height ≡ missing)
    → LocatedAll s es → EndsFine at k (start k) es → HoldsValues s (entry_at (taped_all t (n + 1) n es) n) es
values_noted s t at k n es l v o r =
    let g = read_each at k (start k) es r in
    let m : n < n + 1 = omega arith in
    let z = read_single sizes at k es r in
    let (key, type, width, height) = v in
    record {
      key_is = word_wanted (key_field s) k t (n + 1) n es m l key g o (read_single keys at k es r);
      type_is = word_wanted (type_field s) k t (n + 1) n es m l type g o (read_single types at k es r);
      width_is = word_wanted (width_field s) k t (n + 1) n es m l width g o z;
      height_is = word_wanted (height_field s) k t (n + 1) n es m l height g o z;
    }
