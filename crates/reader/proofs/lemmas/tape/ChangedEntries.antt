-- Which entries of the tape a walk over expressions changes.
use Prim.Native.Nat.{ℕ, zero, suc, ◌+◌, ◌≤◌, ◌<◌}
use mathlib.Core.Path.{◌≡◌, refl, ◌∙◌}
use mathlib.Core.List.{[], ◌∷◌}
use native.Mathlib.Omega.{arith}
use lib.Dec.{eqb}
use lib.ListN.{set}
use lib.Seq.{get_or-set_other}
use Rattle.base.proofs.Booleans.{cond_case}
use Rattle.elements.specs.rules.Class as Class
use Rattle.syntax.specs.rules.Expression.{Expr, symbol, quoted, list, Exprs, none, and}
use Rattle.document.specs.rules.Lead.{lead_class}
use Rattle.reader.specs.declared.tape.Entry.{Entry}
use Rattle.reader.specs.internal.Counts.{node_count, node_count_of_list, node_count_in}
use Rattle.reader.specs.internal.Tape.{Tape, not_met, entry_at, entered, left, key_noted, type_noted, size_noted, noted, taped, taped_list, taped_all}

-- A store that keeps this of its entry keeps it of each entry.
pub set_keeps : {A : Type 0} (f : Entry → A) (t : Tape) (n i : ℕ) (e : Entry) → f e ≡ f (entry_at t n) → f (entry_at (set t n e) i) ≡ f (entry_at t i)
set_keeps f [] n i e h = refl
set_keeps f (x ∷ t) zero zero e h = h
set_keeps f (x ∷ t) zero (suc i) e h = refl
set_keeps f (x ∷ t) (suc n) zero e h = refl
set_keeps f (x ∷ t) (suc n) (suc i) e h = set_keeps f t n i e h

-- Node i is none of k nodes from n on.
abbrev pub Beside : ℕ → ℕ → ℕ → Type 0
Beside n k i = n ≤ i → i < n + k → ⊥

pub entered_other : (t : Tape) (n at c parent end : ℕ) (i : ℕ) → (i ≡ n → ⊥) → entry_at (entered t n at c parent end) i ≡ entry_at t i
unfolding entered
entered_other t n at c parent end i out = get_or-set_other t n i _ not_met out

pub left_other : (t : Tape) (n end : ℕ) (i : ℕ) → (i ≡ n → ⊥) → entry_at (left t n end) i ≡ entry_at t i
unfolding left
left_other t n end i out = get_or-set_other t n i _ not_met out

-- The values of a node are noted in its entry, beside what was known when it was entered.
abbrev pub front : Entry → ℕ × ℕ × ℕ
front e = (e.place, e.class, e.parent)

-- Noting the values of node n keeps f of the entry of node i.
abbrev NotesKeep : {A : Type 0} → (Entry → A) → ℕ → ℕ → Type 0
NotesKeep f i n = (t : Tape) (c : ℕ) (es : Exprs) → f (entry_at (noted t n c es) i) ≡ f (entry_at t i)

notes_keep : {A : Type 0} (f : Entry → A) (i n : ℕ) → ((t : Tape) (p : ℕ) → f (entry_at (key_noted t n p) i) ≡ f (entry_at t i))
    → ((t : Tape) (p : ℕ) → f (entry_at (type_noted t n p) i) ≡ f (entry_at t i))
    → ((t : Tape) (w h : ℕ) → f (entry_at (size_noted t n w h) i) ≡ f (entry_at t i)) → NotesKeep f i n
unfolding noted
notes_keep f i n key type size t c es =
    cond_case (λ (u : Tape). f (entry_at u i) ≡ f (entry_at t i)) (eqb c Class.size) (λ e. size t _ _)
    (λ e. cond_case (λ (u : Tape). f (entry_at u i) ≡ f (entry_at t i)) (eqb c Class.type) (λ e. type t _) (λ e. key t _))

notes_front : (i n : ℕ) → NotesKeep front i n
unfolding key_noted type_noted size_noted
notes_front i n =
    notes_keep front i n (λ t p. set_keeps front t n i _ refl) (λ t p. set_keeps front t n i _ refl) (λ t w h. set_keeps front t n i _ refl)

notes_other : {A : Type 0} (f : Entry → A) (i n : ℕ) → (i ≡ n → ⊥) → NotesKeep f i n
unfolding key_noted type_noted size_noted
notes_other f i n out =
    notes_keep f i n (λ t p. rw (get_or-set_other t n i _ not_met out)) (λ t p. rw (get_or-set_other t n i _ not_met out))
    (λ t w h. rw (get_or-set_other t n i _ not_met out))

-- A node and its descendants.
abbrev pub element_tape : Tape → ℕ → ℕ → ℕ → ℕ → Exprs → Tape
element_tape t n parent at c es = left (taped_all (entered t n at c parent 0) (n + 1) n es) n (n + 1 + node_count_in es)

element_by : {A : Type 0} (f : Entry → A) (t : Tape) (n parent at c : ℕ) (es : Exprs) (i : ℕ) → Beside n (suc (node_count_in es)) i
    → f (entry_at (taped_all (entered t n at c parent 0) (n + 1) n es) i) ≡ f (entry_at (entered t n at c parent 0) i)
    → f (entry_at (element_tape t n parent at c es) i) ≡ f (entry_at t i)
element_by f t n parent at c es i out inside =
    let o : i ≡ n → ⊥ = λ e. out (omega arith) (omega arith) in
    rw (left_other (taped_all (entered t n at c parent 0) (n + 1) n es) n (n + 1 + node_count_in es) i o)
    (inside ∙ rw (entered_other t n at c parent 0 i o))

module _ {A : Type 0} (f : Entry → A) (i : ℕ) where
  mutual
    unfolding taped node_count

    taped_keeps : (t : Tape) (n parent : ℕ) (e : Expr) → Beside n (node_count e) i → NotesKeep f i parent
        → f (entry_at (taped t n parent e) i) ≡ f (entry_at t i)
    taped_keeps t n parent (symbol at s) out keep = rw (entered_other t n at Class.text parent (n + 1) i (λ e. out (omega arith) (omega arith)))
    taped_keeps t n parent (quoted at s) out keep = rw (entered_other t n at Class.text parent (n + 1) i (λ e. out (omega arith) (omega arith)))
    taped_keeps t n parent (list at es) out keep = list_keeps t n parent at es out keep

    list_keeps : (t : Tape) (n parent at : ℕ) (es : Exprs) → Beside n (node_count_of_list es) i → NotesKeep f i parent
        → f (entry_at (taped_list t n parent at es) i) ≡ f (entry_at t i)
    list_keeps t n parent at none out keep = refl
    list_keeps t n parent at (and lead es) out keep =
        cond_case (λ (u : Tape). f (entry_at u i) ≡ f (entry_at t i)) (Class.is_element (lead_class lead))
        (λ e.
        let o : Beside n (suc (node_count_in es)) i = rw e at out in
        element_by f t n parent at (lead_class lead) es i o
        (all_keep (entered t n at (lead_class lead) parent 0) (n + 1) n es (λ h h'. o (omega arith) (omega arith))
        (notes_other f i n (λ q. o (omega arith) (omega arith)))))
        (λ e. keep t (lead_class lead) es)

    all_keep : (t : Tape) (n parent : ℕ) (es : Exprs) → Beside n (node_count_in es) i → NotesKeep f i parent
        → f (entry_at (taped_all t n parent es) i) ≡ f (entry_at t i)
    all_keep t n parent none out keep = refl
    all_keep t n parent (and e es) out keep =
        all_keep (taped t n parent e) (n + node_count e) parent es (λ h h'. out (omega arith) (omega arith)) keep
        ∙ taped_keeps t n parent e (λ h h'. out (omega arith) (omega arith)) keep

-- A walk changes no entry but those of its own nodes and of their parent.
pub all_other : (t : Tape) (n parent : ℕ) (es : Exprs) (i : ℕ) → Beside n (node_count_in es) i → (i ≡ parent → ⊥)
    → entry_at (taped_all t n parent es) i ≡ entry_at t i
all_other t n parent es i out o = all_keep (λ (e : Entry). e) i t n parent es out (notes_other (λ (e : Entry). e) i parent o)

-- The front of the parent's stays too.
pub all_front : (t : Tape) (n parent : ℕ) (es : Exprs) (i : ℕ) → Beside n (node_count_in es) i
    → front (entry_at (taped_all t n parent es) i) ≡ front (entry_at t i)
all_front t n parent es i out = all_keep front i t n parent es out (notes_front i parent)

-- An element changes the entries of its own nodes only.
pub element_other : (t : Tape) (n parent at c : ℕ) (es : Exprs) (i : ℕ) → Beside n (suc (node_count_in es)) i
    → entry_at (element_tape t n parent at c es) i ≡ entry_at t i
element_other t n parent at c es i out =
    element_by (λ (e : Entry). e) t n parent at c es i out
    (all_other (entered t n at c parent 0) (n + 1) n es i (λ h h'. out (omega arith) (omega arith)) (λ e. out (omega arith) (omega arith)))
