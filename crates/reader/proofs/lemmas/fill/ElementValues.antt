-- The key, type, width and height of an element that is fine are those of the one list of each sort.
use Prim.Native.Nat.{ℕ}
use mathlib.Core.Path.{◌≡◌, refl, ◌∙◌}
use mathlib.Core.Bool.{false, cond}
use mathlib.Core.Logic.{◌⊎◌, inl, inr, ⊎_elim}
use mathlib.Core.List.{List, [], append-nil}
use lib.Dec.{T, eqb, eqb→eq}
use borrow.Author.Tests.{ne_eqb}
use Rattle.base.proofs.Booleans.{cond_case, both, or_true}
use Rattle.elements.specs.rules.Class as Class
use Rattle.elements.specs.rules.Characters.{type_character}
use Rattle.syntax.specs.rules.Expression.{Expr, symbol, quoted, list, Exprs, none, and}
use Rattle.document.specs.rules.Value.{non_empty, every, is_value}
use Rattle.base.specs.rules.Limits.{missing}
use Rattle.document.specs.rules.Document.{Tree, key_of, type_of, width_or, height_or, key_in, type_in, width_in, height_in}
use Rattle.document.specs.reference.RulesTest.{keeps_rules}
use Rattle.document.specs.rules.Spelling.{holds_text}
use Rattle.document.specs.rules.Lead.{lead_class, list_class, expr_class}
use Rattle.document.specs.reference.Meaning.{fine, judge, judge_list, text_bytes, symbol_bytes, only_one, size_tree, value_tree, tree_of, trees_of}
use Rattle.document.proofs.WrittenValues.{value_parts}
use Rattle.reader.proofs.lemmas.walk.Counts.{size_tree_lem}
use Rattle.reader.proofs.lemmas.fill.SingleValues.{EachFine, OneText, Without, value_keeps, one_text, symbol_single}

-- The class of a value that is no type and no size.
pub key_class_lem : (k c : ℕ) (s : List ℕ) → T (is_value k c s) → eqb c Class.type ≡ false → (c ≡ Class.id) ⊎ (c ≡ Class.target)
unfolding holds_text
key_class_lem k c s t e =
    ⊎_elim (λ i. inl (eqb→eq c Class.id i)) (λ i. inr (eqb→eq c Class.target i))
    (or_true (eqb c Class.id) (eqb c Class.target) ((value_parts k c s t).1 e))

-- A size has no key and no type.
size_strings : (es : Exprs) → (key_of (size_tree es) ≡ []) × (type_of (size_tree es) ≡ [])
unfolding size_tree key_of type_of
size_strings none = (refl, refl)
size_strings (and e none) = (refl, refl)
size_strings (and e (and e' none)) = (refl, refl)
size_strings (and e (and e' (and e'' es))) = (refl, refl)

-- What a list led by another name has not.
value_no_key : (k c : ℕ) (es : Exprs) → (c ≡ Class.id → ⊥) → (c ≡ Class.target → ⊥) → T (keeps_rules k (value_tree c es)) → key_of (value_tree c es) ≡ []
unfolding value_tree keeps_rules key_of
value_no_key k c es i j =
    cond_case (λ (t : Tree). T (keeps_rules k t) → key_of t ≡ []) (eqb c Class.size) (λ e t. (size_strings es).0)
    (λ e. cond_case (λ (s : List ℕ). T (is_value k c s) → cond (eqb c Class.type) [] s ≡ []) (eqb c Class.type) (λ f t. rw f)
    (λ f t. absurd (⊎_elim i j (key_class_lem k c (only_one text_bytes es) t f))))

value_no_type : (c : ℕ) (es : Exprs) → (c ≡ Class.type → ⊥) → type_of (value_tree c es) ≡ []
unfolding value_tree type_of
value_no_type c es i =
    cond_case (λ (t : Tree). type_of t ≡ []) (eqb c Class.size) (λ e. (size_strings es).1) (λ e. rw (ne_eqb c Class.type i))

value_no_size : (n c : ℕ) (es : Exprs) → (c ≡ Class.size → ⊥) → (width_or n (value_tree c es) ≡ n) × (height_or n (value_tree c es) ≡ n)
unfolding value_tree width_or height_or
value_no_size n c es i = rw (ne_eqb c Class.size i) (refl, refl)

-- Of the trees of expressions.
pub no_key : (k : ℕ) (e : Expr) → judge k e ≡ fine → (expr_class e ≡ Class.id → ⊥) → (expr_class e ≡ Class.target → ⊥) → key_of (tree_of e) ≡ []
unfolding tree_of judge key_of expr_class list_class
no_key k (symbol at s) h i j = refl
no_key k (quoted at s) h i j = refl
no_key k (list at none) h i j = refl
no_key k (list at (and lead es)) h i j =
    cond_case (λ (t : Tree). key_of t ≡ []) (Class.is_element (lead_class lead)) (λ e. refl)
    (λ e. value_no_key k (lead_class lead) es i j (value_keeps k at lead es e h))

pub no_type : (e : Expr) → (expr_class e ≡ Class.type → ⊥) → type_of (tree_of e) ≡ []
unfolding tree_of type_of expr_class list_class
no_type (symbol at s) i = refl
no_type (quoted at s) i = refl
no_type (list at none) i = refl
no_type (list at (and lead es)) i =
    cond_case (λ (t : Tree). type_of t ≡ []) (Class.is_element (lead_class lead)) (λ e. refl) (λ e. value_no_type (lead_class lead) es i)

pub no_size : (n : ℕ) (e : Expr) → (expr_class e ≡ Class.size → ⊥) → (width_or n (tree_of e) ≡ n) × (height_or n (tree_of e) ≡ n)
unfolding tree_of width_or height_or expr_class list_class
no_size n (symbol at s) i = (refl, refl)
no_size n (quoted at s) i = (refl, refl)
no_size n (list at none) i = (refl, refl)
no_size n (list at (and lead es)) i =
    cond_case (λ (t : Tree). (width_or n t ≡ n) × (height_or n t ≡ n)) (Class.is_element (lead_class lead)) (λ e. (refl, refl))
    (λ e. value_no_size n (lead_class lead) es i)

pub without_key : (k : ℕ) (es : Exprs) → EachFine k es → Without Class.id Class.target es → key_in (trees_of es) ≡ []
unfolding trees_of key_in
without_key k none f w = refl
without_key k (and e es) f w = rw (no_key k e f.0 w.0 w.1) (without_key k es f.1 w.2)

pub without_type : (es : Exprs) → Without Class.type Class.type es → type_in (trees_of es) ≡ []
unfolding trees_of type_in
without_type none w = refl
without_type (and e es) w = rw (no_type e w.0) (without_type es w.2)

pub without_size : (es : Exprs) → Without Class.size Class.size es → (width_in (trees_of es) ≡ missing) × (height_in (trees_of es) ≡ missing)
unfolding trees_of width_in height_in
without_size none w = (refl, refl)
without_size (and e es) w =
    let r = without_size es w.2 in
    ((no_size (width_in (trees_of es)) e w.0).0 ∙ r.0, (no_size (height_in (trees_of es)) e w.0).1 ∙ r.1)

-- A list led by a value's name: its tree, and that it keeps the rules.
pub value_tree_lem : (k at c : ℕ) (lead : Expr) (es : Exprs) → lead_class lead ≡ c → Class.is_element c ≡ false → judge_list k at (and lead es) ≡ fine
    → (tree_of (list at (and lead es)) ≡ value_tree c es) × T (keeps_rules k (value_tree c es))
unfolding tree_of
value_tree_lem k at c lead es l i h =
    (rw (l, i), rw l at (value_keeps k at lead es (rw l i) h))

-- The key.
key_of_lem : (k at c : ℕ) (lead : Expr) (es : Exprs) → lead_class lead ≡ c → Class.is_element c ≡ false → eqb c Class.size ≡ false
    → ((fs : Exprs) → key_of (value_tree c fs) ≡ only_one text_bytes fs)
    → judge_list k at (and lead es) ≡ fine → (key_of (tree_of (list at (and lead es))) ≡ only_one text_bytes es) × OneText es
key_of_lem k at c lead es l i z v h = let t = value_tree_lem k at c lead es l i h in (rw t.0 (v es), one_text k c es z t.1)

key_value : (fs : Exprs) → key_of (value_tree Class.id fs) ≡ only_one text_bytes fs
unfolding key_of value_tree
key_value fs = refl

target_value : (fs : Exprs) → key_of (value_tree Class.target fs) ≡ only_one text_bytes fs
unfolding key_of value_tree
target_value fs = refl

pub no_element : (Class.is_element Class.id ≡ false) × (Class.is_element Class.target ≡ false) × (Class.is_element Class.type ≡ false) ×
    (Class.is_element Class.size ≡ false)
unfolding Class.is_element Class.is_kind
no_element = (refl, refl, refl, refl)

-- A run that begins with the one list of its sort.
pub key_here : (k at : ℕ) (lead : Expr) (inner es : Exprs) → (lead_class lead ≡ Class.id) ⊎ (lead_class lead ≡ Class.target)
    → EachFine k (and (list at (and lead inner)) es) → Without Class.id Class.target es
    → (key_in (trees_of (and (list at (and lead inner)) es)) ≡ only_one text_bytes inner) × OneText inner
unfolding trees_of key_in judge
key_here k at lead inner es l f w =
    let h = ⊎_elim (λ e. key_of_lem k at Class.id lead inner e no_element.0 refl key_value f.0)
    (λ e. key_of_lem k at Class.target lead inner e no_element.1 refl target_value f.0) l in
    (rw (h.0, without_key k es f.1 w) (append-nil (only_one text_bytes inner)), h.1)

-- The type.
type_value : (k : ℕ) (fs : Exprs) → T (keeps_rules k (value_tree Class.type fs)) → type_of (value_tree Class.type fs) ≡ only_one text_bytes fs
unfolding type_of value_tree keeps_rules is_value
type_value k fs t = (symbol_single fs (both (non_empty (only_one symbol_bytes fs)) (every type_character (only_one symbol_bytes fs)) t).0).1

pub type_here : (k at : ℕ) (lead : Expr) (inner es : Exprs) → lead_class lead ≡ Class.type → EachFine k (and (list at (and lead inner)) es)
    → Without Class.type Class.type es → (type_in (trees_of (and (list at (and lead inner)) es)) ≡ only_one text_bytes inner) × OneText inner
unfolding trees_of type_in judge
type_here k at lead inner es c f w =
    let t = value_tree_lem k at Class.type lead inner c no_element.2 f.0 in
    (rw (t.0, type_value k inner t.1, without_type es w) (append-nil (only_one text_bytes inner)), one_text k Class.type inner refl t.1)

-- The width and height.
pub size_here : (k at : ℕ) (lead : Expr) (inner es : Exprs) → lead_class lead ≡ Class.size → judge k (list at (and lead inner)) ≡ fine
    → (width_in (trees_of (and (list at (and lead inner)) es)) ≡ width_or 0 (size_tree inner))
    × (height_in (trees_of (and (list at (and lead inner)) es)) ≡ height_or 0 (size_tree inner))
unfolding trees_of width_in height_in width_or height_or judge value_tree
size_here k at lead inner es c g =
    let (w, h, p) = size_tree_lem inner in
    let e : tree_of (list at (and lead inner)) ≡ size_tree inner = (value_tree_lem k at Class.size lead inner c no_element.3 g).0 in
    (rw (e, p), rw (e, p))
