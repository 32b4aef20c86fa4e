-- A list led by a parameter's name is fine exactly when it writes a value that keeps the rules.
use Prim.Native.Nat.{ℕ, ◌≤◌}
use mathlib.Core.Path.{◌≡◌, refl, sym, subst⁻¹}
use mathlib.Core.Bool.{Bool, true, false, cond, ◌||◌}
use mathlib.Core.Logic.{⊎_elim}
use mathlib.Core.List.{List}
use lib.Dec.{T, eqb, leb, eqb→eq, lit≤}
use borrow.Author.Tests.{eqb-true}
use Rattle.base.proofs.Booleans.{cond_case, both, or_true, true_T, T_true}
use Rattle.elements.specs.rules.Class as Class
use Rattle.syntax.specs.rules.Expression.{Expr, symbol, quoted, list, Exprs, none, and}
use Rattle.elements.specs.rules.Characters.{type_character, id_character}
use Rattle.document.specs.rules.Value.{non_empty, every, is_value, is_size, is_decimal, target_character}
use Rattle.document.specs.rules.Document.{Tree, value, size}
use Rattle.document.specs.reference.RulesTest.{keeps_rules}
use Rattle.document.specs.rules.Spelling.{WritesText, as_symbol, as_string, WritesNumber, Writes, writes_value, writes_type, writes_size, holds_text, bracketed}
use Rattle.document.specs.reference.Meaning.{text_bytes, symbol_bytes, only_one, number_of, size_tree, value_tree}

-- The expression is a symbol of these bytes.
data IsSymbol (s : List ℕ) : Expr → Type 0 where
  symbol_at : {at : ℕ} → IsSymbol s (symbol at s)

-- What has bytes is a symbol, or a text, of them.
symbol_read : (e : Expr) → T (non_empty (symbol_bytes e)) → IsSymbol (symbol_bytes e) e
unfolding symbol_bytes non_empty
symbol_read (symbol at s) t = symbol_at
symbol_read (quoted at s) t = absurd t
symbol_read (list at es) t = absurd t

text_read : (e : Expr) → T (non_empty (text_bytes e)) → WritesText (text_bytes e) e
unfolding text_bytes non_empty
text_read (symbol at s) t = as_symbol
text_read (quoted at s) t = as_string
text_read (list at es) t = absurd t

-- A number that a size may have was written by a symbol of digits.
number_read : (e : Expr) → T (leb (number_of e) 65535) → WritesNumber (number_of e) (symbol_bytes e)
unfolding number_of
number_read e =
    cond_case
    (λ (n : ℕ). T (leb n 65535) → WritesNumber n (symbol_bytes e))
    (is_decimal (symbol_bytes e))
    (λ d t. record { decimal = true_T d; stands_for = refl })
    (λ d t. absurd t)

digits_read : (e : Expr) → T (leb (number_of e) 65535) → IsSymbol (symbol_bytes e) e
unfolding number_of symbol_bytes is_decimal non_empty
digits_read (symbol at s) t = symbol_at
digits_read (quoted at s) t = absurd t
digits_read (list at es) t = absurd t

size_of : {at p w h : ℕ} {e e' : Expr} {ds es : List ℕ} → IsSymbol ds e → IsSymbol es e' → WritesNumber w ds → WritesNumber h es
    → Writes (size w h) (bracketed at p Class.size (and e (and e' none)))
size_of symbol_at symbol_at m n = writes_size m n

-- A size, a type, and an id or target that keep the rules are written by their lists.
size_written : (k at p : ℕ) (es : Exprs) → T (keeps_rules k (size_tree es)) → Writes (size_tree es) (bracketed at p Class.size es)
unfolding keeps_rules is_size size_tree
size_written k at p none t = absurd t
size_written k at p (and e none) t = absurd t
size_written k at p (and e (and e' none)) t =
    let t' : T (leb (number_of e) 65535) × T (leb (number_of e') 65535) = both (leb (number_of e) 65535) (leb (number_of e') 65535) t in
    size_of (digits_read e t'.0) (digits_read e' t'.1) (number_read e t'.0) (number_read e' t'.1)
size_written k at p (and e (and e' (and e'' es))) t = absurd t

type_of_lem : {at p : ℕ} {e : Expr} {s : List ℕ} → IsSymbol s e → Writes (value Class.type s) (bracketed at p Class.type (and e none))
type_of_lem symbol_at = writes_type

type_written : (at p : ℕ) (es : Exprs) → T (non_empty (only_one symbol_bytes es)) → Writes (value Class.type (only_one symbol_bytes es)) (bracketed at p Class.type es)
unfolding only_one non_empty
type_written at p none t = absurd t
type_written at p (and e none) t = type_of_lem (symbol_read e t)
type_written at p (and e (and e' es)) t = absurd t

text_written : (c at p : ℕ) (es : Exprs) → T (holds_text c) → T (non_empty (only_one text_bytes es))
    → Writes (value c (only_one text_bytes es)) (bracketed at p c es)
unfolding only_one non_empty
text_written c at p none h t = absurd t
text_written c at p (and e none) h t = writes_value h (text_read e t)
text_written c at p (and e (and e' es)) h t = absurd t

one_of : (a b c x y z : Bool) → a ≡ false → T (cond a x (cond b y (cond c z false))) → T (b || c)
one_of true b c x y z e t = absurd (true_T (sym e))
one_of false true c x y z e t = tt
one_of false false true x y z e t = tt
one_of false false false x y z e t = t

-- What a value is tested for, in two parts.
pub value_parts : (k c : ℕ) (s : List ℕ) → T (is_value k c s) → T (non_empty s) × (eqb c Class.type ≡ false → T (holds_text c))
unfolding is_value holds_text
value_parts k c s t =
    let i : Bool = every id_character s in
    let y : Bool = every type_character s in
    let g : Bool = every (target_character k) s in
    let t' = both (non_empty s) (cond (eqb c Class.type) y (cond (eqb c Class.id) i (cond (eqb c Class.target) g false))) t in
    (t'.0, λ e. one_of (eqb c Class.type) (eqb c Class.id) (eqb c Class.target) y i g e t'.1)

-- A value that keeps the rules is written by its list.
pub value_written : (k c at p : ℕ) (es : Exprs) → T (keeps_rules k (value_tree c es)) → Writes (value_tree c es) (bracketed at p c es)
unfolding keeps_rules value_tree
value_written k c at p es =
    cond_case
    (λ (t : Tree). T (keeps_rules k t) → Writes t (bracketed at p c es))
    (eqb c Class.size)
    (λ e t. rw (eqb-true c Class.size e) (size_written k at p es t))
    (cond_case
    (λ (s : List ℕ). eqb c Class.size ≡ false → T (is_value k c s) → Writes (value c s) (bracketed at p c es))
    (eqb c Class.type)
    (λ e z t. rw (eqb-true c Class.type e) (type_written at p es (value_parts k c (only_one symbol_bytes es) t).0))
    (λ e z t.
    let t' = value_parts k c (only_one text_bytes es) t in
    text_written c at p es (t'.1 e) t'.0))

-- What is needed of the class of a value that holds a text.
pub record OfText (c : ℕ) : Type 0 where
  pub low : 26 ≤ c
  pub high : c ≤ 31
  pub tree : (es : Exprs) → value_tree c es ≡ value c (only_one text_bytes es)

pub of_text : (c : ℕ) → T (holds_text c) → OfText c
unfolding holds_text value_tree
of_text c t =
    ⊎_elim
    (λ i. subst⁻¹ OfText (eqb→eq c Class.id i) (record { low = lit≤ tt; high = lit≤ tt; tree = λ es. refl }))
    (λ i. subst⁻¹ OfText (eqb→eq c Class.target i) (record { low = lit≤ tt; high = lit≤ tt; tree = λ es. refl }))
    (or_true (eqb c Class.id) (eqb c Class.target) t)

-- What writes a value holds its bytes: a text, a type, the two numbers of a size.
pub text_bytes_lem : {s : List ℕ} {e : Expr} → WritesText s e → only_one text_bytes (and e none) ≡ s
unfolding text_bytes only_one
text_bytes_lem as_symbol = refl
text_bytes_lem as_string = refl

pub type_tree : (q : ℕ) (s : List ℕ) → value_tree Class.type (and (symbol q s) none) ≡ value Class.type s
unfolding value_tree only_one symbol_bytes
type_tree q s = refl

number_of_lem : {n : ℕ} {ds : List ℕ} (q : ℕ) → WritesNumber n ds → number_of (symbol q ds) ≡ n
unfolding number_of symbol_bytes
number_of_lem {ds = ds} q w = rw (T_true (is_decimal ds) w.decimal) w.stands_for

pub size_tree_lem : {w h : ℕ} {ds es : List ℕ} (q r : ℕ) → WritesNumber w ds → WritesNumber h es
    → value_tree Class.size (and (symbol q ds) (and (symbol r es) none)) ≡ size w h
unfolding value_tree size_tree
size_tree_lem q r m n = rw (number_of_lem q m, number_of_lem r n)
