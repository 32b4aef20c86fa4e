-- The canonical spelling of a tree that keeps the rules is a nested spelling of what the tree says. Document 01, "Canonical spelling".
use Prim.Native.Nat.{ℕ, suc, ◌+◌, ◌≤◌, max}
use mathlib.Core.Path.{◌≡◌, refl, sym, ap, ◌∙◌}
use mathlib.Core.Bool.{Bool}
use mathlib.Core.List.{List, [], ◌∷◌, ◌++◌}
use native.Mathlib.Omega.{arith}
use lib.Dec.{T, eqb, leb, leb→le, lit<}
use lib.ListN.{length}
use borrow.Author.Tests.{eqb-true}
use Rattle.base.proofs.Booleans.{cond_case, both}
use Rattle.utf8.specs.reference.Sequence.{valid_up_to}
use Rattle.utf8.specs.rules.Scalar.{IsUtf8}
use Rattle.utf8.proofs.Agree.{nil_utf8}
use Rattle.elements.specs.rules.Class as Class
use Rattle.elements.specs.rules.Characters.{type_character, id_character}
use Rattle.elements.specs.rules.Inside.{State, step, start}
use Rattle.syntax.specs.rules.Byte.{square, open_byte, close_byte, byte_class, blank_class, is_blank}
use Rattle.syntax.specs.rules.Syntax.{Leaf, Forest, end, leaf, brackets, space, word, string, leaf_before, bytes_before, bytes_of, is_leaf, Before, a_symbol, another, may_follow, after, Ok, levels}
use Rattle.syntax.specs.rules.Expression.{Expr, symbol, quoted, list, Exprs, and, locate_leaf, locate}
use Rattle.document.specs.rules.Value.{non_empty, every, is_value, is_size, target_character}
use Rattle.document.specs.reference.RulesTest.{is_text, step_goes_on, keeps_rules, keep_rules, is_document}
use Rattle.document.specs.rules.Document.{Tree, text, value, size, element, Trees, empty, holds, tree_class, says}
use Rattle.document.specs.rules.Spelling.{nested, Spells, as_nested, as_symbol, as_string, Writes, writes_text, writes_value, writes_type}
use Rattle.document.specs.rules.Spelling.{writes_size, writes_element, WritesAll, writes_none, writes_and, bracketed, holds_text, WritesNumber}
use Rattle.document.specs.rules.Canonical.{quoted_before, digits, brackets_before, string_before, spelled_before, inside_before, tree_levels, most_levels_in}
use Rattle.document.proofs.NestedMeaning.{goes_on}
use Rattle.document.proofs.RulesTest.{test_text, test_lawful}
use Rattle.document.proofs.CanonicalStrings.{byte_before_lem, piece_of, pieces_of, pieces_bytes, are_pieces_lem, pieces_value_lem, bytes_utf8}
use Rattle.document.proofs.CanonicalSymbols.{is_symbol, symbol_ordinary, symbol_before, symbol_of, type_plain, id_plain, target_utf8, name_symbol, element_symbol, digits_number, digits_symbol}

-- A tree's part of a spelling, in front of what follows.
record TreeSpelled (t : Tree) : Type 0 where
  run : Forest → Forest
  bytes : (f : Forest) (k : List ℕ) → bytes_before (run f) k ≡ spelled_before t (bytes_before f k)
  utf8 : (k : List ℕ) → IsUtf8 k → IsUtf8 (spelled_before t k)
  syntax : (f : Forest) → Ok another f → Ok another (run f)
  deep : (f : Forest) → levels (run f) ≡ max (tree_levels t) (levels f)
  written : (n : ℕ) (f : Forest) → (e : Expr) × (m : ℕ) × (locate n (run f) ≡ and e (locate m f)) × Writes t e

-- What follows a name up to its closing bracket: the bytes that `spelled` puts in front of the bracket, nested so deep, with expressions that are so.
record ListInside (spelled : List ℕ → List ℕ) (depth : ℕ) (Are : Exprs → Type 0) : Type 0 where
  run : Forest
  bytes : (k : List ℕ) → bytes_before run k ≡ spelled k
  utf8 : (k : List ℕ) → IsUtf8 k → IsUtf8 (spelled k)
  syntax : (m : Before) → Ok m run
  deep : levels run ≡ depth
  written : (n : ℕ) → Are (locate n run)

-- Trees one after another, each after a space.
abbrev SpelledAll : Trees → Type 0
SpelledAll ts = ListInside (inside_before ts) (most_levels_in ts) (WritesAll ts)

space_follows : (m : Before) → T (may_follow m (space 0x20))
unfolding may_follow
space_follows a_symbol = tt
space_follows another = tt

none_spelled : SpelledAll empty
unfolding inside_before bytes_before Ok levels tree_levels locate
none_spelled =
    record { run = end; bytes = λ k. refl; utf8 = λ k u. u; syntax = λ m. tt; deep = refl; written = λ n. writes_none }

one_spelled : {t : Tree} {ts : Trees} → TreeSpelled t → SpelledAll ts → SpelledAll (holds t ts)
unfolding inside_before bytes_before leaf_before Ok is_leaf is_blank blank_class byte_class after levels tree_levels locate locate_leaf
one_spelled {t} {ts} s r =
    record {
      run = leaf (space 0x20) (s.run r.run);
      bytes = λ k. ap (λ (l : List ℕ). 0x20 ∷ l) (s.bytes r.run k ∙ ap (spelled_before t) (r.bytes k));
      utf8 = λ k u. byte_before_lem 0x20 _ (omega arith) (s.utf8 _ (r.utf8 k u));
      syntax = λ m. (space_follows m, tt, s.syntax r.run (r.syntax another));
      deep = s.deep r.run ∙ ap (max (tree_levels t)) r.deep;
      written = λ n. let (e, m, is, w) = s.written (n + 1) r.run in rw is (writes_and w (r.written m));
    }

-- ---- strings, symbols and brackets

quoted_spelled : (s : List ℕ) → T (non_empty s) → IsUtf8 s → TreeSpelled (text s)
unfolding non_empty spelled_before quoted_before bytes_before leaf_before Ok may_follow is_leaf after levels tree_levels locate locate_leaf pieces_of
quoted_spelled [] h u = absurd h
quoted_spelled (b ∷ s) h u =
    let l : Leaf = string (piece_of b) (pieces_of s) in
    record {
      run = leaf l;
      bytes = λ f k. ap (λ (rest : List ℕ). 0x22 ∷ rest) (pieces_bytes (b ∷ s) (0x22 ∷ bytes_before f k));
      utf8 = λ k v. byte_before_lem 0x22 _ (omega arith) (bytes_utf8 (b ∷ s) (0x22 ∷ k) u (byte_before_lem 0x22 k (omega arith) v));
      syntax = λ f o. (tt, are_pieces_lem (b ∷ s), o);
      deep = λ f. omega arith;
      written = λ n f.
          let m : ℕ = n + length (leaf_before l []) in
          (quoted n (b ∷ s), m, ap (λ (v : List ℕ). and (quoted n v) (locate m f)) (pieces_value_lem (b ∷ s)), writes_text as_string);
    }

-- A symbol and the expressions after it.
data SymbolThen (s : List ℕ) (Are : Exprs → Type 0) : Exprs → Type 0 where
  symbol_then : {at : ℕ} {es : Exprs} → Are es → SymbolThen s Are (and (symbol at s) es)

-- A symbol after a space, in front of the rest.
symbol_inside : {spelled : List ℕ → List ℕ} {depth : ℕ} {Are : Exprs → Type 0} (s : List ℕ) → T (is_symbol s) → ListInside spelled depth Are
    → ListInside (λ k. 0x20 ∷ (s ++ spelled k)) depth (SymbolThen s Are)
unfolding is_symbol non_empty bytes_before leaf_before Ok may_follow is_leaf is_blank blank_class byte_class after levels locate locate_leaf
symbol_inside [] h i = absurd h
symbol_inside (b ∷ s) h i =
    record {
      run = leaf (space 0x20) (leaf (word b s) i.run);
      bytes = λ k. ap (λ (l : List ℕ). 0x20 ∷ ((b ∷ s) ++ l)) (i.bytes k);
      utf8 = λ k u. byte_before_lem 0x20 _ (omega arith) (symbol_before (b ∷ s) h _ (i.utf8 k u));
      syntax = λ m. (space_follows m, tt, (tt, symbol_ordinary (b ∷ s) h, i.syntax a_symbol));
      deep = i.deep;
      written = λ n. symbol_then (i.written _);
    }

-- Brackets around the name of a class and what is inside.
module _ (t : Tree) (c : ℕ) (spelled : List ℕ → List ℕ) (inner : ℕ) (Are : Exprs → Type 0) (i : ListInside spelled inner Are)
    (is : (k : List ℕ) → spelled_before t k ≡ brackets_before c spelled k) (d : tree_levels t ≡ suc inner)
    (w : (at p : ℕ) (es : Exprs) → Are es → Writes t (bracketed at p c es)) where
  around : (s : List ℕ) → Class.name_of c ≡ s → T (is_symbol s) → TreeSpelled t
  unfolding is_symbol non_empty brackets_before bytes_before leaf_before open_byte close_byte Ok may_follow is_leaf after levels locate locate_leaf
  around [] e h = absurd h
  around (b ∷ s) e h =
      record {
        run = brackets square (leaf (word b s) i.run);
        bytes = λ f k. sym (is (bytes_before f k) ∙ rw (e, i.bytes (0x5D ∷ bytes_before f k)));
        utf8 = λ k u. rw (is k, e) (byte_before_lem 0x5B _ (omega arith) (symbol_before (b ∷ s) h _ (i.utf8 (0x5D ∷ k) (byte_before_lem 0x5D k (omega arith) u))));
        syntax = λ f o. ((tt, symbol_ordinary (b ∷ s) h, i.syntax a_symbol), o);
        deep = λ f. rw (d, i.deep);
        written = λ n f.
            let m : ℕ = n + 1 + length (leaf_before (word b s) []) in
            (list n (and (symbol (n + 1) (b ∷ s)) (locate m i.run)), _, refl, rw e at (w n (n + 1) (locate m i.run) (i.written m)));
      }

  named : T (is_symbol (Class.name_of c)) → TreeSpelled t
  named h = around (Class.name_of c) refl h

-- ---- trees

-- What is inside the brackets of a value writes the value.
type_written : {s : List ℕ} (at p : ℕ) (es : Exprs) → SymbolThen s (WritesAll empty) es → Writes (value Class.type s) (bracketed at p Class.type es)
type_written at p es (symbol_then writes_none) = writes_type

id_written : {s : List ℕ} (at p : ℕ) (es : Exprs) → SymbolThen s (WritesAll empty) es → Writes (value Class.id s) (bracketed at p Class.id es)
unfolding holds_text
id_written at p es (symbol_then writes_none) = writes_value tt as_symbol

target_written : {s : List ℕ} (at p : ℕ) (es : Exprs) → WritesAll (holds (text s) empty) es → Writes (value Class.target s) (bracketed at p Class.target es)
unfolding holds_text
target_written at p es (writes_and (writes_text w) writes_none) = writes_value tt w

size_written : {v w : ℕ} {ds es : List ℕ} → WritesNumber v ds → WritesNumber w es
    → (at p : ℕ) (xs : Exprs) → SymbolThen ds (SymbolThen es (WritesAll empty)) xs → Writes (size v w) (bracketed at p Class.size xs)
size_written m n at p xs (symbol_then (symbol_then writes_none)) = writes_size m n

module _ (s : List ℕ) (some : T (non_empty s)) where
  type_spelled : T (every type_character s) → TreeSpelled (value Class.type s)
  unfolding spelled_before string_before tree_levels
  type_spelled t =
      named (value Class.type s) Class.type _ _ _ (symbol_inside s (symbol_of type_character type_plain s some t) none_spelled)
      (λ k. refl) refl type_written (name_symbol Class.type tt (lit< tt))

  id_spelled : T (every id_character s) → TreeSpelled (value Class.id s)
  unfolding spelled_before string_before tree_levels
  id_spelled t =
      named (value Class.id s) Class.id _ _ _ (symbol_inside s (symbol_of id_character id_plain s some t) none_spelled)
      (λ k. refl) refl id_written (name_symbol Class.id tt (lit< tt))

  target_spelled : (k : ℕ) → T (every (target_character k) s) → TreeSpelled (value Class.target s)
  unfolding spelled_before string_before tree_levels
  target_spelled k t =
      named (value Class.target s) Class.target _ _ _ (one_spelled (quoted_spelled s some (target_utf8 k s t)) none_spelled)
      (λ k. refl) refl target_written (name_symbol Class.target tt (lit< tt))

value_spelled : (k c : ℕ) (s : List ℕ) → T (is_value k c s) → TreeSpelled (value c s)
unfolding is_value
value_spelled k c s t =
    let Is : Bool → Type 0 = λ b. T b → TreeSpelled (value c s) in
    let (some, t') = both (non_empty s) _ t in
    cond_case Is (eqb c Class.type) (λ e h. rw (eqb-true c Class.type e) (type_spelled s some h))
    (λ e. cond_case Is (eqb c Class.id) (λ f h. rw (eqb-true c Class.id f) (id_spelled s some h))
    (λ f. cond_case Is (eqb c Class.target) (λ g h. rw (eqb-true c Class.target g) (target_spelled s some k h))
    (λ g h. absurd h)))
    t'

size_spelled : (v w : ℕ) → T (is_size v w) → TreeSpelled (size v w)
unfolding is_size spelled_before tree_levels
size_spelled v w t =
    let (wide, high) = both (leb v 65535) (leb w 65535) t in
    let m : v ≤ 65535 = leb→le v 65535 wide in
    let n : w ≤ 65535 = leb→le w 65535 high in
    named (size v w) Class.size _ _ _
    (symbol_inside (digits v) (digits_symbol v m) (symbol_inside (digits w) (digits_symbol w n) none_spelled))
    (λ k. refl) refl (size_written (digits_number v m) (digits_number w n)) (name_symbol Class.size tt (lit< tt))

text_spelled : (s : List ℕ) → T (is_text s) → TreeSpelled (text s)
unfolding is_text
text_spelled s t = quoted_spelled s (both (non_empty s) (eqb (valid_up_to s) (length s)) t).0 (test_text s t).is_utf8

element_spelled : (c : ℕ) (ts : Trees) → T (Class.is_element c) → SpelledAll ts → TreeSpelled (element c ts)
unfolding spelled_before tree_levels
element_spelled c ts t i =
    named (element c ts) c _ _ _ i (λ k. refl) refl (λ at p es w. writes_element w) (element_symbol c t)

mutual
  unfolding keeps_rules

  -- A tree that keeps the rules is spelled.
  tree_spelled : (k : ℕ) (t : Tree) → T (keeps_rules k t) → TreeSpelled t
  tree_spelled k (text s) h = text_spelled s h
  tree_spelled k (value c s) h = value_spelled k c s h
  tree_spelled k (size v w) h = size_spelled v w h
  tree_spelled k (element c ts) h =
      let (e, hs) = both (Class.is_element c) (keep_rules c (start c) ts) h in
      element_spelled c ts e (trees_spelled c (start c) ts hs)

  trees_spelled : (k : ℕ) (s : State) (ts : Trees) → T (keep_rules k s ts) → SpelledAll ts
  trees_spelled k s empty h = none_spelled
  trees_spelled k s (holds t ts) h =
      let (now, later) = both (keeps_rules k t) (step_goes_on (step k s (tree_class t)) (λ s'. keep_rules k s' ts)) h in
      let (s', _, rest) = goes_on (step k s (tree_class t)) (λ s'. keep_rules k s' ts) later in
      one_spelled (tree_spelled k t now) (trees_spelled k s' ts rest)

-- The canonical spelling of a document's tree is a nested spelling of the document, and nests as deep as the tree.
pub canonical_spells : (t : Tree) → T (is_document t) → (sp : Spells nested (says t) (spelled_before t [])) × (levels sp.forest ≡ tree_levels t)
unfolding is_document bytes_of bytes_before Ok levels locate
canonical_spells t h =
    let s : TreeSpelled t = tree_spelled 0 t (both (eqb (tree_class t) Class.document) (keeps_rules 0 t) h).1 in
    let (e, m, is, w) = s.written 0 end in (
      record {
        utf8 = s.utf8 [] nil_utf8;
        forest = s.run end;
        syntax = s.syntax end tt;
        spelled = s.bytes end [];
        tree = t;
        writes = rw is (as_nested w);
        lawful = test_lawful t h;
        said = refl;
      },
      omega (arith, s.deep end),
    )
