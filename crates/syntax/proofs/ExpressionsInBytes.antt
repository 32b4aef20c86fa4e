-- Where the expressions of concrete syntax stand in its bytes: a symbol at its bytes, a string at its quote, a list at its bracket, and nothing but white space between the bracket and
-- what leads the list.
use Prim.Native.Nat.{ℕ, ◌+◌, ◌≤◌, ◌<◌}
use mathlib.Core.Path.{◌≡◌, refl, sym, ap, ◌∙◌}
use mathlib.Core.List.{List, [], ◌∷◌, ◌++◌}
use native.Mathlib.Omega.{arith}
use lib.Dec.{T}
use lib.ListN.{length, drop}
use lib.Seq.{drop-drop, drop-append_seam}
use Rattle.syntax.specs.rules.Byte.{Bracket, open_byte, close_byte}
use Rattle.syntax.specs.rules.Syntax.{Piece, pieces_before, pieces_value, are_pieces, are_ordinary, Leaf, space, line_end, word, string, leaf_before}
use Rattle.syntax.specs.rules.Syntax.{is_leaf, Before, a_symbol, another, after, may_follow, Forest, end, leaf, brackets, bytes_before, bytes_of, Ok}
use Rattle.syntax.specs.rules.Expression.{Expr, symbol, quoted, list, Exprs, none, and, place, locate_leaf, locate}
use Rattle.syntax.proofs.ByteClasses.{FitsAfter, fits_end, fits_close}
use Rattle.syntax.proofs.Runs.{leaf_append, leaf_length, run_append, run_length, last_of, fits_run}

-- A symbol of these bytes stands at the place.
pub record SymbolAt (s : List ℕ) (at : ℕ) (bytes : List ℕ) : Type 0 where
  pub rest : List ℕ
  pub ordinary : T (are_ordinary bytes)
  pub ends : FitsAfter a_symbol rest
  pub split : drop at s ≡ bytes ++ rest

-- A quoted string of this value does.
pub record StringAt (s : List ℕ) (at : ℕ) (value : List ℕ) : Type 0 where
  pub first : Piece
  pub more : List Piece
  pub rest : List ℕ
  pub pieces : T (are_pieces (first ∷ more))
  pub stands_for : pieces_value (first ∷ more) ≡ value
  pub split : drop at s ≡ 0x22 ∷ pieces_before (first ∷ more) (0x22 ∷ rest)

-- White space is concrete syntax without an expression.
pub record White (f : Forest) : Type 0 where
  pub syntax : Ok another f
  pub no_expression : (n : ℕ) → locate n f ≡ none

-- From place i on there is only white space up to the first of the expressions.
unfoldable pub Front : List ℕ → ℕ → Exprs → Type 0
Front s i none = Unit {0}
Front s i (and e es) = (white : Forest) × White white × (drop i s ≡ bytes_before white (drop (place e) s))

-- A bracket opens at the place, and what leads the list follows it.
pub record ListAt (s : List ℕ) (at : ℕ) (es : Exprs) : Type 0 where
  pub bracket : Bracket
  pub split : drop at s ≡ open_byte bracket ∷ drop (at + 1) s
  pub front : Front s (at + 1) es

-- The expression stands in s from place i on and before place j; and so do the expressions, one after the other.
unfoldable mutual
  pub Stands : List ℕ → ℕ → Expr → ℕ → Type 0
  Stands s i (symbol at bytes) j = (i ≤ at) × (at < j) × SymbolAt s at bytes
  Stands s i (quoted at value) j = (i ≤ at) × (at < j) × StringAt s at value
  Stands s i (list at es) j = (i ≤ at) × ListAt s at es × StandAll s (at + 1) es j

  pub StandAll : List ℕ → ℕ → Exprs → ℕ → Type 0
  StandAll s i none j = i ≤ j
  StandAll s i (and e es) j = (m : ℕ) × Stands s i e m × StandAll s m es j

-- What stands somewhere takes room.
mutual
  unfolding Stands

  pub stands_forward : (s : List ℕ) (i : ℕ) (e : Expr) (j : ℕ) → Stands s i e j → i ≤ j
  stands_forward s i (symbol at bytes) j h = omega (arith, h.0, h.1)
  stands_forward s i (quoted at value) j h = omega (arith, h.0, h.1)
  stands_forward s i (list at es) j h = omega (arith, h.0, stand_forward s (at + 1) es j h.2)

  stand_forward : (s : List ℕ) (i : ℕ) (es : Exprs) (j : ℕ) → StandAll s i es j → i ≤ j
  stand_forward s i none j h = h
  stand_forward s i (and e es) j (m, h, hs) = omega (arith, stands_forward s i e m h, stand_forward s m es j hs)

-- White space may stand before it.
stands_later : (s : List ℕ) (h i : ℕ) (e : Expr) (j : ℕ) → h ≤ i → Stands s i e j → Stands s h e j
unfolding Stands
stands_later s h i (symbol at bytes) j l (a, b, c) = (omega arith, b, c)
stands_later s h i (quoted at value) j l (a, b, c) = (omega arith, b, c)
stands_later s h i (list at es) j l (a, b, c) = (omega arith, b, c)

stand_later : (s : List ℕ) (h i : ℕ) (es : Exprs) (j : ℕ) → h ≤ i → StandAll s i es j → StandAll s h es j
unfolding Stands
stand_later s h i none j l a = omega arith
stand_later s h i (and e es) j l (m, a, r) = (m, stands_later s h i e m l a, r)

-- ---- leaves

-- What stands behind bytes that stand at a place.
pub drop_past : (s : List ℕ) (i : ℕ) (a k : List ℕ) → drop i s ≡ a ++ k → drop (i + length a) s ≡ k
drop_past s i a k d = sym (drop-drop (length a) i s) ∙ rw d (drop-append_seam a k)

leaf_stands : (s : List ℕ) (i j : ℕ) (l : Leaf) (k : List ℕ) (es : Exprs) → T (is_leaf l) → FitsAfter (after l) k → drop i s ≡ leaf_before l k
    → StandAll s (i + length (leaf_before l [])) es j → StandAll s i (locate_leaf i l es) j
unfolding Stands is_leaf after leaf_before locate_leaf
leaf_stands s i j (space b) k es t h d st = stand_later s i (i + 1) es j (omega arith) st
leaf_stands s i j line_end k es t h d st = stand_later s i (i + 2) es j (omega arith) st
leaf_stands s i j (word b bs) k es t h d st =
    (i + length (leaf_before (word b bs) []), (omega arith, omega arith, record { rest = k; ordinary = t; ends = h; split = d }), st)
leaf_stands s i j (string p ps) k es t h d st =
    let here : StringAt s i (pieces_value (p ∷ ps)) = record { first = p; more = ps; rest = k; pieces = t; stands_for = refl; split = d } in
    (i + length (leaf_before (string p ps) []), (omega arith, omega arith, here), st)

-- ---- what comes first

blank_front : (s : List ℕ) (i j : ℕ) (l : Leaf) (es : Exprs) → ((f : Forest) → White f → White (leaf l f)) → drop i s ≡ leaf_before l (drop j s)
    → Front s j es → Front s i es
unfolding Front bytes_before
blank_front s i j l none still d h = tt
blank_front s i j l (and e es) still d (f, is, split) = (leaf l f, still f is, d ∙ ap (leaf_before l) split)

no_white : White end
unfolding Ok locate
no_white = record { syntax = tt; no_expression = λ n. refl }

leaf_front : (s : List ℕ) (i : ℕ) (l : Leaf) (es : Exprs) → T (is_leaf l) → drop i s ≡ leaf_before l (drop (i + length (leaf_before l [])) s)
    → Front s (i + length (leaf_before l [])) es → Front s i (locate_leaf i l es)
unfolding Front Ok may_follow after locate locate_leaf place bytes_before
leaf_front s i (space b) es t d h =
    blank_front s i (i + length (leaf_before (space b) [])) (space b) es
    (λ f w. record { syntax = (tt, t, w.syntax); no_expression = λ n. w.no_expression (n + length (leaf_before (space b) [])) }) d h
leaf_front s i line_end es t d h =
    blank_front s i (i + length (leaf_before line_end [])) line_end es
    (λ f w. record { syntax = (tt, t, w.syntax); no_expression = λ n. w.no_expression (n + length (leaf_before line_end [])) }) d h
leaf_front s i (word b bs) es t d h = (end, no_white, refl)
leaf_front s i (string p ps) es t d h = (end, no_white, refl)

-- A run has only white space before its first expression.
run_front : (s : List ℕ) (m : Before) (f : Forest) (i : ℕ) (k : List ℕ) → Ok m f → drop i s ≡ bytes_before f k → Front s i (locate i f)
unfolding Ok bytes_before locate Front place
run_front s m end i k o d = tt
run_front s m (leaf l f) i k o d =
    let j : ℕ = i + length (leaf_before l []) in
    let rest : drop j s ≡ bytes_before f k = drop_past s i (leaf_before l []) (bytes_before f k) (d ∙ leaf_append l (bytes_before f k)) in
    leaf_front s i l (locate j f) o.1 (d ∙ ap (leaf_before l) (sym rest)) (run_front s (after l) f j k o.2 rest)
run_front s m (brackets b inside f) i k o d = (end, no_white, refl)

-- ---- runs

-- A run stands where its bytes do, if what follows may follow it.
run_stands : (s : List ℕ) (m : Before) (f : Forest) (i : ℕ) (k : List ℕ) (e : ℕ) → Ok m f → FitsAfter (last_of m f) k → drop i s ≡ bytes_before f k
    → i + length (bytes_of f) ≤ e → StandAll s i (locate i f) e
unfolding Ok last_of bytes_before bytes_of locate Stands
run_stands s m end i k e o h d x = omega arith
run_stands s m (leaf l f) i k e o h d x =
    let j : ℕ = i + length (leaf_before l []) in
    let rest : drop j s ≡ bytes_before f k = drop_past s i (leaf_before l []) (bytes_before f k) (d ∙ leaf_append l (bytes_before f k)) in
    leaf_stands s i e l (bytes_before f k) (locate j f) o.1 (fits_run (after l) f k o.2 h) d
    (run_stands s (after l) f j k e o.2 h rest (omega (arith, leaf_length l (bytes_before f []))))
run_stands s m (brackets b inside f) i k e o h d x =
    let after-it : List ℕ = close_byte b ∷ bytes_before f k in
    let here : drop (i + 1) s ≡ bytes_before inside after-it = drop_past s i (open_byte b ∷ []) (bytes_before inside after-it) d in
    let j : ℕ = i + (1 + length (bytes_of inside) + 1) in
    let close : ℕ = i + 1 + length (bytes_of inside) in
    let closed : drop close s ≡ after-it = drop_past s (i + 1) (bytes_of inside) after-it (here ∙ run_append inside after-it) in
    let next : j ≡ close + 1 = omega arith in
    let rest : drop j s ≡ bytes_before f k = rw next (drop_past s close (close_byte b ∷ []) (bytes_before f k) closed) in
    let it : ListAt s i (locate (i + 1) inside)
    = record { bracket = b; split = d ∙ ap (λ (l : List ℕ). open_byte b ∷ l) (sym here); front = run_front s another inside (i + 1) after-it o.0 here } in (
      j,
      (omega arith, it, run_stands s another inside (i + 1) after-it j o.0 (fits_close (last_of another inside) b (bytes_before f k)) here (omega arith)),
      run_stands s another f j k e o.1 h rest (omega (arith, run_length inside (close_byte b ∷ bytes_before f []))),
    )

-- The expressions of a text that is concrete syntax stand in it.
pub forest_stands : (s : List ℕ) (f : Forest) → Ok another f → bytes_of f ≡ s → StandAll s 0 (locate 0 f) (length s)
unfolding bytes_of
forest_stands s f ok e = run_stands s another f 0 [] (length s) ok (fits_end (last_of another f)) (sym e) (omega (arith, ap length e))
