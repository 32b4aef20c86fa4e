-- The expressions of concrete syntax stand where they are located.
use mathlib.Core.Path.{◌≡◌, refl, ap, sym, subst, ◌∙◌}
use mathlib.Core.List.{List, [], ◌∷◌, ◌++◌, append-nil}
use Prim.Native.Nat.{ℕ, suc, ◌+◌}
use native.Mathlib.Nat.{add-zero, zero-add}
use native.Mathlib.Omega.{arith}
use lib.Dec.{T}
use lib.ListN.{length, get_or, drop, length-append, length-drop}
use lib.Seq.{get_or-drop}
use Rattle.base.proofs.Booleans.{both}
use Rattle.syntax.specs.rules.Byte.{ByteClass, blank, return, quote, ordinary, opening, closing, byte_class, open_byte, close_byte, is_ordinary}
use Rattle.syntax.specs.rules.Syntax.{Piece, pieces_before, pieces_value, are_pieces, are_ordinary, Leaf, space, line_end, word, string, leaf_before, is_leaf}
use Rattle.syntax.specs.rules.Syntax.{Before, another, after, Forest, end, leaf, brackets, bytes_before, bytes_of, Ok}
use Rattle.syntax.specs.rules.Expression.{Exprs, locate_leaf, locate}
use Rattle.syntax.specs.reference.Scan.{closed, quoted_from, ordinary_run}
use Rattle.atoms.specs.Atom.{string_end, string_at, content_of, atom_value}
use Rattle.syntax.proofs.ByteClasses.{FitsAfter, blank_class_lem, ordinary_class_lem, open_class, close_class, fits_end, fits_close}
use Rattle.syntax.proofs.Strings.{pieces_append}
use Rattle.syntax.proofs.Items.{run_ends, quoted_string}
use Rattle.syntax.proofs.ExpressionsInBytes.{drop_past}
use Rattle.syntax.proofs.Runs.{leaf_append, leaf_length, run_append, run_length, last_of, fits_run}
use Rattle.reader.specs.internal.RunStands.{Has, Ends, at_bracket, at_end, RunStands, ended, after_blank, after_line_end, a_symbol, a_string, a_list}

-- ---- a place where known bytes stand

has_byte : (s : List ℕ) (i b : ℕ) (k : List ℕ) (c : ByteClass) → drop i s ≡ b ∷ k → byte_class b ≡ c → Has s i c
has_byte s i b k c d e =
    let first : get_or s i 0 ≡ b = rw (← (add-zero i)) (sym (get_or-drop i s 0 0) ∙ rw d) in
    record { inside = omega (arith, length-drop i s, ap length d); is = rw first e }

-- ---- leaves

word_stands : (s : List ℕ) (i e b : ℕ) (bs k : List ℕ) (es : Exprs) → T (are_ordinary (b ∷ bs)) → FitsAfter Before.a_symbol k → drop i s ≡ (b ∷ bs) ++ k
    → RunStands s (i + suc (length bs)) es e → RunStands s i (locate_leaf i (word b bs) es) e
unfolding locate_leaf are_ordinary
word_stands s i e b bs k es t h d st =
    let run : ordinary_run (drop i s) ≡ b ∷ bs = rw d (run_ends (b ∷ bs) k t h) in
    let next : RunStands s (i + length (ordinary_run (drop i s))) es e = rw run st in
    let t₁ : T (is_ordinary b) = (both (is_ordinary b) (are_ordinary bs) t).0 in
    rw run at (a_symbol (has_byte s i b (bs ++ k) ordinary d (ordinary_class_lem b t₁)) next)

string_stands : (s : List ℕ) (i e : ℕ) (p : Piece) (ps : List Piece) (k : List ℕ) (es : Exprs) → T (are_pieces (p ∷ ps))
    → drop i s ≡ 0x22 ∷ pieces_before (p ∷ ps) (0x22 ∷ k)
    → RunStands s (i + (length (pieces_before (p ∷ ps) []) + 2)) es e → RunStands s i (locate_leaf i (string p ps) es) e
unfolding locate_leaf string_at string_end atom_value content_of byte_class
string_stands s i e p ps k es t d st =
    let read : (n : ℕ) → quoted_from 0 n (drop 1 (drop i s)) ≡ closed (p ∷ ps) = λ n. rw d (quoted_string (p ∷ ps) n k t) in
    let value : atom_value (drop i s) ≡ pieces_value (p ∷ ps) = rw d (rw (quoted_string (p ∷ ps) 1 k t)) in
    let good : (string_at i (drop i s)).number ≡ 0 = rw (read (i + 1)) in
    let next : RunStands s (string_at i (drop i s)).next es e = rw (read (i + 1)) st in
    rw value at (a_string (has_byte s i 0x22 (pieces_before (p ∷ ps) (0x22 ∷ k)) quote d refl) good next)

leaf_stands : (s : List ℕ) (i e : ℕ) (l : Leaf) (k : List ℕ) (es : Exprs) → T (is_leaf l) → FitsAfter (after l) k → drop i s ≡ leaf_before l k
    → RunStands s (i + length (leaf_before l [])) es e → RunStands s i (locate_leaf i l es) e
unfolding is_leaf after leaf_before locate_leaf byte_class
leaf_stands s i e (space b) k es t h d st = after_blank (has_byte s i b k blank d (blank_class_lem b t)) st
leaf_stands s i e line_end k es t h d st =
    let second : get_or s (i + 1) 0 ≡ 0x0A = sym (get_or-drop i s 1 0) ∙ rw d in
    after_line_end (has_byte s i 0x0D (0x0A ∷ k) return d refl) second st
leaf_stands s i e (word b bs) k es t h d st = word_stands s i e b bs k es t h d (rw (append-nil bs) at st)
leaf_stands s i e (string p ps) k es t h d st =
    let long : suc (length (pieces_before (p ∷ ps) (0x22 ∷ []))) ≡ length (pieces_before (p ∷ ps) []) + 2
    = omega (arith, ap length (pieces_append (p ∷ ps) (0x22 ∷ [])), length-append (pieces_before (p ∷ ps) []) (0x22 ∷ [])) in
    string_stands s i e p ps k es t d (rw long at st)

-- ---- runs

-- A run stands where its bytes do, if what follows ends it.
run_stands : (s : List ℕ) (m : Before) (f : Forest) (i : ℕ) (k : List ℕ) → Ok m f → FitsAfter (last_of m f) k → drop i s ≡ bytes_before f k
    → Ends s (i + length (bytes_of f)) → RunStands s i (locate i f) (i + length (bytes_of f))
unfolding Ok last_of bytes_before bytes_of locate
run_stands s m end i k o h d x = let y : Ends s i = rw (add-zero i) at x in rw (add-zero i) (ended y)
run_stands s m (leaf l f) i k o h d x =
    let j : ℕ = i + length (leaf_before l []) in
    let rest : drop j s ≡ bytes_before f k = drop_past s i (leaf_before l []) (bytes_before f k) (d ∙ leaf_append l (bytes_before f k)) in
    let e : i + length (leaf_before l (bytes_before f [])) ≡ j + length (bytes_of f) = omega (arith, leaf_length l (bytes_before f [])) in
    let st : RunStands s j (locate j f) (j + length (bytes_of f)) = run_stands s (after l) f j k o.2 h rest (rw e at x) in
    rw e (leaf_stands s i (j + length (bytes_of f)) l (bytes_before f k) (locate j f) o.1 (fits_run (after l) f k o.2 h) d st)
run_stands s m (brackets b inside f) i k o h d x =
    let after-it : List ℕ = close_byte b ∷ bytes_before f k in
    let here : drop (i + 1) s ≡ bytes_before inside after-it = drop_past s i (open_byte b ∷ []) (bytes_before inside after-it) d in
    let m : ℕ = i + 1 + length (bytes_of inside) in
    let at_close : drop m s ≡ after-it = drop_past s (i + 1) (bytes_of inside) after-it (here ∙ run_append inside after-it) in
    let close : Has s m (closing b) = has_byte s m (close_byte b) (bytes_before f k) (closing b) at_close (close_class b) in
    let inner : RunStands s (i + 1) (locate (i + 1) inside) m
    = run_stands s another inside (i + 1) after-it o.0 (fits_close (last_of another inside) b (bytes_before f k)) here (at_bracket b close) in
    let j : ℕ = i + (1 + length (bytes_of inside) + 1) in
    let next : j ≡ m + 1 = omega arith in
    let e : i + suc (length (bytes_before inside (close_byte b ∷ bytes_before f []))) ≡ j + length (bytes_of f)
    = omega (arith, run_length inside (close_byte b ∷ bytes_before f [])) in
    let rest : drop j s ≡ bytes_before f k = rw next (drop_past s m (close_byte b ∷ []) (bytes_before f k) at_close) in
    let st : RunStands s j (locate j f) (j + length (bytes_of f)) = run_stands s another f j k o.1 h rest (rw e at x) in
    let st' : RunStands s (m + 1) (locate j f) (j + length (bytes_of f)) = subst (λ (n : ℕ). RunStands s n (locate j f) (j + length (bytes_of f))) next st in
    rw e (a_list (has_byte s i (open_byte b) (bytes_before inside after-it) (opening b) d (open_class b)) inner close st')

-- The expressions of a text that is concrete syntax stand there, from its first byte to its last.
pub forest_stands : (s : List ℕ) (f : Forest) → Ok another f → bytes_of f ≡ s → RunStands s 0 (locate 0 f) (length s)
unfolding bytes_of
forest_stands s f ok e =
    let long : 0 + length (bytes_of f) ≡ length s = zero-add (length (bytes_of f)) ∙ ap length e in
    rw long at (run_stands s another f 0 [] ok (fits_end (last_of another f)) (sym e) (at_end long))
