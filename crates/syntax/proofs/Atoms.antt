-- The symbols and quoted strings of a UTF-8 text are UTF-8 and not empty.
use Prim.Native.Nat.{ℕ, ◌+◌, ◌<◌}
use mathlib.Core.Path.{◌≡◌}
use mathlib.Core.List.{List, [], ◌∷◌, ◌++◌, append_assoc, append-nil}
use native.Mathlib.Omega.{arith}
use lib.Dec.{T, eqb}
use lib.ListN.{length}
use Rattle.base.proofs.Booleans.{both, cond_case}
use Rattle.utf8.specs.rules.Scalar.{encode, IsUtf8}
use Rattle.utf8.proofs.Agree.{nil_utf8, encode_utf8, byte_utf8, encode_not_empty, utf8_append, utf8_split, utf8_tail}
use Rattle.syntax.specs.rules.Byte.{open_byte, close_byte}
use Rattle.syntax.specs.rules.Syntax.{Piece, raw, letter, number, is_piece, are_pieces, piece_before, pieces_before, letter_value, hex_value, piece_value, pieces_value, Leaf, space}
use Rattle.syntax.specs.rules.Syntax.{line_end, word, string, leaf_before, is_leaf, Before, a_symbol, another, after, Forest, end, leaf, brackets, bytes_before, bytes_of, Ok}
use Rattle.syntax.specs.rules.Expression.{Expr, symbol, quoted, list, Exprs, none, and, locate_leaf, locate}
use Rattle.syntax.specs.rules.Atoms.{AtomsOf, AllAtoms, IsText}
use Rattle.syntax.proofs.ByteClasses.{FitsAfter, fits_end, fits_close}
use Rattle.syntax.proofs.Strings.{EscapeDigits, digits_of}
use Rattle.syntax.proofs.Runs.{last_of, fits_run}
use Rattle.syntax.proofs.Ascii.{blank_below, not_ordinary_below, letter_below, hex_below, open_below, close_below}

mutual
  unfolding AtomsOf

  pub atoms_map : (P Q : List ℕ → Type 0) → ((s : List ℕ) → P s → Q s) → (e : Expr) → AtomsOf P e → AtomsOf Q e
  atoms_map P Q f (symbol at s) a = f s a
  atoms_map P Q f (quoted at s) a = f s a
  atoms_map P Q f (list at es) a = all_atoms_map P Q f es a

  pub all_atoms_map : (P Q : List ℕ → Type 0) → ((s : List ℕ) → P s → Q s) → (es : Exprs) → AllAtoms P es → AllAtoms Q es
  all_atoms_map P Q f none a = tt
  all_atoms_map P Q f (and e es) a = (atoms_map P Q f e a.0, all_atoms_map P Q f es a.1)

-- ---- the pieces of a quoted string

letter_value_lem : (c : ℕ) → letter_value c < 0x80
unfolding letter_value
letter_value_lem c =
    cond_case (λ (v : ℕ). v < 0x80) (eqb c 0x72) (λ e. omega arith)
    (λ e. cond_case (λ (v : ℕ). v < 0x80) (eqb c 0x6E) (λ e. omega arith)
    (λ e. cond_case (λ (v : ℕ). v < 0x80) (eqb c 0x74) (λ e. omega arith) (λ e. omega arith)))

value_not_empty : (p : Piece) (t : List ℕ) → piece_value p ++ t ≡ [] → ⊥
unfolding piece_value
value_not_empty (raw b) t e = let z : ◌≡◌ {A = ℕ} 0 1 = cc in omega arith
value_not_empty (letter c) t e = let z : ◌≡◌ {A = ℕ} 0 1 = cc in omega arith
value_not_empty (number d₁ d₂ d₃ d₄) t e = encode_not_empty (hex_value d₁ d₂ d₃ d₄) t e

-- After bytes that are raw, the pieces up to the closing quote: their value is UTF-8, and so is what follows the quote.
string_utf8 : (ps : List Piece) (run k : List ℕ) → T (are_pieces ps) → IsUtf8 (run ++ pieces_before ps (0x22 ∷ k))
    → IsUtf8 (run ++ pieces_value ps) × IsUtf8 k
unfolding are_pieces pieces_before pieces_value piece_before piece_value
string_utf8 [] run k t u =
    let (v, w) = utf8_split run k 0x22 u (omega arith) in
    (rw (append-nil run) v, utf8_tail 0x22 k (omega arith) w)
string_utf8 (raw b ∷ ps) run k t u =
    let (t₁, t₂) = both (is_piece (raw b)) (are_pieces ps) t in
    let v : IsUtf8 ((run ++ (b ∷ [])) ++ pieces_before ps (0x22 ∷ k)) = rw (append_assoc run (b ∷ []) (pieces_before ps (0x22 ∷ k))) u in
    let (x, y) = string_utf8 ps (run ++ (b ∷ [])) k t₂ v in
    (rw (append_assoc run (b ∷ []) (pieces_value ps)) at x, y)
string_utf8 (letter c ∷ ps) run k t u =
    let (t₁, t₂) = both (is_piece (letter c)) (are_pieces ps) t in
    let rest : List ℕ = pieces_before ps (0x22 ∷ k) in
    let (v, w) = utf8_split run (c ∷ rest) 0x5C u (omega arith) in
    let after-escape : IsUtf8 rest = utf8_tail c rest (letter_below c t₁) (utf8_tail 0x5C (c ∷ rest) (omega arith) w) in
    let (x, y) = string_utf8 ps [] k t₂ after-escape in
    let value : IsUtf8 (letter_value c ∷ pieces_value ps)
    = utf8_append (letter_value c ∷ []) (pieces_value ps) (byte_utf8 (letter_value c) (letter_value_lem c)) x in
    (utf8_append run (letter_value c ∷ pieces_value ps) v value, y)
string_utf8 (number d₁ d₂ d₃ d₄ ∷ ps) run k t u =
    let (t₁, t₂) = both (is_piece (number d₁ d₂ d₃ d₄)) (are_pieces ps) t in
    let ds : EscapeDigits d₁ d₂ d₃ d₄ = digits_of d₁ d₂ d₃ d₄ t₁ in
    let rest : List ℕ = pieces_before ps (0x22 ∷ k) in
    let (v, w) = utf8_split run (0x75 ∷ d₁ ∷ d₂ ∷ d₃ ∷ d₄ ∷ rest) 0x5C u (omega arith) in
    let digits : IsUtf8 (d₁ ∷ d₂ ∷ d₃ ∷ d₄ ∷ rest)
    = utf8_tail 0x75 (d₁ ∷ d₂ ∷ d₃ ∷ d₄ ∷ rest) (omega arith) (utf8_tail 0x5C (0x75 ∷ d₁ ∷ d₂ ∷ d₃ ∷ d₄ ∷ rest) (omega arith) w) in
    let half : IsUtf8 (d₃ ∷ d₄ ∷ rest)
    = utf8_tail d₂ (d₃ ∷ d₄ ∷ rest) (hex_below d₂ ds.second) (utf8_tail d₁ (d₂ ∷ d₃ ∷ d₄ ∷ rest) (hex_below d₁ ds.first) digits) in
    let after-escape : IsUtf8 rest = utf8_tail d₄ rest (hex_below d₄ ds.fourth) (utf8_tail d₃ (d₄ ∷ rest) (hex_below d₃ ds.third) half) in
    let (x, y) = string_utf8 ps [] k t₂ after-escape in
    let n : ℕ = hex_value d₁ d₂ d₃ d₄ in
    (utf8_append run (encode n ++ pieces_value ps) v (utf8_append (encode n) (pieces_value ps) (encode_utf8 n ds.scalar) x), y)

-- ---- leaves

-- A symbol and what follows it.
word_utf8 : (s k : List ℕ) → FitsAfter a_symbol k → IsUtf8 (s ++ k) → IsUtf8 s × IsUtf8 k
unfolding FitsAfter
word_utf8 s [] h u = (rw (append-nil s) at u, nil_utf8)
word_utf8 s (c ∷ k) h u = utf8_split s k c u (not_ordinary_below c h)

leaf_utf8 : (n : ℕ) (l : Leaf) (k : List ℕ) → T (is_leaf l) → FitsAfter (after l) k → IsUtf8 (leaf_before l k)
    → ((es : Exprs) → AllAtoms IsText es → AllAtoms IsText (locate_leaf n l es)) × IsUtf8 k
unfolding is_leaf leaf_before after locate_leaf AllAtoms pieces_value
leaf_utf8 n (space b) k t h u = (λ es a. a, utf8_tail b k (blank_below b t) u)
leaf_utf8 n line_end k t h u = (λ es a. a, utf8_tail 0x0A k (omega arith) (utf8_tail 0x0D (0x0A ∷ k) (omega arith) u))
leaf_utf8 n (word b bs) k t h u =
    let (v, w) = word_utf8 (b ∷ bs) k h u in
    let text : IsText (b ∷ bs) = record { not_empty = λ e. (let z : ◌≡◌ {A = ℕ} 0 1 = cc in omega arith); is_utf8 = v } in
    (λ es a. (text, a), w)
leaf_utf8 n (string p ps) k t h u =
    let (v, w) = string_utf8 (p ∷ ps) [] k t (utf8_tail 0x22 (pieces_before (p ∷ ps) (0x22 ∷ k)) (omega arith) u) in
    let text : IsText (pieces_value (p ∷ ps)) = record { not_empty = value_not_empty p (pieces_value ps); is_utf8 = v } in
    (λ es a. (text, a), w)

-- ---- runs

run_atoms : (n : ℕ) (m : Before) (f : Forest) (k : List ℕ) → Ok m f → FitsAfter (last_of m f) k → IsUtf8 (bytes_before f k)
    → AllAtoms IsText (locate n f) × IsUtf8 k
unfolding Ok last_of bytes_before locate AllAtoms
run_atoms n m end k o h u = (tt, u)
run_atoms n m (leaf l f) k o h u =
    let (add, v) = leaf_utf8 n l (bytes_before f k) o.1 (fits_run (after l) f k o.2 h) u in
    let next : ℕ = n + length (leaf_before l []) in
    let (xs, w) = run_atoms next (after l) f k o.2 h v in
    (add (locate next f) xs, w)
run_atoms n m (brackets b inside f) k o h u =
    let rest : List ℕ = close_byte b ∷ bytes_before f k in
    let (xs, v) = run_atoms (n + 1) another inside rest o.0 (fits_close (last_of another inside) b (bytes_before f k))
    (utf8_tail (open_byte b) (bytes_before inside rest) (open_below b) u) in
    let (ys, w) = run_atoms (n + (1 + length (bytes_of inside) + 1)) another f k o.1 h (utf8_tail (close_byte b) (bytes_before f k) (close_below b) v) in
    ((xs, ys), w)

-- The symbols and quoted strings of concrete syntax whose bytes are UTF-8 are UTF-8 and not empty.
pub atoms_utf8 : (n : ℕ) (m : Before) (f : Forest) → Ok m f → IsUtf8 (bytes_of f) → AllAtoms IsText (locate n f)
unfolding bytes_of
atoms_utf8 n m f o u = (run_atoms n m f [] o (fits_end (last_of m f)) u).0
