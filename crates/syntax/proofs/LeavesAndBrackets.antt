-- Every text is leaves and brackets up to its end or up to a fault 3 or 4. No scan is in these proofs.
use Prim.Native.Nat.{ℕ, zero, suc, ◌+◌, ◌≤◌, ◌<◌}
use mathlib.Core.Path.{◌≡◌, refl, ap}
use mathlib.Core.Bool.{false}
use mathlib.Core.List.{List, [], ◌∷◌, ◌++◌}
use native.Mathlib.Omega.{arith}
use lib.Dec.{T, eqb}
use lib.ListN.{length, length-append}
use borrow.Author.Tests.{eqb-true, eqb-false}
use Rattle.base.proofs.Booleans.{bool_case, both_true, true_T, false_not_T}
use Rattle.syntax.specs.rules.Byte.{Bracket, ByteClass, blank, return, quote, forbidden, ordinary, opening, closing}
use Rattle.syntax.specs.rules.Byte.{byte_class, open_byte, close_byte, blank_class, ordinary_class, is_blank, is_ordinary, is_raw}
use Rattle.syntax.specs.rules.Syntax.{Piece, raw, letter, number, is_piece, are_pieces, piece_before, pieces_before, are_ordinary}
use Rattle.syntax.specs.rules.Syntax.{Leaf, space, line_end, word, string, leaf_before, is_leaf, a_symbol, after}
use Rattle.syntax.specs.reference.Scan.{escape_at}
use Rattle.syntax.specs.rules.Fault.{Opened, size, Hit, control, lone_return, no_escape, empty_string, unclosed_string}
use Rattle.syntax.proofs.ByteClasses.{ByteOf, class_byte, FitsAfter}
use Rattle.syntax.proofs.Strings.{pieces_append, escape_spelled, letter_not_u, raw_tests}

-- Induction over a text, with what is shown of all shorter ones.
by_length : (P : List ℕ → Type 0) → P [] → ((b : ℕ) (s : List ℕ) → ((k : List ℕ) → length k ≤ length s → P k) → P (b ∷ s)) → (s : List ℕ) → P s
by_length P base step s = all (length s) s (omega arith)
  where
    all : (fuel : ℕ) (s : List ℕ) → length s ≤ fuel → P s
    all zero [] h = base
    all zero (b ∷ s) h = absurd (omega arith)
    all (suc fuel) [] h = base
    all (suc fuel) (b ∷ s) h = step b s (λ k l. all fuel k (omega arith))

-- ---- what follows an opening quote

-- Good pieces, and then a closing quote, the end, or a backslash that begins no escape.
pub data Strung : List ℕ → Type 0 where
  closed : (ps : List Piece) (k : List ℕ) → T (are_pieces ps) → Strung (pieces_before ps (0x22 ∷ k))
  unclosed : (ps : List Piece) → T (are_pieces ps) → Strung (pieces_before ps [])
  bad : (ps : List Piece) (s : List ℕ) → T (are_pieces ps) → ((p : Piece) (t : List ℕ) → T (is_piece p) → piece_before p t ≡ 0x5C ∷ s → ⊥)
      → Strung (pieces_before ps (0x5C ∷ s))

strung_piece : (p : Piece) {s : List ℕ} → T (is_piece p) → Strung s → Strung (piece_before p s)
unfolding pieces_before are_pieces
strung_piece p t (closed ps k u) = closed (p ∷ ps) k (both_true (is_piece p) (are_pieces ps) t u)
strung_piece p t (unclosed ps u) = unclosed (p ∷ ps) (both_true (is_piece p) (are_pieces ps) t u)
strung_piece p t (bad ps s u h) = bad (p ∷ ps) s (both_true (is_piece p) (are_pieces ps) t u) h

piece_longer : (p : Piece) (t : List ℕ) → length t < length (piece_before p t)
unfolding piece_before
piece_longer (raw b) t = omega arith
piece_longer (letter c) t = omega arith
piece_longer (number d₁ d₂ d₃ d₄) t = omega arith

-- An escape that stands there is found.
piece_found : (p : Piece) (t s : List ℕ) → T (is_piece p) → piece_before p t ≡ 0x5C ∷ s → escape_at s ≡ p
unfolding piece_before escape_at
piece_found (raw b) t s u e = let (x, y) = raw_tests b u in let z : b ≡ 0x5C = cc in absurd (eqb-false b 0x5C y z)
piece_found (letter c) t s u e =
    let z : s ≡ c ∷ t = cc in
    rw (z, letter_not_u c u)
piece_found (number d₁ d₂ d₃ d₄) t s u e =
    let z : s ≡ 0x75 ∷ d₁ ∷ d₂ ∷ d₃ ∷ d₄ ∷ t = cc in
    rw z

raw_ok : (b : ℕ) → eqb b 0x22 ≡ false → eqb b 0x5C ≡ false → T (is_piece (raw b))
unfolding is_piece is_raw
raw_ok b e f = rw (e, f) tt

-- What a byte inside a string begins.
strung_byte : (b : ℕ) (s : List ℕ) → ((k : List ℕ) → length k ≤ length s → Strung k) → Strung (b ∷ s)
unfolding piece_before pieces_before are_pieces
strung_byte b s next =
    bool_case (eqb b 0x22) (λ e. rw (eqb-true b 0x22 e) (closed [] s tt))
    (λ e. bool_case (eqb b 0x5C)
    (λ f. rw (eqb-true b 0x5C f) (bool_case (is_piece (escape_at s))
    (λ g. let (t, x) = escape_spelled s (true_T g) in
    let shorter : length t ≤ length s = omega (arith, piece_longer (escape_at s) t, ap length x) in
    rw x at (strung_piece (escape_at s) (true_T g) (next t shorter)))
    (λ g. bad [] s tt (λ p t u x. false_not_T g (rw (piece_found p t s u x) u)))))
    (λ f. strung_piece (raw b) (raw_ok b e f) (next s (omega arith))))

-- The pieces of any text, up to a closing quote, a bad escape or the end.
strung : (s : List ℕ) → Strung s
unfolding pieces_before are_pieces
strung = by_length Strung (unclosed [] tt) strung_byte

-- ---- the bytes of a symbol

-- A text is a run of bytes of a symbol, and bytes that may follow it.
record Run (s : List ℕ) : Type 0 where
  run : List ℕ
  rest : List ℕ
  are_ordinary_lem : T (are_ordinary run)
  parted : FitsAfter a_symbol rest
  bytes : run ++ rest ≡ s

run_of : (s : List ℕ) → Run s
unfolding are_ordinary FitsAfter
run_of [] = record { run = []; rest = []; are_ordinary_lem = tt; parted = tt; bytes = refl }
run_of (b ∷ s) =
    let r : Run s = run_of s in
    bool_case (is_ordinary b)
    (λ e. let t : T (are_ordinary (b ∷ r.run)) = both_true (is_ordinary b) (are_ordinary r.run) (true_T e) r.are_ordinary_lem in
    record { run = b ∷ r.run; rest = r.rest; are_ordinary_lem = t; parted = r.parted; bytes = rw r.bytes })
    (λ e. record { run = []; rest = b ∷ s; are_ordinary_lem = tt; parted = e; bytes = refl })

-- ---- leaves and brackets

-- Leaves and brackets, and then the end or a fault of the bytes that stand there.
pub data Lexed : List ℕ → Type 0 where
  nothing : Lexed []
  leaves : (l : Leaf) (k : List ℕ) → T (is_leaf l) → FitsAfter (after l) k → Lexed k → Lexed (leaf_before l k)
  opens : (b : Bracket) (k : List ℕ) → Lexed k → Lexed (open_byte b ∷ k)
  closes : (b : Bracket) (k : List ℕ) → Lexed k → Lexed (close_byte b ∷ k)
  stops : {s : List ℕ} (n : ℕ) → ((room : ℕ) (o : Opened) → (p : ℕ) × Hit room o s n p) → Lexed s

-- What a quote begins.
lex_string : {s : List ℕ} → Strung s → ((k : List ℕ) → length k ≤ length s → Lexed k) → Lexed (0x22 ∷ s)
unfolding leaf_before is_leaf after FitsAfter pieces_before
lex_string (closed [] k u) next = stops 4 (λ room o. (size o, empty_string))
lex_string (closed (p ∷ ps) k u) next =
    let shorter : length k ≤ length (pieces_before (p ∷ ps) (0x22 ∷ k))
    = rw (pieces_append (p ∷ ps) (0x22 ∷ k), length-append (pieces_before (p ∷ ps) []) (0x22 ∷ k)) (omega arith) in
    leaves (string p ps) k u tt (next k shorter)
lex_string (unclosed ps u) next = stops 4 (λ room o. (size o, unclosed_string ps u))
lex_string (bad ps s u h) next = stops 4 (λ room o. (size o + 1 + length (pieces_before ps []), no_escape ps s u h))

lex_return : (s : List ℕ) → ((k : List ℕ) → length k ≤ length s → Lexed k) → Lexed (0x0D ∷ s)
unfolding leaf_before is_leaf after FitsAfter
lex_return [] next = stops 3 (λ room o. (size o, lone_return {s = []} (omega arith)))
lex_return (x ∷ s) next =
    bool_case (eqb x 0x0A) (λ e. rw (eqb-true x 0x0A e) (leaves line_end s tt tt (next s (omega arith))))
    (λ e. stops 3 (λ room o. (size o, lone_return (eqb-false x 0x0A e))))

-- What a byte begins, by its class.
lex_byte : (b : ℕ) (s : List ℕ) (c : ByteClass) → byte_class b ≡ c → ByteOf b c → ((k : List ℕ) → length k ≤ length s → Lexed k) → Lexed (b ∷ s)
unfolding leaf_before is_leaf after FitsAfter is_blank blank_class are_ordinary is_ordinary ordinary_class
lex_byte b s blank e x next = leaves (space b) s (rw e tt) tt (next s (omega arith))
lex_byte b s return e x next = rw x (lex_return s next)
lex_byte b s quote e x next = rw x (lex_string (strung s) next)
lex_byte b s forbidden e x next = stops 3 (λ room o. (size o, control e))
lex_byte b s ordinary e x next =
    let r : Run s = run_of s in
    let shorter : length r.rest ≤ length s = omega (arith, length-append r.run r.rest, ap length r.bytes) in
    let first : T (is_ordinary b) = rw e tt in
    let all : T (are_ordinary (b ∷ r.run)) = both_true (is_ordinary b) (are_ordinary r.run) first r.are_ordinary_lem in
    rw (← r.bytes) (leaves (word b r.run) r.rest all r.parted (next r.rest shorter))
lex_byte b s (opening y) e x next = rw x (opens y s (next s (omega arith)))
lex_byte b s (closing y) e x next = rw x (closes y s (next s (omega arith)))

-- Every text is leaves and brackets up to its end or up to such a fault.
pub lexed : (s : List ℕ) → Lexed s
lexed = by_length Lexed nothing (λ b s next. lex_byte b s (byte_class b) refl (class_byte b) next)
