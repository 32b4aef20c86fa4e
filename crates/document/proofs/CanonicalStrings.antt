-- The quoted strings of the canonical spelling: each byte as a piece of a string, which stands for that byte. Document 01, "Canonical spelling".
use Prim.Native.Nat.{ℕ, ◌/◌, ◌%◌, ◌≤◌, ◌<◌}
use mathlib.Core.Path.{◌≡◌, refl, ap, ◌∙◌}
use mathlib.Core.Bool.{Bool, cond, ◌&&◌, ◌||◌}
use mathlib.Core.List.{List, [], ◌∷◌, ◌++◌, append_assoc, append-nil}
use native.Mathlib.Omega.{arith}
use lib.Dec.{T, eqb, ltb, ltb→lt}
use borrow.Author.Tests.{ltb-true, ltb-false, le-ltb, ne_eqb}
use Rattle.base.proofs.Booleans.{cond_under, bool_case, both, both_true}
use Rattle.base.proofs.Tables.{below, each_below}
use Rattle.elements.specs.rules.Bytes.{same}
use Rattle.elements.proofs.Same.{same_equal}
use Rattle.utf8.specs.rules.Scalar.{is_scalar, encode, IsUtf8}
use Rattle.utf8.proofs.Agree.{byte_utf8, utf8_append, utf8_split, utf8_tail}
use Rattle.syntax.specs.rules.Byte.{is_raw}
use Rattle.syntax.specs.rules.Syntax.{Piece, raw, letter, number, piece_before, pieces_before, is_hex, hex_digit, hex_value, is_piece, are_pieces, letter_value, piece_value, pieces_value}
use Rattle.document.specs.rules.Value.{every}
use Rattle.document.specs.rules.Canonical.{hex_byte, unicode_before, byte_before, bytes_before}

-- ---- ASCII

unfoldable pub is_ascii : ℕ → Bool
is_ascii b = ltb b 0x80

-- Bytes below 0x80 in front of a UTF-8 text.
pub byte_before_lem : (b : ℕ) (k : List ℕ) → b < 0x80 → IsUtf8 k → IsUtf8 (b ∷ k)
byte_before_lem b k h u = utf8_append (b ∷ []) k (byte_utf8 b h) u

pub ascii_before : (s k : List ℕ) → T (every is_ascii s) → IsUtf8 k → IsUtf8 (s ++ k)
unfolding every is_ascii
ascii_before [] k t u = u
ascii_before (b ∷ s) k t u =
    let (now, later) = both (is_ascii b) (every is_ascii s) t in
    byte_before_lem b (s ++ k) (ltb→lt b 0x80 now) (ascii_before s k later u)

-- ---- a byte

-- The piece that the canonical spelling writes for a byte.
unfoldable pub piece_of : ℕ → Piece
piece_of b =
    cond (eqb b 0x22) (letter 0x22)
    (cond (eqb b 0x0A) (letter 0x6E)
    (cond (eqb b 0x0D) (letter 0x72)
    (cond (eqb b 0x09) (letter 0x74)
    (cond (eqb b 0x5C || ltb b 0x20 || eqb b 0x7F) (number 0x30 0x30 (hex_byte (b / 16)) (hex_byte (b % 16))) (raw b)))))

piece_bytes_lem : (b : ℕ) (k : List ℕ) → piece_before (piece_of b) k ≡ byte_before b k
unfolding piece_of piece_before byte_before unicode_before
piece_bytes_lem b k = simp (cond_under (λ (p : Piece). piece_before p k))

-- A byte from 0x80 on stands raw.
high_raw : (b : ℕ) → 0x80 ≤ b → piece_of b ≡ raw b
unfolding piece_of
high_raw b h =
    rw (
      ne_eqb b 0x22 (omega arith),
      ne_eqb b 0x0A (omega arith),
      ne_eqb b 0x0D (omega arith),
      ne_eqb b 0x09 (omega arith),
      ne_eqb b 0x5C (omega arith),
      le-ltb b 0x20 (omega arith),
      ne_eqb b 0x7F (omega arith),
    )

-- What is asked of a byte's piece: it is one, stands for the byte, and is ASCII.
passes : ℕ → Bool
passes b = is_piece (piece_of b) && (same (piece_value (piece_of b)) (b ∷ []) && every is_ascii (piece_before (piece_of b) []))

all_pass : T (below passes 128)
unfolding passes is_piece piece_of same piece_value every is_ascii piece_before hex_byte is_raw is_hex hex_digit hex_value is_scalar letter_value encode
all_pass = tt

-- The same as facts.
record StandsForByte (b : ℕ) (p : Piece) : Type 0 where
  is_piece_lem : T (is_piece p)
  value : piece_value p ≡ b ∷ []

low_fits : (b : ℕ) → b < 0x80 → StandsForByte b (piece_of b) × T (every is_ascii (piece_before (piece_of b) []))
unfolding passes
low_fits b h =
    let ascii : Bool = every is_ascii (piece_before (piece_of b) []) in
    let value : Bool = same (piece_value (piece_of b)) (b ∷ []) in
    let (one, t) = both (is_piece (piece_of b)) (value && ascii) (each_below passes 128 b h all_pass) in
    let (two, three) = both value ascii t in
    (record { is_piece_lem = one; value = same_equal (piece_value (piece_of b)) (b ∷ []) two }, three)

piece_fits : (b : ℕ) → StandsForByte b (piece_of b)
unfolding is_piece is_raw piece_value
piece_fits b =
    bool_case (ltb b 0x80)
    (λ e. (low_fits b (ltb-true b 0x80 e)).0)
    (λ e. let h : 0x80 ≤ b = ltb-false b 0x80 e in
    rw (high_raw b h) (record { is_piece_lem = rw (ne_eqb b 0x22 (omega arith), ne_eqb b 0x5C (omega arith)) tt; value = refl }))

piece_before_lem : (p : Piece) (k : List ℕ) → piece_before p k ≡ piece_before p [] ++ k
unfolding piece_before
piece_before_lem (raw b) k = refl
piece_before_lem (letter c) k = refl
piece_before_lem (number d₁ d₂ d₃ d₄) k = refl

-- ---- a string

unfoldable pub pieces_of : List ℕ → List Piece
pieces_of [] = []
pieces_of (b ∷ s) = piece_of b ∷ pieces_of s

-- The pieces are what is written of the bytes, and stand for them.
pub pieces_bytes : (s k : List ℕ) → pieces_before (pieces_of s) k ≡ bytes_before s k
unfolding pieces_of pieces_before bytes_before
pieces_bytes [] k = refl
pieces_bytes (b ∷ s) k = piece_bytes_lem b (pieces_before (pieces_of s) k) ∙ ap (byte_before b) (pieces_bytes s k)

pub are_pieces_lem : (s : List ℕ) → T (are_pieces (pieces_of s))
unfolding pieces_of are_pieces
are_pieces_lem [] = tt
are_pieces_lem (b ∷ s) = both_true (is_piece (piece_of b)) (are_pieces (pieces_of s)) (piece_fits b).is_piece_lem (are_pieces_lem s)

pub pieces_value_lem : (s : List ℕ) → pieces_value (pieces_of s) ≡ s
unfolding pieces_of pieces_value
pieces_value_lem [] = refl
pieces_value_lem (b ∷ s) = rw ((piece_fits b).value, pieces_value_lem s)

-- Bytes below 0x80 are written as such bytes, and those from 0x80 on raw, so what is UTF-8 stays UTF-8. The bytes `run`, written already, may end within a sequence.
written_utf8 : (run s k : List ℕ) → IsUtf8 (run ++ s) → IsUtf8 k → IsUtf8 (run ++ bytes_before s k)
unfolding bytes_before piece_before
written_utf8 run [] k u v = utf8_append run k (rw (append-nil run) at u) v
written_utf8 run (b ∷ s) k u v =
    rw (← piece_bytes_lem b (bytes_before s k))
    (bool_case (ltb b 0x80)
    (λ e. let h : b < 0x80 = ltb-true b 0x80 e in
    let (x, y) = utf8_split run s b u h in
    rw (piece_before_lem (piece_of b) (bytes_before s k))
    (utf8_append run (piece_before (piece_of b) [] ++ bytes_before s k) x
    (ascii_before (piece_before (piece_of b) []) (bytes_before s k) (low_fits b h).1 (written_utf8 [] s k (utf8_tail b s h y) v))))
    (λ e. rw (high_raw b (ltb-false b 0x80 e))
    (rw (append_assoc run (b ∷ []) (bytes_before s k)) at (written_utf8 (run ++ (b ∷ [])) s k (rw (append_assoc run (b ∷ []) s) u) v))))

pub bytes_utf8 : (s k : List ℕ) → IsUtf8 s → IsUtf8 k → IsUtf8 (bytes_before s k)
bytes_utf8 s k u v = written_utf8 [] s k u v
