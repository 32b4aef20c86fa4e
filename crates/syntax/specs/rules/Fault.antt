-- Which texts have a fault 3 to 6, and its place. Document 01, "Numbers answered". No scan is in these rules: a text has a fault at a place
-- if all before it is concrete syntax under brackets that are still open, and what stands there cannot go on with it.
use Rattle.std.specs.Prelude.{ℕ, suc, ◌+◌, ◌≤◌, ◌≡◌, false, List, [], ◌∷◌, T, length, get_or}
use Rattle.base.specs.rules.Numbers as Number
use Rattle.syntax.specs.rules.Byte.{Bracket, forbidden, byte_class, open_byte, close_byte, same_bracket}
use Rattle.syntax.specs.rules.Syntax.{Piece, is_piece, are_pieces, piece_before, pieces_before, Forest, another, Ok, levels, bytes_before, bytes_of}

-- What stands before a fault: a run, and after each open bracket the run that follows it.
pub data Opened : Type 0 where
  outside : Forest → Opened
  within : Opened → Bracket → Forest → Opened

unfoldable pub opened_before : Opened → List ℕ → List ℕ
opened_before (outside f) k = bytes_before f k
opened_before (within o b f) k = opened_before o (open_byte b ∷ bytes_before f k)

-- The place after it.
unfoldable pub size : Opened → ℕ
size o = length (opened_before o [])

unfoldable pub open_levels : Opened → ℕ
open_levels (outside f) = 0
open_levels (within o b f) = suc (open_levels o)

-- It is concrete syntax and nests at most `room` deep.
unfoldable pub OkOpened : ℕ → Opened → Type 0
OkOpened room (outside f) = Ok another f × (levels f ≤ room)
OkOpened room (within o b f) = OkOpened room o × Ok another f × (suc (open_levels o) + levels f ≤ room)

-- The bytes that follow have a fault at once: number and place.
pub data Hit (room : ℕ) : Opened → List ℕ → ℕ → ℕ → Type 0 where
  -- 3, "forbidden character outside a string": a control character, or U+000D that is not directly before U+000A.
  control : {o : Opened} {b : ℕ} {s : List ℕ} → byte_class b ≡ forbidden → Hit room o (b ∷ s) Number.forbidden_character (size o)
  lone_return : {o : Opened} {s : List ℕ} → (get_or s 0 0 ≡ 0x0A → ⊥) → Hit room o (0x0D ∷ s) Number.forbidden_character (size o)
  -- 4, "bad escape; string empty or unclosed" at "the backslash; the opening quote": after good pieces a backslash that begins no escape.
  no_escape : {o : Opened} (ps : List Piece) (s : List ℕ) → T (are_pieces ps)
      → ((p : Piece) (t : List ℕ) → T (is_piece p) → piece_before p t ≡ 0x5C ∷ s → ⊥)
      → Hit room o (0x22 ∷ pieces_before ps (0x5C ∷ s)) Number.bad_string (size o + 1 + length (pieces_before ps []))
  empty_string : {o : Opened} {s : List ℕ} → Hit room o (0x22 ∷ 0x22 ∷ s) Number.bad_string (size o)
  unclosed_string : {o : Opened} (ps : List Piece) → T (are_pieces ps) → Hit room o (0x22 ∷ pieces_before ps []) Number.bad_string (size o)
  -- 5, "closing bracket without its partner; list open at the end" at "it; innermost open bracket".
  unopened : {f : Forest} (b : Bracket) {s : List ℕ} → Hit room (outside f) (close_byte b ∷ s) Number.unpaired_bracket (size (outside f))
  other_partner : {o : Opened} {b : Bracket} {f : Forest} {s : List ℕ} (c : Bracket) → same_bracket c b ≡ false → Hit room (within o b f) (close_byte c ∷ s) Number.unpaired_bracket (size (within o b f))
  left_open : {o : Opened} {b : Bracket} {f : Forest} → Hit room (within o b f) [] Number.unpaired_bracket (size o)
  -- 6, one level more than there is room for, at "its bracket".
  too_deep : {o : Opened} (b : Bracket) {s : List ℕ} → open_levels o ≡ room → Hit room o (open_byte b ∷ s) Number.too_deep (size o)

-- The text has the fault n at place p, where brackets may nest `room` deep.
pub record Fault (room : ℕ) (text : List ℕ) (n p : ℕ) : Type 0 where
  pub before : Opened
  pub ok : OkOpened room before
  pub rest : List ℕ
  pub bytes : opened_before before rest ≡ text
  pub hit : Hit room before rest n p

-- What a text is: the bytes of concrete syntax, or faulty.
pub data TextVerdict (room : ℕ) (text : List ℕ) : Type 0 where
  good : (f : Forest) → Ok another f → bytes_of f ≡ text → levels f ≤ room → TextVerdict room text
  faulty : (n p : ℕ) → Fault room text n p → TextVerdict room text
