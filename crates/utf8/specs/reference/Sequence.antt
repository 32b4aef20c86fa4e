-- Which sequences of bytes are well formed, as the table of the Unicode standard has it (table 3-7), and how far a text is made of them.
-- Document 01, "Characters and brackets" and number 2. That this is the same as `Scalar` has it is proved in `proofs/Agree.antt`.
use Rattle.std.specs.Prelude.{ℕ, zero, suc, ◌-◌, Bool, true, false, cond, ◌&&◌, List, [], ◌∷◌, leb, length, replicate}
use Rattle.std.specs.Int.Count.{count_leading_zeros}

-- "A multi-byte sequence's first byte has as many leading one bits as the sequence has bytes": the leading zeros of the complement.
unfoldable pub leading_ones : ℕ → ℕ
leading_ones b = count_leading_zeros 8 (255 - b)

pub record Range : Type 0 where
  pub low : ℕ
  pub high : ℕ

abbrev pub to : ℕ → ℕ → Range
to a b = record { low = a; high = b }

unfoldable pub within : Range → ℕ → Bool
within r b = leb r.low b && leb b r.high

-- One row for each form of a sequence: a range for each of its bytes.
unfoldable pub forms : List (List Range)
forms =
    (to 0x00 0x7F ∷ [])
    ∷ (to 0xC2 0xDF ∷ to 0x80 0xBF ∷ [])
    ∷ (to 0xE0 0xE0 ∷ to 0xA0 0xBF ∷ to 0x80 0xBF ∷ [])
    ∷ (to 0xE1 0xEC ∷ to 0x80 0xBF ∷ to 0x80 0xBF ∷ [])
    ∷ (to 0xED 0xED ∷ to 0x80 0x9F ∷ to 0x80 0xBF ∷ [])
    ∷ (to 0xEE 0xEF ∷ to 0x80 0xBF ∷ to 0x80 0xBF ∷ [])
    ∷ (to 0xF0 0xF0 ∷ to 0x90 0xBF ∷ to 0x80 0xBF ∷ to 0x80 0xBF ∷ [])
    ∷ (to 0xF1 0xF3 ∷ to 0x80 0xBF ∷ to 0x80 0xBF ∷ to 0x80 0xBF ∷ [])
    ∷ (to 0xF4 0xF4 ∷ to 0x80 0x8F ∷ to 0x80 0xBF ∷ to 0x80 0xBF ∷ [])
    ∷ []

-- The first bytes of the text are within the ranges, one for one.
unfoldable pub begins : List Range → List ℕ → Bool
begins [] text = true
begins (r ∷ rs) [] = false
begins (r ∷ rs) (b ∷ text) = within r b && begins rs text

-- The first n bytes of the text are below 0x80.
unfoldable pub begins_ascii : ℕ → List ℕ → Bool
begins_ascii n text = begins (replicate n (to 0x00 0x7F)) text

unfoldable pub first_form : List (List Range) → List ℕ → ℕ
first_form [] text = 0
first_form (f ∷ fs) text = cond (begins f text) (length f) (first_form fs text)

-- The length of the well-formed sequence that the text begins with, and 0 where it begins with none.
unfoldable pub sequence_length : List ℕ → ℕ
sequence_length text = first_form forms text

-- How many bytes are well-formed sequences one after another; the first `skip` bytes belong to a sequence already found.
unfoldable pub valid_from : ℕ → List ℕ → ℕ
valid_from skip [] = 0
valid_from zero (b ∷ text) = elim (sequence_length (b ∷ text)) [ zero ↦ 0 | suc k ↦ suc (valid_from k text) ]
valid_from (suc k) (b ∷ text) = suc (valid_from k text)

-- The place of the first ill-formed sequence, and the text's length where there is none.
unfoldable pub valid_up_to : List ℕ → ℕ
valid_up_to text = valid_from 0 text
