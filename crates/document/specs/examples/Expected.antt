-- How the whole outcome of a read is written down in the examples: the answer, and the node words, place list and pool at the end.
-- Document 01, "The table", is written out word by word here, and nothing of it is taken from the definitions that the examples are to judge.
use Rattle.std.specs.Prelude.{ℕ, zero, suc, ◌+◌, ◌-◌, ◌*◌, List, [], ◌∷◌, ◌++◌, length}
use Rattle.document.specs.rules.Spelling.{Spelling}
use Rattle.document.specs.reference.Outcome.{outcome}
use Rattle.document.specs.reference.Pair.{paired}
use Rattle.document.specs.rules.Memory.{Memory, Outcome}

-- n numbers from m on. No two words of lent memory are alike, so that one that moved would show.
unfoldable pub numbers : ℕ → ℕ → List ℕ
numbers m zero = []
numbers m (suc n) = m ∷ numbers (m + 1) n

-- What is lent: room for 25 nodes and a part of one more, 26 places and 24 pool bytes.
unfoldable pub lent_memory : Memory
lent_memory = record { nodes = numbers 1000 280; places = numbers 2000 26; pool = numbers 100 24 }

-- "4,294,967,295 at the root", and "A missing width and height are 4,294,967,295."
abbrev pub no_parent : ℕ
no_parent = 4294967295

abbrev pub no_width : ℕ
no_width = 4294967295

abbrev pub no_height : ℕ
no_height = 4294967295

-- "Eleven u32 words a node: kind; parent; end; offset and length in the pool of id or target; of type; of text; image width; height."
unfoldable pub row : ℕ → ℕ → ℕ → ℕ → ℕ → ℕ → ℕ → ℕ → ℕ → ℕ → ℕ → List ℕ
row kind parent end key key_length type type_length text text_length width height =
    kind ∷ parent ∷ end ∷ key ∷ key_length ∷ type ∷ type_length ∷ text ∷ text_length ∷ width ∷ height ∷ []

-- The record of a node by its kind, parent and end: with neither string nor size ("A missing string is 0, 0"),
unfoldable pub bare : ℕ → ℕ → ℕ → List ℕ
bare kind parent end = row kind parent end 0 0 0 0 0 0 no_width no_height

-- with an id or target of this offset and length alone,
unfoldable pub keyed : ℕ → ℕ → ℕ → ℕ → ℕ → List ℕ
keyed kind parent end at size = row kind parent end at size 0 0 0 0 no_width no_height

-- with a type alone,
unfoldable pub typed : ℕ → ℕ → ℕ → ℕ → ℕ → List ℕ
typed kind parent end at size = row kind parent end 0 0 at size 0 0 no_width no_height

-- and that of a text, whose kind is 9.
unfoldable pub texts : ℕ → ℕ → ℕ → ℕ → List ℕ
texts parent end at size = row 9 parent end 0 0 0 0 at size no_width no_height

-- The table of a document: its records and its pool. The place list is no part of it.
pub record Table : Type 0 where
  pub rows : List (List ℕ)
  pub pool : List ℕ

unfoldable pub joined : List (List ℕ) → List ℕ
joined [] = []
joined (r ∷ rs) = r ++ joined rs

-- "Words and bytes past those used keep their values."
unfoldable pub leaves : Table → List ℕ → Memory
leaves t places =
    record {
      nodes = joined t.rows ++ numbers (1000 + 11 * length t.rows) (280 - 11 * length t.rows);
      places = places ++ numbers (2000 + length places) (26 - length places);
      pool = t.pool ++ numbers (100 + length t.pool) (24 - length t.pool);
    }

-- What the pair answers of a text, and what its read leaves.
unfoldable pub pair_outcome : Spelling → List ℕ → Memory → Outcome
pair_outcome s text m = record { answer = paired s text m; memory = (outcome s text m).memory }

-- A text and the whole outcome of the pair on it.
pub record Whole : Type 0 where
  pub spelling : Spelling
  pub text : List ℕ
  pub expected : Outcome

-- What the pair answers of the text and leaves in the lent memory; and what reading alone does.
unfoldable pub left : Whole → Outcome
left w = pair_outcome w.spelling w.text lent_memory

unfoldable pub left_by_read : Whole → Outcome
left_by_read w = outcome w.spelling w.text lent_memory

-- A text with its number, place, line and column that leaves the lent memory as it was: "Answers 1 to 12 and 19: counts 0."
abbrev pub refused_as : Spelling → List ℕ → ℕ → ℕ → ℕ → ℕ → Whole
refused_as s t n p line column =
    record {
      spelling = s;
      text = t;
      expected = record { answer = record { number = n; place = p; line = line; column = column; nodes = 0; pool = 0 }; memory = lent_memory };
    }

-- A text with its number, place, line, column, node count and pool count that fills the memory with this table and these places.
abbrev pub fills : Spelling → List ℕ → ℕ → ℕ → ℕ → ℕ → ℕ → ℕ → Table → List ℕ → Whole
fills s t n p line column nodes pool table places =
    record {
      spelling = s;
      text = t;
      expected =
          record { answer = record { number = n; place = p; line = line; column = column; nodes = nodes; pool = pool }; memory = leaves table places };
    }
