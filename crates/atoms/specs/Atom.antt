-- Symbols and strings at a place of a text: where a string ends, and what a string or a symbol stands for. The text is given by its bytes from the place on.
use Rattle.std.specs.Prelude.{ℕ, ◌+◌, Bool, true, cond, ◌&&◌, List, [], ◌∷◌, eqb, Result, Ok, Err}
use lib.ListN.{length, get_or, drop}
use Rattle.base.specs.rules.Numbers as Number
use Rattle.elements.specs.rules.Characters.{character_of}
use Rattle.syntax.specs.rules.Syntax.{Piece, raw, pieces_before, pieces_value}
use Rattle.syntax.specs.reference.Scan.{Quoted, closed, unclosed, bad_escape, quoted_from, escape_at, ordinary_run}
use Rattle.atoms.specs.declared.string.StringEnd as String
use Rattle.atoms.specs.declared.string.BadString as Bad

-- The string whose opening quote is at place n: number 0, the place after its closing quote and the length of what it stands for;
-- or number 4 with the place of the fault.
pub record StringEnd : Type 0 where
  pub number : ℕ
  pub place : ℕ
  pub next : ℕ
  pub length : ℕ

-- The code's answer (src/string.rt) as this record.
unfoldable pub ended : Result String.StringEnd Bad.BadString → StringEnd
ended (Ok s) = record { number = Number.ok; place = 0; next = s.next; length = s.length }
ended (Err f) = record { number = Number.bad_string; place = f.place; next = 0; length = 0 }

unfoldable pub string_end : ℕ → Quoted → StringEnd
string_end n (closed []) = record { number = Number.bad_string; place = n; next = 0; length = 0 }
string_end n (closed (p ∷ ps)) =
    record {
      number = Number.ok;
      place = 0;
      next = n + (length (pieces_before (p ∷ ps) []) + 2);
      length = lib.ListN.length (pieces_value (p ∷ ps));
    }
string_end n unclosed = record { number = Number.bad_string; place = n; next = 0; length = 0 }
string_end n (bad_escape p) = record { number = Number.bad_string; place = p; next = 0; length = 0 }

-- The bytes s begin with the quote at place n.
unfoldable pub string_at : ℕ → List ℕ → StringEnd
string_at n s = string_end n (quoted_from 0 (n + 1) (drop 1 s))

-- What a string or a symbol stands for, from its first byte on.
unfoldable pub content_of : Quoted → List ℕ
content_of (closed ps) = pieces_value ps
content_of unclosed = []
content_of (bad_escape p) = []

unfoldable pub atom_value : List ℕ → List ℕ
atom_value s = cond (eqb (get_or s 0 0) 0x22) (content_of (quoted_from 0 1 (drop 1 s))) (ordinary_run s)

-- The piece of a string that stands at the front of these bytes.
unfoldable pub piece_at : List ℕ → Piece
piece_at s = cond (eqb (get_or s 0 0) 0x5C) (escape_at (drop 1 s)) (raw (get_or s 0 0))

-- All these bytes are characters of that sort of values.
unfoldable pub fits : ℕ → List ℕ → Bool
fits n [] = true
fits n (b ∷ s) = character_of n b && fits n s
