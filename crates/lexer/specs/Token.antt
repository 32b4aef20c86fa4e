-- What stands at a place of a text, for code that goes through it from left to right: white space, symbols, strings and the names that lead lists.
-- The text is given by its bytes from the place on.
use Rattle.std.specs.Prelude.{ℕ, suc, ◌+◌, cond, ◌&&◌, ◌||◌, List, [], ◌∷◌, eqb, Result, Ok, Err}
use lib.ListN.{length, get_or, drop}
use Rattle.base.specs.rules.Numbers as Number
use Rattle.elements.specs.rules.Class as Class
use Rattle.syntax.specs.rules.Byte.{ByteClass, blank, return, quote, forbidden, ordinary, opening, closing, byte_class, is_blank}
use Rattle.syntax.specs.reference.Scan.{ordinary_run, Scanned, refused, scanned}
use Rattle.atoms.specs.Atom.{string_at}
use Rattle.lexer.specs.declared.scanner.Fault.{Fault}
use Rattle.lexer.specs.declared.scanner.FaultKind.{FaultKind}
use Rattle.lexer.specs.declared.scanner.FaultKind.TheVariants.{ForbiddenCharacter, BadString, UnpairedBracket, TooDeep}

-- How many bytes of white space stand at the front. U+000D counts where U+000A follows, which counts itself.
unfoldable pub blanks : List ℕ → ℕ
blanks [] = 0
blanks (b ∷ s) = cond (is_blank b || (eqb b 0x0D && eqb (get_or s 0 0) 0x0A)) (suc (blanks s)) 0

-- The class of the list whose opening bracket stands before these bytes, and how many bytes its name takes with the white space before it.
unfoldable pub lead_class_at : List ℕ → ℕ
lead_class_at s = Class.class_of (ordinary_run (drop (blanks s) s))

unfoldable pub lead_length : List ℕ → ℕ
lead_length s = blanks s + length (ordinary_run (drop (blanks s) s))

-- What is seen at a place after white space: the end of the run (a closing bracket or the text's end), a symbol, a string or a list;
-- its place; its class; the place after it, or after the name that leads it; and the length of what a symbol or string stands for.
pub record Seen : Type 0 where
  pub sort : ℕ
  pub place : ℕ
  pub class : ℕ
  pub next : ℕ
  pub length : ℕ

abbrev pub the_end : ℕ
the_end = 0

abbrev pub a_symbol : ℕ
a_symbol = 1

abbrev pub a_string : ℕ
a_string = 2

abbrev pub a_list : ℕ
a_list = 3

unfoldable pub seen_end : ℕ → Seen
seen_end n = record { sort = the_end; place = n; class = 0; next = n; length = 0 }

-- At place n stands a byte of this class, in front of s.
unfoldable pub seen_by : ℕ → ℕ → List ℕ → ByteClass → Seen
seen_by n b s blank = seen_end n
seen_by n b s return = seen_end n
seen_by n b s forbidden = seen_end n
seen_by n b s (closing x) = seen_end n
seen_by n b s ordinary =
    record {
      sort = a_symbol;
      place = n;
      class = Class.text;
      next = n + length (ordinary_run (b ∷ s));
      length = lib.ListN.length (ordinary_run (b ∷ s));
    }
seen_by n b s quote =
    record { sort = a_string; place = n; class = Class.text; next = (string_at n (b ∷ s)).next; length = (string_at n (b ∷ s)).length }
seen_by n b s (opening x) =
    record { sort = a_list; place = n; class = lead_class_at s; next = n + 1 + lead_length s; length = 0 }

unfoldable pub seen_first : ℕ → List ℕ → Seen
seen_first n [] = seen_end n
seen_first n (b ∷ s) = seen_by n b s (byte_class b)

-- What is seen from place n on, where the bytes s stand.
unfoldable pub seen : ℕ → List ℕ → Seen
seen n s = seen_first (n + blanks s) (drop (blanks s) s)

-- The scan's answer in numbers: 0 at 0 where the text is concrete syntax.
unfoldable pub scan_number : Scanned → ℕ
scan_number (refused n p) = n
scan_number (scanned f) = Number.ok

unfoldable pub scan_place : Scanned → ℕ
scan_place (refused n p) = p
scan_place (scanned f) = 0

-- The same of the code's answer (src/scanner.rt).
unfoldable pub kind_number : FaultKind → ℕ
kind_number ForbiddenCharacter = Number.forbidden_character
kind_number BadString = Number.bad_string
kind_number UnpairedBracket = Number.unpaired_bracket
kind_number TooDeep = Number.too_deep

unfoldable pub answer_number : Result (Unit {0}) Fault → ℕ
answer_number (Ok x) = Number.ok
answer_number (Err f) = kind_number f.kind

unfoldable pub answer_place : Result (Unit {0}) Fault → ℕ
answer_place (Ok x) = 0
answer_place (Err f) = f.place
