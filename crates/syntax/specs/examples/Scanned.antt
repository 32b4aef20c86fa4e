-- Texts with what the scan finds in them: the expressions with their places, or the first fault 3 to 6 with its place. Document 01, "Characters and brackets" and "Numbers answered".
-- That the scan finds it is proved in `proofs/Examples.antt`.
use Rattle.std.specs.Prelude.{ℕ, Bool, true, false, List, [], ◌∷◌}
use Prim.Native.String.{String}
use Rattle.utf8.specs.examples.Quoted.{utf8_of}
use Rattle.syntax.specs.rules.Syntax.{Leaf, space, line_end, word, string, raw, letter, number}
use Rattle.syntax.specs.rules.Expression.{Expr, symbol, quoted, list, Exprs, none, and, locate}
use Rattle.syntax.specs.reference.Scan.{Scanned, refused, scanned, scan}

pub data Found : Type 0 where
  fault : ℕ → ℕ → Found
  reads : Exprs → Found

unfoldable pub located_in : Scanned → Found
located_in (refused n p) = fault n p
located_in (scanned f) = reads (locate 0 f)

pub record ScanExample : Type 0 where
  pub text : String
  pub expected : Found

-- What the scan finds where brackets may nest three deep.
unfoldable pub found : ScanExample → Found
found e = located_in (scan 3 (utf8_of e.text))

-- Expressions one after another.
unfoldable pub run : List Expr → Exprs
run [] = none
run (e ∷ es) = and e (run es)

-- A symbol, a string and a list at a place. A string is written as its value.
abbrev sym : ℕ → String → Expr
sym at s = symbol at (utf8_of s)

abbrev str : ℕ → String → Expr
str at s = quoted at (utf8_of s)

abbrev lst : ℕ → List Expr → Expr
lst at es = list at (run es)

abbrev holds : String → List Expr → ScanExample
holds t es = record { text = t; expected = reads (run es) }

abbrev faulty : String → ℕ → ℕ → ScanExample
faulty t n p = record { text = t; expected = fault n p }

unfoldable pub examples : List ScanExample
examples =
    -- White space alone.
    holds "" []
    ∷ holds " \t\n\r\n" []
    -- Each sort of white space between symbols.
    ∷ holds "a b\tc\nd\r\ne" (sym 0 "a" ∷ sym 2 "b" ∷ sym 4 "c" ∷ sym 6 "d" ∷ sym 9 "e" ∷ [])
    -- Two symbols need it: without it they are one.
    ∷ holds "ab" (sym 0 "ab" ∷ [])
    -- None is needed between a symbol and a string, two strings, or before and after a bracket.
    ∷ holds "a\"b\"c" (sym 0 "a" ∷ str 1 "b" ∷ sym 4 "c" ∷ [])
    ∷ holds "\"a\"\"b\"" (str 0 "a" ∷ str 3 "b" ∷ [])
    ∷ holds "a(b)c[d]\"e\"(f)" (sym 0 "a" ∷ lst 1 (sym 2 "b" ∷ []) ∷ sym 4 "c" ∷ lst 5 (sym 6 "d" ∷ []) ∷ str 8 "e" ∷ lst 11 (sym 12 "f" ∷ []) ∷ [])
    -- A symbol "has no escapes": a backslash is a character of it. So is all that has no rule of its own, U+007F, U+0085, U+00A0 and U+FEFF too.
    ∷ holds "a\\nb \\ \\\"c\"" (sym 0 "a\\nb" ∷ sym 5 "\\" ∷ sym 7 "\\" ∷ str 8 "c" ∷ [])
    ∷ holds "#;'{},`|" (sym 0 "#;'{},`|" ∷ [])
    ∷ holds "a\u{7f}b\u{85}\u{a0}\u{feff} é" (sym 0 "a\u{7f}b\u{85}\u{a0}\u{feff}" ∷ sym 11 "é" ∷ [])
    -- U+000D is white space directly before U+000A and nowhere else.
    ∷ holds "a\r\nb" (sym 0 "a" ∷ sym 3 "b" ∷ [])
    ∷ faulty "a\rb" 3 1
    ∷ faulty "a\r\r\n" 3 1
    ∷ faulty "\n\r" 3 1
    ∷ faulty "a\r" 3 1
    -- Other characters below U+0020 are refused outside strings, in the middle of a symbol too.
    ∷ faulty "a\0b" 3 1
    ∷ faulty "a \u{b}" 3 2
    ∷ faulty "\u{c}" 3 0
    ∷ faulty "(a\u{1f})" 3 2
    -- Inside, all may stand raw: control characters, U+000D alone, white space and brackets.
    ∷ holds "\"\0\t\n\u{b}\r\u{1f} ([\u{7f}é\"" (str 0 "\0\t\n\u{b}\r\u{1f} ([\u{7f}é" ∷ [])
    -- Escapes by letter.
    ∷ holds "\"\\r\\n\\t\\\"\"" (str 0 "\r\n\t\"" ∷ [])
    ∷ holds "\"a\\nb\" c" (str 0 "a\nb" ∷ sym 7 "c" ∷ [])
    -- Escapes by number, with digits of either case; each takes six bytes, whatever its value's length.
    ∷ holds "\"\\u0041\\u00e9\\u20AC\"a" (str 0 "Aé€" ∷ sym 20 "a" ∷ [])
    ∷ holds "\"\\u1234\\uabcd\\uABCD\\uAbCd\"" (str 0 "ሴꯍꯍꯍ" ∷ [])
    ∷ holds "\"\\u0000\\u005c\\u0022\\uFFFF\"" (str 0 "\0\\\"\u{ffff}" ∷ [])
    -- Four digits, no more: the fifth is a character of its own.
    ∷ holds "\"\\u00412\"" (str 0 "A2" ∷ [])
    -- "not D800 to DFFF"
    ∷ holds "\"\\uD7FF\\uE000\"" (str 0 "\u{d7ff}\u{e000}" ∷ [])
    ∷ faulty "\"\\uD800\"" 4 1
    ∷ faulty "\"\\uDBFF\"" 4 1
    ∷ faulty "\"\\uDC00\"" 4 1
    ∷ faulty "\"\\uDFFF\"" 4 1
    ∷ faulty "\"a\\ud83d\\ude00\"" 4 2
    -- Bad escapes are refused at the backslash.
    ∷ faulty "\"a\\b\"" 4 2
    ∷ faulty "\"\\\\\"" 4 1
    ∷ faulty "x \"\\u0041\\N\"" 4 9
    ∷ faulty "\"\\U0041\"" 4 1
    ∷ faulty "\"\\u004g\"" 4 1
    ∷ faulty "\"\\u/041\"" 4 1
    ∷ faulty "\"\\u0:41\"" 4 1
    ∷ faulty "\"\\u00@1\"" 4 1
    ∷ faulty "\"\\u004\"" 4 1
    -- "an escape cut off by the end is bad"
    ∷ faulty "\"a\\" 4 2
    ∷ faulty "\"a\\u" 4 2
    ∷ faulty "\"a\\u004" 4 2
    -- An unclosed or empty string is refused at its opening quote.
    ∷ faulty "\"" 4 0
    ∷ faulty "x \"a" 4 2
    ∷ faulty "\"a\\\"" 4 0
    ∷ faulty "\"a\\u0041" 4 0
    ∷ faulty "a \"\"" 4 2
    ∷ faulty "\"a\"\"\" b" 4 3
    -- "`(` closes with `)`, `[` with `]`."
    ∷ holds "([a]b)[()]" (lst 0 (lst 1 (sym 2 "a" ∷ []) ∷ sym 4 "b" ∷ []) ∷ lst 6 (lst 7 [] ∷ []) ∷ [])
    ∷ faulty "(a]" 5 2
    ∷ faulty "[a)" 5 2
    ∷ faulty "([)]" 5 2
    ∷ faulty ")" 5 0
    ∷ faulty "(a) ]" 5 4
    -- A list open at the end is refused at the innermost open bracket; a string that is open there comes before it.
    ∷ faulty "(a" 5 0
    ∷ faulty "(a [b" 5 3
    ∷ faulty "(a [b] c" 5 0
    ∷ faulty "(a \"b" 4 3
    -- One level more than there is room for, at its bracket; as many levels as there is room for, also one after another.
    ∷ holds "[[(a)]]" (lst 0 (lst 1 (lst 2 (sym 3 "a" ∷ []) ∷ []) ∷ []) ∷ [])
    ∷ holds "[[[]][]][]" (lst 0 (lst 1 (lst 2 [] ∷ []) ∷ lst 5 [] ∷ []) ∷ lst 8 [] ∷ [])
    ∷ faulty "[[[[a]]]]" 6 3
    ∷ faulty "[ [[]] [[[" 6 9
    -- The first fault found is the one: a level before the string in it, a string before the level after it, a bracket before a forbidden character.
    ∷ faulty "[[[[\"" 6 3
    ∷ faulty "[[[\"\"[" 4 3
    ∷ faulty ") \0" 5 0
    ∷ faulty "\0 )" 3 0
    ∷ []

-- Leaves of concrete syntax: what may be one and what may not.
pub record Judged : Type 0 where
  pub leaf : Leaf
  pub allowed : Bool

abbrev may : Leaf → Judged
may l = record { leaf = l; allowed = true }

abbrev may_not : Leaf → Judged
may_not l = record { leaf = l; allowed = false }

unfoldable pub leaves : List Judged
leaves =
    may (space 0x20)
    ∷ may_not (space 0x0D)
    ∷ may line_end
    ∷ may (word 0x5C [])
    ∷ may_not (word 0x61 (0x20 ∷ []))
    -- A raw character may be all but the quote and the backslash, which "always starts an escape".
    ∷ may (string (raw 0x0D) (raw 0x00 ∷ []))
    ∷ may_not (string (raw 0x5C) [])
    ∷ may_not (string (raw 0x61) (raw 0x22 ∷ []))
    ∷ may (string (letter 0x6E) [])
    ∷ may_not (string (letter 0x5C) [])
    ∷ may_not (string (letter 0x75) [])
    ∷ may (string (number 0x44 0x37 0x66 0x46) [])
    ∷ may_not (string (number 0x44 0x38 0x30 0x30) [])
    ∷ may_not (string (number 0x30 0x30 0x34 0x67) [])
    ∷ []
