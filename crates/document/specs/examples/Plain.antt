-- Values once more as plain tables and examples: which targets are ids, which bytes may be a value, which digits are a number and which numbers a size,
-- and how each byte of a string is spelled canonically. `Value` and `Canonical` say it by comparisons; that both agree is computed in `proofs/Plain.antt`.
-- A rule that is misread has to be misread twice, in two shapes. Document 01, "Elements" and "Canonical spelling".
use Rattle.std.specs.Prelude.{ℕ, Bool, true, false, cond, List, [], ◌∷◌, ◌++◌, eqb, get_or}
use Prim.Native.String.{String}
use Rattle.utf8.specs.examples.Quoted.{utf8_of}
use Rattle.elements.specs.rules.Bytes.{codes}
use Rattle.elements.specs.examples.PlainNames.{words, numbers}
use Rattle.elements.specs.examples.PlainCharacters.{of_id, of_uri}
use Rattle.document.specs.rules.Value.{is_value, is_size, decimal_after, is_decimal}
use Rattle.document.specs.rules.Canonical.{byte_before}

-- "ids and the targets of link and footnote-ref": these name a block.
unfoldable pub naming_blocks : List ℕ
unfolding numbers
naming_blocks = numbers "link footnote-ref"

-- The elements with a target, and the characters that it may have.
pub record Target : Type 0 where
  pub kinds : List ℕ
  pub characters : List ℕ

unfoldable pub targets : List Target
unfolding numbers codes of_id of_uri
targets =
    record { kinds = numbers "link footnote-ref"; characters = codes of_id }
    ∷ record { kinds = numbers "image link-ext"; characters = codes of_uri }
    ∷ []

-- "(id t) and (target t) hold one text"
unfoldable pub holding_texts : List ℕ
unfolding numbers
holding_texts = numbers "id target"

-- The parameters of kinds 1 to 7, which commands hold.
unfoldable pub of_blocks : List ℕ
unfolding numbers
of_blocks = numbers "title id type"

-- A value as it stands in an element: is it one?
pub record Valued : Type 0 where
  pub kind : String
  pub parameter : String
  pub value : List ℕ
  pub allowed : Bool

abbrev may : String → String → String → Valued
may k c s = record { kind = k; parameter = c; value = utf8_of s; allowed = true }

abbrev may_not : String → String → String → Valued
may_not k c s = record { kind = k; parameter = c; value = utf8_of s; allowed = false }

unfoldable pub values : List Valued
values =
    may "section" "type" "a_B9"
    ∷ may_not "section" "type" ""
    ∷ may_not "section" "type" "a-b"
    ∷ may_not "section" "type" "a.b"
    ∷ may "section" "id" "a_B9-c.d"
    ∷ may_not "section" "id" ""
    ∷ may_not "section" "id" "a:b"
    -- "Letters and numbers in ids and types are ASCII only."
    ∷ may_not "section" "id" "é"
    ∷ may "link" "target" "-.a"
    ∷ may_not "link" "target" ""
    ∷ may_not "link" "target" "a/b"
    ∷ may "footnote-ref" "target" "a-1"
    ∷ may_not "footnote-ref" "target" "a:1"
    ∷ may "link-ext" "target" "http://a/?b=[c]~"
    ∷ may_not "link-ext" "target" ""
    ∷ may_not "link-ext" "target" "a b"
    ∷ may "image" "target" "!a/b.png"
    ∷ may_not "image" "target" "a\u{7f}"
    ∷ may_not "image" "target" "é"
    -- What no parameter's name leads is no value.
    ∷ may_not "image" "title" "a"
    ∷ []

unfoldable pub first_of : List ℕ → ℕ
first_of [] = 0
first_of (n ∷ ns) = n

unfoldable pub valued : Valued → Bool
unfolding numbers first_of
valued v = is_value (first_of (numbers v.kind)) (first_of (numbers v.parameter)) v.value

-- What a symbol of a size stands for, and nothing where it is none: "one to five decimal digits".
pub record Digits : Type 0 where
  pub symbol : String
  pub number : List ℕ

abbrev is : String → ℕ → Digits
is s n = record { symbol = s; number = n ∷ [] }

abbrev is_none : String → Digits
is_none s = record { symbol = s; number = [] }

unfoldable pub digits : List Digits
digits =
    is_none ""
    ∷ is "0" 0
    ∷ is "9" 9
    ∷ is "01234" 1234
    ∷ is "56789" 56789
    ∷ is "00007" 7
    ∷ is "00000" 0
    ∷ is "65535" 65535
    ∷ is "65536" 65536
    ∷ is "99999" 99999
    ∷ is_none "000001"
    ∷ is_none "123456"
    ∷ is_none "a"
    ∷ is_none "12a"
    ∷ is_none "/1"
    ∷ is_none "1:"
    ∷ is_none "-1"
    ∷ is_none "+1"
    ∷ is_none "1.5"
    ∷ is_none "0x1F"
    ∷ is_none "1,000"
    ∷ is_none "²"
    ∷ []

unfoldable pub number_in : Digits → List ℕ
number_in d = cond (is_decimal (utf8_of d.symbol)) (decimal_after 0 (utf8_of d.symbol) ∷ []) []

-- "at most 65,535 each"
pub record Size : Type 0 where
  pub width : ℕ
  pub height : ℕ
  pub allowed : Bool

abbrev by : ℕ → ℕ → Bool → Size
by w h b = record { width = w; height = h; allowed = b }

unfoldable pub sizes : List Size
sizes =
    by 0 0 true
    ∷ by 640 480 true
    ∷ by 65535 65535 true
    ∷ by 65536 0 false
    ∷ by 0 65536 false
    ∷ by 65536 65536 false
    ∷ by 99999 1 false
    ∷ []

unfoldable pub sized : Size → Bool
sized s = is_size s.width s.height

-- "In strings `\" \n \r \t`; backslash as `\u005c`; other code points below U+0020 and U+007F as `\u` with lower-case hex; the rest raw": those below U+0020 in order.
unfoldable pub controls : List (List ℕ)
unfolding words
controls =
    words "\\u0000 \\u0001 \\u0002 \\u0003 \\u0004 \\u0005 \\u0006 \\u0007 \\u0008 \\t \\n \\u000b \\u000c \\r \\u000e \\u000f"
    ++ words "\\u0010 \\u0011 \\u0012 \\u0013 \\u0014 \\u0015 \\u0016 \\u0017 \\u0018 \\u0019 \\u001a \\u001b \\u001c \\u001d \\u001e \\u001f"

unfoldable pub spelled_as : ℕ → List ℕ
unfolding codes controls
spelled_as b =
    get_or controls b
    (cond (eqb b 0x22) (codes "\\\"")
    (cond (eqb b 0x5C) (codes "\\u005c")
    (cond (eqb b 0x7F) (codes "\\u007f")
    (b ∷ []))))

unfoldable pub spelled_of : ℕ → List ℕ
spelled_of b = byte_before b []
