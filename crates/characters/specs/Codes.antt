-- The code's own types for those of the rules.
use Rattle.std.specs.Prelude.{ℕ, ◌≡◌}
use Rattle.elements.specs.rules.Characters.{character_of}
use Rattle.syntax.specs.rules.Byte as Byte
use Rattle.characters.specs.declared.class.Bracket.{Bracket}
use Rattle.characters.specs.declared.class.Bracket.TheVariants.{Round, Square}
use Rattle.characters.specs.declared.class.ByteClass.{ByteClass}
use Rattle.characters.specs.declared.class.ByteClass.TheVariants.{Blank, Return, Quote, Forbidden, Ordinary, Opening, Closing}
use Rattle.characters.specs.declared.values.Alphabet.{Alphabet}
use Rattle.characters.specs.declared.values.Alphabet.TheVariants.{«Type», Id, Uri}

-- Brackets and the classes of bytes (src/class.rt).
unfoldable pub bracket_code : Byte.Bracket → Bracket
bracket_code Byte.round = Round
bracket_code Byte.square = Square

unfoldable pub code_of : Byte.ByteClass → ByteClass
code_of Byte.blank = Blank
code_of Byte.return = Return
code_of Byte.quote = Quote
code_of Byte.forbidden = Forbidden
code_of Byte.ordinary = Ordinary
code_of (Byte.opening x) = Opening (bracket_code x)
code_of (Byte.closing x) = Closing (bracket_code x)

-- The sort of characters of an alphabet (src/values.rt).
unfoldable pub alphabet_number : Alphabet → ℕ
alphabet_number «Type» = 0
alphabet_number Id = 1
alphabet_number Uri = 2

-- The alphabet has the characters of this sort.
abbrev pub IsAlphabetOf : ℕ → Alphabet → Type 0
IsAlphabetOf n a = (b : ℕ) → character_of (alphabet_number a) b ≡ character_of n b
