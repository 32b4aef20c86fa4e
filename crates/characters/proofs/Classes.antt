-- What the code's class of a byte tells of the class.
use mathlib.Core.Path.{◌≡◌, refl, sym, ◌∙◌, ap}
use mathlib.Core.Bool.{true, false}
use Prim.Native.Nat.{ℕ, ◌<◌}
use native.Mathlib.Omega.{arith}
use lib.Dec.{eqb}
use borrow.Author.Tests.{ne_eqb, le-ltb}
use Rattle.base.proofs.Booleans.{cond_case}
use Rattle.syntax.specs.rules.Byte as Byte
use Rattle.syntax.specs.rules.Byte.{round, square, blank, return, quote, forbidden, ordinary, opening, closing, byte_class, blank_class, ordinary_class, is_blank, is_ordinary}
use Rattle.characters.specs.declared.class.Bracket.{Bracket}
use Rattle.characters.specs.declared.class.Bracket.TheVariants.{Round, Square}
use Rattle.characters.specs.declared.class.ByteClass.{ByteClass}
use Rattle.characters.specs.declared.class.ByteClass.TheVariants.{Blank, Return, Quote, Forbidden, Ordinary, Opening, Closing}
use Rattle.characters.specs.Codes.{bracket_code, code_of}

-- The bracket and the class that the code has so.
unfoldable pub bracket_by : Bracket → Byte.Bracket
bracket_by Round = round
bracket_by Square = square

unfoldable pub class_by : ByteClass → Byte.ByteClass
class_by Blank = blank
class_by Return = return
class_by Quote = quote
class_by Forbidden = forbidden
class_by Ordinary = ordinary
class_by (Opening x) = opening (bracket_by x)
class_by (Closing x) = closing (bracket_by x)

bracket_back : (x : Byte.Bracket) → x ≡ bracket_by (bracket_code x)
unfolding bracket_by bracket_code
bracket_back round = refl
bracket_back square = refl

class_back : (c : Byte.ByteClass) → c ≡ class_by (code_of c)
unfolding class_by code_of
class_back blank = refl
class_back return = refl
class_back quote = refl
class_back forbidden = refl
class_back ordinary = refl
class_back (opening x) = ap opening (bracket_back x)
class_back (closing x) = ap closing (bracket_back x)

pub code_class : (c : Byte.ByteClass) (k : ByteClass) → k ≡ code_of c → c ≡ class_by k
code_class c k e = class_back c ∙ ap class_by (sym e)

-- Whether a byte is white space, and one of a symbol, by its class in the code.
module _ (b : ℕ) (k : ByteClass) (e : k ≡ code_of (byte_class b)) where
  pub blank_yes : k ≡ Blank → is_blank b ≡ true
  unfolding is_blank blank_class class_by
  blank_yes f = rw (code_class (byte_class b) k e, f)

  pub blank_no : (k ≡ Blank → ⊥) → is_blank b ≡ false
  unfolding is_blank blank_class code_of
  blank_no f = go (byte_class b) (λ g. f (e ∙ g))
    where
      go : (c : Byte.ByteClass) → (code_of c ≡ Blank → ⊥) → blank_class c ≡ false
      go blank h = absurd (h refl)
      go return h = refl
      go quote h = refl
      go forbidden h = refl
      go ordinary h = refl
      go (opening x) h = refl
      go (closing x) h = refl

  pub ordinary_yes : k ≡ Ordinary → is_ordinary b ≡ true
  unfolding is_ordinary ordinary_class class_by
  ordinary_yes f = rw (code_class (byte_class b) k e, f)

  pub ordinary_no : (k ≡ Ordinary → ⊥) → is_ordinary b ≡ false
  unfolding is_ordinary ordinary_class code_of
  ordinary_no f = go (byte_class b) (λ g. f (e ∙ g))
    where
      go : (c : Byte.ByteClass) → (code_of c ≡ Ordinary → ⊥) → ordinary_class c ≡ false
      go blank h = refl
      go return h = refl
      go quote h = refl
      go forbidden h = refl
      go ordinary h = absurd (h refl)
      go (opening x) h = refl
      go (closing x) h = refl

-- A byte above the space is no white space.
pub above_space : (b : ℕ) → 0x20 < b → is_blank b ≡ false
unfolding is_blank byte_class blank_class
above_space b h =
    rw (ne_eqb b 0x09 (omega arith), ne_eqb b 0x0A (omega arith), ne_eqb b 0x20 (omega arith), ne_eqb b 0x0D (omega arith), le-ltb b 0x20 (omega arith))
    (cond_case NoBlank (eqb b 0x22) (λ e. refl)
    (λ e. cond_case NoBlank (eqb b 0x28) (λ e. refl)
    (λ e. cond_case NoBlank (eqb b 0x29) (λ e. refl)
    (λ e. cond_case NoBlank (eqb b 0x5B) (λ e. refl)
    (λ e. cond_case NoBlank (eqb b 0x5D) (λ e. refl) (λ e. refl))))))
  where
    NoBlank : Byte.ByteClass → Type 0
    NoBlank c = blank_class c ≡ false
