-- What the class of a byte tells of the byte, and which bytes may follow a symbol.
use Prim.Native.Nat.{ℕ}
use mathlib.Core.Path.{◌≡◌, refl}
use mathlib.Core.Bool.{true, false, ◌||◌}
use mathlib.Core.List.{List, [], ◌∷◌}
use lib.Dec.{T, eqb, ltb}
use borrow.Author.Tests.{eqb-true}
use Rattle.base.proofs.Booleans.{cond_case}
use Rattle.syntax.specs.rules.Byte.{Bracket, round, square, ByteClass, blank, return, quote, forbidden, ordinary, opening, closing}
use Rattle.syntax.specs.rules.Byte.{byte_class, open_byte, close_byte, same_bracket, blank_class, ordinary_class, is_blank, is_ordinary}
use Rattle.syntax.specs.rules.Syntax.{Before, a_symbol, another}

-- What is known of a byte of a class.
abbrev pub ByteOf : ℕ → ByteClass → Type 0
ByteOf b blank = Unit {0}
ByteOf b return = b ≡ 0x0D
ByteOf b quote = b ≡ 0x22
ByteOf b forbidden = Unit {0}
ByteOf b ordinary = Unit {0}
ByteOf b (opening x) = b ≡ open_byte x
ByteOf b (closing x) = b ≡ close_byte x

-- A byte is as its class says.
pub class_byte : (b : ℕ) → ByteOf b (byte_class b)
unfolding byte_class open_byte close_byte
class_byte b =
    cond_case (ByteOf b) (eqb b 0x09 || eqb b 0x0A || eqb b 0x20) (λ e. tt)
    (λ e. cond_case (ByteOf b) (eqb b 0x0D) (eqb-true b 0x0D)
    (λ e. cond_case (ByteOf b) (ltb b 0x20) (λ e. tt)
    (λ e. cond_case (ByteOf b) (eqb b 0x22) (eqb-true b 0x22)
    (λ e. cond_case (ByteOf b) (eqb b 0x28) (eqb-true b 0x28)
    (λ e. cond_case (ByteOf b) (eqb b 0x29) (eqb-true b 0x29)
    (λ e. cond_case (ByteOf b) (eqb b 0x5B) (eqb-true b 0x5B)
    (λ e. cond_case (ByteOf b) (eqb b 0x5D) (eqb-true b 0x5D) (λ e. tt))))))))

pub open_class : (x : Bracket) → byte_class (open_byte x) ≡ opening x
unfolding byte_class open_byte
open_class round = refl
open_class square = refl

pub close_class : (x : Bracket) → byte_class (close_byte x) ≡ closing x
unfolding byte_class close_byte
close_class round = refl
close_class square = refl

pub blank_class_lem : (b : ℕ) → T (is_blank b) → byte_class b ≡ blank
unfolding is_blank blank_class
blank_class_lem b = go (byte_class b)
  where
    go : (c : ByteClass) → T (blank_class c) → c ≡ blank
    go blank t = refl
    go return t = absurd t
    go quote t = absurd t
    go forbidden t = absurd t
    go ordinary t = absurd t
    go (opening x) t = absurd t
    go (closing x) t = absurd t

pub ordinary_class_lem : (b : ℕ) → T (is_ordinary b) → byte_class b ≡ ordinary
unfolding is_ordinary ordinary_class
ordinary_class_lem b = go (byte_class b)
  where
    go : (c : ByteClass) → T (ordinary_class c) → c ≡ ordinary
    go blank t = absurd t
    go return t = absurd t
    go quote t = absurd t
    go forbidden t = absurd t
    go ordinary t = refl
    go (opening x) t = absurd t
    go (closing x) t = absurd t

pub same_bracket_lem : (b : Bracket) → same_bracket b b ≡ true
unfolding same_bracket
same_bracket_lem round = refl
same_bracket_lem square = refl

pub bracket_same : (b c : Bracket) → same_bracket b c ≡ true → b ≡ c
unfolding same_bracket
bracket_same round round e = refl
bracket_same round square e = cc
bracket_same square round e = cc
bracket_same square square e = refl

-- The bytes may stand after that: after a symbol no byte of a symbol.
unfoldable pub FitsAfter : Before → List ℕ → Type 0
FitsAfter another s = Unit {0}
FitsAfter a_symbol [] = Unit {0}
FitsAfter a_symbol (b ∷ s) = is_ordinary b ≡ false

pub fits_end : (m : Before) → FitsAfter m []
unfolding FitsAfter
fits_end a_symbol = tt
fits_end another = tt

pub fits_class : (m : Before) (b : ℕ) (s : List ℕ) → ordinary_class (byte_class b) ≡ false → FitsAfter m (b ∷ s)
unfolding FitsAfter is_ordinary
fits_class a_symbol b s e = e
fits_class another b s e = tt

pub fits_open : (m : Before) (x : Bracket) (s : List ℕ) → FitsAfter m (open_byte x ∷ s)
unfolding ordinary_class
fits_open m x s = fits_class m (open_byte x) s (rw open_class)

pub fits_close : (m : Before) (x : Bracket) (s : List ℕ) → FitsAfter m (close_byte x ∷ s)
unfolding ordinary_class
fits_close m x s = fits_class m (close_byte x) s (rw close_class)
