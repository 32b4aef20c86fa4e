-- The pieces of a spelling as the code puts them together.
use Prim.Native.Nat.{ℕ, ◌+◌, ◌-◌, ◌/◌, ◌%◌, ◌<◌, ◌≤◌}
use mathlib.Core.Path.{◌≡◌, refl, sym, ap, ◌∙◌}
use mathlib.Core.Bool.{Bool, true, false, cond, ◌||◌}
use mathlib.Core.List.{List, [], ◌∷◌, ◌++◌, append-nil}
use native.Mathlib.Numerals.{add-one}
use native.Mathlib.Omega.{arith}
use lib.Dec.{eqb, ltb}
use lib.ListN.{length, get_or, take, drop}
use lib.Seq.{take-suc, take_all}
use borrow.Author.Tests.{eq-eqb, ne_eqb}
use Rattle.std.proofs.Common.{Option, None, Some}
use Rattle.elements.specs.rules.Bytes.{codes}
use Rattle.elements.specs.rules.Class as Class
use Rattle.base.specs.rules.Limits.{missing}
use Rattle.document.specs.rules.Document.{size, empty, holds}
use Rattle.document.specs.rules.Canonical.{value_before, size_before, hex_byte, unicode_before, byte_before, bytes_before, quoted_before, digit, digits, brackets_before, string_before, inside_before}
use Rattle.printer.specs.internal.Inside.{trees_inside, value_inside, size_inside, size_of, size_shown}
use Rattle.printer.specs.internal.Pieces.{letter_of, leading_of}
use Rattle.printer.proofs.Appended.{bytes_append, string_append}

abbrev pick : {A : Type 0} → Bool → Bool → Bool → Bool → A → A → A → A → A → A
pick p q r s a b c d e = cond p a (cond q b (cond r c (cond s d e)))

-- The byte of a string by the letter of its escape.
module _ (x : List ℕ) where
  lettered : (p q r s : Bool) (l : ℕ) → Some l ≡ pick p q r s (Some 0x22) (Some 0x6E) (Some 0x72) (Some 0x74) None
      → 0x5C ∷ l ∷ [] ≡ pick {A = List ℕ} p q r s (0x5C ∷ 0x22 ∷ []) (0x5C ∷ 0x6E ∷ []) (0x5C ∷ 0x72 ∷ []) (0x5C ∷ 0x74 ∷ []) x
  lettered true q r s l e = cc
  lettered false true r s l e = cc
  lettered false false true s l e = cc
  lettered false false false true l e = cc
  lettered false false false false l e = cc

  unlettered : (p q r s : Bool) → ◌≡◌ {A = Option ℕ} None (pick p q r s (Some 0x22) (Some 0x6E) (Some 0x72) (Some 0x74) None)
      → pick {A = List ℕ} p q r s (0x5C ∷ 0x22 ∷ []) (0x5C ∷ 0x6E ∷ []) (0x5C ∷ 0x72 ∷ []) (0x5C ∷ 0x74 ∷ []) x ≡ x
  unlettered true q r s e = cc
  unlettered false true r s e = cc
  unlettered false false true s e = cc
  unlettered false false false true e = cc
  unlettered false false false false e = refl

module _ (b : ℕ) where
  pub byte_lettered : (l : ℕ) → Some l ≡ letter_of b → 0x5C ∷ l ∷ [] ≡ byte_before b []
  unfolding byte_before letter_of
  byte_lettered l e = lettered _ (eqb b 0x22) (eqb b 0x0A) (eqb b 0x0D) (eqb b 0x09) l e

  pub byte_coded : None ≡ letter_of b → (t : Bool) → t ≡ (eqb b 0x5C || ltb b 0x20 || eqb b 0x7F) → t ≡ true → (x y : ℕ) → x ≡ hex_byte (b / 16) → y ≡ hex_byte (b % 16)
      → 0x5C ∷ 0x75 ∷ 0x30 ∷ 0x30 ∷ x ∷ y ∷ [] ≡ byte_before b []
  unfolding byte_before letter_of unicode_before
  byte_coded h t f g x y p q =
      sym (unlettered _ (eqb b 0x22) (eqb b 0x0A) (eqb b 0x0D) (eqb b 0x09) h ∙ rw (← f, g, p, q))

  pub byte_raw : None ≡ letter_of b → (t : Bool) → t ≡ (eqb b 0x5C || ltb b 0x20 || eqb b 0x7F) → t ≡ false → b ∷ [] ≡ byte_before b []
  unfolding byte_before letter_of
  byte_raw h t f g = sym (unlettered _ (eqb b 0x22) (eqb b 0x0A) (eqb b 0x0D) (eqb b 0x09) h ∙ rw (← f, g))

-- The bytes of a string, one after the other.
pub bytes_both : (s t : List ℕ) → bytes_before (s ++ t) [] ≡ bytes_before s [] ++ bytes_before t []
unfolding bytes_before
bytes_both s t = go s ∙ bytes_append s (bytes_before t [])
  where
    go : (u : List ℕ) → bytes_before (u ++ t) [] ≡ bytes_before u (bytes_before t [])
    go [] = refl
    go (b ∷ u) = ap (byte_before b) (go u)

pub bytes_more : (bytes : List ℕ) (i : ℕ) → i < length bytes
    → bytes_before (take i bytes) [] ++ byte_before (get_or bytes i 0) [] ≡ bytes_before (take (i + 1) bytes) []
unfolding bytes_before
bytes_more bytes i h = sym (rw (add-one i, take-suc bytes i 0) (bytes_both (take i bytes) (get_or bytes i 0 ∷ [])))

pub bytes_all : (bytes : List ℕ) (i : ℕ) → length bytes ≤ i → bytes_before (take i bytes) [] ≡ bytes_before bytes []
bytes_all bytes i h = ap (λ (l : List ℕ). bytes_before l []) (take_all i bytes h)

pub quoted_parts : (s : List ℕ) → (0x22 ∷ []) ++ (bytes_before s [] ++ (0x22 ∷ [])) ≡ quoted_before s []
unfolding quoted_before
quoted_parts s = ap (λ (l : List ℕ). 0x22 ∷ l) (sym (bytes_append s (0x22 ∷ [])))

-- A number's digits are the last of five.
leading_go : (p q r s : Bool) → pick {A = ℕ} p q r s 4 3 2 1 0 ≤ 5
leading_go true q r s = omega arith
leading_go false true r s = omega arith
leading_go false false true s = omega arith
leading_go false false false true = omega arith
leading_go false false false false = omega arith

pub leading_most : (n : ℕ) → leading_of n ≤ 5
unfolding leading_of
leading_most n = leading_go (ltb n 10) (ltb n 100) (ltb n 1000) (ltb n 10000)

five_go : (p q r s : Bool) (a b c d e : ℕ)
    → take (5 - pick {A = ℕ} p q r s 4 3 2 1 0) (drop (pick {A = ℕ} p q r s 4 3 2 1 0) (a ∷ b ∷ c ∷ d ∷ e ∷ []))
    ≡ pick {A = List ℕ} p q r s (e ∷ []) (d ∷ e ∷ []) (c ∷ d ∷ e ∷ []) (b ∷ c ∷ d ∷ e ∷ []) (a ∷ b ∷ c ∷ d ∷ e ∷ [])
five_go true q r s a b c d e = refl
five_go false true r s a b c d e = refl
five_go false false true s a b c d e = refl
five_go false false false true a b c d e = refl
five_go false false false false a b c d e = refl

pub last_digits : (n f a b c d e : ℕ) → f ≡ leading_of n → a ≡ digit (n / 10000) → b ≡ digit (n / 1000) → c ≡ digit (n / 100) → d ≡ digit (n / 10) → e ≡ digit n
    → take (5 - f) (drop f (a ∷ b ∷ c ∷ d ∷ e ∷ [])) ≡ digits n
unfolding digits leading_of
last_digits n f a b c d e g p q r s t = rw (g, p, q, r, s, t) (five_go (ltb n 10) (ltb n 100) (ltb n 1000) (ltb n 10000) _ _ _ _ _)

-- "ids and types as symbols, targets and texts quoted"
pub string_target : (c : ℕ) (s : List ℕ) → c ≡ Class.target → quoted_before s [] ≡ string_before c s []
unfolding string_before
string_target c s e = rw (eq-eqb c Class.target e)

pub string_symbol : (c : ℕ) (s : List ℕ) → (c ≡ Class.target → ⊥) → s ≡ string_before c s []
unfolding string_before
string_symbol c s e = rw (ne_eqb c Class.target e) (sym (append-nil s))

pub value_none : (c : ℕ) (s : List ℕ) → length s ≡ 0 → [] ≡ value_inside c s
unfolding value_inside trees_inside value_before inside_before
value_none c [] e = refl
value_none c (b ∷ s) e = absurd (omega arith)

pub value_parts : (c : ℕ) (s : List ℕ) → (length s ≡ 0 → ⊥)
    → (0x20 ∷ 0x5B ∷ []) ++ (Class.name_of c ++ ((0x20 ∷ []) ++ (string_before c s [] ++ (0x5D ∷ [])))) ≡ value_inside c s
unfolding value_inside trees_inside value_before inside_before brackets_before
value_parts c [] h = absurd (h refl)
value_parts c (b ∷ s) h = ap (λ (l : List ℕ). 0x20 ∷ 0x5B ∷ (Class.name_of c ++ (0x20 ∷ l))) (sym (string_append c (b ∷ s) (0x5D ∷ [])))

pub shown_none : [] ≡ size_shown None
unfolding size_shown
shown_none = refl

pub shown_parts : (w h : ℕ)
    → (0x20 ∷ 0x5B ∷ 0x73 ∷ 0x69 ∷ 0x7A ∷ 0x65 ∷ 0x20 ∷ []) ++ (digits w ++ ((0x20 ∷ []) ++ (digits h ++ (0x5D ∷ [])))) ≡ size_shown (Some (w, h))
unfolding size_shown trees_inside inside_before brackets_before Class.name_of Class.name_in Class.names Class.as_name codes
shown_parts w h = refl

pub shown_inside : (w h : ℕ) → size_shown (size_of w h) ≡ size_inside w h
unfolding size_shown size_of size_inside trees_inside size_before inside_before
shown_inside w h = go (eqb w missing)
  where
    go : (b : Bool) → size_shown (cond b None (Some (w, h))) ≡ trees_inside (cond b empty (holds (size w h) empty))
    go true = refl
    go false = refl

pub size_none : (w h : ℕ) → w ≡ missing → [] ≡ size_inside w h
unfolding size_inside trees_inside size_before inside_before
size_none w h e = rw (eq-eqb w missing e)

pub size_parts : (w h : ℕ) → (w ≡ missing → ⊥)
    → (0x20 ∷ 0x5B ∷ 0x73 ∷ 0x69 ∷ 0x7A ∷ 0x65 ∷ 0x20 ∷ []) ++ (digits w ++ ((0x20 ∷ []) ++ (digits h ++ (0x5D ∷ [])))) ≡ size_inside w h
unfolding size_inside trees_inside size_before inside_before brackets_before Class.name_of Class.name_in Class.names Class.as_name codes
size_parts w h e = rw (ne_eqb w missing e)
