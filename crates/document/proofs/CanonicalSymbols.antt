-- The symbols of the canonical spelling: names, ids, types and numbers are ordinary ASCII bytes. Document 01, "Canonical spelling".
use Prim.Native.Nat.{ℕ, ◌+◌, ◌-◌, ◌*◌, ◌/◌, ◌≤◌, ◌<◌}
use mathlib.Core.Path.{◌≡◌, refl}
use mathlib.Core.Bool.{Bool, not, ◌&&◌, ◌||◌}
use mathlib.Core.List.{List, [], ◌∷◌, ◌++◌, append-nil}
use native.Mathlib.Omega.{arith}
use lib.Dec.{T, eqb, leb, ltb, leb→le, le→leb, lt→ltb, eqb→eq, not_T}
use lib.ListN.{length}
use borrow.Author.Tests.{ltb-true, ltb-false}
use Rattle.base.proofs.Booleans.{cond_case, bool_case, both, both_true, or_left, or_right, T_true, false_not_T}
use Rattle.base.proofs.Tables.{below, each_below}
use Rattle.utf8.specs.rules.Scalar.{IsUtf8}
use Rattle.utf8.proofs.Agree.{nil_utf8}
use Rattle.elements.specs.rules.Class as Class
use Rattle.elements.specs.rules.Characters.{is_digit, is_letter, type_character, id_character, character_of}
use Rattle.syntax.specs.rules.Byte.{byte_class, ordinary_class, is_ordinary}
use Rattle.syntax.specs.rules.Syntax.{are_ordinary}
use Rattle.elements.proofs.Characters.{none_high}
use Rattle.document.specs.rules.Value.{non_empty, every, is_decimal, decimal_after, names_block, target_character}
use Rattle.document.specs.rules.Spelling.{WritesNumber}
use Rattle.document.specs.rules.Canonical.{digit, digits}
use Rattle.document.proofs.RuleClasses.{leads}
use Rattle.document.proofs.CanonicalStrings.{is_ascii, ascii_before}

-- What passes one test at every byte passes another.
every_map : (p q : ℕ → Bool) → ((b : ℕ) → T (p b) → T (q b)) → (s : List ℕ) → T (every p s) → T (every q s)
unfolding every
every_map p q f [] t = tt
every_map p q f (b ∷ s) t =
    let (now, later) = both (p b) (every p s) t in
    both_true (q b) (every q s) (f b now) (every_map p q f s later)

-- A byte of a symbol that is ASCII.
unfoldable pub is_plain : ℕ → Bool
is_plain b = is_ordinary b && is_ascii b

plain_ordinary : (s : List ℕ) → T (every is_plain s) → T (are_ordinary s)
unfolding every is_plain are_ordinary
plain_ordinary [] t = tt
plain_ordinary (b ∷ s) t =
    let (now, later) = both (is_plain b) (every is_plain s) t in
    both_true (is_ordinary b) (are_ordinary s) (both (is_ordinary b) (is_ascii b) now).0 (plain_ordinary s later)

plain_ascii : (b : ℕ) → T (is_plain b) → T (is_ascii b)
unfolding is_plain
plain_ascii b t = (both (is_ordinary b) (is_ascii b) t).1

-- A symbol has a first byte.
unfoldable pub is_symbol : List ℕ → Bool
is_symbol s = non_empty s && every is_plain s

module _ (s : List ℕ) (h : T (is_symbol s)) where
  pub symbol_ordinary : T (are_ordinary s)
  unfolding is_symbol
  symbol_ordinary = plain_ordinary s (both (non_empty s) (every is_plain s) h).1

  pub symbol_before : (k : List ℕ) → IsUtf8 k → IsUtf8 (s ++ k)
  unfolding is_symbol
  symbol_before k u = ascii_before s k (every_map is_plain is_ascii plain_ascii s (both (non_empty s) (every is_plain s) h).1) u

-- Bytes of a sort whose bytes are all a symbol's.
pub symbol_of : (p : ℕ → Bool) → ((b : ℕ) → T (p b) → T (is_plain b)) → (s : List ℕ) → T (non_empty s) → T (every p s) → T (is_symbol s)
unfolding is_symbol
symbol_of p f s some all = both_true (non_empty s) (every is_plain s) some (every_map p is_plain f s all)

-- ---- characters

-- A character of a sort is below 0x80.
character_ascii : (n b : ℕ) → T (character_of n b) → b < 0x80
character_ascii n b t =
    bool_case (ltb b 0x80) (ltb-true b 0x80) (λ e. absurd (false_not_T (none_high b n (ltb-false b 0x80 e)) t))

id_test : ℕ → Bool
id_test b = not (id_character b) || is_plain b

all_ids : T (below id_test 128)
unfolding id_test id_character type_character is_letter is_digit is_plain is_ordinary ordinary_class byte_class is_ascii
all_ids = tt

pub id_plain : (b : ℕ) → T (id_character b) → T (is_plain b)
unfolding id_test character_of
id_plain b t = rw (T_true (id_character b) t) at (each_below id_test 128 b (character_ascii 1 b t) all_ids)

pub type_plain : (b : ℕ) → T (type_character b) → T (is_plain b)
unfolding id_character
type_plain b t = id_plain b (or_left (type_character b || eqb b 0x2D) (eqb b 0x2E) (or_left (type_character b) (eqb b 0x2D) t))

digit_plain : (b : ℕ) → T (is_digit b) → T (is_plain b)
unfolding type_character
digit_plain b t = type_plain b (or_left (is_letter b || is_digit b) (eqb b 0x5F) (or_right (is_letter b) (is_digit b) t))

target_ascii : (k b : ℕ) → T (target_character k b) → T (is_ascii b)
unfolding target_character character_of is_ascii
target_ascii k b =
    cond_case (λ (t : Bool). T t → T (is_ascii b)) (names_block k)
    (λ e t. lt→ltb b 0x80 (character_ascii 1 b t))
    (λ e t. lt→ltb b 0x80 (character_ascii 2 b t))

pub target_utf8 : (k : ℕ) (s : List ℕ) → T (every (target_character k) s) → IsUtf8 s
target_utf8 k s t =
    rw (append-nil s) at (ascii_before s [] (every_map (target_character k) is_ascii (target_ascii k) s t) nil_utf8)

-- ---- names

name_test : ℕ → Bool
name_test c = not (leads c) || is_symbol (Class.name_of c)

all_names : T (below name_test 32)
unfolding name_test is_symbol non_empty every Class.name_of Class.name_in Class.names is_plain is_ordinary ordinary_class byte_class is_ascii
all_names = tt

-- A class that leads a list has a symbol as its name.
pub name_symbol : (c : ℕ) → T (leads c) → c < 32 → T (is_symbol (Class.name_of c))
unfolding name_test
name_symbol c t h = rw (T_true (leads c) t) at (each_below name_test 32 c h all_names)

pub element_symbol : (c : ℕ) → T (Class.is_element c) → T (is_symbol (Class.name_of c))
unfolding Class.is_element Class.is_kind
element_symbol c t =
    let (kind, other) = both (leb 1 c && leb c 25) (not (eqb c Class.text)) t in
    let (low, high) = both (leb 1 c) (leb c 25) kind in
    let some : T (not (eqb c 0)) = not_T (eqb c 0) (λ e. omega (arith, eqb→eq c 0 e, leb→le 1 c low)) in
    name_symbol c (both_true (not (eqb c 0)) (not (eqb c Class.text)) some other) (omega (arith, leb→le c 25 high))

-- ---- numbers

digit_is_lem : (n : ℕ) → T (is_digit (digit n))
unfolding is_digit digit
digit_is_lem n = both_true (leb 0x30 (digit n)) (leb (digit n) 0x39) (le→leb 0x30 (digit n) (omega arith)) (le→leb (digit n) 0x39 (omega arith))

-- Digits that, after those of m, are the last ones of n.
record Ending (n m : ℕ) (ds : List ℕ) : Type 0 where
  are_digits : T (every is_digit ds)
  stands_for : decimal_after m ds ≡ n

ended : (n : ℕ) → Ending n n []
unfolding every decimal_after
ended n = record { are_digits = tt; stands_for = refl }

-- One digit more in front.
more : (n m : ℕ) (ds : List ℕ) → Ending n m ds → (l : ℕ) → l ≡ m / 10 → Ending n l (digit m ∷ ds)
unfolding every decimal_after digit
more n m ds d l e =
    let next : l * 10 + (digit m - 0x30) ≡ m = omega arith in
    record { are_digits = both_true (is_digit (digit m)) (every is_digit ds) (digit_is_lem m) d.are_digits; stands_for = rw next d.stands_for }

-- All the digits of n.
whole : (n m : ℕ) (ds : List ℕ) → T (non_empty ds && leb (length ds) 5) → Ending n m ds → m ≡ 0 → WritesNumber n ds
unfolding is_decimal
whole n m ds t d e =
    record { decimal = both_true (non_empty ds && leb (length ds) 5) (every is_digit ds) t d.are_digits; stands_for = rw e at d.stands_for }

-- A number up to 65,535 is written by its digits, which are a symbol.
pub digits_number : (n : ℕ) → n ≤ 65535 → WritesNumber n (digits n)
unfolding digits non_empty
digits_number n h =
    let one : Ending n (n / 10) (digit n ∷ []) = more n n [] (ended n) (n / 10) refl in
    let two = more n (n / 10) (digit n ∷ []) one (n / 100) (omega arith) in
    let three = more n (n / 100) (digit (n / 10) ∷ digit n ∷ []) two (n / 1000) (omega arith) in
    let four = more n (n / 1000) (digit (n / 100) ∷ digit (n / 10) ∷ digit n ∷ []) three (n / 10000) (omega arith) in
    let five = more n (n / 10000) (digit (n / 1000) ∷ digit (n / 100) ∷ digit (n / 10) ∷ digit n ∷ []) four (n / 100000) (omega arith) in
    cond_case (WritesNumber n) (ltb n 10) (λ e. whole n (n / 10) _ tt one (omega (arith, ltb-true n 10 e)))
    (λ e. cond_case (WritesNumber n) (ltb n 100) (λ f. whole n (n / 100) _ tt two (omega (arith, ltb-true n 100 f)))
    (λ f. cond_case (WritesNumber n) (ltb n 1000) (λ g. whole n (n / 1000) _ tt three (omega (arith, ltb-true n 1000 g)))
    (λ g. cond_case (WritesNumber n) (ltb n 10000) (λ i. whole n (n / 10000) _ tt four (omega (arith, ltb-true n 10000 i)))
    (λ i. whole n (n / 100000) _ tt five (omega arith)))))

pub digits_symbol : (n : ℕ) → n ≤ 65535 → T (is_symbol (digits n))
unfolding is_decimal
digits_symbol n h =
    let (few, all) = both (non_empty (digits n) && leb (length (digits n)) 5) (every is_digit (digits n)) (digits_number n h).decimal in
    symbol_of is_digit digit_plain (digits n) (both (non_empty (digits n)) (leb (length (digits n)) 5) few).0 all
