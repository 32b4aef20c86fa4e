-- The table of `specs/reference/Sequence.antt` and the encodings of `specs/rules/Scalar.antt` say the same: a text is valid up to its end exactly where it is UTF-8,
-- and up to p exactly where its first ill-formed sequence begins at p. The texts are all lists of numbers.
-- Beside that: UTF-8 texts join, a UTF-8 text parts before an ASCII byte, and what follows an ASCII byte in front is UTF-8.
use mathlib.Core.Path.{◌≡◌, refl, ap, ap₂, sym, ◌∙◌}
use mathlib.Core.Bool.{Bool, true, ◌&&◌}
use mathlib.Core.List.{List, [], ◌∷◌, ◌++◌, append_assoc, append-nil}
use Prim.Native.Nat.{ℕ, zero, suc, ◌+◌, ◌/◌, ◌≤◌, ◌<◌}
use native.Mathlib.Nat.{add-zero, zero-add, not-suc-le-zero, le_refl}
use native.Mathlib.Omega.{arith}
use lib.Dec.{T, leb, leb→le, le→leb}
use lib.ListN.{length, take, drop, length-append, length-take, length-drop, take-append-drop}
use lib.Seq.{take-length, drop-append_seam, drop-append-add, take-append-add}
use borrow.Author.Tests.{le-leb}
use Rattle.utf8.specs.rules.Scalar.{is_scalar, further, encode, encode_all, all_scalar, IsUtf8, IllFormedAt}
use Rattle.utf8.specs.reference.Sequence.{sequence_length, valid_from, valid_up_to}
use Rattle.base.proofs.Booleans.{cond_case, both, both_true}
use Rattle.utf8.proofs.Decode.{scalar_below, encode_length, nothing_starts, starts_of}
use Rattle.utf8.proofs.Walk.{stop, walk}

-- ---- what is UTF-8

all_high : List ℕ → Bool
all_high [] = true
all_high (b ∷ bs) = leb 0x80 b && all_high bs

high : (n : ℕ) (bs : List ℕ) → T (all_high bs) → T (all_high (further n ∷ bs))
unfolding all_high
high n bs t = both_true (leb 0x80 (further n)) (all_high bs) (le→leb 0x80 (further n) (omega arith)) t

-- An encoding is a first byte, and bytes from 0x80 on; there are none after a first byte below 0x80.
record Bytes (l : List ℕ) : Type 0 where
  first : ℕ
  more : List ℕ
  are_high : T (all_high more)
  alone : first < 0x80 → more ≡ []
  bytes : l ≡ first ∷ more

one_byte : (b : ℕ) → Bytes (b ∷ [])
unfolding all_high
one_byte b = record { first = b; more = []; are_high = tt; alone = λ h. refl; bytes = refl }

bytes : (b : ℕ) (bs : List ℕ) → 0x80 ≤ b → T (all_high bs) → Bytes (b ∷ bs)
bytes b bs h t = record { first = b; more = bs; are_high = t; alone = λ l. absurd (omega arith); bytes = refl }

bytes_of : (n : ℕ) → Bytes (encode n)
unfolding encode all_high
bytes_of n =
    cond_case Bytes (leb n 0x7F) (λ e. one_byte n)
    (λ e. cond_case Bytes (leb n 0x7FF) (λ f. bytes (0xC0 + n / 64) (further n ∷ []) (omega arith) (high n [] tt))
    (λ f. cond_case Bytes (leb n 0xFFFF) (λ g. bytes (0xE0 + n / 4096) (further (n / 64) ∷ further n ∷ []) (omega arith) (high (n / 64) (further n ∷ []) (high n [] tt)))
    (λ g. bytes (0xF0 + n / 262144) (further (n / 4096) ∷ further (n / 64) ∷ further n ∷ []) (omega arith)
    (high (n / 4096) (further (n / 64) ∷ further n ∷ []) (high (n / 64) (further n ∷ []) (high n [] tt))))))

encode_some : (n : ℕ) → 0 < length (encode n)
encode_some n = omega (arith, ap length (bytes_of n).bytes)

pub encode_not_empty : (n : ℕ) (t : List ℕ) → encode n ++ t ≡ [] → ⊥
encode_not_empty n t e = omega (arith, encode_some n, length-append (encode n) t, ap length e)

-- The empty text, an encoding and a byte below 0x80 are UTF-8.
pub nil_utf8 : IsUtf8 []
unfolding encode_all all_scalar
nil_utf8 = record { scalars = []; are_scalar = tt; encoded = refl }

cons_utf8 : (n : ℕ) (s : List ℕ) → T (is_scalar n) → IsUtf8 s → IsUtf8 (encode n ++ s)
unfolding encode_all all_scalar
cons_utf8 n s t u =
    record { scalars = n ∷ u.scalars; are_scalar = both_true (is_scalar n) (all_scalar u.scalars) t u.are_scalar; encoded = rw u.encoded }

pub encode_utf8 : (n : ℕ) → T (is_scalar n) → IsUtf8 (encode n)
encode_utf8 n t = rw (append-nil (encode n)) at (cons_utf8 n [] t nil_utf8)

pub byte_utf8 : (c : ℕ) → c < 0x80 → IsUtf8 (c ∷ [])
unfolding encode
byte_utf8 c h =
    let e : encode c ≡ c ∷ [] = rw (le-leb c 0x7F (omega arith)) in
    rw e at (encode_utf8 c (scalar_below c (omega arith)))

-- ---- the walk through a text, and the encodings

-- A text whose first part is l, taken and dropped at a place past l.
cut : (l rest text : List ℕ) (v m : ℕ) → l ++ rest ≡ text → length l + v ≡ m → (take m text ≡ l ++ take v rest) × (drop m text ≡ drop v rest)
cut l rest text v m e f = rw (← e, ← f) (take-append-add l rest v, drop-append-add l rest v)

-- What is valid is UTF-8, and no sequence stands behind it.
record TextParts (text : List ℕ) : Type 0 where
  valid : IsUtf8 (take (valid_from 0 text) text)
  behind : sequence_length (drop (valid_from 0 text) text) ≡ 0

-- The length bounds how many sequences a text has.
part_step : (fuel : ℕ) (text : List ℕ) → length text ≤ suc fuel → ((s : List ℕ) → length s ≤ fuel → TextParts s) → (n : ℕ) → sequence_length text ≡ n → TextParts text
part_step fuel text h parts zero e =
    let v = stop text e in
    record { valid = rw v nil_utf8; behind = rw v e }
part_step fuel text h parts (suc k) e =
    let u = starts_of text k e in
    let p = parts (drop (suc k) text) (omega (arith, length-drop (suc k) text)) in
    let f : length (encode u.number) + valid_from 0 (drop (suc k) text) ≡ valid_from 0 text = ap (λ (m : ℕ). m + valid_from 0 (drop (suc k) text)) u.size ∙ walk (suc k) text e in
    let c = cut (encode u.number) (drop (suc k) text) text (valid_from 0 (drop (suc k) text)) (valid_from 0 text) u.encoded f in
    record { valid = rw c.0 (cons_utf8 u.number (take (valid_from 0 (drop (suc k) text)) (drop (suc k) text)) u.is_scalar_lem p.valid); behind = rw c.1 p.behind }

part : (fuel : ℕ) (text : List ℕ) → length text ≤ fuel → TextParts text
unfolding valid_from
part zero [] h = record { valid = nil_utf8; behind = nothing_starts }
part zero (b ∷ text) h = absurd (not-suc-le-zero h)
part (suc fuel) text h = part_step fuel text h (part fuel) (sequence_length text) refl

pub valid_utf8 : (text : List ℕ) → valid_up_to text ≡ length text → IsUtf8 text
unfolding valid_up_to
valid_utf8 text e = rw (e, take-length text) at (part (length text) text (le_refl (length text))).valid

-- No encoding stands where no sequence of the table does.
no_encoding_of : (s : List ℕ) → sequence_length s ≡ 0 → (n : ℕ) (rest : List ℕ) → T (is_scalar n) → encode n ++ rest ≡ s → ⊥
no_encoding_of s e n rest t f =
    omega (arith, encode_length n rest t, ap sequence_length f, encode_some n)

pub fault_place : (text : List ℕ) (p : ℕ) → p < length text → valid_up_to text ≡ p → IllFormedAt text p
unfolding valid_up_to
fault_place text p h e =
    let q = part (length text) text (le_refl (length text)) in
    record { inside = h; before = rw e at q.valid; no_encoding = no_encoding_of (drop p text) (rw e at q.behind) }

-- The walk goes over encodings.
encoded_walk : (ns : List ℕ) (rest : List ℕ) → T (all_scalar ns) → valid_from 0 (encode_all ns ++ rest) ≡ length (encode_all ns) + valid_from 0 rest
unfolding all_scalar encode_all
encoded_walk [] rest t = sym (zero-add (valid_from 0 rest))
encoded_walk (n ∷ ns) rest t =
    let (p, q) = both (is_scalar n) (all_scalar ns) t in
    let w = walk (length (encode n)) (encode n ++ (encode_all ns ++ rest)) (encode_length n (encode_all ns ++ rest) p) in
    let d = drop-append_seam (encode n) (encode_all ns ++ rest) in
    rw (append_assoc (encode n) (encode_all ns) rest) (sym w ∙ rw (d, encoded_walk ns rest q) (omega (arith, length-append (encode n) (encode_all ns))))

utf8_walk : (a rest : List ℕ) → IsUtf8 a → valid_from 0 (a ++ rest) ≡ length a + valid_from 0 rest
utf8_walk a rest u = rw u.encoded at (encoded_walk u.scalars rest u.are_scalar)

pub utf8_valid : (text : List ℕ) → IsUtf8 text → valid_up_to text ≡ length text
unfolding valid_up_to valid_from
utf8_valid text u = (rw (append-nil text) at (utf8_walk text [] u)) ∙ add-zero (length text)

pub place_fault : (text : List ℕ) (p : ℕ) → IllFormedAt text p → valid_up_to text ≡ p
unfolding valid_up_to
place_fault text p f =
    let w = rw (take-append-drop p text) at (utf8_walk (take p text) (drop p text) f.before) in
    omega (arith, w, stop (drop p text) (none (sequence_length (drop p text)) refl), length-take p text, f.inside)
  where
    none : (n : ℕ) → sequence_length (drop p text) ≡ n → sequence_length (drop p text) ≡ 0
    none zero e = e
    none (suc k) e =
        let u = starts_of (drop p text) k e in
        absurd (f.no_encoding u.number (drop (suc k) (drop p text)) u.is_scalar_lem u.encoded)

-- ---- texts joined and parted

join : (ns b : List ℕ) → T (all_scalar ns) → IsUtf8 b → IsUtf8 (encode_all ns ++ b)
unfolding encode_all all_scalar
join [] b t u = u
join (n ∷ ns) b t u =
    let (p, q) = both (is_scalar n) (all_scalar ns) t in
    rw (append_assoc (encode n) (encode_all ns) b) (cons_utf8 n (encode_all ns ++ b) p (join ns b q u))

pub utf8_append : (a b : List ℕ) → IsUtf8 a → IsUtf8 b → IsUtf8 (a ++ b)
utf8_append a b u v = rw u.encoded at (join u.scalars b u.are_scalar v)

-- A byte below 0x80 stands behind bytes from 0x80 on, and not among them.
record Behind (l e a r : List ℕ) : Type 0 where
  between : List ℕ
  left : a ≡ l ++ between
  right : e ≡ between ++ r

behind : (l e a b : List ℕ) (c : ℕ) → T (all_high l) → c < 0x80 → l ++ e ≡ a ++ (c ∷ b) → Behind l e a (c ∷ b)
unfolding all_high
behind [] e a b c t h f = record { between = a; left = refl; right = f }
behind (y ∷ l) e [] b c t h f =
    let z : y ≡ c = cc in
    absurd (omega (arith, leb→le 0x80 y (both (leb 0x80 y) (all_high l) t).0))
behind (y ∷ l) e (x ∷ a) b c t h f =
    let z : y ≡ x = cc in
    let g : l ++ e ≡ a ++ (c ∷ b) = cc in
    let r = behind l e a b c (both (leb 0x80 y) (all_high l) t).1 h g in
    record { between = r.between; left = ap₂ (λ p q. p ∷ q) (sym z) r.left; right = r.right }

parted : (ns a b : List ℕ) (c : ℕ) → T (all_scalar ns) → c < 0x80 → encode_all ns ≡ a ++ (c ∷ b) → IsUtf8 a × IsUtf8 (c ∷ b)
unfolding encode_all all_scalar
parted [] a b c t h e = absurd (omega (arith, ap length e, length-append a (c ∷ b)))
parted (n ∷ ns) [] b c t h e = (nil_utf8, record { scalars = n ∷ ns; are_scalar = t; encoded = e })
parted (n ∷ ns) (x ∷ a) b c t h e =
    let (p, q) = both (is_scalar n) (all_scalar ns) t in
    let u = bytes_of n in
    let f : (u.first ∷ u.more) ++ encode_all ns ≡ x ∷ (a ++ (c ∷ b)) = rw u.bytes at e in
    let g : u.more ++ encode_all ns ≡ a ++ (c ∷ b) = cc in
    let r = behind u.more (encode_all ns) a b c u.are_high h g in
    let (v, w) = parted ns r.between b c q h r.right in
    let i : u.first ≡ x = cc in
    let z : encode n ++ r.between ≡ x ∷ a = ap (λ (l : List ℕ). l ++ r.between) u.bytes ∙ ap₂ (λ p q. p ∷ q) i (sym r.left) in
    (rw z at (cons_utf8 n r.between p v), w)

pub utf8_split : (a b : List ℕ) (c : ℕ) → IsUtf8 (a ++ (c ∷ b)) → c < 0x80 → IsUtf8 a × IsUtf8 (c ∷ b)
utf8_split a b c u h = parted u.scalars a b c u.are_scalar h u.encoded

tail_of : (ns : List ℕ) (c : ℕ) (s : List ℕ) → c < 0x80 → T (all_scalar ns) → encode_all ns ≡ c ∷ s → IsUtf8 s
unfolding encode_all all_scalar
tail_of [] c s h t e = let z : ◌≡◌ {A = ℕ} 0 1 = cc in absurd (omega arith)
tail_of (n ∷ ns) c s h t e =
    let u = bytes_of n in
    let f : (u.first ∷ u.more) ++ encode_all ns ≡ c ∷ s = rw u.bytes at e in
    let g : u.first ≡ c = cc in
    let alone : u.more ≡ [] = u.alone (omega arith) in
    let i : u.more ++ encode_all ns ≡ s = cc in
    record { scalars = ns; are_scalar = (both (is_scalar n) (all_scalar ns) t).1; encoded = rw alone at i }

pub utf8_tail : (c : ℕ) (s : List ℕ) → c < 0x80 → IsUtf8 (c ∷ s) → IsUtf8 s
utf8_tail c s h u = tail_of u.scalars c s h u.are_scalar u.encoded
