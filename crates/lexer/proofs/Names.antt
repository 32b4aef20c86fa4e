-- Names told by their first bytes: where a word of ordinary bytes and a space stand, the symbol is that word.
use mathlib.Core.Path.{◌≡◌, refl, ap, ◌∙◌}
use mathlib.Core.Bool.{Bool, true, false, not, cond, ◌&&◌, ◌||◌}
use mathlib.Core.List.{List, [], ◌∷◌, ◌++◌}
use Prim.Native.Nat.{ℕ, suc, ◌+◌, ◌*◌, ◌≤◌, ◌<◌}
use native.Mathlib.Nat.{add-zero}
use native.Mathlib.Omega.{arith}
use native.Mathlib.Numerals.{add-one}
use lib.Dec.{T, eqb, leb, ltb, leb→le, ltb→lt}
use lib.ListN.{length, drop, get_or, drop_of_length-le}
use lib.Seq.{drop-cons}
use borrow.Author.Tests.{eq-eqb, eqb-true}
use Rattle.base.proofs.Booleans.{bool_case, both, and_true, true_T, T_true}
use Rattle.elements.specs.rules.Class.{class_of}
use Rattle.syntax.specs.rules.Byte.{byte_class, ordinary_class, is_blank, is_ordinary}
use Rattle.syntax.specs.rules.Syntax.{are_ordinary}
use Rattle.syntax.specs.reference.Scan.{ordinary_run}
use Rattle.characters.proofs.Symbols.{run_turn, run_stop}
use Rattle.lexer.specs.Token.{blanks, lead_class_at, lead_length}
use Rattle.lexer.specs.internal.Name.{stands, NameTold}

-- A turn of the loop compares one byte; all are compared where none is left.
module _ (text : List ℕ) (i : ℕ) (word : List ℕ) (k : ℕ) where
  pub word_turn : (same : Bool) → k < length word → i + k < length text
      → (same && eqb (get_or text (i + k) 0) (get_or word k 0)) && stands text (i + (k + 1)) (drop (k + 1) word) ≡ same && stands text (i + k) (drop k word)
  unfolding stands
  word_turn same h g =
      let next : i + suc k ≡ i + k + 1 = omega arith in
      rw (drop-cons word k 0 h, add-one k, next) (grouped same (eqb (get_or text (i + k) 0) (get_or word k 0)) (stands text (i + k + 1) (drop (suc k) word)))
    where
      grouped : (x y z : Bool) → (x && y) && z ≡ x && (y && z)
      grouped true y z = refl
      grouped false y z = refl

  pub word_done : (same : Bool) → length word ≤ k → same && stands text (i + k) (drop k word) ≡ same
  unfolding stands
  word_done same h = rw (drop_of_length-le word h) (and_true same)

pub word_start : (text : List ℕ) (i : ℕ) (word : List ℕ) → true && stands text (i + 0) (drop 0 word) ≡ stands text i word
word_start text i word = rw (add-zero i)

-- Nothing is told.
pub not_told : (s : List ℕ) → NameTold s 0
not_told s = record { class_is = λ z. absurd (z refl); length_is = λ z. absurd (z refl) }

module _ (text : List ℕ) where
  first_stands : (i b : ℕ) (w : List ℕ) → stands text i (b ∷ w) ≡ true → (get_or text i 0 ≡ b) × (stands text (i + 1) w ≡ true)
  unfolding stands
  first_stands i b w e =
      let (now, later) = both (eqb (get_or text i 0) b) (stands text (i + 1) w) (true_T e) in
      (eqb-true _ b (T_true _ now), T_true _ later)

  space : is_ordinary 0x20 ≡ false
  unfolding is_ordinary ordinary_class byte_class
  space = refl

  -- The symbol where a word and a space stand.
  run_is : (w : List ℕ) (i : ℕ) → i + length w < length text → T (are_ordinary w) → stands text i (w ++ (0x20 ∷ [])) ≡ true → ordinary_run (drop i text) ≡ w
  unfolding are_ordinary
  run_is [] i h o e = run_stop text i (omega arith) (ap is_ordinary (first_stands i 0x20 [] e).0 ∙ space)
  run_is (b ∷ w) i h o e =
      let (now, later) = both (is_ordinary b) (are_ordinary w) o in
      let (here, after) = first_stands i b (w ++ (0x20 ∷ [])) e in
      rw (run_turn text i (omega arith) (ap is_ordinary here ∙ T_true _ now), here) (ap (λ (l : List ℕ). b ∷ l) (run_is w (i + 1) (omega arith) later after))

  no_blank : (i b : ℕ) → i < length text → get_or text i 0 ≡ b → T (not (is_blank b || eqb b 0x0D)) → blanks (drop i text) ≡ 0
  unfolding blanks
  no_blank i b h e t = rw (drop-cons text i 0 h, e) (go (is_blank b) (eqb b 0x0D) t)
    where
      go : (x y : Bool) → T (not (x || y)) → cond (x || (y && eqb (get_or (drop (suc i) text) 0 0) 0x0A)) (suc (blanks (drop (suc i) text))) 0 ≡ 0
      go true y t = absurd t
      go false true t = absurd t
      go false false t = refl

-- What is asked of the word b ∷ w, by one computed test.
unfoldable pub is_name_like : ℕ → List ℕ → Bool
is_name_like b w = are_ordinary (b ∷ w) && (not (is_blank b || eqb b 0x0D) && (leb (length w) 14 && ltb (class_of (b ∷ w)) 32))

-- A name that begins with b and goes on with the bytes w, and a space, in one number r.
module _ (text : List ℕ) (i b : ℕ) (w : List ℕ) (t : T (is_name_like b w)) (h : i + 16 ≤ length text) (e : get_or text i 0 ≡ b) where
  pub name_told : stands text (i + 1) (w ++ (0x20 ∷ [])) ≡ true → {r : ℕ} → r ≡ 32 * (length w + 1) + class_of (b ∷ w) → NameTold (drop i text) r
  unfolding lead_class_at lead_length stands is_name_like
  name_told f {r} q =
      let (o, u) = both (are_ordinary (b ∷ w)) _ t in
      let (n, v) = both (not (is_blank b || eqb b 0x0D)) _ u in
      let (l, c) = both (leb (length w) 14) _ v in
      let few : length w ≤ 14 = leb→le (length w) 14 l in
      let known : class_of (b ∷ w) < 32 = ltb→lt (class_of (b ∷ w)) 32 c in
      let run : ordinary_run (drop i text) ≡ b ∷ w = run_is text (b ∷ w) i (omega arith) o (rw (eq-eqb (get_or text i 0) b e) f) in
      let none : blanks (drop i text) ≡ 0 = no_blank text i b (omega arith) e n in
      record { class_is = λ z. rw (none, run) (omega arith); length_is = λ z. rw (none, run) (omega arith) }

  -- Where the word stands or nothing is told.
  pub only_told : {r name : ℕ} → r ≡ cond (stands text (i + 1) (w ++ (0x20 ∷ []))) name 0 → name ≡ 32 * (length w + 1) + class_of (b ∷ w) → NameTold (drop i text) r
  only_told {r} {name} f q =
      bool_case (stands text (i + 1) (w ++ (0x20 ∷ [])))
      (λ y. name_told y (rw y at f ∙ q))
      (λ n. rw (rw n at f) (not_told (drop i text)))
