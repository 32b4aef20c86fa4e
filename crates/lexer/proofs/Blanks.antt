-- White space, one byte at a time.
use mathlib.Core.Path.{◌≡◌, ap, ◌∙◌}
use mathlib.Core.Bool.{Bool, true, false, cond, ◌&&◌, ◌||◌}
use mathlib.Core.List.{List, [], ◌∷◌}
use Prim.Native.Nat.{ℕ, zero, suc, ◌+◌, ◌≤◌, ◌<◌}
use native.Mathlib.Omega.{arith}
use native.Mathlib.Numerals.{add-one}
use lib.Dec.{eqb}
use borrow.Author.Tests.{eq-eqb, ne_eqb}
use lib.ListN.{length, drop, get_or, drop_of_length-le}
use lib.Seq.{drop-cons, get_or-drop}
use Rattle.syntax.specs.rules.Byte.{byte_class, blank_class, is_blank}
use Rattle.lexer.specs.Token.{blanks}
use Rattle.characters.proofs.Classes.{above_space}

pub blanks_end : (text : List ℕ) (i : ℕ) → length text ≤ i → blanks (drop i text) ≡ 0
unfolding blanks
blanks_end text i h = rw (drop_of_length-le text h)

-- What stands at a place is white space by the class of its byte, or as a carriage return with a line feed after it.
module _ (text : List ℕ) (i : ℕ) (h : i < length text) where
  blanks_here : blanks (drop i text) ≡ cond (is_blank (get_or text i 0) || (eqb (get_or text i 0) 0x0D && eqb (get_or text (i + 1) 0) 0x0A)) (suc (blanks (drop (i + 1) text))) 0
  unfolding blanks
  blanks_here =
      let next : get_or (drop (suc i) text) 0 0 ≡ get_or text (suc i) 0 = get_or-drop (suc i) text 0 0 ∙ ap (λ (n : ℕ). get_or text n 0) (omega arith) in
      rw (drop-cons text i 0 h, next, add-one i)

  -- A turn of the loop passes one byte of white space, or none is left.
  pub blank_on : is_blank (get_or text i 0) ≡ true → i + 1 + blanks (drop (i + 1) text) ≡ i + blanks (drop i text)
  blank_on f =
      let one : blanks (drop i text) ≡ suc (blanks (drop (i + 1) text)) = blanks_here ∙ rw f in
      omega arith

  pub blank_stop : is_blank (get_or text i 0) ≡ false → (get_or text i 0 ≡ 0x0D → ⊥) → blanks (drop i text) ≡ 0
  blank_stop f g = blanks_here ∙ rw (f, ne_eqb (get_or text i 0) 0x0D g)

  module _ (f : is_blank (get_or text i 0) ≡ false) (g : get_or text i 0 ≡ 0x0D) where
    return_here : blanks (drop i text) ≡ cond (eqb (get_or text (i + 1) 0) 0x0A) (suc (blanks (drop (i + 1) text))) 0
    return_here = blanks_here ∙ rw (f, eq-eqb (get_or text i 0) 0x0D g)

    pub return_on : get_or text (i + 1) 0 ≡ 0x0A → i + 1 + blanks (drop (i + 1) text) ≡ i + blanks (drop i text)
    return_on l =
        let one : blanks (drop i text) ≡ suc (blanks (drop (i + 1) text)) = return_here ∙ rw (eq-eqb (get_or text (i + 1) 0) 0x0A l) in
        omega arith

    pub return_stop : (get_or text (i + 1) 0 ≡ 0x0A → ⊥) → blanks (drop i text) ≡ 0
    return_stop l = return_here ∙ rw (ne_eqb (get_or text (i + 1) 0) 0x0A l)

pub blanks_fit : (s : List ℕ) → blanks s ≤ length s
unfolding blanks
blanks_fit [] = omega arith
blanks_fit (b ∷ s) = go (is_blank b || (eqb b 0x0D && eqb (get_or s 0 0) 0x0A)) (blanks_fit s)
  where
    go : (t : Bool) → blanks s ≤ length s → cond t (suc (blanks s)) 0 ≤ suc (length s)
    go true h = omega arith
    go false h = omega arith

-- A byte above the space stands in the text, and is no white space.
pub above_stop : (text : List ℕ) (i : ℕ) → 0x20 < get_or text i 0 → (i < length text) × (blanks (drop i text) ≡ 0)
above_stop text i h =
    let inside : i < length text = within text i h in
    (inside, blank_stop text i inside (above_space (get_or text i 0) h) (λ f. omega arith))
  where
    within : (s : List ℕ) (j : ℕ) → 0x20 < get_or s j 0 → j < length s
    within [] j k = absurd (omega arith)
    within (b ∷ s) zero k = omega arith
    within (b ∷ s) (suc j) k = let rest = within s j k in omega arith

-- One space, and then a byte above it.
pub one_space : (text : List ℕ) (i : ℕ) → i < length text → get_or text i 0 ≡ 0x20 → 0x20 < get_or text (i + 1) 0 → i + 1 ≡ i + blanks (drop i text)
unfolding is_blank blank_class byte_class
one_space text i h e k =
    let blank : is_blank (get_or text i 0) ≡ true = rw e in
    omega (arith, blank_on text i h blank, (above_stop text (i + 1) k).1)
