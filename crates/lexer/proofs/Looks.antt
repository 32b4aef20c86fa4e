-- What is seen at a place, by the class of its byte and the names that lead lists.
use mathlib.Core.Path.{◌≡◌, refl, ◌∙◌}
use mathlib.Core.List.{List, ◌∷◌}
use Prim.Native.Nat.{ℕ, ◌+◌, ◌-◌, ◌≤◌, ◌<◌}
use native.Mathlib.Omega.{arith}
use native.Mathlib.Numerals.{add-one}
use lib.ListN.{length, take, drop, get_or, length-drop, drop_of_length-le}
use lib.Seq.{drop-cons, drop-drop}
use Rattle.elements.specs.rules.Bytes.{same, codes}
use Rattle.elements.specs.rules.Class.{class_of, class_in, names, as_name}
use Rattle.syntax.specs.rules.Byte.{byte_class}
use Rattle.syntax.specs.reference.Scan.{ordinary_run}
use Rattle.characters.specs.declared.class.Bracket.{Bracket}
use Rattle.characters.specs.declared.class.ByteClass.{ByteClass}
use Rattle.characters.specs.declared.class.ByteClass.TheVariants.{Blank, Return, Quote, Forbidden, Ordinary, Opening, Closing}
use Rattle.characters.specs.Codes.{code_of}
use Rattle.atoms.specs.Atom.{string_at}
use Rattle.lexer.specs.Token.{blanks, lead_class_at, lead_length, Seen, seen_end, seen_by, seen_first, seen}
use Rattle.characters.proofs.Symbols.{run_fits, run_part}
use Rattle.lexer.proofs.Blanks.{blank_stop, blanks_fit}
use Rattle.characters.proofs.Classes.{class_by, code_class, blank_no}

-- What is seen has these fields.
abbrev pub Fields : ℕ → ℕ → ℕ → ℕ → ℕ → Seen → Type 0
Fields sort place class next size v = (sort ≡ v.sort) × (place ≡ v.place) × (class ≡ v.class) × (next ≡ v.next) × (size ≡ v.length)

-- What has the same fields is seen too.
pub as_said : {sort place class next size s p k n l : ℕ} {v : Seen} → (s ≡ sort) × (p ≡ place) × (k ≡ class) × (n ≡ next) × (l ≡ size)
    → Fields sort place class next size v → Fields s p k n l v
as_said e f = (e.0 ∙ f.0, e.1 ∙ f.1, e.2 ∙ f.2, e.3 ∙ f.3, e.4 ∙ f.4)

pub seen_past : (text : List ℕ) (n : ℕ) → length text ≤ n → Fields 0 n 0 n 0 (seen_first n (drop n text))
unfolding seen_first seen_end
seen_past text n h = rw (drop_of_length-le text h) (refl, refl, refl, refl, refl)

-- The code has this class of the byte at place n of a text.
module _ (text : List ℕ) (n : ℕ) (k : ByteClass) (h : n < length text) (e : k ≡ code_of (byte_class (get_or text n 0))) where
  first_by : seen_first n (drop n text) ≡ seen_by n (get_or text n 0) (drop (n + 1) text) (class_by k)
  unfolding seen_first
  first_by = rw (drop-cons text n 0 h, add-one n, code_class (byte_class (get_or text n 0)) k e)

  whole : get_or text n 0 ∷ drop (n + 1) text ≡ drop n text
  whole = rw (drop-cons text n 0 h, add-one n)

  pub seen_symbol : k ≡ Ordinary
      → Fields 1 n 9 (n + length (ordinary_run (drop n text))) (length (ordinary_run (drop n text))) (seen_first n (drop n text))
  unfolding seen_by class_by
  seen_symbol f = rw (first_by, f, whole) (refl, refl, refl, refl, refl)

  pub seen_string : k ≡ Quote
      → Fields 2 n 9 (string_at n (drop n text)).next (string_at n (drop n text)).length (seen_first n (drop n text))
  unfolding seen_by class_by
  seen_string f = rw (first_by, f, whole) (refl, refl, refl, refl, refl)

  pub seen_list : (x : Bracket) → k ≡ Opening x
      → Fields 3 n (lead_class_at (drop (n + 1) text)) (n + 1 + lead_length (drop (n + 1) text)) 0 (seen_first n (drop n text))
  unfolding seen_by class_by
  seen_list x f = rw (first_by, f) (refl, refl, refl, refl, refl)

  -- A byte that is no part of a symbol and opens nothing ends the run.
  pub seen_other : (k ≡ Ordinary → ⊥) → (k ≡ Quote → ⊥) → ((x : Bracket) → k ≡ Opening x → ⊥) → Fields 0 n 0 n 0 (seen_first n (drop n text))
  unfolding seen_by seen_end class_by
  seen_other p q r = rw first_by (go k p q r)
    where
      go : (c : ByteClass) → (c ≡ Ordinary → ⊥) → (c ≡ Quote → ⊥) → ((x : Bracket) → c ≡ Opening x → ⊥)
          → Fields 0 n 0 n 0 (seen_by n (get_or text n 0) (drop (n + 1) text) (class_by c))
      go Blank p q r = (refl, refl, refl, refl, refl)
      go Return p q r = (refl, refl, refl, refl, refl)
      go Quote p q r = absurd (q refl)
      go Forbidden p q r = (refl, refl, refl, refl, refl)
      go Ordinary p q r = absurd (p refl)
      go (Opening x) p q r = absurd (r x refl)
      go (Closing x) p q r = (refl, refl, refl, refl, refl)

-- White space is passed first.
pub seen_after : (text : List ℕ) (n at : ℕ) → at ≡ n + blanks (drop n text) → seen_first at (drop at text) ≡ seen n (drop n text)
unfolding seen
seen_after text n at e = rw (e, drop-drop (blanks (drop n text)) n text)

-- No white space stands at a closing bracket, where the run ends.
pub seen_closing : (text : List ℕ) (n : ℕ) (k : ByteClass) (x : Bracket) → n < length text → k ≡ code_of (byte_class (get_or text n 0)) → k ≡ Closing x
    → Fields 0 n 0 n 0 (seen n (drop n text))
unfolding byte_class code_of
seen_closing text n k x h e f =
    let not-return : get_or text n 0 ≡ 0x0D → ⊥ = λ g. let one : k ≡ Return = rw g at e in cc in
    let none : blanks (drop n text) ≡ 0 = blank_stop text n h (blank_no (get_or text n 0) k e (λ g. cc)) not-return in
    rw (seen_after text n n (omega arith)) at (seen_other text n k h e (λ g. cc) (λ g. cc) (λ y g. cc))

-- The name that leads a list, whose bracket stands before place n.
module _ (text : List ℕ) (n from next : ℕ) (e : from ≡ n + blanks (drop n text)) (f : next ≡ from + length (ordinary_run (drop from text))) where
  name_from : drop (blanks (drop n text)) (drop n text) ≡ drop from text
  name_from = rw e (drop-drop (blanks (drop n text)) n text)

  pub name_fits : n ≤ length text → next ≤ length text
  name_fits h = omega (arith, blanks_fit (drop n text), run_fits (drop from text), length-drop n text, length-drop from text)

  pub name_class : (class : ℕ) → class ≡ class_of (take (next - from) (drop from text)) → class ≡ lead_class_at (drop n text)
  unfolding lead_class_at
  name_class class g =
      let size : next - from ≡ length (ordinary_run (drop from text)) = omega arith in
      rw name_from (g ∙ rw (size, run_part (drop from text)))

  pub name_end : next ≡ n + lead_length (drop n text)
  unfolding lead_length
  name_end = rw name_from (omega arith)

-- The name ends within the text.
pub lead_fits : (text : List ℕ) (n : ℕ) → n ≤ length text → n + lead_length (drop n text) ≤ length text
lead_fits text n h =
    let from : ℕ = n + blanks (drop n text) in
    let next : ℕ = from + length (ordinary_run (drop from text)) in
    omega (arith, name_fits text n from next refl refl h, name_end text n from next refl refl)

-- No name stands at the end of the text.
pub no_lead : (text : List ℕ) (n : ℕ) → length text ≤ n → (0 ≡ lead_class_at (drop n text)) × (n ≡ n + lead_length (drop n text))
unfolding lead_class_at lead_length blanks ordinary_run class_of class_in names same as_name codes
no_lead text n h = rw (drop_of_length-le text h) (refl, omega arith)
