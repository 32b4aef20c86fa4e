-- What stands at the front of bytes: white space, a symbol, and what `seen` makes of them.
use Prim.Native.Nat.{ℕ, suc, ◌+◌, ◌≤◌, ◌<◌}
use mathlib.Core.Path.{◌≡◌, refl, ap, sym, ◌∙◌}
use mathlib.Core.Bool.{Bool, true, false}
use mathlib.Core.List.{List, [], ◌∷◌}
use native.Mathlib.Nat.{add-zero}
use native.Mathlib.Numerals.{add-one}
use native.Mathlib.Omega.{arith}
use lib.Dec.{eqb, ltb}
use lib.ListN.{length, get_or, drop, length-drop, get_or-eq_default}
use lib.Seq.{drop-cons, get_or-drop}
use borrow.Author.Tests.{ne_eqb, ltb-true, ltb-false}
use Rattle.base.proofs.Booleans.{bool_case}
use Rattle.elements.specs.rules.Class as Class
use Rattle.syntax.specs.rules.Byte.{ByteClass, blank, return, quote, forbidden, ordinary, opening, closing, byte_class, blank_class, is_blank, ordinary_class}
use Rattle.syntax.specs.rules.Byte.{is_ordinary}
use Rattle.syntax.specs.reference.Scan.{ordinary_run}
use Rattle.atoms.specs.Atom.{string_at, atom_value}
use Rattle.lexer.specs.Token.{blanks, lead_class_at, lead_length, seen_by, seen_first, seen}
use Rattle.syntax.proofs.ByteClasses.{ByteOf, class_byte}
use Rattle.characters.proofs.Symbols.{run_fits}
use Rattle.lexer.proofs.Blanks.{blanks_fit}
use Rattle.reader.specs.internal.RunStands.{Has}
use Rattle.reader.proofs.lemmas.walk.QuotedStrings.{StringSpans, string_spans, string_value}

-- ---- lengths

pub lead_length_lem : (s : List ℕ) → lead_length s ≤ length s
unfolding lead_length
lead_length_lem s = omega (arith, run_fits (drop (blanks s) s), length-drop (blanks s) s, blanks_fit s)

-- ---- the first byte

-- The first byte of a symbol, and a byte that is none of a symbol.
pub run_first : (b : ℕ) (s : List ℕ) → byte_class b ≡ ordinary → ordinary_run (b ∷ s) ≡ b ∷ ordinary_run s
unfolding ordinary_run is_ordinary ordinary_class
run_first b s e = rw e

pub run_none : (b : ℕ) (s : List ℕ) → ordinary_class (byte_class b) ≡ false → ordinary_run (b ∷ s) ≡ []
unfolding ordinary_run is_ordinary
run_none b s e = rw e

-- A byte of these classes ends white space.
abbrev pub solid : ByteClass → Bool
solid blank = false
solid return = false
solid quote = true
solid forbidden = true
solid ordinary = true
solid (opening x) = true
solid (closing x) = true

solid_not_blank : (c : ByteClass) → solid c ≡ true → blank_class c ≡ false
unfolding blank_class
solid_not_blank blank e = cc
solid_not_blank return e = refl
solid_not_blank quote e = refl
solid_not_blank forbidden e = refl
solid_not_blank ordinary e = refl
solid_not_blank (opening x) e = refl
solid_not_blank (closing x) e = refl

solid_blanks : (b : ℕ) (s : List ℕ) → solid (byte_class b) ≡ true → blanks (b ∷ s) ≡ 0
unfolding blanks is_blank byte_class
solid_blanks b s e =
    let not-return : eqb b 0x0D ≡ false
    = ne_eqb b 0x0D (λ x. let y : solid (byte_class 0x0D) ≡ true = rw x at e in let z : ◌≡◌ {A = ℕ} 0 1 = cc in omega arith) in
    rw (solid_not_blank (byte_class b) e, not-return)

-- ---- at a place of a text

-- What stands from a byte on.
pub has_drop : (s : List ℕ) (i : ℕ) (c : ByteClass) → Has s i c → drop i s ≡ get_or s i 0 ∷ drop (i + 1) s
has_drop s i c h = let l : i < length s = h.inside in rw (add-one i) (drop-cons s i 0 l)

-- White space leads from place i to place j: what is seen from both is the same.
pub record SeenAlike (s : List ℕ) (i j : ℕ) : Type 0 where
  pub same_seen : seen i (drop i s) ≡ seen j (drop j s)
  pub same_class : lead_class_at (drop i s) ≡ lead_class_at (drop j s)
  pub same_place : i + lead_length (drop i s) ≡ j + lead_length (drop j s)

passes_byte : (s : List ℕ) (i : ℕ) (c : ByteClass) → Has s i c → blanks (get_or s i 0 ∷ drop (i + 1) s) ≡ suc (blanks (drop (i + 1) s)) → SeenAlike s i (i + 1)
unfolding seen lead_class_at lead_length
passes_byte s i c h e =
    let n : ℕ = blanks (drop (i + 1) s) in
    let place : i + suc n ≡ i + 1 + n = omega arith in
    record {
      same_seen = rw (has_drop s i c h, e, place);
      same_class = rw (has_drop s i c h, e);
      same_place = rw (has_drop s i c h, e) (omega arith);
    }

pub passes_blank : (s : List ℕ) (i : ℕ) → Has s i blank → SeenAlike s i (i + 1)
unfolding blanks is_blank blank_class
passes_blank s i h = passes_byte s i blank h (rw h.is)

-- The byte of a line end's first half, and of a quote.
pub return_byte : (b : ℕ) → byte_class b ≡ return → b ≡ 0x0D
return_byte b e = let x : ByteOf b return = rw e at (class_byte b) in x

pub quote_byte : (b : ℕ) → byte_class b ≡ quote → b ≡ 0x22
quote_byte b e = let x : ByteOf b quote = rw e at (class_byte b) in x

pub passes_line_end : (s : List ℕ) (i : ℕ) → Has s i return → get_or s (i + 1) 0 ≡ 0x0A → SeenAlike s i (i + 2)
unfolding blanks is_blank blank_class byte_class
passes_line_end s i h e =
    let b : get_or s i 0 ≡ 0x0D = return_byte (get_or s i 0) h.is in
    let f : get_or (drop (i + 1) s) 0 0 ≡ 0x0A = get_or-drop (i + 1) s 0 0 ∙ rw (add-zero (i + 1)) e in
    let first : SeenAlike s i (i + 1) = passes_byte s i return h (rw (b, f)) in
    let inside : i + 1 < length s = bool_case (ltb (i + 1) (length s)) (ltb-true (i + 1) (length s))
    (λ x. let l : length s ≤ i + 1 = ltb-false (i + 1) (length s) x in let z : 0x0A ≡ 0 = sym e ∙ get_or-eq_default s 0 l in absurd (omega arith)) in
    let second : SeenAlike s (i + 1) (i + 1 + 1) = passes_blank s (i + 1) (record { inside = inside; is = rw e }) in
    let two : i + 1 + 1 ≡ i + 2 = omega arith in
    let last : SeenAlike s (i + 1) (i + 2) = rw two at second in
    record {
      same_seen = first.same_seen ∙ last.same_seen;
      same_class = first.same_class ∙ last.same_class;
      same_place = first.same_place ∙ last.same_place;
    }

-- What is seen where white space ends.
pub record TokenHere (s : List ℕ) (i : ℕ) (c : ByteClass) : Type 0 where
  pub sees : seen i (drop i s) ≡ seen_by i (get_or s i 0) (drop (i + 1) s) c
  pub class : lead_class_at (drop i s) ≡ Class.class_of (ordinary_run (drop i s))
  pub lead_length_is : lead_length (drop i s) ≡ length (ordinary_run (drop i s))

pub here : (s : List ℕ) (i : ℕ) (c : ByteClass) → Has s i c → solid c ≡ true → TokenHere s i c
unfolding seen seen_first lead_class_at lead_length
here s i c h e =
    let none : blanks (get_or s i 0 ∷ drop (i + 1) s) ≡ 0 = solid_blanks (get_or s i 0) (drop (i + 1) s) (rw h.is e) in
    record {
      sees = rw (has_drop s i c h, none, add-zero i, h.is);
      class = rw (has_drop s i c h, none);
      lead_length_is = rw (has_drop s i c h, none) (omega arith);
    }

-- A symbol that stands at place i: it is not empty and stands within the text.
pub record SymbolHere (s : List ℕ) (i : ℕ) : Type 0 where
  pub forward : 0 < length (ordinary_run (drop i s))
  pub within : i + length (ordinary_run (drop i s)) ≤ length s
  pub value : atom_value (drop i s) ≡ ordinary_run (drop i s)

pub symbol_here : (s : List ℕ) (i : ℕ) → Has s i ordinary → SymbolHere s i
unfolding atom_value byte_class
symbol_here s i h =
    let b : ℕ = get_or s i 0 in
    let d : drop i s ≡ b ∷ drop (i + 1) s = has_drop s i ordinary h in
    let one : length (ordinary_run (drop i s)) ≡ suc (length (ordinary_run (drop (i + 1) s)))
    = rw d (ap length (run_first b (drop (i + 1) s) h.is)) in
    let no-quote : eqb b 0x22 ≡ false = ne_eqb b 0x22 (λ x. let y : byte_class 0x22 ≡ ordinary = rw x at h.is in let z : ◌≡◌ {A = ℕ} 0 1 = cc in omega arith) in
    record { forward = omega arith; within = omega (arith, run_fits (drop i s), length-drop i s); value = rw (d, no-quote) }

-- A string without fault that stands at place i: it ends within the text, and stands for fewer bytes than it takes.
pub record StringHere (s : List ℕ) (i : ℕ) : Type 0 where
  pub within : (string_at i (drop i s)).next ≤ length s
  pub fits : i + length (atom_value (drop i s)) < (string_at i (drop i s)).next
  pub value : (string_at i (drop i s)).length ≡ length (atom_value (drop i s))

pub string_here : (s : List ℕ) (i : ℕ) → Has s i quote → (string_at i (drop i s)).number ≡ 0 → StringHere s i
string_here s i h e =
    let t : List ℕ = drop (i + 1) s in
    let d : drop i s ≡ 0x22 ∷ t = has_drop s i quote h ∙ rw (quote_byte (get_or s i 0) h.is) in
    let e' : (string_at i (0x22 ∷ t)).number ≡ 0 = rw d at e in
    let r : StringSpans i (suc (length t)) (string_at i (0x22 ∷ t)) = string_spans i 0x22 t e' in
    let v : (string_at i (0x22 ∷ t)).length ≡ length (atom_value (0x22 ∷ t)) = string_value i t e' in
    let l : i + suc (length t) ≡ length s = omega (arith, length-drop (i + 1) s, h.inside) in
    record { within = rw d (omega arith); fits = rw d (omega arith); value = rw d v }
