-- The value of a size: its two numbers, as they are seen.
use Prim.Native.Nat.{ℕ, ◌+◌, ◌≤◌, ◌<◌}
use mathlib.Core.Path.{◌≡◌, refl, sym, ◌∙◌}
use mathlib.Core.Bool.{true, false}
use mathlib.Core.List.{List, [], ◌∷◌}
use native.Mathlib.Omega.{arith}
use lib.Dec.{eqb, leb}
use lib.ListN.{length, take, drop}
use lib.Seq.{drop-drop}
use borrow.Author.Tests.{ne_eqb, le-leb, lt-leb}
use Rattle.base.proofs.Booleans.{and_false}
use Rattle.syntax.specs.rules.Byte.{ByteClass, blank, return, quote, forbidden, ordinary, opening, closing, byte_class}
use Rattle.syntax.specs.rules.Expression.{Expr, symbol, list, Exprs, none, and}
use Rattle.atoms.specs.Atom.{atom_value}
use Rattle.lexer.specs.Token.{Seen, blanks, seen_end, seen_by, seen_first, seen}
use Rattle.characters.proofs.Symbols.{run_part}
use Rattle.document.specs.rules.Value.{is_size, is_decimal, non_empty}
use Rattle.document.specs.rules.Document.{width_or, height_or}
use Rattle.document.specs.reference.RulesTest.{keeps_rules}
use Rattle.document.specs.reference.Meaning.{number_of, symbol_bytes, size_tree, judge_value}
use Rattle.reader.specs.internal.RunStands.{RunStands}
use Rattle.std.specs.Prelude.{Ok, Err}
use Rattle.reader.specs.internal.WalkAnswer.{told, walked_to, Bounded}
use Rattle.reader.specs.internal.Tape.{Tape, size_noted, noted}
use Rattle.reader.specs.internal.ParameterValue.{BeginsWithNumber, Begins, Unfit, Notes}
use Rattle.reader.specs.internal.WalkAnswer.{Walked}
use Rattle.reader.specs.declared.value.Number.{Number}
use Rattle.reader.proofs.lemmas.walk.SeenExpressions.{SeenAs, saw_end, saw_symbol, saw_string, saw_list, look_stands, seen_bounds}
use Rattle.reader.proofs.lemmas.walk.OneTurn.{Looked, seen_within}
use Rattle.reader.proofs.lemmas.value.TextValues.{stuck, seen_ends, seen_more, malformed, refused_as}

-- ---- the bytes of a symbol

-- A symbol that is seen at the front of t stands for as many of its bytes as is told.
record Spelt (n : ℕ) (t : List ℕ) (r : Seen) : Type 0 where
  place : r.place ≡ n
  value : atom_value t ≡ take r.length t

spelt_by : (n b : ℕ) (t : List ℕ) (c : ByteClass) → byte_class b ≡ c → (seen_by n b t c).sort ≡ 1 → Spelt n (b ∷ t) (seen_by n b t c)
unfolding seen_by seen_end atom_value byte_class
spelt_by n b t blank e h = absurd (omega arith)
spelt_by n b t return e h = absurd (omega arith)
spelt_by n b t forbidden e h = absurd (omega arith)
spelt_by n b t (closing x) e h = absurd (omega arith)
spelt_by n b t quote e h = absurd (omega arith)
spelt_by n b t (opening x) e h = absurd (omega arith)
spelt_by n b t ordinary e h =
    let no-quote : eqb b 0x22 ≡ false
    = ne_eqb b 0x22 (λ x. let y : byte_class 0x22 ≡ ordinary = rw x at e in let z : ◌≡◌ {A = ℕ} 0 1 = cc in omega arith) in
    record { place = refl; value = rw no-quote (sym (run_part (b ∷ t))) }

spelt_first : (n : ℕ) (t : List ℕ) → (seen_first n t).sort ≡ 1 → Spelt n t (seen_first n t)
unfolding seen_first seen_end
spelt_first n [] h = absurd (omega arith)
spelt_first n (b ∷ t) h = spelt_by n b t (byte_class b) refl h

symbol_spelt : (s : List ℕ) (i : ℕ) → (seen i (drop i s)).sort ≡ 1
    → atom_value (drop (seen i (drop i s)).place s) ≡ take (seen i (drop i s)).length (drop (seen i (drop i s)).place s)
unfolding seen
symbol_spelt s i h =
    let t : List ℕ = drop i s in
    let x = spelt_first (i + blanks t) (drop (blanks t) t) h in
    rw (x.place, ← (drop-drop (blanks t) i s)) x.value

-- ---- the ways through `number_at`

not_symbol : (e : Expr) → symbol_bytes e ≡ [] → 65535 < number_of e
unfolding number_of is_decimal non_empty
not_symbol e h = rw h (omega arith)

module _ {s : List ℕ} {r : Seen} where
  unfit_seen : {es : Exprs} {m : ℕ} → SeenAs s r es m → (r.sort ≡ 1 → ⊥) → Unfit es
  unfolding symbol_bytes
  unfit_seen (saw_end h) z = tt
  unfit_seen (saw_symbol h k l p t) z = absurd (z h)
  unfit_seen (saw_string h k l p t) z = not_symbol _ refl
  unfit_seen (saw_list {inner} x h k p t d b u) z = not_symbol (list r.place inner) refl

  symbol_seen : {es : Exprs} {m : ℕ} → SeenAs s r es m → r.sort ≡ 1
      → (others : Exprs) × (es ≡ and (symbol r.place (atom_value (drop r.place s))) others) × RunStands s r.next others m
  symbol_seen (saw_end h) z = absurd (omega arith)
  symbol_seen (saw_symbol {es} h k l p t) z = (es, refl, t)
  symbol_seen (saw_string h k l p t) z = absurd (omega arith)
  symbol_seen (saw_list x h k p t d b u) z = absurd (omega arith)

-- Nothing that stands from place i on begins with a number of a size.
abbrev pub BeginsUnfit : List ℕ → ℕ → Type 0
BeginsUnfit s i = (es : Exprs) (m : ℕ) → RunStands s i es m → Unfit es

module _ (s : List ℕ) (i : ℕ) {sort q k j l : ℕ} (looked : Looked s i sort q k j l) (within : i ≤ length s) where
  pub read_other : (sort ≡ 1 → ⊥) → BeginsUnfit s i
  read_other z es m t = unfit_seen (look_stands s i m es t) (λ e. z (looked.0 ∙ e))

  pub read_stuck : sort ≡ 1 → j ≤ i → BeginsUnfit s i
  read_stuck a h es m t = absurd (stuck s i looked within (omega arith) h t)

  module _ (a : sort ≡ 1) (h : i < j) where
    pub read_within : q + l ≤ length s
    read_within = let b = (seen_bounds s i within).forward (λ e. omega (arith, looked.0)) (rw looked.3 at h) in omega (arith, b, looked.1, looked.4)

    begins_with : {n : ℕ} → n ≡ number_of (symbol q (take l (drop q s))) → (es : Exprs) (m : ℕ) → RunStands s i es m → BeginsWithNumber s es m n j
    begins_with e es m t =
        let (others, made, stands) = symbol_seen (look_stands s i m es t) (sym looked.0 ∙ a) in
        let spelt = symbol_spelt s i (sym looked.0 ∙ a) in
        record { first = symbol _ _; others = others; made = made; is = rw spelt (rw (looked.1, looked.4) at (sym e)); stands = rw looked.3 stands }

    pub read_unfit : {n : ℕ} → n ≡ number_of (symbol q (take l (drop q s))) → 65535 < n → BeginsUnfit s i
    read_unfit e f es m t = let x = begins_with e es m t in rw x.made (omega (arith, x.is))

    pub read_number : {n : ℕ} → n ≡ number_of (symbol q (take l (drop q s))) → n ≤ 65535 → Begins s i (record { number = n; next = j })
    read_number e f =
        let b = seen_within s i looked within (omega arith) h in
        record { small = f; within = (omega arith, b.0); begins = begins_with e }

-- ---- the ways through `size`

small_size : (k : ℕ) (e e' : Expr) → number_of e ≤ 65535 → number_of e' ≤ 65535 → keeps_rules k (size_tree (and e (and e' none))) ≡ true
unfolding keeps_rules size_tree is_size
small_size k e e' h f = rw (le-leb (number_of e) 65535 h, le-leb (number_of e') 65535 f)

unfit_width : (k : ℕ) (es : Exprs) → Unfit es → keeps_rules k (size_tree es) ≡ false
unfolding keeps_rules size_tree is_size
unfit_width k none h = refl
unfit_width k (and e none) h = refl
unfit_width k (and e (and e' none)) h = rw (lt-leb (number_of e) 65535 h)
unfit_width k (and e (and e' (and e'' es))) h = refl

unfit_height : (k : ℕ) (e : Expr) (es : Exprs) → Unfit es → keeps_rules k (size_tree (and e es)) ≡ false
unfolding keeps_rules size_tree is_size
unfit_height k e none h = refl
unfit_height k e (and e' none) h = rw (lt-leb (number_of e') 65535 h) (and_false (leb (number_of e) 65535))
unfit_height k e (and e' (and e'' es)) h = refl

unfit_third : (k : ℕ) (e e' e'' : Expr) (es : Exprs) → keeps_rules k (size_tree (and e (and e' (and e'' es)))) ≡ false
unfolding keeps_rules size_tree is_size
unfit_third k e e' e'' es = refl

-- w is the answer of a size in an element of kind k, whatever stands from place i on.
abbrev pub SizeJudged : List ℕ → ℕ → ℕ → ℕ → ℕ → ℕ → Walked → Type 0
SizeJudged s i at k n p w = (es : Exprs) (m : ℕ) → RunStands s i es m → w ≡ walked_to m n p (judge_value k at (size_tree es))

module _ {s : List ℕ} {i : ℕ} (at k n p : ℕ) where
  size_bad : ((es : Exprs) (m : ℕ) → RunStands s i es m → keeps_rules k (size_tree es) ≡ false) → SizeJudged s i at k n p (told (Err (malformed at)))
  unfolding judge_value
  size_bad h es m u = rw (h es m u) (refused_as at m n p)

  pub size_unfit : BeginsUnfit s i → SizeJudged s i at k n p (told (Err (malformed at)))
  size_unfit f = size_bad (λ es m u. unfit_width k es (f es m u))

  module _ {w : Number} (width : Begins s i w) where
    pub size_unfit_height : BeginsUnfit s w.next → SizeJudged s i at k n p (told (Err (malformed at)))
    size_unfit_height f =
        size_bad (λ es m u.
        let x = width.begins es m u in
        rw x.made (unfit_height k x.first x.others (f x.others m x.stands)))

    module _ {h : Number} (height : Begins s w.next h) {sort q c j l : ℕ} (last : Looked s h.next sort q c j l) where
      pub size_unfit_third : (sort ≡ 0 → ⊥) → SizeJudged s i at k n p (told (Err (malformed at)))
      size_unfit_third y =
          size_bad (λ es m u.
          let x = width.begins es m u in
          let v = height.begins x.others m x.stands in
          let (e, others, made) = seen_more (look_stands s h.next m v.others v.stands) (λ e. y (last.0 ∙ e)) in
          rw (x.made, v.made, made) (unfit_third k x.first v.first e others))

      pub size_good : sort ≡ 0 → SizeJudged s i at k n p (told (Ok (record { place = q; nodes = n; pool = p })))
      unfolding walked_to judge_value
      size_good y es m u =
          let x = width.begins es m u in
          let v = height.begins x.others m x.stands in
          let (made, ends) = seen_ends (look_stands s h.next m v.others v.stands) (sym last.0 ∙ y) in
          rw (x.made, v.made, made, small_size k x.first v.first (omega (arith, x.is, width.small)) (omega (arith, v.is, height.small)), last.1, ends)

module _ {s : List ℕ} {i : ℕ} {w h : Number} (width : Begins s i w) (height : Begins s w.next h) {sort q c j l : ℕ} (last : Looked s h.next sort q c j l) where
  pub size_within : {n p : ℕ} → n ≤ i → p ≤ i → Bounded s i (told (Ok (record { place = q; nodes = n; pool = p })))
  size_within nodes pool =
      let d = seen_bounds s h.next height.within.1 in
      record { bounds = λ e. omega (arith, width.within, height.within, d.place_from, d.place_within, last.1) }

  -- The two numbers are noted.
  pub size_notes : {node : ℕ} {t z : Tape} {r : Walked} → sort ≡ 0 → (z ≡ size_noted t node w.number h.number) → Notes s i 29 node t r z
  unfolding noted size_tree width_or height_or
  size_notes y stored =
      record {
        notes = λ es m u e.
            let x = width.begins es m u in
            let v = height.begins x.others m x.stands in
            let (made, ends) = seen_ends (look_stands s h.next m v.others v.stands) (sym last.0 ∙ y) in
            rw (x.made, v.made, made, x.is, v.is) stored;
      }
