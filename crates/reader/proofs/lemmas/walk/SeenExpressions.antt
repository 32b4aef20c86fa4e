-- What `seen` tells of the expressions that stand at a place.
use Prim.Native.Nat.{ℕ, suc, ◌+◌, ◌≤◌, ◌<◌}
use mathlib.Core.Path.{◌≡◌, refl, ap, sym, ◌∙◌}
use mathlib.Core.Bool.{true, false}
use mathlib.Core.List.{List, [], ◌∷◌}
use native.Mathlib.Nat.{add-zero}
use native.Mathlib.Omega.{arith}
use lib.ListN.{length, get_or, drop, length-drop, drop_of_length-le}
use Rattle.elements.specs.rules.Class as Class
use Rattle.elements.specs.rules.Bytes.{codes, same}
use Rattle.syntax.specs.rules.Byte.{Bracket, ByteClass, blank, return, quote, forbidden, ordinary, opening, closing, byte_class, ordinary_class}
use Rattle.syntax.specs.reference.Scan.{ordinary_run}
use Rattle.syntax.specs.rules.Expression.{Expr, symbol, quoted, list, Exprs, none, and}
use Rattle.atoms.specs.Atom.{string_at, atom_value}
use Rattle.lexer.specs.Token.{blanks, lead_class_at, lead_length, Seen, seen_end, seen_by, seen_first, seen, the_end, a_symbol}
use Rattle.lexer.specs.Token.{a_string, a_list}
use Rattle.document.specs.rules.Lead.{lead_class, list_class}
use Rattle.reader.specs.internal.RunStands.{Has, Ends, at_bracket, at_end, RunStands, ended, after_blank, after_line_end}
use Rattle.reader.proofs.lemmas.walk.QuotedStrings.{StringSpans, string_spans, string_good}
use Rattle.characters.proofs.Symbols.{run_fits}
use Rattle.lexer.proofs.Blanks.{blanks_fit}
use Rattle.reader.proofs.lemmas.walk.FirstToken.{solid, lead_length_lem, run_first, run_none, has_drop, SeenAlike, passes_blank}
use Rattle.reader.proofs.lemmas.walk.FirstToken.{passes_line_end, TokenHere, here, SymbolHere, symbol_here, StringHere, string_here}

-- Where things are seen from place i on in a text of n bytes, whatever it holds.
pub record SeenBounds (n i : ℕ) (r : Seen) : Type 0 where
  pub place_from : i ≤ r.place
  pub place_within : r.place ≤ n
  pub forward : (r.sort ≡ the_end → ⊥) → i < r.next → (r.place < r.next) × (r.next ≤ n) × (r.place + r.length ≤ r.next)

end_bounds : (i n m : ℕ) → i ≤ n → SeenBounds (n + m) i (seen_end n)
unfolding seen_end
end_bounds i n m h = record { place_from = h; place_within = omega arith; forward = λ f l. absurd (f refl) }

by_bounds : (i n b : ℕ) (s : List ℕ) (c : ByteClass) → byte_class b ≡ c → i ≤ n → SeenBounds (n + suc (length s)) i (seen_by n b s c)
unfolding seen_by
by_bounds i n b s blank e h = end_bounds i n (suc (length s)) h
by_bounds i n b s return e h = end_bounds i n (suc (length s)) h
by_bounds i n b s forbidden e h = end_bounds i n (suc (length s)) h
by_bounds i n b s (closing x) e h = end_bounds i n (suc (length s)) h
by_bounds i n b s ordinary e h =
    let one : length (ordinary_run (b ∷ s)) ≡ suc (length (ordinary_run s)) = ap length (run_first b s e) in
    let fits : length (ordinary_run s) ≤ length s = run_fits s in
    record { place_from = h; place_within = omega arith; forward = λ f l. (omega arith, omega arith, omega arith) }
by_bounds i n b s quote e h =
    record { place_from = h; place_within = omega arith; forward = λ f l. go (string_spans n b s (string_good n b s (omega arith))) }
  where
    go : StringSpans n (suc (length s)) (string_at n (b ∷ s))
        → (n < (string_at n (b ∷ s)).next) × ((string_at n (b ∷ s)).next ≤ n + suc (length s)) × (n + (string_at n (b ∷ s)).length ≤ (string_at n (b ∷ s)).next)
    go r = omega arith
by_bounds i n b s (opening x) e h =
    let fits : lead_length s ≤ length s = lead_length_lem s in
    record { place_from = h; place_within = omega arith; forward = λ f l. (omega arith, omega arith, omega arith) }

first_bounds : (i n : ℕ) (s : List ℕ) → i ≤ n → SeenBounds (n + length s) i (seen_first n s)
unfolding seen_first
first_bounds i n [] h = end_bounds i n 0 h
first_bounds i n (b ∷ s) h = by_bounds i n b s (byte_class b) refl h

-- Whatever the text holds, what is seen lies within it.
pub seen_bounds : (s : List ℕ) (i : ℕ) → i ≤ length s → SeenBounds (length s) i (seen i (drop i s))
unfolding seen
seen_bounds s i h =
    let t : List ℕ = drop i s in
    let n : i + blanks t + length (drop (blanks t) t) ≡ length s
    = omega (arith, length-drop (blanks t) t, length-drop i s, blanks_fit t) in
    rw n at (first_bounds i (i + blanks t) (drop (blanks t) t) (omega arith))

-- The name that leads a list, seen up to r's next place.
pub record Led (s : List ℕ) (r : Seen) (inner : Exprs) (m : ℕ) : Type 0 where
  pub lead : Expr
  pub rest : Exprs
  pub made : inner ≡ and lead rest
  pub of_class : lead_class lead ≡ r.class
  pub follows : RunStands s r.next rest m

-- The expressions that stand here begin with what was seen.
pub data SeenAs (s : List ℕ) (r : Seen) : Exprs → ℕ → Type 0 where
  saw_end : r.sort ≡ the_end → SeenAs s r none r.place
  saw_symbol : {es : Exprs} {e : ℕ} → r.sort ≡ a_symbol → r.class ≡ Class.text → r.length ≡ length (atom_value (drop r.place s)) → r.place < r.next
      → RunStands s r.next es e → SeenAs s r (and (symbol r.place (atom_value (drop r.place s))) es) e
  saw_string : {es : Exprs} {e : ℕ} → r.sort ≡ a_string → r.class ≡ Class.text → r.length ≡ length (atom_value (drop r.place s)) → r.place < r.next
      → RunStands s r.next es e → SeenAs s r (and (quoted r.place (atom_value (drop r.place s))) es) e
  saw_list : {inner es : Exprs} {m e : ℕ} (x : Bracket) → r.sort ≡ a_list → r.class ≡ list_class inner → r.place < r.next
      → RunStands s (r.place + 1) inner m → ((r.class ≡ 0 → ⊥) → Led s r inner m) → Has s m (closing x) → RunStands s (m + 1) es e
      → SeenAs s r (and (list r.place inner) es) e

-- A list's name is read after white space: the class of what leads the expressions that stand from place i on.
record Lead (s : List ℕ) (i : ℕ) (es : Exprs) (m : ℕ) : Type 0 where
  class : lead_class_at (drop i s) ≡ list_class es
  led : (lead_class_at (drop i s) ≡ 0 → ⊥)
      → (lead : Expr) × (rest : Exprs) × (es ≡ and lead rest) × (lead_class lead ≡ lead_class_at (drop i s)) × RunStands s (i + lead_length (drop i s)) rest m

-- No name is empty.
nameless : Class.class_of [] ≡ 0
unfolding Class.class_of Class.class_in Class.names Class.as_name same codes
nameless = refl

-- No name leads where no byte of a symbol stands.
no_lead : (s : List ℕ) (i : ℕ) (c : ByteClass) → Has s i c → solid c ≡ true → ordinary_class c ≡ false → lead_class_at (drop i s) ≡ 0
no_lead s i c h e f =
    let none : ordinary_run (drop i s) ≡ [] = rw (has_drop s i c h) (run_none (get_or s i 0) (drop (i + 1) s) (rw h.is f)) in
    (here s i c h e).class ∙ rw none nameless

unled : (s : List ℕ) (i : ℕ) (es : Exprs) (m : ℕ) → lead_class_at (drop i s) ≡ 0 → list_class es ≡ 0 → Lead s i es m
unled s i es m e f = record { class = cc; led = λ no. absurd (no e) }

lead_passes : (s : List ℕ) (i j : ℕ) (es : Exprs) (m : ℕ) → SeenAlike s i j → Lead s j es m → Lead s i es m
lead_passes s i j es m p l =
    record { class = rw p.same_class l.class; led = rw (p.same_class, p.same_place) l.led }

lead_of : {s : List ℕ} {i e : ℕ} {es : Exprs} → RunStands s i es e → Lead s i es e
unfolding list_class lead_class ordinary_class lead_class_at blanks ordinary_run
lead_of {s} (ended {i = i} (at_bracket x h)) = unled s i none i (no_lead s i (closing x) h refl refl) refl
lead_of {s} (ended {i = i} (at_end h)) = unled s i none i (rw (drop_of_length-le s {i = i} (omega arith)) nameless) refl
lead_of {s} (after_blank {i = i} {e = e} {es = es} h st) = lead_passes s i (i + 1) es e (passes_blank s i h) (lead_of st)
lead_of {s} (after_line_end {i = i} {e = e} {es = es} h g st) = lead_passes s i (i + 2) es e (passes_line_end s i h g) (lead_of st)
lead_of {s} (RunStands.a_symbol {i = i} {e = e} {es = es} h st) =
    let at : TokenHere s i ordinary = here s i ordinary h refl in
    record {
      class = at.class;
      led = λ no. (symbol i (ordinary_run (drop i s)), es, refl, sym at.class, rw at.lead_length_is st);
    }
lead_of {s} (RunStands.a_string {i = i} {e = e} {es = es} h g st) =
    unled s i (and (quoted i (atom_value (drop i s))) es) e (no_lead s i quote h refl refl) refl
lead_of {s} (RunStands.a_list {i = i} {e = e} {x = x} {inner = inner} {es = es} h st g st') =
    unled s i (and (list i inner) es) e (no_lead s i (opening x) h refl refl) refl

look : {s : List ℕ} {i e : ℕ} {es : Exprs} → RunStands s i es e → SeenAs s (seen i (drop i s)) es e
unfolding seen seen_first seen_by seen_end blanks
look {s} (ended {i = i} (at_bracket x h)) = rw (here s i (closing x) h refl).sees (saw_end refl)
look {s} (ended {i = i} (at_end h)) = rw (drop_of_length-le s {i = i} (omega arith), add-zero i) (saw_end refl)
look {s} (after_blank {i = i} h st) = rw (passes_blank s i h).same_seen (look st)
look {s} (after_line_end {i = i} h g st) = rw (passes_line_end s i h g).same_seen (look st)
look {s} (RunStands.a_symbol {i = i} {e = e} {es = es} h st) =
    let r : SymbolHere s i = symbol_here s i h in
    let next : RunStands s (i + length (atom_value (drop i s))) es e = rw r.value st in
    let long : 0 < length (atom_value (drop i s)) = rw r.value r.forward in
    rw ((here s i ordinary h refl).sees, ← (has_drop s i ordinary h), ← r.value) (saw_symbol refl refl refl (omega arith) next)
look {s} (RunStands.a_string {i = i} {e = e} {es = es} h g st) =
    let r : StringHere s i = string_here s i h g in
    rw ((here s i quote h refl).sees, ← (has_drop s i quote h)) (saw_string refl refl r.value (omega arith) st)
look {s} (RunStands.a_list {i = i} {m = m} {e = e} {x = x} {inner = inner} {es = es} h st g st') =
    let l : Lead s (i + 1) inner m = lead_of st in
    rw (here s i (opening x) h refl).sees (saw_list x refl l.class (omega arith) st
    (λ no. let (lead, rest, made, of_class, follows) = l.led no in record { lead = lead; rest = rest; made = made; of_class = of_class; follows = follows }) g st')

-- What is seen where expressions stand is the first of them.
pub look_stands : (s : List ℕ) (i e : ℕ) (es : Exprs) → RunStands s i es e → SeenAs s (seen i (drop i s)) es e
look_stands s i e es st = look st

-- Expressions stand within the text, and do not go back.
ends_within : (s : List ℕ) (i : ℕ) → Ends s i → i ≤ length s
ends_within s i (at_bracket x h) = omega arith
ends_within s i (at_end h) = omega arith

within : {s : List ℕ} {i e : ℕ} {es : Exprs} → RunStands s i es e → (i ≤ e) × (e ≤ length s)
within {s} (ended {i = i} h) = (omega arith, ends_within s i h)
within (after_blank h st) = let (a, b) = within st in (omega arith, b)
within (after_line_end h e st) = let (a, b) = within st in (omega arith, b)
within (RunStands.a_symbol h st) = let (a, b) = within st in (omega arith, b)
within {s} (RunStands.a_string {i = i} h g st) =
    let (a, b) = within st in
    let r : StringHere s i = string_here s i h g in
    (omega arith, b)
within (RunStands.a_list h st g st') = let (a, b) = within st in let (c, d) = within st' in (omega arith, d)

pub stands_within : (s : List ℕ) (i e : ℕ) (es : Exprs) → RunStands s i es e → (i ≤ e) × (e ≤ length s)
stands_within s i e es st = within st
