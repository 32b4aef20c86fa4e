-- The value of an id, a target or a type: what is seen of it, and what makes it one.
use Prim.Native.Nat.{ℕ, ◌+◌, ◌≤◌, ◌<◌}
use mathlib.Core.Path.{◌≡◌, refl, sym, ◌∙◌}
use mathlib.Core.Bool.{Bool, true, false, cond, not, ◌&&◌}
use mathlib.Core.List.{List, [], ◌∷◌}
use native.Mathlib.Omega.{arith}
use lib.Dec.{eqb}
use lib.ListN.{length, drop, length-append}
use native.Mathlib.Nat.{add-zero}
use borrow.Author.Tests.{ne_eqb, eqb-true, eqb-false, not-true, not-false}
use Rattle.std.specs.Prelude.{Option, None, Result, Ok, Err, IsErrAnd}
use Rattle.std.specs.Option.{ok_or}
use Rattle.base.proofs.Booleans.{bool_case, and_true, and_false}
use Rattle.elements.specs.rules.Class as Class
use Rattle.elements.specs.rules.Characters.{type_character, id_character, uri_character, character_of}
use Rattle.syntax.specs.rules.Expression.{Expr, symbol, quoted, list, Exprs, none, and, place}
use Rattle.syntax.specs.rules.Syntax.{piece_value, pieces_value}
use Rattle.syntax.specs.reference.Scan.{Quoted, closed, unclosed, bad_escape, quoted_from}
use Rattle.atoms.specs.Atom.{string_end, string_at, atom_value, fits}
use Rattle.lexer.specs.Token.{Seen}
use Rattle.atoms.proofs.PieceAt.{piece_few}
use Rattle.document.specs.rules.Value.{non_empty, every, names_block, target_character, is_value}
use Rattle.document.specs.rules.Document.{value, key_of, type_of}
use Rattle.document.specs.reference.RulesTest.{keeps_rules}
use Rattle.document.specs.reference.Meaning.{only_one, text_bytes, symbol_bytes, size_tree, value_tree, judge_value, fine, fault}
use Rattle.reader.specs.internal.RunStands.{RunStands, ended, after_blank, after_line_end, a_symbol, a_string, a_list}
use Rattle.reader.specs.internal.Counts.{value_size}
use Rattle.reader.specs.internal.WalkAnswer.{told, walked_to}
use Rattle.reader.specs.internal.Tape.{Tape, value_place, key_noted, type_noted, noted}
use Rattle.reader.specs.internal.ParameterValue.{holds_sort, held_bytes, Alone, Holds, Notes}
use Rattle.reader.specs.internal.WalkAnswer.{Walked}
use Rattle.reader.specs.declared.value.One.{One}
use Rattle.reader.specs.declared.walk.Refused.{Refused}
use Rattle.base.specs.declared.refusal.Refusal.TheVariants.{Malformed}
use Rattle.reader.proofs.lemmas.walk.FirstToken.{symbol_here, string_here}
use Rattle.reader.proofs.lemmas.walk.SeenExpressions.{SeenAs, saw_end, saw_symbol, saw_string, saw_list, look_stands, seen_bounds}
use Rattle.reader.proofs.lemmas.walk.OneTurn.{Looked, seen_forward, seen_within}
use Rattle.reader.proofs.lemmas.walk.Counts.{size_tree_lem}
use Rattle.reader.proofs.lemmas.walk.Refusals.{passed_up}

-- ---- characters

every_fits : (n : ℕ) (p : ℕ → Bool) → ((b : ℕ) → character_of n b ≡ p b) → (v : List ℕ) → fits n v ≡ every p v
unfolding fits every
every_fits n p h [] = refl
every_fits n p h (b ∷ v) = cc (h b, every_fits n p h v)

type_fits : (v : List ℕ) → fits 0 v ≡ every type_character v
unfolding character_of
type_fits = every_fits 0 type_character (λ b. refl)

id_fits : (v : List ℕ) → fits 1 v ≡ every id_character v
unfolding character_of
id_fits = every_fits 1 id_character (λ b. refl)

uri_fits : (v : List ℕ) → fits 2 v ≡ every uri_character v
unfolding character_of
uri_fits = every_fits 2 uri_character (λ b. refl)

target_fits : (k : ℕ) (v : List ℕ) → fits (cond (names_block k) 1 2) v ≡ every (target_character k) v
unfolding target_character
target_fits k v = go (names_block k)
  where
    go : (b : Bool) → fits (cond b 1 2) v ≡ every (λ c. cond b (id_character c) (uri_character c)) v
    go true = id_fits v
    go false = uri_fits v

pub value_type : (k c : ℕ) (v : List ℕ) (r : Bool) → c ≡ 27 → r ≡ fits 0 v → non_empty v && r ≡ is_value k c v
unfolding is_value
value_type k c v r e f = rw (e, f, type_fits v)

pub value_id : (k c : ℕ) (v : List ℕ) (r : Bool) → c ≡ 26 → r ≡ fits 1 v → non_empty v && r ≡ is_value k c v
unfolding is_value
value_id k c v r e f = rw (e, f, id_fits v)

pub value_target : (k c : ℕ) (v : List ℕ) (r : Bool) (n : ℕ) → c ≡ 28 → n ≡ cond (names_block k) 1 2 → r ≡ fits n v → non_empty v && r ≡ is_value k c v
unfolding is_value
value_target k c v r n e g f = rw (e, f, g, target_fits k v)

pub value_none : (k c : ℕ) (v : List ℕ) → (c ≡ 26 → ⊥) → (c ≡ 27 → ⊥) → (c ≡ 28 → ⊥) → non_empty v && false ≡ is_value k c v
unfolding is_value
value_none k c v i y t = rw (ne_eqb c 26 i, ne_eqb c 27 y, ne_eqb c 28 t)

-- ---- symbols and strings that stand are not empty

end_some : (n : ℕ) (q : Quoted) → (string_end n q).number ≡ 0 → 0 < (string_end n q).length
unfolding string_end pieces_value
end_some n (closed []) e = absurd (omega arith)
end_some n (closed (p ∷ ps)) e = omega (arith, (piece_few p).0, length-append (piece_value p) (pieces_value ps))
end_some n unclosed e = absurd (omega arith)
end_some n (bad_escape p) e = absurd (omega arith)

string_some : (n : ℕ) (s : List ℕ) → (string_at n s).number ≡ 0 → 0 < (string_at n s).length
unfolding string_at
string_some n s e = end_some n (quoted_from 0 (n + 1) (drop 1 s)) e

some_non_empty : (v : List ℕ) → 0 < length v → non_empty v ≡ true
unfolding non_empty
some_non_empty [] h = absurd (omega arith)
some_non_empty (b ∷ v) h = refl

-- A symbol or string that stands first has bytes.
Some : Exprs → Type 0
Some none = Unit {0}
Some (and (symbol at v) es) = 0 < length v
Some (and (quoted at v) es) = 0 < length v
Some (and (list at is) es) = Unit {0}

first_some : {s : List ℕ} {i e : ℕ} {es : Exprs} → RunStands s i es e → Some es
unfolding Some
first_some (ended h) = tt
first_some (after_blank h st) = first_some st
first_some (after_line_end h g st) = first_some st
first_some {s} (a_symbol {i = i} h st) = (symbol_here s i h).forward
first_some {s} (a_string {i = i} h g st) = omega (arith, (string_here s i h g).value, string_some i (drop i s) g)
first_some (a_list h st g st') = tt

-- ---- what a parameter holds

-- The bytes of one expression.
abbrev held_of : ℕ → Expr → List ℕ
held_of c e = cond (eqb c Class.type) (symbol_bytes e) (text_bytes e)

same_cond : {A : Type 0} (b : Bool) (x : A) → cond b x x ≡ x
same_cond true x = refl
same_cond false x = refl

held_none : (c : ℕ) → held_bytes c none ≡ []
unfolding held_bytes only_one
held_none c = same_cond (eqb c Class.type) []

held_one : (c : ℕ) (e : Expr) → held_bytes c (and e none) ≡ held_of c e
unfolding held_bytes only_one
held_one c e = refl

held_two : (c : ℕ) (e e' : Expr) (es : Exprs) → held_bytes c (and e (and e' es)) ≡ []
unfolding held_bytes only_one
held_two c e e' es = same_cond (eqb c Class.type) []

held_nothing : (c : ℕ) (e : Expr) (es : Exprs) → held_of c e ≡ [] → held_bytes c (and e es) ≡ []
held_nothing c e none h = held_one c e ∙ h
held_nothing c e (and e' es) h = held_two c e e' es

holds_string : (c : ℕ) → holds_sort c 2 ≡ not (eqb c Class.type)
unfolding holds_sort
holds_string c = and_true (not (eqb c Class.type))

holds_not : (c n : ℕ) → (n ≡ 1 → ⊥) → (n ≡ 2 → ⊥) → holds_sort c n ≡ false
unfolding holds_sort
holds_not c n h f = rw (ne_eqb n 1 h, ne_eqb n 2 f) (and_false (not (eqb c Class.type)))

holds_some : (c n : ℕ) → holds_sort c n ≡ true → (n ≡ 1 → ⊥) → n ≡ 2
holds_some c n f h =
    bool_case (eqb n 2) (eqb-true n 2)
    (λ e. let z : true ≡ false = sym f ∙ holds_not c n h (eqb-false n 2 e) in let w : ◌≡◌ {A = ℕ} 0 1 = cc in absurd (omega arith))

holds_atom : (c n : ℕ) → holds_sort c n ≡ true → (n ≡ 0 → ⊥) × (n ≡ 3 → ⊥)
holds_atom c n f = (λ e. omega (arith, holds_some c n f (omega arith)), λ e. omega (arith, holds_some c n f (omega arith)))

-- What stands first, at place q, counts: its bytes v, and the others from place j on.
record FirstHeld (s : List ℕ) (c q j : ℕ) (v : List ℕ) (es : Exprs) (m : ℕ) : Type 0 where
  first : Expr
  others : Exprs
  made : es ≡ and first others
  placed : place first ≡ q
  bytes : held_of c first ≡ v
  some : 0 < length v
  stands : RunStands s j others m

module _ {s : List ℕ} {r : Seen} where
  held_not : (c : ℕ) {es : Exprs} {m : ℕ} → SeenAs s r es m → holds_sort c r.sort ≡ false → held_bytes c es ≡ []
  unfolding symbol_bytes text_bytes holds_sort
  held_not c (saw_end h) f = held_none c
  held_not c (saw_symbol h k l p t) f = let z : true ≡ false = rw h at f in cc
  held_not c (saw_string {es} h k l p t) f =
      let typed : eqb c Class.type ≡ true = not-false (eqb c Class.type) (sym (holds_string c) ∙ rw h at f) in
      held_nothing c (quoted r.place (atom_value (drop r.place s))) es (rw typed)
  held_not c (saw_list {inner} {es} x h k p t d b u) f = held_nothing c (list r.place inner) es (same_cond (eqb c Class.type) [])

  held_first : (c : ℕ) {es : Exprs} {m : ℕ} → Some es → SeenAs s r es m → holds_sort c r.sort ≡ true
      → FirstHeld s c r.place r.next (atom_value (drop r.place s)) es m × (r.length ≡ length (atom_value (drop r.place s)))
  unfolding Some symbol_bytes text_bytes place
  held_first c n (saw_end h) f = absurd ((holds_atom c r.sort f).0 h)
  held_first c n (saw_symbol {es} h k l p t) f = (
    record {
      first = symbol r.place _;
      others = es;
      made = refl;
      placed = refl;
      bytes = same_cond
          (eqb c Class.type) _;
      some = n;
      stands = t;
    },
    l,
  )
  held_first c n (saw_string {es} h k l p t) f =
      let untyped : eqb c Class.type ≡ false = not-true (eqb c Class.type) (sym (holds_string c) ∙ rw h at f) in
      (record { first = quoted r.place _; others = es; made = refl; placed = refl; bytes = rw untyped; some = n; stands = t }, l)
  held_first c n (saw_list x h k p t d b u) f = absurd ((holds_atom c r.sort f).1 h)

  -- The run ends here, or something more stands here.
  pub seen_ends : {es : Exprs} {m : ℕ} → SeenAs s r es m → r.sort ≡ 0 → (es ≡ none) × (r.place ≡ m)
  seen_ends (saw_end h) z = (refl, refl)
  seen_ends (saw_symbol h k l p t) z = absurd (omega arith)
  seen_ends (saw_string h k l p t) z = absurd (omega arith)
  seen_ends (saw_list x h k p t d b u) z = absurd (omega arith)

  pub seen_more : {es : Exprs} {m : ℕ} → SeenAs s r es m → (r.sort ≡ 0 → ⊥) → (e : Expr) × (others : Exprs) × (es ≡ and e others)
  seen_more (saw_end h) z = absurd (z h)
  seen_more (saw_symbol {es} h k l p t) z = (_, es, refl)
  seen_more (saw_string {es} h k l p t) z = (_, es, refl)
  seen_more (saw_list {inner} {es} x h k p t d b u) z = (_, es, refl)

-- Where expressions stand, something is passed.
pub stuck : (s : List ℕ) (i : ℕ) {sort q c j l : ℕ} {es : Exprs} {m : ℕ} → Looked s i sort q c j l → i ≤ length s → (sort ≡ 0 → ⊥) → j ≤ i → RunStands s i es m → ⊥
stuck s i {es = es} {m = m} looked within some h t =
    omega (arith, (seen_bounds s i within).place_from, looked.3, seen_forward (look_stands s i m es t) (λ e. some (looked.0 ∙ e)))

-- ---- the ways through `only`

-- A parameter of class c holds nothing that counts from place i on.
abbrev pub HoldsNone : List ℕ → ℕ → ℕ → Type 0
HoldsNone s i c = (es : Exprs) (m : ℕ) → RunStands s i es m → held_bytes c es ≡ []

module _ {s : List ℕ} {i sort q k j l : ℕ} (c : ℕ) (looked : Looked s i sort q k j l) (within : i ≤ length s) where
  pub only_nothing : holds_sort c sort ≡ false → HoldsNone s i c
  only_nothing f es m t = held_not c (look_stands s i m es t) (rw (← looked.0) f)

  module _ (f : holds_sort c sort ≡ true) where
    pub only_stuck : j ≤ i → HoldsNone s i c
    only_stuck h es m t = absurd (stuck s i looked within (holds_atom c sort f).0 h t)

    first_of : (es : Exprs) (m : ℕ) → RunStands s i es m → FirstHeld s c q j (atom_value (drop q s)) es m × (l ≡ length (atom_value (drop q s)))
    first_of es m t = rw (looked.1, looked.3, looked.4) (held_first c (first_some t) (look_stands s i m es t) (rw (← looked.0) f))

    -- After it `sort'` is seen at `q'`.
    module _ {sort' q' k' j' l' : ℕ} (h : i < j) (last : Looked s j sort' q' k' j' l') where
      pub only_two : (sort' ≡ 0 → ⊥) → HoldsNone s i c
      only_two some es m t =
          let (x, more) = first_of es m t in
          let (e', es', made) = seen_more (look_stands s j m x.others x.stands) (λ z. some (last.0 ∙ z)) in
          rw (x.made, made) (held_two c x.first e' es')

      pub only_one_lem : sort' ≡ 0 → Holds s i c (record { place = q; length = l; end = q' })
      unfolding value_place
      only_one_lem e =
          let (fits, long) = seen_within s i looked within (holds_atom c sort f).0 h in
          let after = seen_bounds s j fits in
          record {
            within = (
              omega (arith, after.place_from, last.1),
              omega (arith, after.place_within, last.1),
              omega (arith, (seen_bounds s i within).place_within, looked.1),
            );
            alone = λ es m t. let (x, more) = first_of es m t in alone m x more;
          }
        where
          alone : {es : Exprs} (m : ℕ) → FirstHeld s c q j (atom_value (drop q s)) es m → l ≡ length (atom_value (drop q s))
              → Alone c es m q (atom_value (drop q s)) l q'
          alone m x long =
              let (made, ends) = seen_ends (look_stands s j m x.others x.stands) (sym last.0 ∙ e) in
              record {
                placed = rw x.made x.placed;
                bytes = rw (x.made, made) (held_one c x.first ∙ x.bytes);
                some = x.some;
                long = long;
                ends = last.1 ∙ ends;
              }

-- ---- the ways through `value`

value_tree_lem : (c : ℕ) (es : Exprs) → (c ≡ 29 → ⊥) → value_tree c es ≡ value c (held_bytes c es)
unfolding value_tree held_bytes
value_tree_lem c es h = rw (ne_eqb c 29 h)

value_long : (c : ℕ) (es : Exprs) → (c ≡ 29 → ⊥) → value_size c es ≡ length (held_bytes c es)
unfolding value_size key_of type_of
value_long c es h = rw (value_tree_lem c es h) (go (eqb c Class.type) (held_bytes c es))
  where
    go : (b : Bool) (v : List ℕ) → length (cond b [] v) + length (cond b v []) ≡ length v
    go true v = omega arith
    go false v = omega arith

value_judged : (k at c : ℕ) (es : Exprs) → (c ≡ 29 → ⊥) → judge_value k at (value_tree c es) ≡ cond (is_value k c (held_bytes c es)) fine (fault 10 at)
unfolding judge_value keeps_rules
value_judged k at c es h = rw (value_tree_lem c es h)

no_value : (k c : ℕ) → is_value k c [] ≡ false
unfolding is_value non_empty
no_value k c = refl

-- What refuses a parameter's list at `at`.
abbrev pub malformed : ℕ → Refused
malformed at = record { refusal = Malformed; place = at }

-- A value that is not there is refused.
pub not_there : {X A : Type 0} (o : Option X) {r : Result A Refused} {at : ℕ} {f : Refused} → IsErrAnd r (λ (g : Refused). g ≡ f)
    → Err f ≡ ok_or o (malformed at) → o ≡ None → r ≡ Err (malformed at)
not_there o {r} is e h = cc (passed_up r is, rw h at e)

pub refused_as : (at m n p : ℕ) → told (Err (malformed at)) ≡ walked_to m n p (fault 10 at)
unfolding walked_to
refused_as at m n p = refl

-- w is the answer of the value of a parameter of class c in an element of kind k, whatever stands from place i on.
abbrev pub ValueJudged : List ℕ → ℕ → ℕ → ℕ → ℕ → ℕ → ℕ → Walked → Type 0
ValueJudged s i at k c n p w =
    (es : Exprs) (m : ℕ) → RunStands s i es m → w ≡ walked_to m n (p + value_size c es) (judge_value k at (value_tree c es))

module _ {s : List ℕ} {i c : ℕ} (at k n p : ℕ) where
  pub size_judged : c ≡ 29 → {w : Walked} → ((es : Exprs) (m : ℕ) → RunStands s i es m → w ≡ walked_to m n p (judge_value k at (size_tree es)))
      → ValueJudged s i at k c n p w
  unfolding value_size value_tree key_of type_of
  size_judged h judged es m u = let (x, y, made) = size_tree_lem es in rw (h, made, add-zero p) (rw made at (judged es m u))

  module _ (h : c ≡ 29 → ⊥) where
    pub value_nothing : HoldsNone s i c → ValueJudged s i at k c n p (told (Err (malformed at)))
    value_nothing nothing es m u = rw (value_judged k at c es h, nothing es m u, no_value k c) (refused_as at m n (p + value_size c es))

    module _ {o : One} (holds : Holds s i c o) {r : Bool}
        (fits : non_empty (atom_value (drop o.place s)) && r ≡ is_value k c (atom_value (drop o.place s))) where
      pub value_bad : r ≡ false → ValueJudged s i at k c n p (told (Err (malformed at)))
      value_bad e es m u =
          let v = atom_value (drop o.place s) in
          let bad : is_value k c v ≡ false = sym fits ∙ rw e (and_false (non_empty v)) in
          rw (value_judged k at c es h, (holds.alone es m u).bytes, bad) (refused_as at m n (p + value_size c es))

      pub value_good : r ≡ true → ValueJudged s i at k c n p (told (Ok (record { place = o.end; nodes = n; pool = p + o.length })))
      unfolding walked_to
      value_good e es m u =
          let v = atom_value (drop o.place s) in
          let a = holds.alone es m u in
          let good : is_value k c v ≡ true = sym fits ∙ rw (e, some_non_empty v a.some) in
          rw (value_judged k at c es h, value_long c es h, a.bytes, good, a.long, a.ends)

-- The place of what a parameter holds is noted.
pub value_noted : {s : List ℕ} {i c node : ℕ} {t z : Tape} {w : Walked} {o : One} → (c ≡ 29 → ⊥) → Holds s i c o
    → (z ≡ cond (eqb c Class.type) (type_noted t node o.place) (key_noted t node o.place)) → Notes s i c node t w z
unfolding noted
value_noted {c = c} h holds stored = record { notes = λ es m u y. rw (ne_eqb c 29 h, (holds.alone es m u).placed) stored }
