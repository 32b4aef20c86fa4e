-- Ids, links and footnote-refs: each search finds the first node that has the fault 16, 17 or 18, by the numbers of nodes; and no node has it just where the
-- statements of `specs/reference/Prose.antt` hold.
use Prim.Native.Nat.{ℕ, ◌<◌}
use mathlib.Core.Path.{◌≡◌, ◌∙◌, refl, sym, ap, subst}
use mathlib.Core.Bool.{Bool, true, false, not, cond, ◌&&◌, ◌||◌}
use mathlib.Core.Logic.{◌⊎◌, inl, inr}
use mathlib.Core.List.{List, [], ◌∷◌, ◌++◌, append-nil, Memᴰ}
use native.Mathlib.Omega.{arith}
use lib.Dec.{T, eqb, eqb→eq, eqb_refl}
use lib.Seq.{append_snoc}
use borrow.Author.Tests.{eq-eqb}
use Rattle.base.proofs.Booleans.{cond_case, bool_case, both, both_true, or_true, or_left, or_right, true_T, T_true, not-true, not_T_false, false_not_T}
use Rattle.elements.specs.rules.Bytes.{same}
use Rattle.elements.specs.rules.Class as Class
use Rattle.base.specs.rules.Limits.{missing}
use Rattle.document.specs.rules.Document.{Node}
use Rattle.document.specs.rules.Value.{non_empty}
use Rattle.document.specs.rules.Table.{count}
use Rattle.document.specs.reference.Check.{First, nowhere, at_node, Entry, entries, holds_id, is_among, found_repeated_id, ids_where, found_unknown_target, found_unknown_link, found_unknown_footnote}
use Rattle.document.specs.rules.Visits.{node_kind, node_key, Visit, visits, visits_of}
use Rattle.document.specs.rules.WellFormed.{NodeAt, HasId, RepeatedId, UnknownLink, UnknownFootnote, None, FirstSuch}
use Rattle.document.specs.reference.Prose.{IdsDifferAmong, HasIdAmong, IdsDiffer, LinksFound, RefsFound}
use Rattle.elements.proofs.Same.{same_equal}
use Rattle.document.proofs.NumberedLists.{NumberedFrom, counted, one_number, earlier_less, less_earlier}
use Rattle.document.proofs.NumberedSearch.{Finds, finds_same, first_of, FirstIn, FirstAnswer, first_answer, test_finds}
use Rattle.document.proofs.Records.{entry_of, entries_visits, entry_numbers}

-- A string is the same as itself.
pub same_refl : (xs : List ℕ) → T (same xs xs)
unfolding same
same_refl [] = tt
same_refl (x ∷ xs) = both_true (eqb x x) (same xs xs) (eqb_refl x) (same_refl xs)

-- The test `is_among` tells membership.
among_member : (s : List ℕ) (ts : List (List ℕ)) → T (is_among s ts) → Memᴰ s ts
unfolding is_among
among_member s [] t = absurd t
among_member s (u ∷ ts) t = go (or_true (same s u) (is_among s ts) t) (among_member s ts)
  where
    go : T (same s u) ⊎ T (is_among s ts) → (T (is_among s ts) → Memᴰ s ts) → Memᴰ s (u ∷ ts)
    go (inl h) below = mathlib.Core.List.Memᴰ.head (same_equal s u h)
    go (inr h) below = mathlib.Core.List.Memᴰ.tail (below h)

member_among : (s : List ℕ) (ts : List (List ℕ)) → Memᴰ s ts → T (is_among s ts)
unfolding is_among
member_among s [] m = absurd (mathlib.Core.List.Memᴰ.not-nil m)
member_among s (u ∷ ts) m = go (mathlib.Core.List.Memᴰ.cases_cons m) (member_among s ts)
  where
    go : (s ≡ u) ⊎ Memᴰ s ts → (Memᴰ s ts → T (is_among s ts)) → T (same s u || is_among s ts)
    go (inl e) below = or_left (same s u) (is_among s ts) (rw (← e) (same_refl s))
    go (inr h) below = or_right (same s u) (is_among s ts) (below h)

-- The ids gathered are those of the blocks of the kinds that p names.
gathered : (p : ℕ → Bool) (es : List Entry) (s : List ℕ) → Memᴰ s (ids_where p es) → (b : Entry) × T (p b.kind) × HasIdAmong es s b
unfolding ids_where
gathered p [] s = λ m. absurd (mathlib.Core.List.Memᴰ.not-nil m)
gathered p (e ∷ es) s =
    cond_case (λ (l : List (List ℕ)). Memᴰ s l → (b : Entry) × T (p b.kind) × HasIdAmong (e ∷ es) s b) (p e.kind && holds_id e)
    (λ t m. go t (gathered p es s) (mathlib.Core.List.Memᴰ.cases_cons m)) (λ f m. later (gathered p es s m))
  where
    later : (b : Entry) × T (p b.kind) × HasIdAmong es s b → (b : Entry) × T (p b.kind) × HasIdAmong (e ∷ es) s b
    later (b, q, h) = (b, q, record { stands = mathlib.Core.List.Memᴰ.tail h.stands; has_id = h.has_id; id_is = h.id_is })

    go : p e.kind && holds_id e ≡ true → (Memᴰ s (ids_where p es) → (b : Entry) × T (p b.kind) × HasIdAmong es s b)
        → (s ≡ e.key) ⊎ Memᴰ s (ids_where p es) → (b : Entry) × T (p b.kind) × HasIdAmong (e ∷ es) s b
    go t below (inl q) =
        let b = both (p e.kind) (holds_id e) (true_T t) in
        (e, b.0, record { stands = mathlib.Core.List.Memᴰ.head refl; has_id = b.1; id_is = sym q })
    go t below (inr m) = later (below m)

gathers : (p : ℕ → Bool) (es : List Entry) (s : List ℕ) (b : Entry) → T (p b.kind) → HasIdAmong es s b → Memᴰ s (ids_where p es)
unfolding ids_where
gathers p [] s b q h = absurd (mathlib.Core.List.Memᴰ.not-nil h.stands)
gathers p (e ∷ es) s b q h = go (gathers p es s b q) (mathlib.Core.List.Memᴰ.cases_cons h.stands)
  where
    chosen : b ≡ e → T (p e.kind && holds_id e)
    chosen x = subst (λ (z : Entry). T (p z.kind && holds_id z)) x (both_true (p b.kind) (holds_id b) q h.has_id)

    go : (HasIdAmong es s b → Memᴰ s (ids_where p es)) → (b ≡ e) ⊎ Memᴰ b es
        → Memᴰ s (cond (p e.kind && holds_id e) (e.key ∷ ids_where p es) (ids_where p es))
    go below (inl x) =
        cond_case (λ (l : List (List ℕ)). Memᴰ s l) (p e.kind && holds_id e)
        (λ t. mathlib.Core.List.Memᴰ.head (sym h.id_is ∙ ap (λ (z : Entry). z.key) x)) (λ f. absurd (false_not_T f (chosen x)))
    go below (inr m) =
        let r : Memᴰ s (ids_where p es) = below (record { stands = m; has_id = h.has_id; id_is = h.id_is }) in
        cond_case (λ (l : List (List ℕ)). Memᴰ s l) (p e.kind && holds_id e) (λ t. mathlib.Core.List.Memᴰ.tail r) (λ f. r)

-- The first block whose id stands on an earlier one, with its number; the blocks before have each an id of their own.
pub record FirstRepeated (es : List Entry) (i : ℕ) : Type 0 where
  pub before : List Entry
  pub after : List Entry
  pub block : Entry
  pub split : es ≡ before ++ block ∷ after
  pub number_is : block.number ≡ i
  pub has_id : T (holds_id block)
  pub earlier : Entry
  pub on_earlier : HasIdAmong before block.key earlier
  pub differ_before : IdsDifferAmong before

pub block_stands : (es : List Entry) (i : ℕ) (r : FirstRepeated es i) → Memᴰ r.block es
block_stands es i r = rw r.split (mathlib.Core.List.Memᴰ.append_right r.before (mathlib.Core.List.Memᴰ.head refl))

abbrev pub RepeatAnswer : List Entry → First → Type 0
RepeatAnswer es nowhere = IdsDifferAmong es
RepeatAnswer es (at_node i) = FirstRepeated es i

-- The ids seen are those of the blocks gone by.
pub record IdsSeen (gone : List Entry) (seen : List (List ℕ)) : Type 0 where
  pub found : (s : List ℕ) → Memᴰ s seen → (b : Entry) × HasIdAmong gone s b
  pub kept : (s : List ℕ) (b : Entry) → HasIdAmong gone s b → Memᴰ s seen
  pub differ : IdsDifferAmong gone

-- One more entry that has no id, or one not seen.
module _ (gone : List Entry) (seen : List (List ℕ)) (e : Entry) (c : IdsSeen gone seen) where
  still_differ : (T (holds_id e) → Memᴰ e.key seen → ⊥) → IdsDifferAmong (gone ++ e ∷ [])
  unfolding IdsDifferAmong
  still_differ new a b ma mb ha hb q = go (mathlib.Core.List.Memᴰ.append_cases gone ma) (mathlib.Core.List.Memᴰ.append_cases gone mb)
    where
      clash : (x y : Entry) → Memᴰ x gone → Memᴰ y (e ∷ []) → T (holds_id x) → T (holds_id y) → x.key ≡ y.key → ⊥
      clash x y mx my hx hy r =
          let y-is : y ≡ e = mathlib.Core.List.Memᴰ.eq_of_singleton my in
          let hy' : T (holds_id e) = rw y-is at hy in
          new hy' (c.kept e.key x (record { stands = mx; has_id = hx; id_is = r ∙ ap (λ (z : Entry). z.key) y-is }))

      go : Memᴰ a gone ⊎ Memᴰ a (e ∷ []) → Memᴰ b gone ⊎ Memᴰ b (e ∷ []) → a.number ≡ b.number
      go (inl x) (inl y) = c.differ a b x y ha hb q
      go (inl x) (inr y) = absurd (clash a b x y ha hb q)
      go (inr x) (inl y) = absurd (clash b a y x hb ha (sym q))
      go (inr x) (inr y) = ap (λ (z : Entry). z.number) (mathlib.Core.List.Memᴰ.eq_of_singleton x ∙ sym (mathlib.Core.List.Memᴰ.eq_of_singleton y))

  seen_without : (T (holds_id e) → ⊥) → IdsSeen (gone ++ e ∷ []) seen
  seen_without no_id = record { found = found'; kept = kept'; differ = still_differ (λ h. absurd (no_id h)) }
    where
      found' : (s : List ℕ) → Memᴰ s seen → (b : Entry) × HasIdAmong (gone ++ e ∷ []) s b
      found' s m =
          let (b, h) = c.found s m in
          (b, record { stands = mathlib.Core.List.Memᴰ.append_left (e ∷ []) h.stands; has_id = h.has_id; id_is = h.id_is })

      kept' : (s : List ℕ) (b : Entry) → HasIdAmong (gone ++ e ∷ []) s b → Memᴰ s seen
      kept' s b h = go (mathlib.Core.List.Memᴰ.append_cases gone h.stands)
        where
          go : Memᴰ b gone ⊎ Memᴰ b (e ∷ []) → Memᴰ s seen
          go (inl x) = c.kept s b (record { stands = x; has_id = h.has_id; id_is = h.id_is })
          go (inr y) = absurd (no_id (subst (λ (z : Entry). T (holds_id z)) (mathlib.Core.List.Memᴰ.eq_of_singleton y) h.has_id))

  seen_with : T (holds_id e) → (Memᴰ e.key seen → ⊥) → IdsSeen (gone ++ e ∷ []) (e.key ∷ seen)
  seen_with id new = record { found = λ s m. found' s (mathlib.Core.List.Memᴰ.cases_cons m); kept = kept'; differ = still_differ (λ h. new) }
    where
      found' : (s : List ℕ) → (s ≡ e.key) ⊎ Memᴰ s seen → (b : Entry) × HasIdAmong (gone ++ e ∷ []) s b
      found' s (inl q) = (e, record { stands = mathlib.Core.List.Memᴰ.append_right gone (mathlib.Core.List.Memᴰ.head refl); has_id = id; id_is = sym q })
      found' s (inr m) =
          let (b, h) = c.found s m in
          (b, record { stands = mathlib.Core.List.Memᴰ.append_left (e ∷ []) h.stands; has_id = h.has_id; id_is = h.id_is })

      kept' : (s : List ℕ) (b : Entry) → HasIdAmong (gone ++ e ∷ []) s b → Memᴰ s (e.key ∷ seen)
      kept' s b h = go (mathlib.Core.List.Memᴰ.append_cases gone h.stands)
        where
          go : Memᴰ b gone ⊎ Memᴰ b (e ∷ []) → Memᴰ s (e.key ∷ seen)
          go (inl x) = mathlib.Core.List.Memᴰ.tail (c.kept s b (record { stands = x; has_id = h.has_id; id_is = h.id_is }))
          go (inr y) = mathlib.Core.List.Memᴰ.head (sym h.id_is ∙ ap (λ (z : Entry). z.key) (mathlib.Core.List.Memᴰ.eq_of_singleton y))

repeat_answer : (gone es : List Entry) (seen : List (List ℕ)) → IdsSeen gone seen → RepeatAnswer (gone ++ es) (found_repeated_id seen es)
unfolding found_repeated_id
repeat_answer gone [] seen c = rw append-nil c.differ
repeat_answer gone (e ∷ es) seen c =
    cond_case (RepeatAnswer (gone ++ e ∷ es)) (holds_id e)
    (λ t. cond_case (RepeatAnswer (gone ++ e ∷ es)) (is_among e.key seen) (λ u. repeated (true_T t) (true_T u))
    (λ u. on (found_repeated_id (e.key ∷ seen) es)
    (repeat_answer (gone ++ e ∷ []) es (e.key ∷ seen)
    (seen_with gone seen e c (true_T t) (λ m. false_not_T u (member_among e.key seen m))))))
    (λ f. on (found_repeated_id seen es) (repeat_answer (gone ++ e ∷ []) es seen (seen_without gone seen e c (false_not_T f))))
  where
    on : (f : First) → RepeatAnswer ((gone ++ e ∷ []) ++ es) f → RepeatAnswer (gone ++ e ∷ es) f
    on f a = subst (λ (l : List Entry). RepeatAnswer l f) (append_snoc gone e es) a

    repeated : T (holds_id e) → T (is_among e.key seen) → FirstRepeated (gone ++ e ∷ es) e.number
    repeated t u =
        let (b, h) = c.found e.key (among_member e.key seen u) in
        record {
          before = gone;
          after = es;
          block = e;
          split = refl;
          number_is = refl;
          has_id = t;
          earlier = b;
          on_earlier = h;
          differ_before = c.differ;
        }

-- 16 is answered just where two blocks have one id: the first of them that comes after another.
pub repeated_answer : (d : Node) → RepeatAnswer (entries 0 d) (found_repeated_id [] (entries 0 d))
repeated_answer d =
    repeat_answer [] (entries 0 d) []
    (record { found = λ s m. absurd (mathlib.Core.List.Memᴰ.not-nil m); kept = λ s b h. absurd (mathlib.Core.List.Memᴰ.not-nil h.stands); differ = none })
  where
    none : IdsDifferAmong []
    none = unfold IdsDifferAmong in λ e f m. absurd (mathlib.Core.List.Memᴰ.not-nil m)

abbrev entry_number : Entry → ℕ
entry_number e = e.number

pub entries_counted : (d : Node) → NumberedFrom entry_number 0 (entries 0 d)
entries_counted d = counted entry_number (entries 0 d) 0 (count d) (entry_numbers d 0)

-- The entries that have an id are the blocks that have it, by number.
module _ (d : Node) where
  visit_entry : (v : Visit) → Memᴰ v (visits_of d) → Memᴰ (entry_of v) (entries 0 d)
  unfolding visits_of
  visit_entry v m = rw (entries_visits d 0 missing 0) (mathlib.Core.List.Memᴰ.map entry_of m)

  pub entry_visit : (e : Entry) → Memᴰ e (entries 0 d) → (v : Visit) × Memᴰ v (visits_of d) × (entry_of v ≡ e)
  unfolding visits_of
  entry_visit e m = mathlib.Core.List.Memᴰ.of_map entry_of (visits 0 missing 0 d) (rw (entries_visits d 0 missing 0) at m)

  entry_id : (s : List ℕ) (b : Entry) → HasIdAmong (entries 0 d) s b → (v : Visit) × HasId d s b.number v × (entry_of v ≡ b)
  unfolding entry_of holds_id
  entry_id s b h =
      let (v, m, e) = entry_visit b h.stands in
      let (k, n) = both (Class.is_block b.kind) (non_empty b.key) h.has_id in (
        v,
        record {
          there = m;
          number_is = ap (λ (z : Entry). z.number) e;
          is_block = rw (ap (λ (z : Entry). z.kind) e) k;
          present = rw h.id_is at n;
          id_is = ap (λ (z : Entry). z.key) e ∙ h.id_is;
        },
        e,
      )

  id_entry : (s : List ℕ) (i : ℕ) (v : Visit) → HasId d s i v → HasIdAmong (entries 0 d) s (entry_of v)
  unfolding entry_of holds_id
  id_entry s i v h =
      record {
        stands = visit_entry v h.there;
        has_id = both_true (Class.is_block (node_kind v.visited)) (non_empty (node_key v.visited)) h.is_block (rw h.id_is h.present);
        id_is = h.id_is;
      }

  -- Where ids differ among entries, no block of them has the id of an earlier one of them.
  differ_none : (es : List Entry) → IdsDifferAmong es → (i : ℕ) (a : RepeatedId d i) → Memᴰ (entry_of a.block) es
      → Memᴰ (entry_of a.other) es → ⊥
  unfolding IdsDifferAmong entry_of
  differ_none es differ i a m n =
      let h = id_entry a.id i a.block a.has_id in
      let g = id_entry a.id a.earlier a.other a.also_has in
      let q : a.block.number ≡ a.other.number =
      differ (entry_of a.block) (entry_of a.other) m n h.has_id g.has_id (h.id_is ∙ sym g.id_is) in
      omega (arith, a.has_id.number_is, a.also_has.number_is, a.before)

  -- The search decides fault 16, and names the first block that has it.
  pub repeated_found : Finds (RepeatedId d) (found_repeated_id [] (entries 0 d))
  repeated_found = from (found_repeated_id [] (entries 0 d)) (repeated_answer d)
    where
      first : (i : ℕ) → FirstRepeated (entries 0 d) i → FirstSuch (RepeatedId d) i
      first i r =
          let (v, hv, ev) = entry_id r.block.key r.block (record { stands = block_stands (entries 0 d) i r; has_id = r.has_id; id_is = refl }) in
          let (u, hu, eu) = entry_id r.block.key r.earlier (record { stands = stood; has_id = r.on_earlier.has_id; id_is = r.on_earlier.id_is }) in
          record {
            has =
                record {
                  id = r.block.key;
                  block = v;
                  has_id = subst (λ (n : ℕ). HasId d r.block.key n v) r.number_is hv;
                  earlier = r.earlier.number;
                  before = omega (arith, earlier_less entry_number r.before 0 r.block r.earlier r.after counts r.on_earlier.stands, r.number_is);
                  other = u;
                  also_has = hu;
                };
            none_before = λ j l a.
                differ_none r.before r.differ_before j a
                (back (entry_of a.block) (visit_entry a.block a.has_id.there) (unfold entry_of in omega (arith, l, a.has_id.number_is)))
                (back (entry_of a.other) (visit_entry a.other a.also_has.there) (unfold entry_of in omega (arith, l, a.before, a.also_has.number_is)));
          }
        where
          stood : Memᴰ r.earlier (entries 0 d)
          stood = rw r.split (mathlib.Core.List.Memᴰ.append_left (r.block ∷ r.after) r.on_earlier.stands)

          counts : NumberedFrom entry_number 0 (r.before ++ r.block ∷ r.after)
          counts = subst (λ (l : List Entry). NumberedFrom entry_number 0 l) r.split (entries_counted d)

          back : (e : Entry) → Memᴰ e (entries 0 d) → e.number < i → Memᴰ e r.before
          back e m l = less_earlier entry_number r.before 0 r.block e r.after counts (rw r.split at m) (omega (arith, l, r.number_is))

      from : (f : First) → RepeatAnswer (entries 0 d) f → Finds (RepeatedId d) f
      from nowhere a = λ i r. differ_none (entries 0 d) a i r (visit_entry r.block r.has_id.there) (visit_entry r.other r.also_has.there)
      from (at_node i) a = first i a

  -- No block has it just where ids differ.
  pub ids_differ_none : (IdsDiffer d → None (RepeatedId d)) × (None (RepeatedId d) → IdsDiffer d)
  unfolding IdsDiffer IdsDifferAmong
  ids_differ_none = (
    λ differ i a. differ_none (entries 0 d) (unfold IdsDifferAmong in differ) i a (visit_entry a.block a.has_id.there) (visit_entry a.other a.also_has.there),
    to,
  )
    where
      repeats : None (RepeatedId d) → (e f : Entry) → HasIdAmong (entries 0 d) e.key e → HasIdAmong (entries 0 d) e.key f → f.number < e.number → ⊥
      repeats none e f h g l =
          let (v, hv, ev) = entry_id e.key e h in
          let (u, hu, eu) = entry_id e.key f g in
          none e.number (record { id = e.key; block = v; has_id = hv; earlier = f.number; before = l; other = u; also_has = hu })

      to : None (RepeatedId d) → (e f : Entry) → Memᴰ e (entries 0 d) → Memᴰ f (entries 0 d) → T (holds_id e) → T (holds_id f) → e.key ≡ f.key
          → e.number ≡ f.number
      to none e f m n he hf q =
          let a : f.number < e.number → ⊥ =
          repeats none e f (record { stands = m; has_id = he; id_is = refl }) (record { stands = n; has_id = hf; id_is = sym q }) in
          let b : e.number < f.number → ⊥ =
          repeats none f e (record { stands = n; has_id = hf; id_is = refl }) (record { stands = m; has_id = he; id_is = q }) in
          omega arith

-- A node of kind k whose target is the id of no block of the kinds that p names.
record Unfound (d : Node) (k : ℕ) (p : ℕ → Bool) (i : ℕ) : Type 0 where
  naming : Visit
  at_number : NodeAt d i k naming
  on_none : (j : ℕ) (b : Visit) → HasId d (node_key naming.visited) j b → T (p (node_kind b.visited)) → ⊥

module _ (d : Node) (k : ℕ) (p : ℕ → Bool) where
  abbrev ids : List (List ℕ)
  ids = ids_where p (entries 0 d)

  -- The test of the search, of a document's entries.
  is_unknown : Entry → Bool
  is_unknown e = eqb e.kind k && not (is_among e.key ids)

  target_first : (es : List Entry) → found_unknown_target k ids es ≡ first_of entry_number is_unknown es
  unfolding found_unknown_target first_of is_unknown
  target_first [] = refl
  target_first (e ∷ es) = rw (target_first es)

  target_answer : FirstAnswer entry_number is_unknown (entries 0 d) (found_unknown_target k ids (entries 0 d))
  target_answer = rw (target_first (entries 0 d)) (first_answer entry_number is_unknown (entries 0 d) 0 (entries_counted d))

  unknown_unfound : (e : Entry) → Memᴰ e (entries 0 d) → e.kind ≡ k → is_among e.key ids ≡ false → Unfound d k p e.number
  unfolding entry_of
  unknown_unfound e m q f =
      let (v, mv, ev) = entry_visit d e m in
      record {
        naming = v;
        at_number = record { there = mv; number_is = ap (λ (z : Entry). z.number) ev; kind_is = ap (λ (z : Entry). z.kind) ev ∙ q };
        on_none = λ j b h t.
            let g : HasId d e.key j b = subst (λ (s : List ℕ). HasId d s j b) (ap (λ (z : Entry). z.key) ev) h in
            false_not_T f (member_among e.key ids (gathers p (entries 0 d) e.key (entry_of b) t (id_entry d e.key j b g)));
      }

  -- Where a block has the id, the target is found.
  known : (i : ℕ) (a : Unfound d k p i) (b : Entry) → T (p b.kind) → HasIdAmong (entries 0 d) (node_key a.naming.visited) b → ⊥
  unfolding entry_of
  known i a b t h =
      let (u, hu, eu) = entry_id d (node_key a.naming.visited) b h in
      a.on_none b.number u hu (subst (λ (n : ℕ). T (p n)) (ap (λ (z : Entry). z.kind) (sym eu)) t)

  unfound_unknown : (i : ℕ) → Unfound d k p i → (e : Entry) × Memᴰ e (entries 0 d) × (e.number ≡ i) × (is_unknown e ≡ true)
  unfolding entry_of is_unknown
  unfound_unknown i a =
      let v : Visit = a.naming in
      let out : is_among (node_key v.visited) ids ≡ false =
      not_T_false _ (λ t.
      let (b, q, h) = gathered p (entries 0 d) (node_key v.visited) (among_member _ ids t) in
      known i a b q h) in
      (entry_of v, visit_entry d v a.at_number.there, a.at_number.number_is, rw (eq-eqb _ _ a.at_number.kind_is, out))

  target_found : Finds (Unfound d k p) (found_unknown_target k ids (entries 0 d))
  unfolding is_unknown
  target_found =
      test_finds entry_number is_unknown (entries 0 d) (Unfound d k p) (λ e m t.
      let (q, u) = both (eqb e.kind k) (not (is_among e.key ids)) (true_T t) in
      unknown_unfound e m (eqb→eq _ _ q) (not-true _ (T_true _ u))) unfound_unknown (found_unknown_target k ids (entries 0 d)) target_answer

  -- The search names an entry of the document.
  pub target_stands : (i : ℕ) → found_unknown_target k ids (entries 0 d) ≡ at_node i → (e : Entry) × Memᴰ e (entries 0 d) × (e.number ≡ i)
  target_stands i q =
      let a : FirstIn entry_number is_unknown (entries 0 d) i = subst (FirstAnswer entry_number is_unknown (entries 0 d)) q target_answer in
      (a.found, a.stands, a.number_is)

  -- Each target is found just where no node has such a one.
  abbrev TargetsFound : Type 0
  TargetsFound = (e : Entry) → Memᴰ e (entries 0 d) → e.kind ≡ k → (b : Entry) × T (p b.kind) × HasIdAmong (entries 0 d) e.key b

  targets_none : (TargetsFound → None (Unfound d k p)) × (None (Unfound d k p) → TargetsFound)
  unfolding entry_of
  targets_none = (
    λ found i a.
        let (b, t, h) = found (entry_of a.naming) (visit_entry d a.naming a.at_number.there) a.at_number.kind_is in
        known i a b t h,
    λ none e m q.
        bool_case (is_among e.key ids) (λ t. gathered p (entries 0 d) e.key (among_member e.key ids (true_T t)))
        (λ f. absurd (none e.number (unknown_unfound e m q f))),
  )

module _ (d : Node) where
  link_unfound : (i : ℕ) → UnknownLink d i → Unfound d Class.link Class.is_block i
  link_unfound i a = record { naming = a.link; at_number = a.is_link; on_none = λ j b h t. a.on_none j b h }

  unfound_link : (i : ℕ) → Unfound d Class.link Class.is_block i → UnknownLink d i
  unfound_link i a = record { link = a.naming; is_link = a.at_number; on_none = λ j b h. a.on_none j b h h.is_block }

  -- The search decides fault 17, and names the first link that has it.
  pub link_found : Finds (UnknownLink d) (found_unknown_link (entries 0 d))
  unfolding found_unknown_link
  link_found =
      finds_same (Unfound d Class.link Class.is_block) (UnknownLink d) unfound_link link_unfound (found_unknown_link (entries 0 d))
      (target_found d Class.link Class.is_block)

  -- No link has it just where every link's target is the id of a block.
  pub links_found_none : (LinksFound d → None (UnknownLink d)) × (None (UnknownLink d) → LinksFound d)
  unfolding LinksFound holds_id
  links_found_none = (
    λ found i a. (targets_none d Class.link Class.is_block).0 (λ e m q.
        let (b, h) = found e m q in
        (b, (both (Class.is_block b.kind) (non_empty b.key) h.has_id).0, h)) i (link_unfound i a),
    λ none e m q.
        let (b, t, h) = (targets_none d Class.link Class.is_block).1 (λ i a. none i (unfound_link i a)) e m q in
        (b, h),
  )

  footnote_unfound : (i : ℕ) → UnknownFootnote d i → Unfound d Class.footnote_ref (eqb Class.footnote) i
  footnote_unfound i a =
      record {
        naming = a.reference;
        at_number = a.is_reference;
        on_none = λ j b h t. a.on_none j b h (omega (arith, eqb→eq Class.footnote (node_kind b.visited) t));
      }

  unfound_footnote : (i : ℕ) → Unfound d Class.footnote_ref (eqb Class.footnote) i → UnknownFootnote d i
  unfound_footnote i a =
      record {
        reference = a.naming;
        is_reference = a.at_number;
        on_none = λ j b h e. a.on_none j b h (true_T (eq-eqb Class.footnote (node_kind b.visited) (omega (arith, e))));
      }

  -- The search decides fault 18, and names the first footnote-ref that has it.
  pub footnote_found : Finds (UnknownFootnote d) (found_unknown_footnote (entries 0 d))
  unfolding found_unknown_footnote
  footnote_found =
      finds_same (Unfound d Class.footnote_ref (eqb Class.footnote)) (UnknownFootnote d) unfound_footnote footnote_unfound (found_unknown_footnote (entries 0 d))
      (target_found d Class.footnote_ref (eqb Class.footnote))

  -- No footnote-ref has it just where every one's target is the id of a footnote.
  pub refs_found_none : (RefsFound d → None (UnknownFootnote d)) × (None (UnknownFootnote d) → RefsFound d)
  unfolding RefsFound
  refs_found_none = (
    λ found i a. (targets_none d Class.footnote_ref (eqb Class.footnote)).0 (λ e m q.
        let (b, k, h) = found e m q in
        (b, true_T (eq-eqb Class.footnote b.kind (sym k)), h)) i (footnote_unfound i a),
    λ none e m q.
        let (b, t, h) = (targets_none d Class.footnote_ref (eqb Class.footnote)).1 (λ i a. none i (unfound_footnote i a)) e m q in
        (b, sym (eqb→eq Class.footnote b.kind t), h),
  )

-- A number names at most one entry of a document.
pub number_names_one : (d : Node) (e f : Entry) → Memᴰ e (entries 0 d) → Memᴰ f (entries 0 d) → e.number ≡ f.number → e ≡ f
number_names_one d e f m m' q = one_number entry_number (entries 0 d) 0 e f (entries_counted d) m m' q

-- Where ids differ, an id names at most one block: so a link's target, and a footnote-ref's, is on exactly one.
pub exactly_one_block : (d : Node) → IdsDiffer d → (s : List ℕ) (b b' : Entry) → HasIdAmong (entries 0 d) s b → HasIdAmong (entries 0 d) s b' → b ≡ b'
unfolding IdsDiffer IdsDifferAmong
exactly_one_block d differ s b b' h h' =
    number_names_one d b b' h.stands h'.stands (differ b b' h.stands h'.stands h.has_id h'.has_id (h.id_is ∙ sym h'.id_is))
