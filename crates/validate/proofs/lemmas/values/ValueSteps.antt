-- The values before the trees inside an element: which are taken, and the state after them.
use Prim.Native.Nat.{ℕ, ◌+◌, ◌≤◌, ◌<◌}
use mathlib.Core.Path.{◌≡◌, refl, ap, ◌∙◌}
use mathlib.Core.Bool.{Bool, true, false, cond, ◌&&◌, true≢false}
use mathlib.Core.List.{List, [], ◌∷◌}
use native.Mathlib.Omega.{arith}
use lib.Dec.{eqb, ltb}
use lib.ListN.{length}
use borrow.Author.Tests.{eqb-true, eq-eqb, ne_eqb, le-leb, lt-leb, ltb-true, ltb-false}
use Rattle.std.specs.Prelude.{Option, Some, None, MatchOption}
use Rattle.base.proofs.Booleans.{bool_case, and_false}
use Rattle.elements.specs.rules.Class as Class
use Rattle.elements.specs.rules.Characters.{id_character, uri_character, character_of}
use Rattle.elements.specs.rules.Rules.{rule_of}
use Rattle.elements.specs.rules.Inside.{go, bad, step, start}
use Rattle.inside.specs.Machine.{state_of}
use Rattle.inside.proofs.Steps.{start_state}
use Rattle.base.specs.rules.Limits.{missing}
use Rattle.document.specs.rules.Document.{Trees, empty, holds, tree_class, Nodes, childless, child}
use Rattle.document.specs.reference.RulesTest.{step_goes_on, keeps_rules, keep_rules}
use Rattle.document.specs.rules.Table.{count, count_all}
use Rattle.document.specs.rules.Value.{non_empty, every, names_block, target_character, is_value, is_size}
use Rattle.document.specs.rules.Canonical.{node_first, place_values, layout, layout_all, value_before, size_before}
use Rattle.document.proofs.TableDetermines.{count_positive}
use Rattle.table.specs.Stored.{word_at}
use Rattle.validate.specs.declared.record.Row.{Row}
use Rattle.validate.specs.declared.draft.Led.TheVariants.{Due, Taken}
use Rattle.validate.specs.internal.DraftWalk.{TakesValues, ValuesLead, value_levels, node_values, row_values}
use Rattle.validate.proofs.lemmas.records.NodeRecords.{missing_string}

-- ---- the characters of a value

module _ (k c : ℕ) (s : List ℕ) where
  pub type_characters : c ≡ Class.type → is_value k c s ≡ non_empty s && every (character_of 0) s
  unfolding is_value character_of
  type_characters e = rw e

  pub id_characters : c ≡ Class.id → is_value k c s ≡ non_empty s && every (character_of 1) s
  unfolding is_value character_of
  id_characters e = rw e

  target_characters : c ≡ Class.target → is_value k c s ≡ non_empty s && every (target_character k) s
  unfolding is_value
  target_characters e = rw e

  pub link_characters : c ≡ Class.target → names_block k ≡ true → is_value k c s ≡ non_empty s && every (character_of 1) s
  unfolding character_of target_character
  link_characters e f = target_characters e ∙ ap (λ (b : Bool). non_empty s && every (λ x. cond b (id_character x) (uri_character x)) s) f

  pub uri_characters : c ≡ Class.target → names_block k ≡ false → is_value k c s ≡ non_empty s && every (character_of 2) s
  unfolding character_of target_character
  uri_characters e f = target_characters e ∙ ap (λ (b : Bool). non_empty s && every (λ x. cond b (id_character x) (uri_character x)) s) f

-- ---- a value

module _ (k c state : ℕ) where
  pub value_missing : (s : List ℕ) → length s ≡ 0 → TakesValues k (value_before c s) state (Some state)
  unfolding value_before
  value_missing [] e = record { taken = λ ts. refl }
  value_missing (b ∷ bs) e = absurd (omega arith)

  pub value_fault : (fault : ℕ) → step k (state_of k state) c ≡ bad fault → (s : List ℕ) → (length s ≡ 0 → ⊥) → TakesValues k (value_before c s) state None
  unfolding value_before keeps_rules tree_class step_goes_on
  value_fault fault e [] h = absurd (h refl)
  value_fault fault e (b ∷ bs) h = record { taken = λ ts. rw e (and_false (is_value k c (b ∷ bs))) }

  module _ (next : ℕ) (e : step k (state_of k state) c ≡ go (state_of k next)) (test : ℕ → Bool) (s : List ℕ) (h : length s ≡ 0 → ⊥)
      (is : is_value k c s ≡ non_empty s && every test s) where
    stepped : (ts : Trees) → keep_rules k (state_of k state) (value_before c s ts) ≡ every test s && keep_rules k (state_of k next) ts
    unfolding value_before keeps_rules tree_class step_goes_on non_empty
    stepped ts = by s h is
      where
        by : (s : List ℕ) → (length s ≡ 0 → ⊥) → is_value k c s ≡ non_empty s && every test s
            → keep_rules k (state_of k state) (value_before c s ts) ≡ every test s && keep_rules k (state_of k next) ts
        by [] h g = absurd (h refl)
        by (b ∷ bs) h g = rw (e, g)

    pub value_taken : every test s ≡ true → TakesValues k (value_before c s) state (Some next)
    value_taken f = record { taken = λ ts. stepped ts ∙ rw f }

    pub value_unfit : every test s ≡ false → TakesValues k (value_before c s) state None
    value_unfit f = record { taken = λ ts. stepped ts ∙ rw f }

-- ---- a size

module _ (k state w h : ℕ) where
  pub size_missing : w ≡ missing → TakesValues k (size_before w h) state (Some state)
  unfolding size_before
  size_missing e = record { taken = λ ts. rw (eq-eqb w missing e) }

  module _ (there : w ≡ missing → ⊥) where
    pub size_wide : 65535 < w → TakesValues k (size_before w h) state None
    unfolding size_before keeps_rules is_size
    size_wide l = record { taken = λ ts. rw (ne_eqb w missing there, lt-leb w 65535 l) }

    pub size_high : w ≤ 65535 → 65535 < h → TakesValues k (size_before w h) state None
    unfolding size_before keeps_rules is_size
    size_high b l = record { taken = λ ts. rw (ne_eqb w missing there, le-leb w 65535 b, lt-leb h 65535 l) }

    pub size_taken : w ≤ 65535 → h ≤ 65535 → (answer : Option ℕ)
        → MatchOption answer ((fault : ℕ) × (step k (state_of k state) Class.size ≡ bad fault)) (λ next. step k (state_of k state) Class.size ≡ go (state_of k next))
        → TakesValues k (size_before w h) state answer
    unfolding size_before keeps_rules is_size tree_class step_goes_on
    size_taken a b None (fault, e) = record { taken = λ ts. rw (ne_eqb w missing there, le-leb w 65535 a, le-leb h 65535 b, e) }
    size_taken a b (Some next) e = record { taken = λ ts. rw (ne_eqb w missing there, le-leb w 65535 a, le-leb h 65535 b, e) }

-- ---- one after another

pub takes_then : {k state state' : ℕ} {W W' : Trees → Trees} {answer : Option ℕ} → TakesValues k W state (Some state') → TakesValues k W' state' answer
    → TakesValues k (λ ts. W (W' ts)) state answer
takes_then {W' = W'} t u = record { taken = λ ts. t.taken (W' ts) ∙ u.taken ts }

pub takes_not : {k state : ℕ} {W W' : Trees → Trees} → TakesValues k W state None → TakesValues k (λ ts. W (W' ts)) state None
takes_not {W' = W'} t = record { taken = λ ts. t.taken (W' ts) }

-- ---- no values

levels_none : (a b c : Bool) → ◌≡◌ {A = ℕ} (cond (a && (b && c)) 0 1) 0 → (a ≡ true) × (b ≡ true) × (c ≡ true)
levels_none true true true e = (refl, refl, refl)
levels_none true true false e = absurd (omega arith)
levels_none true false c e = absurd (omega arith)
levels_none false b c e = absurd (omega arith)

-- An element without values has nothing before its trees.
nothing : (words bytes : List ℕ) (k i : ℕ) → value_levels words i ≡ 0 → (ts : Trees) → node_values words bytes k i ts ≡ ts
unfolding value_levels node_values value_before size_before
nothing words bytes k i e ts =
    let (a, b, c) = levels_none (eqb (word_at words i 4) 0) (eqb (word_at words i 6) 0) (eqb (word_at words i 9) missing) e in
    rw (missing_string words bytes i 3 (eqb-true _ 0 a), missing_string words bytes i 5 (eqb-true _ 0 b), c)

placed_nothing : (b : Bool) {W : Trees → Trees} → ((ts : Trees) → W ts ≡ ts) → (ts : Trees) → place_values b W ts ≡ ts
unfolding place_values
placed_nothing false h ts = h ts
placed_nothing true h empty = h empty
placed_nothing true h (holds t ts) = ap (holds t) (h ts)

-- ---- the values before the children

placed_alone : (W : Trees → Trees) (ns : Nodes) → count_all ns ≡ 0 → place_values true W (layout_all ns) ≡ W (layout_all ns)
unfolding place_values layout count
placed_alone W childless e = refl
placed_alone W (child n ns) e = absurd (omega (arith, count_positive n))

module _ (row : Row) (k end : ℕ) where
  abbrev W : Trees → Trees
  W = row_values row k

  pub lead_none : value_levels row.table.now.nodes.now row.number ≡ 0 → ValuesLead k row.number end W (Some (Taken 0))
  lead_none e =
      record {
        taken = λ ns n. rw (placed_nothing (node_first (rule_of k).parameters) (nothing row.table.now.nodes.now row.table.now.pool.now k row.number e) (layout_all ns), start_state k);
        before_child = λ d. cc;
      }

  pub lead_due : node_first (rule_of k).parameters ≡ true → row.number + 1 < end → ValuesLead k row.number end W (Some Due)
  lead_due e h = record { taken = λ ns n. rw (e, start_state k); before_child = λ d. h }

  module _ (h : row.number + 1 < end → node_first (rule_of k).parameters ≡ false) where
    before : (ns : Nodes) → end ≡ row.number + 1 + count_all ns
        → keep_rules k (start k) (place_values (node_first (rule_of k).parameters) W (layout_all ns)) ≡ keep_rules k (state_of k 0) (W (layout_all ns))
    before = by (node_first (rule_of k).parameters) h
      where
        by : (b : Bool) → (row.number + 1 < end → b ≡ false) → (ns : Nodes) → end ≡ row.number + 1 + count_all ns
            → keep_rules k (start k) (place_values b W (layout_all ns)) ≡ keep_rules k (state_of k 0) (W (layout_all ns))
        by false g ns n = unfold place_values in rw (start_state k)
        by true g ns n =
            bool_case (ltb (row.number + 1) end) (λ l. absurd (true≢false (g (ltb-true (row.number + 1) end l))))
            (λ l. rw (placed_alone W ns (omega (arith, ltb-false (row.number + 1) end l)), start_state k))

    pub lead_taken : {state : ℕ} → TakesValues k W 0 (Some state) → ValuesLead k row.number end W (Some (Taken state))
    lead_taken t = record { taken = λ ns n. before ns n ∙ t.taken (layout_all ns); before_child = λ d. cc }

    pub lead_refused : TakesValues k W 0 None → ValuesLead k row.number end W None
    lead_refused t = record { taken = λ ns n. before ns n ∙ t.taken (layout_all ns); before_child = λ d. cc }
