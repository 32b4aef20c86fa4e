-- When the node of a record is lawful: a text, and an element.
use Prim.Native.Nat.{ℕ, ◌+◌, ◌*◌, ◌-◌, ◌≤◌, max}
use mathlib.Core.Path.{◌≡◌, refl, sym, ap, ◌∙◌}
use mathlib.Core.Bool.{not, cond, ◌&&◌, true≢false}
use mathlib.Core.List.{List, []}
use native.Mathlib.Omega.{arith}
use lib.Dec.{T, eqb, leb, leb→le}
use lib.ListN.{length}
use borrow.Author.Tests.{eq-eqb, ne_eqb, le-leb, eqb-true}
use Rattle.base.proofs.Booleans.{cond_case, both, both_true}
use Rattle.std.specs.Prelude.{Some, None}
use Rattle.elements.specs.rules.Class as Class
use Rattle.elements.specs.rules.Rules.{rule_of}
use Rattle.elements.specs.rules.Inside.{start}
use Rattle.utf8.specs.reference.Sequence.{valid_up_to}
use Rattle.document.specs.rules.Record.{record_length}
use Rattle.document.specs.reference.RulesTest.{is_text, keeps_rules, keep_rules}
use Rattle.document.specs.reference.Printing.{part}
use Rattle.document.specs.rules.Document.{text, element, Trees}
use Rattle.base.specs.rules.Limits.{missing}
use Rattle.document.specs.rules.Document.{node, Nodes, childless, says, say_all}
use Rattle.document.specs.rules.Table.{count, pool}
use Rattle.document.specs.rules.Canonical.{node_first, place_values, layout, layout_all, tree_levels, most_levels_in}
use Rattle.table.specs.Stored.{word_at, StoredAll}
use Rattle.table.specs.Stored.{string_at}
use Rattle.validate.specs.internal.DraftWalk.{Decided, DecidesNext, offset_of, NamesStringAt, strings_end, RecordAt, TextAlone}
use Rattle.validate.specs.internal.DraftWalk.{ElementAt, value_levels, node_values, LawfulWithin, LawfulNodeAt, ChildrenAt}
use Rattle.validate.proofs.lemmas.records.Decided.{decided_by, decides_none, decides_the, Same}
use Rattle.validate.proofs.lemmas.records.NodeRecords.{node_of, missing_string, string_named, stored_node, node_stored, node_pool}
use Rattle.validate.proofs.lemmas.records.RecordTests.{text_bytes_lem, bytes_text}
use Rattle.validate.proofs.lemmas.draft.ValuePlaces.{levels_of, inside_say}

-- The kinds of elements.
pub element_range : (k : ℕ) → T (Class.is_element k) → (1 ≤ k) × (k ≤ 25)
unfolding Class.is_element Class.is_kind
element_range k t =
    let (low, high) = both (leb 1 k) (leb k 25) (both (leb 1 k && leb k 25) (not (eqb k Class.text)) t).0 in
    (leb→le 1 k low, leb→le k 25 high)

range_element : (k : ℕ) → (k ≡ Class.text → ⊥) → 1 ≤ k → k ≤ 25 → T (Class.is_element k)
unfolding Class.is_element Class.is_kind
range_element k n low high = rw (le-leb 1 k low, le-leb k 25 high, ne_eqb k Class.text n) tt

-- ---- a text

-- The record of node i, which is there, is that of a text.
pub record TextAt (words bytes : List ℕ) (i parent p : ℕ) : Type 0 where
  pub alone : TextAlone words i parent (i + 1)
  pub text_at : NamesStringAt words i 7 p (length bytes)
  pub valid : T (is_text (string_at words bytes i 7))

module _ (words bytes : List ℕ) (i parent p : ℕ) where
  -- A text that stands there is valid where its bytes are.
  pub text_valid : TextAlone words i parent (i + 1) → NamesStringAt words i 7 p (length bytes) → {n : ℕ} → n ≡ valid_up_to
      (part bytes p (word_at words i 8))
      → Decided (TextAt words bytes i parent p) (eqb n (word_at words i 8))
  text_valid a s e =
      let t = string_named words bytes i 7 p s in
      let size : length (string_at words bytes i 7) ≡ word_at words i 8 = t.size in
      let there : part bytes p (word_at words i 8) ≡ string_at words bytes i 7 = rw size at t.there in
      rw (e, there, ← size)
      (decided_by (eqb (valid_up_to (string_at words bytes i 7)) (length (string_at words bytes i 7)))
      (λ b. record { alone = a; text_at = s; valid = bytes_text _ (λ z. a.some (sym size ∙ z)) b })
      (λ b x. true≢false (sym (text_bytes_lem _ x.valid).1 ∙ b)))

  text_recorded : record_length * i + record_length ≤ length words → p ≤ length bytes → TextAt words bytes i parent p → RecordAt words (length bytes) i parent p
  unfolding offset_of
  text_recorded whole within t =
      let a = t.alone in
      let same : p + word_at words i 4 + word_at words i 6 ≡ p = omega (arith, a.no_key, a.no_type) in
      record {
        whole = whole;
        under = a.under;
        key_stands = record { offset = rw (a.no_key_at, a.no_key); within = omega (arith, a.no_key) };
        type_at = record { offset = rw (a.no_type_at, a.no_type); within = omega (arith, a.no_key, a.no_type) };
        text_at = rw same t.text_at;
      }

  module _ (of_kind : word_at words i 0 ≡ Class.text) (within : p ≤ length bytes) where
    layout_text : (ns : Nodes) → layout (node_of words bytes i ns) ≡ text (string_at words bytes i 7)
    unfolding layout node_of
    layout_text ns = rw (eq-eqb (word_at words i 0) Class.text of_kind)

    text_lawful : (left : ℕ) → TextAt words bytes i parent p → LawfulWithin left (node_of words bytes i childless)
    unfolding keeps_rules says tree_levels node_of
    text_lawful left t =
        let l = layout_text childless in
        let a = t.alone in
        record {
          keeps = rw l t.valid;
          said = rw l (cc (
            of_kind,
            missing_string words bytes i 3 a.no_key,
            missing_string words bytes i 5
                a.no_type,
            a.no_width,
            a.no_height,
          ));
          levels = rw l (omega arith);
        }

    -- Where a text stands, its record is a text's, and it has no children.
    pub text_record : {left e q : ℕ} (a : LawfulNodeAt words bytes i parent p left e q)
        → TextAt words bytes i parent p × (a.made ≡ node_of words bytes i childless)
    unfolding keeps_rules says node_of count offset_of
    text_record {left} a =
        let n = stored_node a.made words bytes i parent p a.stored within in
        let r = n.recorded in
        let l = layout_text n.below in
        let lawful : LawfulWithin left (node_of words bytes i n.below) = rw n.made at a.lawful in
        let said = rw l at lawful.said in
        let none : n.below ≡ childless = cc said in
        let key : string_at words bytes i 3 ≡ [] = cc said in
        let type : string_at words bytes i 5 ≡ [] = cc said in
        let no_key = sym (string_named words bytes i 3 p r.key_stands).size ∙ ap length key in
        let no_type = sym (string_named words bytes i 5 (p + word_at words i 4) r.type_at).size ∙ ap length type in
        let same : p + word_at words i 4 + word_at words i 6 ≡ p = omega arith in
        let valid = rw l at lawful.keeps in (
          record {
            alone = record {
              under = r.under;
              ends = rw none at n.end;
              no_key_at = rw no_key at r.key_stands.offset;
              no_key = no_key;
              no_type_at = rw no_type at r.type_at.offset;
              no_type = no_type;
              some = λ z. (text_bytes_lem _ valid).0 ((string_named words bytes i 7 (p + word_at words i 4 + word_at words i 6) r.text_at).size ∙ z);
              no_width = cc said;
              no_height = cc said;
            };
            text_at = rw same at r.text_at;
            valid = valid;
          },
          n.made ∙ rw none,
        )

    pub text_taken : {left : ℕ} → record_length * i + record_length ≤ length words → TextAt words bytes i parent p → {end : ℕ} → end ≡ p + word_at words i 8
        → DecidesNext (LawfulNodeAt words bytes i parent p left) (Some (record { next = i + 1; pool = end }))
    unfolding count StoredAll node_of pool
    text_taken {left} whole t {end} ends =
        let r = text_recorded whole within t in
        let pooled = node_pool childless words bytes i parent p r in
        let one : LawfulNodeAt words bytes i parent p left (i + 1) end =
        record {
          made = node_of words bytes i childless;
          stored = node_stored childless words bytes i parent p r t.alone.ends tt;
          lawful = text_lawful left t;
          next = refl;
          after = omega (arith, pooled, t.alone.no_key, t.alone.no_type);
        } in
        decides_the (record { next = i + 1; pool = end }) one
        (λ m q a.
        let made = (text_record a).1 in
        (sym (rw made at a.next), omega (arith, rw made at a.after, pooled, t.alone.no_key, t.alone.no_type)))

    pub text_refused : {left : ℕ} → (TextAt words bytes i parent p → ⊥) → DecidesNext (LawfulNodeAt words bytes i parent p left) None
    text_refused f = decides_none (λ e q a. f (text_record a).0)

-- ---- an element

module _ (words bytes : List ℕ) (i parent p : ℕ) (r : RecordAt words (length bytes) i parent p) where
  within : p ≤ length bytes
  within = omega (arith, r.key_stands.within)

  key_size : length (string_at words bytes i 3) ≡ word_at words i 4
  key_size = (string_named words bytes i 3 p r.key_stands).size

  type_size : length (string_at words bytes i 5) ≡ word_at words i 6
  type_size = (string_named words bytes i 5 (p + word_at words i 4) r.type_at).size

  text_size : length (string_at words bytes i 7) ≡ word_at words i 8
  text_size = (string_named words bytes i 7 (p + word_at words i 4 + word_at words i 6) r.text_at).size

  -- The trees inside the element of the record, with these children.
  abbrev inner : ℕ → Nodes → Trees
  inner k ns = place_values (node_first (rule_of k).parameters) (node_values words bytes k i) (layout_all ns)

  module _ (k : ℕ) (of_kind : word_at words i 0 ≡ k) (no_text : k ≡ Class.text → ⊥) where
    layout_element : (ns : Nodes) → layout (node_of words bytes i ns) ≡ element k (inner k ns)
    unfolding layout node_of node_values
    layout_element ns = rw (of_kind, ne_eqb k Class.text no_text)

    levels_words : value_levels words i ≡ levels_of k (string_at words bytes i 3) (string_at words bytes i 5) (word_at words i 9) (word_at words i 10)
    unfolding value_levels
    levels_words = rw (key_size, type_size)

    inner_says : (ns : Nodes)
        → says (element k (inner k ns))
        ≡ node k (string_at words bytes i 3) (string_at words bytes i 5) [] (word_at words i 9)
        (cond (eqb (word_at words i 9) missing) missing (word_at words i 10)) (say_all (layout_all ns))
    unfolding says node_values
    inner_says ns =
        let s = inside_say k (string_at words bytes i 3) (string_at words bytes i 5) (word_at words i 9) (word_at words i 10)
        (node_first (rule_of k).parameters) ns in
        cc (s.key_is, s.type_is, s.width_is, s.height_is, s.said)

    inner_levels : (ns : Nodes) → most_levels_in (inner k ns) ≡ max (value_levels words i) (most_levels_in (layout_all ns))
    unfolding node_values
    inner_levels ns =
        (inside_say k (string_at words bytes i 3) (string_at words bytes i 5) (word_at words i 9) (word_at words i 10)
        (node_first (rule_of k).parameters) ns).levels_are
        ∙ rw levels_words

    -- Lawful as an element.
    record LawfulInside (left : ℕ) (ns : Nodes) : Type 0 where
      record_fits : ElementAt words i left
      keep : T (keep_rules k (start k) (inner k ns))
      said : say_all (layout_all ns) ≡ ns
      levels : most_levels_in (layout_all ns) ≤ left - 1

    to_inside : (left : ℕ) (ns : Nodes) → LawfulWithin left (node_of words bytes i ns) → LawfulInside left ns
    unfolding keeps_rules tree_levels node_of
    to_inside left ns a =
        let l = layout_element ns in
        let (e, keep) = both (Class.is_element k) (keep_rules k (start k) (inner k ns)) (rw l at a.keeps) in
        let (low, high) = element_range k e in
        let said = sym (inner_says ns) ∙ rw l at a.said in
        let levels = rw l at a.levels in
        let none : string_at words bytes i 7 ≡ [] = cc said in
        let height : cond (eqb (word_at words i 9) missing) missing (word_at words i 10) ≡ word_at words i 10 = cc said in
        record {
          record_fits = record {
            kind_low = rw of_kind low;
            kind_high = rw of_kind high;
            no_text = sym text_size ∙ ap length none;
            sized = λ w. sym (rw (eq-eqb (word_at words i 9) missing w) at height);
            levels = omega (arith, inner_levels ns);
          };
          keep = keep;
          said = cc said;
          levels = omega (arith, inner_levels ns);
        }

    from_inside : (left : ℕ) (ns : Nodes) → LawfulInside left ns → LawfulWithin left (node_of words bytes i ns)
    unfolding keeps_rules tree_levels node_of
    from_inside left ns a =
        let l = layout_element ns in
        let height : cond (eqb (word_at words i 9) missing) missing (word_at words i 10) ≡ word_at words i 10
        = cond_case (λ (n : ℕ). n ≡ word_at words i 10) (eqb (word_at words i 9) missing) (λ e. sym (a.record_fits.sized (eqb-true _ _ e)))
        (λ e. refl) in
        record {
          keeps = rw l (both_true (Class.is_element k) (keep_rules k (start k) (inner k ns))
              (range_element k no_text (rw of_kind at a.record_fits.kind_low) (rw of_kind at a.record_fits.kind_high)) a.keep);
          said = rw l (inner_says ns ∙ cc (of_kind, missing_string words bytes i 7 a.record_fits.no_text, height, a.said));
          levels = rw l (omega (arith, inner_levels ns, a.record_fits.levels, a.levels));
        }

    -- The element stands in the table where its children and values do.
    pub element_same : {left : ℕ} → ElementAt words i left
        → Same (ChildrenAt words bytes (place_values (node_first (rule_of k).parameters) (node_values words bytes k i)) k i (start k) (i + 1)
        (strings_end words i p) (word_at words i 2) (left - 1))
        (LawfulNodeAt words bytes i parent p left)
    unfolding count node_of pool
    element_same {left} f =
        record {
          to = λ e q c. record {
            made = node_of words bytes i c.made;
            stored = node_stored c.made words bytes i parent p r (omega (arith, c.end_is)) c.stored;
            lawful = from_inside left c.made (record { record_fits = f; keep = c.keep; said = c.said; levels = c.levels });
            next = omega (arith, c.next, c.end_is);
            after = c.after ∙ sym (node_pool c.made words bytes i parent p r);
          };
          from = λ e q a.
              let n = stored_node a.made words bytes i parent p a.stored within in
              let h = to_inside left n.below (rw n.made at a.lawful) in
              record {
                made = n.below;
                stored = n.stored;
                keep = h.keep;
                said = h.said;
                levels = h.levels;
                end_is = omega (arith, n.end);
                next = rw n.made at a.next ∙ sym n.end;
                after = rw n.made at a.after ∙ node_pool n.below words bytes i parent p r;
              };
        }

    -- Where it stands, its record is an element's.
    pub element_record : {left e q : ℕ} → LawfulNodeAt words bytes i parent p left e q → ElementAt words i left
    element_record {left} a =
        let n = stored_node a.made words bytes i parent p a.stored within in
        (to_inside left n.below (rw n.made at a.lawful)).record_fits
