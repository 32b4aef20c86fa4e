-- The index of ids: what a chain of nodes in one slot leaves out, and what keeps the index right.
use Prim.Native.Nat.{ℕ, zero, suc, ◌+◌, ◌*◌, ◌-◌, ◌%◌, ◌<◌, ◌≤◌}
use mathlib.Core.Path.{◌≡◌, ◌∙◌, refl, sym, ap}
use mathlib.Core.Bool.{Bool, true, false, ◌&&◌, true≢false}
use mathlib.Core.List.{List}
use native.Mathlib.Nat.{mod-lt}
use native.Mathlib.Numerals.{add-one}
use native.Mathlib.Omega.{arith}
use lib.Dec.{eqb}
use lib.ListN.{length, drop, drop_of_length-le, get_or, set, length-set, replicate, length-replicate, get_or-replicate}
use lib.Seq.{drop-cons, get_or-set_same, get_or-set_other}
use borrow.Author.Tests.{eq-eqb, eqb-true, eqb-false}
use Rattle.std.proofs.lemmas.Bool.{and_parts}
use Rattle.base.proofs.Booleans.{bool_case, cond_case, not_T_false}
use Rattle.elements.specs.rules.Bytes.{same}
use Rattle.elements.proofs.Same.{same_equal}
use Rattle.document.specs.reference.Check.{holds_id, is_among}
use Rattle.validate.specs.declared.index.Target.{Target}
use Rattle.validate.specs.internal.TableWords.{key_at, entry_of_node, ids_before}
use Rattle.validate.specs.internal.IdIndex.{mixed, slot_of, last_in, Indexed}
use Rattle.validate.proofs.lemmas.index.BlockIds.{id_wanted}

pub slot_below : (id : List ℕ) → slot_of id < 4096
unfolding slot_of
slot_below id = mod-lt (mixed 5381 id) (omega arith)

pub mixed_on : (h : ℕ) (id : List ℕ) (i : ℕ) → i < length id
    → mixed ((h * 33 + get_or id i 0) % 1048576) (drop (i + 1) id) ≡ mixed h (drop i id)
unfolding mixed
mixed_on h id i l = rw (add-one, drop-cons id i 0)

pub mixed_end : (h : ℕ) (id : List ℕ) (i : ℕ) → length id ≤ i → mixed h (drop i id) ≡ h
unfolding mixed
mixed_end h id i l = rw (drop_of_length-le id l)

module _ (words bytes : List ℕ) where
  -- Node n is a block whose id has slot s.
  abbrev in_slot : ℕ → ℕ → Bool
  in_slot s n = holds_id (entry_of_node words bytes n) && eqb (slot_of (key_at words bytes n)) s

  last_here : (s n : ℕ) → in_slot s n ≡ true → last_in words bytes s (n + 1) ≡ n + 1
  unfolding last_in
  last_here s n e = rw (add-one, e)

  last_on : (s n : ℕ) → in_slot s n ≡ false → last_in words bytes s (n + 1) ≡ last_in words bytes s n
  unfolding last_in
  last_on s n e = rw (add-one, e)

  last_le : (s n : ℕ) → last_in words bytes s n ≤ n
  unfolding last_in
  last_le s zero = omega arith
  last_le s (suc n) = cond_case (λ j. j ≤ suc n) (in_slot s n) (λ e. omega arith) (λ e. omega (arith, last_le s n))

  last_is : (s n : ℕ) → 0 < last_in words bytes s n → in_slot s (last_in words bytes s n - 1) ≡ true
  unfolding last_in
  last_is s zero = λ l. absurd (omega arith)
  last_is s (suc n) = cond_case (λ j. 0 < j → in_slot s (j - 1) ≡ true) (in_slot s n)
      (λ e l. let q : suc n - 1 ≡ n = omega arith in rw q e) (λ e. last_is s n)

  module _ (target : Target) (id : List ℕ) where
    -- A node of another slot has another id.
    other_slot : (n : ℕ) → in_slot (slot_of id) n ≡ false → holds_id (entry_of_node words bytes n) ≡ true → same id (key_at words bytes n) ≡ false
    other_slot n e h =
        let f : eqb (slot_of (key_at words bytes n)) (slot_of id) ≡ false = rw h at e in
        not_T_false (same id (key_at words bytes n)) (λ t. eqb-false _ _ f (ap slot_of (sym (same_equal id (key_at words bytes n) t))))

    passed : (n : ℕ) → in_slot (slot_of id) n ≡ false → is_among id (ids_before words bytes target n) ≡ is_among id (ids_before words bytes target (suc n))
    unfolding is_among ids_before
    passed n e = bool_case (id_wanted words bytes target n) (λ h. rw (h, other_slot n e (and_parts _ _ h).1)) (λ h. rw h)

    last_among : (n : ℕ) → is_among id (ids_before words bytes target (last_in words bytes (slot_of id) n)) ≡ is_among id (ids_before words bytes target n)
    unfolding last_in
    last_among zero = refl
    last_among (suc n) =
        cond_case (λ j. is_among id (ids_before words bytes target j) ≡ is_among id (ids_before words bytes target (suc n))) (in_slot (slot_of id) n)
        (λ e. refl) (λ e. last_among n ∙ passed n e)

    -- What is left to look at of n nodes: those up to number j - 1, the next one in the slot.
    pub record LeftInSlot (n j : ℕ) : Type 0 where
      pub within : j ≤ n
      pub among : is_among id (ids_before words bytes target j) ≡ is_among id (ids_before words bytes target n)
      pub in_slot_lem : 0 < j → in_slot (slot_of id) (j - 1) ≡ true

    left_at : (n m : ℕ) → m ≤ n → is_among id (ids_before words bytes target m) ≡ is_among id (ids_before words bytes target n)
        → LeftInSlot n (last_in words bytes (slot_of id) m)
    left_at n m l e =
        record { within = omega (arith, last_le (slot_of id) m); among = last_among m ∙ e; in_slot_lem = last_is (slot_of id) m }

    module _ (n : ℕ) (heads nexts : List ℕ) (x : Indexed words bytes n heads nexts) where
      pub left_first : {s : ℕ} → s ≡ slot_of id → LeftInSlot n (get_or heads s 0)
      left_first e = rw (e, x.last_in_lem (slot_of id) (slot_below id)) (left_at n n (omega arith) refl)

      pub left_next : (j : ℕ) → 0 < j → LeftInSlot n j
          → is_among id (ids_before words bytes target (j - 1)) ≡ is_among id (ids_before words bytes target j) → LeftInSlot n (get_or nexts (j - 1) 0)
      left_next j l y e =
          let (h, s) = and_parts _ _ (y.in_slot_lem l) in
          let lt : j - 1 < n = omega (arith, y.within) in
          let q : slot_of (key_at words bytes (j - 1)) ≡ slot_of id = eqb-true _ _ s in
          rw (x.before_in (j - 1) lt h, q) (left_at n (j - 1) (omega arith) (e ∙ y.among))

      pub next_below : (j : ℕ) → 0 < j → LeftInSlot n j → get_or nexts (j - 1) 0 < j
      next_below j l y =
          let (h, s) = and_parts _ _ (y.in_slot_lem l) in
          let lt : j - 1 < n = omega (arith, y.within) in
          rw (x.before_in (j - 1) lt h) (omega (arith, last_le (slot_of (key_at words bytes (j - 1))) (j - 1)))

  pub none_entered : Indexed words bytes 0 (replicate 4096 0) (replicate 4096 0)
  unfolding last_in
  none_entered =
      record {
        few = omega arith;
        heads_length = length-replicate {A = ℕ} 4096 0;
        nexts_length = length-replicate {A = ℕ} 4096 0;
        last_in_lem = λ s l. get_or-replicate 4096 s 0 0 l;
        before_in = λ k l h. absurd (omega arith);
      }

  module _ (n : ℕ) (heads nexts : List ℕ) (x : Indexed words bytes n heads nexts) (m : n < 4096) where
    earlier : (k : ℕ) → k < n + 1 → (k ≡ n → ⊥) → k < n
    earlier k l f = omega (arith, f)

    pub no_id : holds_id (entry_of_node words bytes n) ≡ false → Indexed words bytes (n + 1) heads nexts
    no_id e =
        record {
          few = omega arith;
          heads_length = x.heads_length;
          nexts_length = x.nexts_length;
          last_in_lem = λ s l. x.last_in_lem s l ∙ sym (last_on s n (rw e));
          before_in = λ k l h. x.before_in k (earlier k l (λ q. true≢false (sym h ∙ (ap (λ i. holds_id (entry_of_node words bytes i)) q ∙ e)))) h;
        }

    module _ (id : holds_id (entry_of_node words bytes n) ≡ true) where
      abbrev s₀ : ℕ
      s₀ = slot_of (key_at words bytes n)

      last_after : (s : ℕ) → s < 4096 → get_or (set heads s₀ (n + 1)) s 0 ≡ last_in words bytes s (n + 1)
      last_after s l =
          let p : s₀ < length heads = omega (arith, slot_below (key_at words bytes n), x.heads_length) in
          bool_case (eqb s₀ s) (λ e.
          rw (sym (eqb-true s₀ s e)) (get_or-set_same heads s₀ (n + 1) 0 p ∙ sym (last_here s₀ n (rw (id, eq-eqb s₀ s₀ refl))))) (λ e.
          get_or-set_other heads s₀ s (n + 1) 0 (λ q. eqb-false s₀ s e (sym q)) ∙ (x.last_in_lem s l ∙ sym (last_on s n (rw (id, e)))))

      before_after : (k : ℕ) → k < n + 1 → holds_id (entry_of_node words bytes k) ≡ true
          → get_or (set nexts n (get_or heads s₀ 0)) k 0 ≡ last_in words bytes (slot_of (key_at words bytes k)) k
      before_after k l h =
          let p : n < length nexts = omega (arith, x.nexts_length) in
          bool_case (eqb k n) (λ e.
          rw (eqb-true k n e) (get_or-set_same nexts n (get_or heads s₀ 0) 0 p ∙ x.last_in_lem s₀ (slot_below _))) (λ e.
          get_or-set_other nexts n k (get_or heads s₀ 0) 0 (eqb-false k n e) ∙ x.before_in k (earlier k l (eqb-false k n e)) h)

      pub entered : Indexed words bytes (n + 1) (set heads s₀ (n + 1)) (set nexts n (get_or heads s₀ 0))
      entered =
          record {
            few = omega arith;
            heads_length = simp length-set x.heads_length;
            nexts_length = simp length-set x.nexts_length;
            last_in_lem = last_after;
            before_in = before_after;
          }
