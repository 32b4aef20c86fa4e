-- The laws of the table and the pool: the nodes in document order, each with its number, its parent's number and where its strings begin.
use Prim.Native.Nat.{ℕ, zero, suc, ◌+◌, ◌*◌, ◌≤◌, ◌<◌}
use mathlib.Core.Path.{◌≡◌, ◌∙◌, refl, sym, ap, subst}
use mathlib.Core.Logic.{◌⊎◌, inl, inr}
use mathlib.Core.List.Memᴰ
use mathlib.Core.List.{List, [], ◌∷◌, ◌++◌, map, map-map, map-append, append_assoc, append-nil, Memᴰ}
use native.Mathlib.Nat.{zero-add, add-zero, suc-add, add-suc}
use native.Mathlib.Numerals.{add-one}
use native.Mathlib.Omega.{arith}
use lib.ListN.{length, take, drop, length-append}
use lib.Seq.{take_at, drop_at}
use Rattle.base.specs.rules.Limits.{missing}
use Rattle.document.specs.rules.Document.{Node, node, Nodes, childless, child}
use Rattle.document.specs.rules.Record.{record_length}
use Rattle.document.specs.rules.Table.{count, count_all, pool, pool_all, offset, rows, rows_all, table_of}
use Rattle.document.specs.reference.Check.{Entry, entries, entries_among}
use Rattle.document.specs.rules.Visits.{node_kind, node_key, node_type, node_text, node_width, node_height, Visit, visits, visits_all}
use Rattle.document.specs.rules.Visits.{visits_of, up_from, end_of, type_start, text_start, words_of, strings_of, each, Spans, Holder}

up_from_append : (i m n : ℕ) → up_from i (m + n) ≡ up_from i m ++ up_from (i + m) n
unfolding up_from
up_from_append i zero n = rw (zero-add n, add-zero i)
up_from_append i (suc m) n = rw (suc-add m n, add-suc i m) (ap (λ (l : List ℕ). i ∷ l) (up_from_append (suc i) m n ∙ rw suc-add))

abbrev visit_numbers : List Visit → List ℕ
visit_numbers vs = map (λ (v : Visit). v.number) vs

-- The visits are numbered from i on, one by one.
mutual
  unfolding count visits up_from

  pub visit_numbers_lem : (n : Node) (i parent p : ℕ) → visit_numbers (visits i parent p n) ≡ up_from i (count n)
  visit_numbers_lem (node k key type text w h ns) i parent p =
      ap (λ (l : List ℕ). i ∷ l) (visit_numbers_all ns (i + 1) i (p + length key + length type + length text) ∙ rw add-one)

  visit_numbers_all : (ns : Nodes) (i parent p : ℕ) → visit_numbers (visits_all i parent p ns) ≡ up_from i (count_all ns)
  visit_numbers_all childless i parent p = refl
  visit_numbers_all (child n ns) i parent p =
      map-append (λ (v : Visit). v.number) (visits i parent p n) (visits_all (i + count n) parent (p + length (pool n)) ns)
      ∙ rw (visit_numbers_lem n i parent p, visit_numbers_all ns (i + count n) parent (p + length (pool n)), up_from_append)

-- What the faults 15 to 18 look at of a visit.
unfoldable pub entry_of : Visit → Entry
unfolding node_kind
entry_of v = record { number = v.number; kind = node_kind v.visited; key = node_key v.visited }

-- The entries of a document are its visits.
mutual
  unfolding entries visits entry_of node_kind node_key

  pub entries_visits : (n : Node) (i parent p : ℕ) → entries i n ≡ map entry_of (visits i parent p n)
  entries_visits (node k key type text w h ns) i parent p =
      ap (λ (l : List Entry). record { number = i; kind = k; key = key } ∷ l)
      (entries_visits_all ns (i + 1) i (p + length key + length type + length text))

  entries_visits_all : (ns : Nodes) (i parent p : ℕ) → entries_among i ns ≡ map entry_of (visits_all i parent p ns)
  entries_visits_all childless i parent p = refl
  entries_visits_all (child n ns) i parent p =
      rw (
        map-append entry_of (visits i parent p n) (visits_all (i + count n) parent (p + length (pool n)) ns),
        entries_visits n i parent p,
        entries_visits_all ns (i + count n) parent (p + length (pool n)),
      )

-- So they are numbered one by one.
pub entry_numbers : (d : Node) (i : ℕ) → map (λ (e : Entry). e.number) (entries i d) ≡ up_from i (count d)
unfolding entry_of
entry_numbers d i =
    rw (entries_visits d i 0 0)
    (map-map (λ (e : Entry). e.number) entry_of (visits i 0 0 d) ∙ visit_numbers_lem d i 0 0)

each_append : (f : Visit → List ℕ) (s t : List Visit) → each f (s ++ t) ≡ each f s ++ each f t
unfolding each
each_append f [] t = refl
each_append f (v ∷ s) t = rw (each_append f s t, append_assoc)

-- The rows are the records of the visits, in order.
mutual
  unfolding count rows visits each words_of end_of type_start text_start node_kind node_key node_type node_text node_width node_height

  pub rows_records : (n : Node) (i parent p : ℕ) → rows i parent p n ≡ each words_of (visits i parent p n)
  rows_records (node k key type text w h ns) i parent p =
      rw (rows_records_all ns (i + 1) i (p + length key + length type + length text))

  rows_records_all : (ns : Nodes) (i parent p : ℕ) → rows_all i parent p ns ≡ each words_of (visits_all i parent p ns)
  rows_records_all childless i parent p = refl
  rows_records_all (child n ns) i parent p =
      rw (
        each_append words_of (visits i parent p n) (visits_all (i + count n) parent (p + length (pool n)) ns),
        rows_records n i parent p,
        rows_records_all ns (i + count n) parent (p + length (pool n)),
      )

-- The pool is the strings of the visits, in order, with no gap.
mutual
  unfolding pool visits each strings_of node_key node_type node_text

  pub pool_strings : (n : Node) (i parent p : ℕ) → pool n ≡ each strings_of (visits i parent p n)
  pool_strings (node k key type text w h ns) i parent p =
      rw (pool_strings_all ns (i + 1) i (p + length key + length type + length text)) (simp append_assoc)

  pool_strings_all : (ns : Nodes) (i parent p : ℕ) → pool_all ns ≡ each strings_of (visits_all i parent p ns)
  pool_strings_all childless i parent p = refl
  pool_strings_all (child n ns) i parent p =
      rw (
        each_append strings_of (visits i parent p n) (visits_all (i + count n) parent (p + length (pool n)) ns),
        ← (pool_strings n i parent p),
        ← (pool_strings_all ns (i + count n) parent (p + length (pool n))),
      )

-- The table is the records of the nodes in document order, eleven words each.
pub table_records : (d : Node) → table_of d ≡ each words_of (visits_of d)
unfolding table_of visits_of
table_records d = rows_records d 0 missing 0

-- The pool is, node by node in document order, key, type and text.
pub pool_is : (d : Node) → pool d ≡ each strings_of (visits_of d)
unfolding visits_of
pool_is d = pool_strings d 0 missing 0

-- The nodes are numbered 0, 1, 2, ... in document order.
pub numbered : (d : Node) → visit_numbers (visits_of d) ≡ up_from 0 (count d)
unfolding visits_of
numbered d = visit_numbers_lem d 0 missing 0

-- A record has eleven words, so a node's rows have eleven for each node in it.
mutual
  unfolding count rows

  pub rows_length : (n : Node) (i parent p : ℕ) → length (rows i parent p n) ≡ record_length * count n
  rows_length (node k key type text w h ns) i parent p =
      omega (arith, rows_length_all ns (i + 1) i (p + length key + length type + length text))

  pub rows_length_all : (ns : Nodes) (i parent p : ℕ) → length (rows_all i parent p ns) ≡ record_length * count_all ns
  rows_length_all childless i parent p = refl
  rows_length_all (child n ns) i parent p =
      omega (
        arith,
        length-append (rows i parent p n) (rows_all (i + count n) parent (p + length (pool n)) ns),
        rows_length n i parent p,
        rows_length_all ns (i + count n) parent (p + length (pool n)),
      )

pub table_length : (d : Node) → length (table_of d) ≡ record_length * count d
unfolding table_of
table_length d = rows_length d 0 missing 0

-- What stands behind n elements.
part_at : {A : Type 0} (q s r : List A) (n m : ℕ) → length q ≡ n → length s ≡ m → take m (drop n (q ++ (s ++ r))) ≡ s
part_at q s r n m e f = rw (drop_at q (s ++ r) n) (take_at s r m f)

words_length : (v : Visit) → length (words_of v) ≡ record_length
unfolding words_of
words_length v = refl

records_at : (vs : List Visit) (q : List ℕ) (i n : ℕ) (v : Visit) → visit_numbers vs ≡ up_from i n → length q ≡ record_length * i → Memᴰ v vs
    → take record_length (drop (record_length * v.number) (q ++ each words_of vs)) ≡ words_of v
unfolding each up_from
records_at [] q i n v e l m = absurd (Memᴰ.not-nil m)
records_at (u ∷ vs) q i zero v e l m = absurd (let z : ◌≡◌ {A = ℕ} 0 1 = cc in omega arith)
records_at (u ∷ vs) q i (suc n) v e l m =
    go (records_at vs (q ++ words_of u) (suc i) n v (cc) (omega (arith, length-append q (words_of u), words_length u))) (Memᴰ.cases_cons m)
  where
    go : (Memᴰ v vs → take record_length (drop (record_length * v.number) ((q ++ words_of u) ++ each words_of vs)) ≡ words_of v)
        → (v ≡ u) ⊎ Memᴰ v vs → take record_length (drop (record_length * v.number) (q ++ (words_of u ++ each words_of vs))) ≡ words_of v
    go below (inl x) =
        let k : u.number ≡ i = cc in
        rw x (part_at q (words_of u) (each words_of vs) (record_length * u.number) record_length (omega arith) (words_length u))
    go below (inr x) = rw append_assoc at (below x)

-- The record of node number i is the words from eleven times i on.
pub record_at : (d : Node) (v : Visit) → Memᴰ v (visits_of d) → take record_length (drop (record_length * v.number) (table_of d)) ≡ words_of v
record_at d v m = rw table_records (records_at (visits_of d) [] 0 (count d) v (numbered d) refl m)

-- The strings begin where those before end, from p on.
abbrev Started : ℕ → List Visit → Type 0
Started p [] = Unit {0}
Started p (v ∷ vs) = (v.start ≡ p) × Started (p + length (strings_of v)) vs

started_append : (s t : List Visit) (p : ℕ) → Started p s → Started (p + length (each strings_of s)) t → Started p (s ++ t)
unfolding each
started_append [] t p a b = rw add-zero at b
started_append (v ∷ s) t p (e, a) b = (
  e,
  started_append s t (p + length (strings_of v)) a
      (subst (λ (n : ℕ). Started n t) (omega (arith, length-append (strings_of v) (each strings_of s))) b),
)

mutual
  unfolding visits strings_of node_key node_type node_text

  visits_started : (n : Node) (i parent p : ℕ) → Started p (visits i parent p n)
  visits_started (node k key type text w h ns) i parent p = (
    refl,
    subst (λ (m : ℕ). Started m (visits_all (i + 1) i (p + length key + length type + length text) ns))
        (omega (arith, length-append key (type ++ text), length-append type text))
        (visits_started_all ns (i + 1) i (p + length key + length type + length text)),
  )

  visits_started_all : (ns : Nodes) (i parent p : ℕ) → Started p (visits_all i parent p ns)
  visits_started_all childless i parent p = tt
  visits_started_all (child n ns) i parent p =
      started_append (visits i parent p n) (visits_all (i + count n) parent (p + length (pool n)) ns) p (visits_started n i parent p)
      (rw (← (pool_strings n i parent p)) (visits_started_all ns (i + count n) parent (p + length (pool n))))

-- A visited node's strings stand in the pool between what is before and after them.
pub record StringsInPool (bytes : List ℕ) (v : Visit) : Type 0 where
  pub before : List ℕ
  pub after : List ℕ
  pub split : bytes ≡ before ++ (strings_of v ++ after)
  pub from : length before ≡ v.start

strings_at : (vs : List Visit) (q : List ℕ) (p : ℕ) (v : Visit) → Started p vs → length q ≡ p → Memᴰ v vs → StringsInPool (q ++ each strings_of vs) v
unfolding each
strings_at [] q p v s l m = absurd (Memᴰ.not-nil m)
strings_at (u ∷ vs) q p v (e, s) l m =
    go (strings_at vs (q ++ strings_of u) (p + length (strings_of u)) v s (omega (arith, length-append q (strings_of u)))) (Memᴰ.cases_cons m)
  where
    go : (Memᴰ v vs → StringsInPool ((q ++ strings_of u) ++ each strings_of vs) v) → (v ≡ u) ⊎ Memᴰ v vs
        → StringsInPool (q ++ (strings_of u ++ each strings_of vs)) v
    go below (inl x) = rw x (record { before = q; after = each strings_of vs; split = refl; from = l ∙ sym e })
    go below (inr x) = rw append_assoc at (below x)

pub strings_placed : (d : Node) (v : Visit) → Memᴰ v (visits_of d) → StringsInPool (pool d) v
unfolding visits_of
strings_placed d v m = rw (pool_strings d 0 missing 0) (strings_at (visits_of d) [] 0 v (visits_started d 0 missing 0) refl m)

-- Offset and length name a string's bytes; of an empty one they name nothing.
pub named : (q s r : List ℕ) (p : ℕ) → length q ≡ p → take (length s) (drop (offset p s) (q ++ (s ++ r))) ≡ s
unfolding offset
named q [] r p e = refl
named q (b ∷ s) r p e = part_at q (b ∷ s) r p (length (b ∷ s)) e refl

module _ (d : Node) (v : Visit) (m : Memᴰ v (visits_of d)) where
  -- The offset and length of a node's id or target name its bytes in the pool.
  pub key_stands : take (length (node_key v.visited)) (drop (offset v.start (node_key v.visited)) (pool d)) ≡ node_key v.visited
  unfolding strings_of
  key_stands =
      let a = strings_placed d v m in
      rw a.split (rw append_assoc (named a.before (node_key v.visited) _ v.start a.from))

  -- So do those of its type.
  pub type_at : take (length (node_type v.visited)) (drop (offset (type_start v) (node_type v.visited)) (pool d)) ≡ node_type v.visited
  unfolding strings_of type_start
  type_at =
      let a = strings_placed d v m in
      let key : List ℕ = node_key v.visited in
      let e : pool d ≡ (a.before ++ key) ++ (node_type v.visited ++ (node_text v.visited ++ a.after)) = a.split ∙ simp append_assoc in
      rw e (named (a.before ++ key) (node_type v.visited) (node_text v.visited ++ a.after) (v.start + length key)
      (omega (arith, length-append a.before key, a.from)))

  -- And those of its text.
  pub text_at : take (length (node_text v.visited)) (drop (offset (text_start v) (node_text v.visited)) (pool d)) ≡ node_text v.visited
  unfolding strings_of type_start text_start
  text_at =
      let a = strings_placed d v m in
      let key : List ℕ = node_key v.visited in
      let type : List ℕ = node_type v.visited in
      let e : pool d ≡ ((a.before ++ key) ++ type) ++ (node_text v.visited ++ a.after) = a.split ∙ simp append_assoc in
      rw e (named ((a.before ++ key) ++ type) (node_text v.visited) a.after (v.start + length key + length type)
      (omega (arith, length-append (a.before ++ key) type, length-append a.before key, a.from)))

-- From their own numbers up to their ends, these nodes lie from i up to j.
abbrev AllWithin : ℕ → ℕ → List Visit → Type 0
AllWithin i j vs = (v : Visit) → Memᴰ v vs → (i ≤ v.number) × (end_of v ≤ j)

within_cons : (u : Visit) (vs : List Visit) → AllWithin (u.number + 1) (end_of u) vs → AllWithin u.number (end_of u) (u ∷ vs)
within_cons u vs a v m = go (Memᴰ.cases_cons m)
  where
    go : (v ≡ u) ⊎ Memᴰ v vs → (u.number ≤ v.number) × (end_of v ≤ end_of u)
    go (inl x) = rw x (omega arith)
    go (inr x) = omega (arith, a v x)

within_append : (s t : List Visit) (i j k : ℕ) → i ≤ j → j ≤ k → AllWithin i j s → AllWithin j k t → AllWithin i k (s ++ t)
within_append s t i j k l l' a b v m = go (Memᴰ.append_cases s m)
  where
    go : Memᴰ v s ⊎ Memᴰ v t → (i ≤ v.number) × (end_of v ≤ k)
    go (inl x) = omega (arith, a v x)
    go (inr x) = omega (arith, b v x)

mutual
  unfolding count visits end_of

  visits_within : (n : Node) (i parent p : ℕ) → AllWithin i (i + count n) (visits i parent p n)
  visits_within (node k key type text w h ns) i parent p =
      within_cons _ _ (λ v m. omega (arith, visits_within_all ns (i + 1) _ _ v m))

  visits_within_all : (ns : Nodes) (i parent p : ℕ) → AllWithin i (i + count_all ns) (visits_all i parent p ns)
  visits_within_all childless i parent p = λ v m. absurd (Memᴰ.not-nil m)
  visits_within_all (child n ns) i parent p =
      within_append _ _ i (i + count n) (i + (count n + count_all ns)) (omega arith) (omega arith) (visits_within n i _ _) (λ v m.
      omega (arith, visits_within_all ns (i + count n) _ _ v m))

-- A node counts itself.
number_below_end : (v : Visit) → v.number < end_of v
unfolding end_of
number_below_end v = omega (arith, positive v.visited)
  where
    positive : (n : Node) → 0 < count n
    positive (node k key type text w h ns) = unfold count in omega arith

-- None of these has v in it; or v's holder is one of them.
abbrev SpannedByNone : List Visit → Visit → Type 0
SpannedByNone vs v = (u : Visit) → Memᴰ u vs → Spans u v → ⊥

abbrev HasHolder : List Visit → Visit → Type 0
HasHolder vs v = (h : Visit) × Holder vs v h

-- Below a node stand nodes that it holds, or that others below it hold.
holder_below : (u : Visit) (vs : List Visit) (v : Visit) → AllWithin (u.number + 1) (end_of u) vs → Memᴰ v vs
    → ((v.parent ≡ u.number) × SpannedByNone vs v) ⊎ HasHolder vs v → HasHolder (u ∷ vs) v
holder_below u vs v within m (inl (e, none)) = (
  u,
  record {
    there = Memᴰ.head refl;
    number_is = sym e;
    spans = omega (arith, within v m, number_below_end v);
    innermost = λ x y s. go x (Memᴰ.cases_cons y) s;
  },
)
  where
    go : (x : Visit) → (x ≡ u) ⊎ Memᴰ x vs → Spans x v → (x.number ≤ u.number) × (end_of u ≤ end_of x)
    go x (inl y) s = rw y (omega arith)
    go x (inr y) s = absurd (none x y s)
holder_below u vs v within m (inr (h, a)) = (
  h,
  record {
    there = Memᴰ.tail a.there;
    number_is = a.number_is;
    spans = a.spans;
    innermost = λ x y s. go x (Memᴰ.cases_cons y) s;
  },
)
  where
    go : (x : Visit) → (x ≡ u) ⊎ Memᴰ x vs → Spans x v → (x.number ≤ h.number) × (end_of h ≤ end_of x)
    go x (inl y) s = rw y (omega (arith, within h a.there))
    go x (inr y) s = a.innermost x y s

first_or_below : (u : Visit) (vs : List Visit) (v : Visit) → AllWithin (u.number + 1) (end_of u) vs
    → (Memᴰ v vs → ((v.parent ≡ u.number) × SpannedByNone vs v) ⊎ HasHolder vs v) → (v ≡ u) ⊎ Memᴰ v vs
    → ((v.number ≡ u.number) × (v.parent ≡ u.parent)) ⊎ HasHolder (u ∷ vs) v
first_or_below u vs v within below (inl x) = inl (rw x (refl, refl))
first_or_below u vs v within below (inr x) = inr (holder_below u vs v within x (below x))

-- A node has in it only what stands on its side of j.
module _ (s t : List Visit) (i j k : ℕ) (within-s : AllWithin i j s) (within-t : AllWithin j k t) (v : Visit) where
  on_left : Memᴰ v s → (u : Visit) → Memᴰ u (s ++ t) → Spans u v → Memᴰ u s
  on_left m u n x = go (Memᴰ.append_cases s n)
    where
      go : Memᴰ u s ⊎ Memᴰ u t → Memᴰ u s
      go (inl y) = y
      go (inr y) = absurd (omega (arith, within-s v m, number_below_end v, within-t u y, x.above))

  on_right : Memᴰ v t → (u : Visit) → Memᴰ u (s ++ t) → Spans u v → Memᴰ u t
  on_right m u n x = go (Memᴰ.append_cases s n)
    where
      go : Memᴰ u s ⊎ Memᴰ u t → Memᴰ u t
      go (inl y) = absurd (omega (arith, within-t v m, within-s u y, x.below))
      go (inr y) = y

  holder_left : Memᴰ v s → HasHolder s v → HasHolder (s ++ t) v
  holder_left m (h, a) = (
    h,
    record {
      there = Memᴰ.append_left t a.there;
      number_is = a.number_is;
      spans = a.spans;
      innermost = λ u n x. a.innermost u (on_left m u n x) x;
    },
  )

  holder_right : Memᴰ v t → HasHolder t v → HasHolder (s ++ t) v
  holder_right m (h, a) = (
    h,
    record {
      there = Memᴰ.append_right s a.there;
      number_is = a.number_is;
      spans = a.spans;
      innermost = λ u n x. a.innermost u (on_right m u n x) x;
    },
  )

  holder_append : (parent : ℕ) → (Memᴰ v s → ((v.number ≡ i) × (v.parent ≡ parent)) ⊎ HasHolder s v)
      → (Memᴰ v t → ((v.parent ≡ parent) × SpannedByNone t v) ⊎ HasHolder t v) → Memᴰ v s ⊎ Memᴰ v t
      → ((v.parent ≡ parent) × SpannedByNone (s ++ t) v) ⊎ HasHolder (s ++ t) v
  holder_append parent one more (inl m) = go (one m)
    where
      go : ((v.number ≡ i) × (v.parent ≡ parent)) ⊎ HasHolder s v → ((v.parent ≡ parent) × SpannedByNone (s ++ t) v) ⊎ HasHolder (s ++ t) v
      go (inl (e, q)) = inl (q, λ u n x. omega (arith, within-s u (on_left m u n x), x.above))
      go (inr a) = inr (holder_left m a)
  holder_append parent one more (inr m) = go (more m)
    where
      go : ((v.parent ≡ parent) × SpannedByNone t v) ⊎ HasHolder t v → ((v.parent ≡ parent) × SpannedByNone (s ++ t) v) ⊎ HasHolder (s ++ t) v
      go (inl (q, none)) = inl (q, λ u n x. none u (on_right m u n x) x)
      go (inr a) = inr (holder_right m a)

mutual
  unfolding count visits end_of

  -- A visited node is the first, or has its holder among the visited.
  visit_holder : (n : Node) (i parent p : ℕ) (v : Visit) → Memᴰ v (visits i parent p n)
      → ((v.number ≡ i) × (v.parent ≡ parent)) ⊎ HasHolder (visits i parent p n) v
  visit_holder (node k key type text w h ns) i parent p v m =
      first_or_below _ _ v (λ u x. omega (arith, visits_within_all ns (i + 1) _ _ u x)) (λ x. visit_holder_all ns (i + 1) _ _ v x) (Memᴰ.cases_cons m)

  -- Of these nodes and those in them, one is in none of them, and under the parent; or its holder is one of them.
  visit_holder_all : (ns : Nodes) (i parent p : ℕ) (v : Visit) → Memᴰ v (visits_all i parent p ns)
      → ((v.parent ≡ parent) × SpannedByNone (visits_all i parent p ns) v) ⊎ HasHolder (visits_all i parent p ns) v
  visit_holder_all childless i parent p v m = absurd (Memᴰ.not-nil m)
  visit_holder_all (child n ns) i parent p v m =
      holder_append (visits i parent p n) _ i (i + count n) (i + count n + count_all ns) (visits_within n i _ _) (visits_within_all ns (i + count n) _ _)
      v parent (λ x. visit_holder n i _ _ v x) (λ x. visit_holder_all ns (i + count n) _ _ v x)
      (Memᴰ.append_cases (visits i parent p n) m)

-- The parent word: that of node 0 is 4,294,967,295, and every other node's is the number of the innermost node that has it in it.
pub parent_word_lem : (d : Node) (v : Visit) → Memᴰ v (visits_of d)
    → ((v.number ≡ 0) × (v.parent ≡ missing)) ⊎ ((h : Visit) × Holder (visits_of d) v h)
unfolding visits_of
parent_word_lem d v m = visit_holder d 0 missing 0 v m

-- Every node's number is below the count of nodes.
pub visit_below : (d : Node) (v : Visit) → Memᴰ v (visits_of d) → v.number < count d
unfolding visits_of
visit_below d v m = omega (arith, visits_within d 0 missing 0 v m, number_below_end v)

-- A visited node's own visits, those from its number up to its end word, stand together among all.
pub record Subtree (i : ℕ) (vs : List Visit) (v : Visit) : Type 0 where
  pub before : List Visit
  pub after : List Visit
  pub split : vs ≡ before ++ (visits v.number v.parent v.start v.visited ++ after)
  pub from : i + length before ≡ v.number

mutual
  unfolding count visits

  pub visits_length : (n : Node) (i parent p : ℕ) → length (visits i parent p n) ≡ count n
  visits_length (node k key type text w h ns) i parent p =
      ap suc (visits_length_all ns (i + 1) i (p + length key + length type + length text))

  visits_length_all : (ns : Nodes) (i parent p : ℕ) → length (visits_all i parent p ns) ≡ count_all ns
  visits_length_all childless i parent p = refl
  visits_length_all (child n ns) i parent p =
      omega (
        arith,
        length-append (visits i parent p n) (visits_all (i + count n) parent (p + length (pool n)) ns),
        visits_length n i parent p,
        visits_length_all ns (i + count n) parent (p + length (pool n)),
      )

mutual
  unfolding visits

  pub subtree_in : (n : Node) (i parent p : ℕ) (v : Visit) → Memᴰ v (visits i parent p n) → Subtree i (visits i parent p n) v
  subtree_in (node k key type text w h ns) i parent p v m =
      go (λ x. subtree_in_all ns (i + 1) i (p + length key + length type + length text) v x) (Memᴰ.cases_cons m)
    where
      whole : Visit
      whole = record { number = i; parent = parent; start = p; visited = node k key type text w h ns }

      rest : List Visit
      rest = visits_all (i + 1) i (p + length key + length type + length text) ns

      go : (Memᴰ v rest → Subtree (i + 1) rest v) → (v ≡ whole) ⊎ Memᴰ v rest → Subtree i (whole ∷ rest) v
      go below (inl x) = rw x (record { before = []; after = []; split = sym (append-nil (whole ∷ rest)); from = add-zero i })
      go below (inr x) =
          let a = below x in
          record { before = whole ∷ a.before; after = a.after; split = ap (λ (l : List Visit). whole ∷ l) a.split; from = omega (arith, a.from) }

  subtree_in_all : (ns : Nodes) (i parent p : ℕ) (v : Visit) → Memᴰ v (visits_all i parent p ns) → Subtree i (visits_all i parent p ns) v
  subtree_in_all childless i parent p v m = absurd (Memᴰ.not-nil m)
  subtree_in_all (child n ns) i parent p v m =
      go (λ x. subtree_in n i parent p v x) (λ x. subtree_in_all ns (i + count n) parent (p + length (pool n)) v x)
      (Memᴰ.append_cases (visits i parent p n) m)
    where
      first : List Visit
      first = visits i parent p n

      rest : List Visit
      rest = visits_all (i + count n) parent (p + length (pool n)) ns

      go : (Memᴰ v first → Subtree i first v) → (Memᴰ v rest → Subtree (i + count n) rest v) → Memᴰ v first ⊎ Memᴰ v rest
          → Subtree i (first ++ rest) v
      go one more (inl x) =
          let a = one x in
          record {
            before = a.before;
            after = a.after ++ rest;
            split = ap (λ (l : List Visit). l ++ rest) a.split ∙ simp append_assoc;
            from = a.from;
          }
      go one more (inr x) =
          let a = more x in
          record {
            before = first ++ a.before;
            after = a.after;
            split = ap (λ (l : List Visit). first ++ l) a.split ∙ simp append_assoc;
            from = omega (arith, length-append first a.before, visits_length n i parent p, a.from);
          }

-- The end word is one past the last descendant: from a node's number on, as many visits as its subtree counts are those of the subtree.
pub end_word : (d : Node) (v : Visit) → Memᴰ v (visits_of d)
    → take (count v.visited) (drop v.number (visits_of d)) ≡ visits v.number v.parent v.start v.visited
unfolding visits_of
end_word d v m =
    let a = subtree_in d 0 missing 0 v m in
    rw a.split (part_at a.before (visits v.number v.parent v.start v.visited) a.after v.number (count v.visited)
    (omega (arith, a.from)) (visits_length v.visited v.number v.parent v.start))
