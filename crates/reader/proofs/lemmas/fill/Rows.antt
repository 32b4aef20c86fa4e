-- Rows written one after the other, each from its entry on the tape.
use Prim.Native.Nat.{ℕ, zero, suc, ◌+◌, ◌*◌, ◌≤◌}
use mathlib.Core.Path.{◌≡◌, refl, ap, ◌∙◌}
use mathlib.Core.Bool.{false}
use mathlib.Core.List.{List, [], ◌++◌}
use native.Mathlib.Nat.{add-zero, add-suc}
use native.Mathlib.Numerals.{add-one}
use native.Mathlib.Omega.{arith}
use lib.Dec.{eqb}
use lib.ListN.{length, length-set}
use lib.Seq.{sets, length-sets}
use borrow.Author.Tests.{eq-eqb}
use Rattle.base.proofs.Booleans.{cond_case}
use Rattle.elements.specs.rules.Class as Class
use Rattle.document.specs.rules.Table.{offset}
use Rattle.base.specs.rules.Limits.{most_bytes}
use Rattle.reader.specs.declared.tape.Entry.{Entry}
use Rattle.reader.specs.declared.fill.Lent.{Lent}
use Rattle.reader.specs.declared.fill.Span.{Span}
use Rattle.reader.specs.internal.Tape.{Tape, entry_at}
use Rattle.reader.specs.internal.Filling.{Filling, filling, held_at, with_row, next_row, PutString, Written}
use Rattle.reader.proofs.lemmas.fill.Stores.{sets_on}
use Rattle.reader.proofs.lemmas.walk.QuotedStrings.{atom_within}

pub held_within : (s : List ℕ) (p : ℕ) → length (held_at s p) ≤ length s
unfolding held_at
held_within s p = cond_case (λ (v : List ℕ). length v ≤ length s) (eqb p 0) (λ c. omega arith) (λ c. atom_within s p)

-- Nothing is put where there is no string.
pub nothing_put : (a : Lent) → PutString [] a a (record { offset = 0; length = 0 })
unfolding offset
nothing_put a = record { offset_is = refl; length_is = refl; bytes_are = omega arith; pool_is = refl; nodes_are = refl; places_are = refl }

-- A row is written once its three strings are put, its place and its record.
pub rowed : (e : Entry) (n : ℕ) (key type own : List ℕ) (a b c d z : Lent) (k t x : Span) → PutString key a b k → PutString type b c t
    → PutString own c d x → Written e n d k t x z
    → filling (n + 1) z ≡ with_row e.place e.class e.parent e.end e.width e.height key type own (filling n a)
unfolding with_row
rowed e n key type own a b c d z k t x pk pt px w =
    let pool : d.pool.now ≡ sets a.pool.now a.bytes (key ++ (type ++ own)) =
    sets_on a.pool.now b.pool.now d.pool.now a.bytes b.bytes key (type ++ own) (key ++ (type ++ own)) pk.pool_is
    (sets_on b.pool.now c.pool.now d.pool.now b.bytes c.bytes type own (type ++ own) pt.pool_is px.pool_is pt.bytes_are refl) pk.bytes_are refl in
    rw (
      w.bytes_are,
      w.pool_is,
      w.places_are,
      w.nodes_are,
      pool,
      px.offset_is,
      px.length_is,
      px.bytes_are,
      px.nodes_are,
      px.places_are,
      pt.offset_is,
      pt.length_is,
      pt.bytes_are,
      pt.nodes_are,
      pt.places_are,
      pk.offset_is,
      pk.length_is,
      pk.bytes_are,
      pk.nodes_are,
      pk.places_are,
    )

-- It is the row of a text, and of any other node.
pub text_rowed : (s : List ℕ) (e : Entry) (a : Filling) → e.class ≡ Class.text
    → next_row s e a ≡ with_row e.place e.class e.parent e.end e.width e.height [] [] (held_at s e.place) a
unfolding next_row
text_rowed s e a f = rw (eq-eqb e.class Class.text f)

pub element_rowed : (s : List ℕ) (e : Entry) (a : Filling) → eqb e.class Class.text ≡ false
    → next_row s e a ≡ with_row e.place e.class e.parent e.end e.width e.height (held_at s e.key) (held_at s e.typename) [] a
unfolding next_row
element_rowed s e a f = rw f

-- The first k rows.
unfoldable pub rows_of : List ℕ → Tape → ℕ → Filling → Filling
rows_of s t zero a = a
rows_of s t (suc k) a = next_row s (entry_at t (rows_of s t k a).node) (rows_of s t k a)

-- A row is one node, and two strings of the text at most; and the memory is as long as it was.
pub record Grown (s : List ℕ) (k : ℕ) (a z : Filling) : Type 0 where
  pub node_is : z.node ≡ a.node + k
  pub bytes_within : length s ≤ most_bytes → z.bytes ≤ a.bytes + 2 * most_bytes * k
  pub words_long : length z.words ≡ length a.words
  pub places_long : length z.places ≡ length a.places

row_grows : (s : List ℕ) (e : Entry) (a : Filling) → Grown s 1 a (next_row s e a)
unfolding next_row with_row
row_grows s e a =
    cond_case (λ (z : Filling). Grown s 1 a z) (eqb e.class Class.text)
    (λ f. record {
      node_is = refl;
      bytes_within = λ h. omega (arith, held_within s e.place);
      words_long = simp length-sets;
      places_long = simp length-set;
    })
    (λ f. record {
      node_is = refl;
      bytes_within = λ h. omega (arith, held_within s e.key, held_within s e.typename);
      words_long = simp length-sets;
      places_long = simp length-set;
    })

pub rows_grow : (s : List ℕ) (t : Tape) (k : ℕ) (a : Filling) → Grown s k a (rows_of s t k a)
unfolding rows_of
rows_grow s t zero a = record { node_is = omega arith; bytes_within = λ h. omega arith; words_long = refl; places_long = refl }
rows_grow s t (suc k) a =
    let g = rows_grow s t k a in
    let h = row_grows s (entry_at t (rows_of s t k a).node) (rows_of s t k a) in
    record {
      node_is = omega (arith, g.node_is, h.node_is);
      bytes_within = λ q. omega (arith, g.bytes_within q, h.bytes_within q);
      words_long = h.words_long ∙ g.words_long;
      places_long = h.places_long ∙ g.places_long;
    }

pub grown_to : (s : List ℕ) (t : Tape) (k : ℕ) (a z : Filling) → z ≡ rows_of s t k a → Grown s k a z
grown_to s t k a z e = rw e (rows_grow s t k a)

-- One row more.
pub rows_on : (s : List ℕ) (t : Tape) (k : ℕ) (a m z : Filling) → m.node ≡ k → m ≡ rows_of s t k a → z ≡ next_row s (entry_at t k) m → z ≡ rows_of s t (k + 1) a
unfolding rows_of
rows_on s t k a m z n em r = rw add-one (rw (r, ← em, n))

-- Rows after rows.
pub rows_add : (s : List ℕ) (t : Tape) (j k : ℕ) (a : Filling) → rows_of s t (j + k) a ≡ rows_of s t k (rows_of s t j a)
unfolding rows_of
rows_add s t j zero a = rw (add-zero j)
rows_add s t j (suc k) a =
    let e : rows_of s t (suc (j + k)) a ≡ rows_of s t (suc k) (rows_of s t j a) = rw (rows_add s t j k a) in
    ap (λ (n : ℕ). rows_of s t n a) (add-suc j k) ∙ e
