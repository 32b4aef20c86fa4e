-- The spelling of a document within the limits is short: six bytes for each byte of the pool, and a hundred for each node.
use Prim.Native.Nat.{ℕ, ◌+◌, ◌*◌, ◌≤◌}
use mathlib.Core.Path.{◌≡◌, ap}
use mathlib.Core.Bool.{Bool, true, false, ◌||◌}
use mathlib.Core.List.{List, [], ◌∷◌}
use native.Mathlib.Omega.{arith}
use lib.Dec.{T, eqb, leb, ltb, leb→le}
use lib.ListN.{length, length-append}
use borrow.Author.Tests.{eqb-true, eqb-false}
use Rattle.base.proofs.Booleans.{cond_case, bool_case, both}
use Rattle.base.proofs.Tables.{every}
use Rattle.elements.specs.rules.Bytes.{codes}
use Rattle.elements.specs.rules.Class.{Named, name_of, name_in, names, as_name}
use Rattle.elements.specs.rules.Class as Class
use Rattle.elements.specs.rules.Rules.{rule_of}
use Rattle.base.specs.rules.Limits.{missing}
use Rattle.base.specs.Adds.{greatest_word}
use Rattle.document.specs.rules.Document.{Node, node, Nodes, childless, child}
use Rattle.document.specs.rules.Table.{count, count_all, pool, pool_all}
use Rattle.document.specs.rules.Canonical.{node_first, key_class, unicode_before, byte_before, bytes_before, quoted_before, digits, string_before, canonical}
use Rattle.printer.specs.internal.Inside.{inside_all, value_inside, size_inside, values_inside, children_first, children_after}
use Rattle.printer.proofs.Appended.{byte_append}
use Rattle.printer.proofs.put.Pieces.{quoted_parts, value_none, value_parts, size_none, size_parts}
use Rattle.printer.proofs.spell.ElementParts.{canonical_text, canonical_parts, inside_child, inside_none}

abbrev Short : ℕ → List ℕ → Type 0
Short n s = length s ≤ n

byte_short : (b : ℕ) → length (byte_before b []) ≤ 6
unfolding byte_before unicode_before
byte_short b =
    cond_case (Short 6) (eqb b 0x22) (λ e. omega arith)
    (λ e. cond_case (Short 6) (eqb b 0x0A) (λ e. omega arith)
    (λ e. cond_case (Short 6) (eqb b 0x0D) (λ e. omega arith)
    (λ e. cond_case (Short 6) (eqb b 0x09) (λ e. omega arith)
    (λ e. cond_case (Short 6) (eqb b 0x5C || ltb b 0x20 || eqb b 0x7F) (λ e. omega arith) (λ e. omega arith)))))

bytes_short : (s : List ℕ) → length (bytes_before s []) ≤ 6 * length s
unfolding bytes_before
bytes_short [] = omega arith
bytes_short (b ∷ s) =
    rw (byte_append b (bytes_before s []), length-append (byte_before b []) (bytes_before s []))
    (omega (arith, byte_short b, bytes_short s))

quoted_short : (s : List ℕ) → length (quoted_before s []) ≤ 6 * length s + 2
quoted_short s =
    omega (arith, bytes_short s, length-append (bytes_before s []) (0x22 ∷ []), ap length (quoted_parts s))

string_short : (c : ℕ) (s : List ℕ) → length (string_before c s []) ≤ 6 * length s + 2
unfolding string_before
string_short c s =
    cond_case (Short (6 * length s + 2)) (eqb c Class.target) (λ e. quoted_short s) (λ e. omega (arith, length-append s []))

abbrev name_test : Named → Bool
name_test n = leb (length n.spelled) 14

names_short : (ns : List Named) (c : ℕ) → T (every name_test ns) → length (name_in ns c) ≤ 14
unfolding name_in
names_short [] c t = omega arith
names_short (n ∷ ns) c t =
    let (now, later) = both (name_test n) (every name_test ns) t in
    cond_case (Short 14) (eqb c n.class) (λ e. leb→le _ _ now) (λ e. names_short ns c later)

name_short : (c : ℕ) → length (name_of c) ≤ 14
unfolding name_of names as_name codes
name_short c = names_short names c tt

digits_short : (n : ℕ) → length (digits n) ≤ 5
unfolding digits
digits_short n =
    cond_case (Short 5) (ltb n 10) (λ e. omega arith)
    (λ e. cond_case (Short 5) (ltb n 100) (λ e. omega arith)
    (λ e. cond_case (Short 5) (ltb n 1000) (λ e. omega arith)
    (λ e. cond_case (Short 5) (ltb n 10000) (λ e. omega arith) (λ e. omega arith))))

value_short : (c : ℕ) (s : List ℕ) → length (value_inside c s) ≤ 6 * length s + 20
value_short c s =
    bool_case (eqb (length s) 0)
    (λ e. omega (arith, ap length (value_none c s (eqb-true (length s) 0 e))))
    (λ e. omega (arith, name_short c, string_short c s, simp length-append at (ap length (value_parts c s (eqb-false (length s) 0 e)))))

size_short : (w h : ℕ) → length (size_inside w h) ≤ 20
size_short w h =
    bool_case (eqb w missing)
    (λ e. omega (arith, ap length (size_none w h (eqb-true w missing e))))
    (λ e. omega (arith, digits_short w, digits_short h, simp length-append at (ap length (size_parts w h (eqb-false w missing e)))))

values_short : (k : ℕ) (key type : List ℕ) (w h : ℕ) → length (values_inside k key type w h) ≤ 6 * (length key + length type) + 60
unfolding values_inside
values_short k key type w h =
    simp length-append (omega (arith, value_short (key_class k) key, size_short w h, value_short Class.type type))

-- The first children and the others are as long as all.
parts_length : (b : Bool) (ns : Nodes) → length (inside_all (children_first b ns)) + length (inside_all (children_after b ns)) ≡ length (inside_all ns)
unfolding children_first children_after
parts_length false ns = omega (arith, ap length inside_none)
parts_length true childless = omega (arith, ap length inside_none)
parts_length true (child n ns) =
    omega (
      arith,
      ap length inside_none,
      simp length-append at (ap length (inside_child n childless)),
      simp length-append at (ap length (inside_child n ns)),
    )

one_short : (k : ℕ) (key type text : List ℕ) (w h : ℕ) (ns : Nodes)
    → length (canonical (node k key type text w h ns)) ≤ 6 * (length key + length type + length text) + length (inside_all ns) + 76
one_short k key type text w h ns =
    bool_case (eqb k Class.text)
    (λ e. rw (eqb-true k Class.text e, canonical_text key type text w h ns) (omega (arith, quoted_short text)))
    (λ e. omega (
      arith,
      name_short k,
      values_short k key type w h,
      parts_length (node_first (rule_of k).parameters) ns,
      simp length-append at (ap length (canonical_parts k key type text w h ns (eqb-false k Class.text e))),
    ))

mutual
  unfolding count pool

  pub node_short : (n : Node) → length (canonical n) + 1 ≤ 6 * length (pool n) + 100 * count n
  node_short (node k key type text w h ns) =
      simp length-append (omega (arith, one_short k key type text w h ns, nodes_short ns))

  nodes_short : (ns : Nodes) → length (inside_all ns) ≤ 6 * length (pool_all ns) + 100 * count_all ns
  nodes_short childless = omega (arith, ap length inside_none)
  nodes_short (child n ns) =
      simp length-append (omega (arith, node_short n, nodes_short ns, simp length-append at (ap length (inside_child n ns))))

pub spelled_short : (d : Node) → count d ≤ 4096 → length (pool d) ≤ 65536 → length (canonical d) ≤ greatest_word
spelled_short d c p = omega (arith, node_short d)
