-- How long the lines are at most: a number below 2^32 has at most ten digits.
use mathlib.Core.List.{List}
use Prim.Native.Nat.{ℕ, zero, suc, ◌+◌, ◌*◌, ◌/◌, ◌^◌, ◌≤◌, ◌<◌}
use native.Mathlib.Nat.{pow-suc}
use native.Mathlib.Omega.{arith}
use lib.Dec.{eqb, ltb}
use lib.ListN.{length, get_or, length-append}
use borrow.Author.Tests.{ltb-true, ltb-false}
use Rattle.document.specs.rules.Record.{record_length}
use Rattle.base.proofs.Booleans.{bool_case, cond_case}
use Rattle.elements.specs.rules.Bytes.{codes}
use Rattle.base.specs.rules.Limits.{missing}
use Rattle.listing.specs.Listing.{numeral, parent_word, node_line, line_of_node, node_lines, header_line, document_lines, refused_line}
use Rattle.listing.proofs.Decimals.{decimal_one, decimal_more}

decimal_length : (k n : ℕ) → n < 10 ^ suc k → length (numeral n) ≤ suc k
decimal_length zero n h = rw (decimal_one n (omega arith)) (omega arith)
decimal_length (suc k) n h =
    bool_case
    (ltb n 10)
    (λ e. rw (decimal_one n (ltb-true n 10 e)) (omega arith))
    (λ e.
    let below : n < 10 ^ suc k * 10 = rw (pow-suc 10 (suc k)) at h in
    let shorter = decimal_length k (n / 10) (omega arith) in
    rw (decimal_more n (ltb-false n 10 e), length-append) (omega arith))

ten : (n : ℕ) → n < 2 ^ 32 → length (numeral n) ≤ 10
ten n h = decimal_length 9 n (omega arith)

parent_length : (p : ℕ) → p < 2 ^ 32 → length (parent_word p) ≤ 10
unfolding parent_word codes
parent_length p h = cond_case (λ (ds : List ℕ). length ds ≤ 10) (eqb p missing) (λ e. omega arith) (λ e. ten p h)

node_length : (n k p e : ℕ) → n < 2 ^ 32 → k < 2 ^ 32 → p < 2 ^ 32 → e < 2 ^ 32 → length (node_line n k p e) ≤ 44
unfolding node_line
node_length n k p e hn hk hp he = simp length-append (omega (arith, ten n hn, ten k hk, parent_length p hp, ten e he))

module _ (table : List ℕ) (words : (i : ℕ) → get_or table i 0 < 2 ^ 32) where
  lines_length : (n : ℕ) → n < 2 ^ 32 → length (node_lines table n) ≤ 44 * n
  unfolding node_lines line_of_node
  lines_length zero h = omega arith
  lines_length (suc n) h =
      rw length-append
      (omega (
        arith,
        lines_length n (omega arith),
        node_length n (get_or table (n * record_length) 0) (get_or table (n * record_length + 1) 0) (get_or table (n * record_length + 2) 0) (omega arith)
            (words (n * record_length)) (words (n * record_length + 1)) (words (n * record_length + 2)),
      ))

  pub document_length : (nodes pool : ℕ) → nodes < 2 ^ 32 → pool < 2 ^ 32 → length (document_lines table nodes pool) ≤ 44 * nodes + 33
  unfolding document_lines header_line codes
  document_length nodes pool h g = simp length-append (omega (arith, lines_length nodes h, ten nodes h, ten pool g))

pub refused_length : (n l c : ℕ) → n < 2 ^ 32 → l < 2 ^ 32 → c < 2 ^ 32 → length (refused_line n l c) ≤ 41
unfolding refused_line codes
refused_length n l c hn hl hc = simp length-append (omega (arith, ten n hn, ten l hl, ten c hc))
