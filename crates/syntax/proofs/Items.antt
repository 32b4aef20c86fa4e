-- Bytes to items: what stands at the front of a text is the item that is read there, whatever follows.
use Prim.Native.Nat.{ℕ, suc, ◌+◌}
use mathlib.Core.Path.{◌≡◌, refl, ap, sym, ◌∙◌}
use mathlib.Core.List.{List, [], ◌∷◌, ◌++◌, append_assoc, append-nil}
use native.Mathlib.Nat.{add-zero, add_assoc}
use native.Mathlib.Omega.{arith}
use lib.Dec.{T}
use lib.ListN.{length, length-append}
use Rattle.base.proofs.Booleans.{both, T_true}
use Rattle.syntax.specs.rules.Byte.{Bracket, ByteClass, blank, return, quote, ordinary, opening, closing, byte_class, open_byte, close_byte, is_ordinary}
use Rattle.syntax.specs.rules.Syntax.{Piece, pieces_before, are_pieces, are_ordinary, Leaf, space, line_end, word, string, leaf_before, is_leaf, a_symbol, after}
use Rattle.syntax.specs.reference.Scan.{closed, quoted_from, quoted_item, ordinary_run, a_leaf, opens, closes, item_at, items_from}
use Rattle.syntax.proofs.ByteClasses.{FitsAfter, blank_class_lem, ordinary_class_lem, open_class, close_class}
use Rattle.syntax.proofs.Strings.{pieces_append, quoted_pieces, pieces_closed}

-- The bytes of an item already read are passed over.
pub items_pass : (t s : List ℕ) (n : ℕ) → items_from (length t) n (t ++ s) ≡ items_from 0 (n + length t) s
unfolding items_from
items_pass [] s n = rw (add-zero n)
items_pass (b ∷ t) s n =
    let place : n + 1 + length t ≡ n + suc (length t) = omega arith in
    rw (← place) (items_pass t s (n + 1))

-- The item is that of the first byte's class.
pub item_of : (c : ByteClass) (n b : ℕ) (s : List ℕ) → byte_class b ≡ c → items_from 0 n (b ∷ s) ≡ item_at n b s (λ k. items_from k (n + 1) s) c
unfolding items_from
item_of c n b s e = rw e

pub items_open : (b : Bracket) (n : ℕ) (k : List ℕ) → items_from 0 n (open_byte b ∷ k) ≡ opens n b (items_from 0 (n + 1) k)
unfolding item_at
items_open b n k = item_of (opening b) n (open_byte b) k (open_class b)

pub items_close : (b : Bracket) (n : ℕ) (k : List ℕ) → items_from 0 n (close_byte b ∷ k) ≡ closes n b (items_from 0 (n + 1) k)
unfolding item_at
items_close b n k = item_of (closing b) n (close_byte b) k (close_class b)

-- A symbol ends where no byte of a symbol follows.
pub run_ends : (bs k : List ℕ) → T (are_ordinary bs) → FitsAfter a_symbol k → ordinary_run (bs ++ k) ≡ bs
unfolding ordinary_run are_ordinary FitsAfter
run_ends [] [] t h = refl
run_ends [] (b ∷ k) t h = rw h
run_ends (b ∷ bs) k t h =
    let (t₁, t₂) = both (is_ordinary b) (are_ordinary bs) t in
    rw (T_true (is_ordinary b) t₁, run_ends bs k t₂ h)

-- A quoted string with its closing quote is read, and passed over.
pub quoted_string : (ps : List Piece) (n : ℕ) (k : List ℕ) → T (are_pieces ps) → quoted_from 0 n (pieces_before ps (0x22 ∷ k)) ≡ closed ps
unfolding quoted_from
quoted_string ps n k t = quoted_pieces ps n (0x22 ∷ k) t ∙ pieces_closed ps [] ∙ rw (append-nil ps)

string_pass : (ps : List Piece) (n : ℕ) (k : List ℕ)
    → items_from (length (pieces_before ps []) + 1) n (pieces_before ps (0x22 ∷ k)) ≡ items_from 0 (n + length (pieces_before ps (0x22 ∷ []))) k
string_pass ps n k =
    let whole : List ℕ = pieces_before ps [] ++ (0x22 ∷ []) in
    let all : pieces_before ps (0x22 ∷ k) ≡ whole ++ k
    = pieces_append ps (0x22 ∷ k) ∙ sym (append_assoc (pieces_before ps []) (0x22 ∷ []) k) in
    rw (all, pieces_append ps (0x22 ∷ []), ← (length-append (pieces_before ps []) (0x22 ∷ []))) (items_pass whole k n)

-- A leaf is read, if what follows may follow it.
pub items_leaf : (l : Leaf) (n : ℕ) (k : List ℕ) → T (is_leaf l) → FitsAfter (after l) k
    → items_from 0 n (leaf_before l k) ≡ a_leaf l (items_from 0 (n + length (leaf_before l [])) k)
unfolding is_leaf leaf_before after are_ordinary byte_class item_at quoted_item
items_leaf (space b) n k t h = item_of blank n b k (blank_class_lem b t)
items_leaf line_end n k t h = item_of return n 0x0D (0x0A ∷ k) refl ∙ ap (a_leaf line_end) (items_pass (0x0A ∷ []) k (n + 1) ∙ rw (add_assoc n 1 1))
items_leaf (word b bs) n k t h =
    let (t₁, t₂) = both (is_ordinary b) (are_ordinary bs) t in
    let place : n + 1 + length bs ≡ n + suc (length bs) = omega arith in
    item_of ordinary n b (bs ++ k) (ordinary_class_lem b t₁)
    ∙ rw (run_ends bs k t₂ h, append-nil bs, ← place) (ap (a_leaf (word b bs)) (items_pass bs k (n + 1)))
items_leaf (string p ps) n k t h =
    let place : n + 1 + length (pieces_before (p ∷ ps) (0x22 ∷ [])) ≡ n + suc (length (pieces_before (p ∷ ps) (0x22 ∷ []))) = omega arith in
    item_of quote n 0x22 (pieces_before (p ∷ ps) (0x22 ∷ k)) refl
    ∙ rw (quoted_string (p ∷ ps) (n + 1) k t, ← place) (ap (a_leaf (string p ps)) (string_pass (p ∷ ps) (n + 1) k))
