-- Definitions that serve the contracts of private functions: the index of the ids of blocks.
use Rattle.std.specs.Prelude.{ℕ, zero, suc, ◌+◌, ◌*◌, ◌%◌, ◌<◌, ◌≤◌, ◌≡◌, true, cond, ◌&&◌, List, [], ◌∷◌, eqb, length, get_or}
use Rattle.base.specs.rules.Limits.{most_nodes}
use Rattle.document.specs.reference.Check.{holds_id}
use Rattle.validate.specs.internal.TableWords.{key_at, entry_of_node}

-- The hash h after these bytes.
unfoldable pub mixed : ℕ → List ℕ → ℕ
mixed h [] = h
mixed h (b ∷ bs) = mixed ((h * 33 + b) % 1048576) bs

-- The slot of an id: there are as many slots as a table may have nodes.
unfoldable pub slot_of : List ℕ → ℕ
slot_of id = mixed 5381 id % most_nodes

-- The last block of the first n nodes whose id has slot s, as its number + 1; 0 where there is none.
unfoldable pub last_in : List ℕ → List ℕ → ℕ → ℕ → ℕ
last_in words bytes s zero = zero
last_in words bytes s (suc n) =
    cond (holds_id (entry_of_node words bytes n) && eqb (slot_of (key_at words bytes n)) s) (suc n) (last_in words bytes s n)

-- The first n nodes have entered: heads has the last node of each slot, and nexts the one before each in its slot.
pub record Indexed (words bytes : List ℕ) (n : ℕ) (heads nexts : List ℕ) : Type 0 where
  pub few : n ≤ most_nodes
  pub heads_length : length heads ≡ most_nodes
  pub nexts_length : length nexts ≡ most_nodes
  pub last_in_lem : (s : ℕ) → s < most_nodes → get_or heads s 0 ≡ last_in words bytes s n
  pub before_in : (k : ℕ) → k < n → holds_id (entry_of_node words bytes k) ≡ true
      → get_or nexts k 0 ≡ last_in words bytes (slot_of (key_at words bytes k)) k
