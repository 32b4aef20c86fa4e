-- The characters of ids, types and targets, and the numbers of a size. Document 01, "Elements".
use Rattle.std.specs.Prelude.{ℕ, ◌+◌, ◌*◌, ◌-◌, Bool, true, false, cond, ◌&&◌, ◌||◌, List, [], ◌∷◌, eqb, leb, length}
use Rattle.elements.specs.rules.Class as Class
use Rattle.elements.specs.rules.Characters.{is_digit, type_character, id_character, uri_character}

unfoldable pub non_empty : List ℕ → Bool
non_empty [] = false
non_empty (x ∷ xs) = true

unfoldable pub every : (ℕ → Bool) → List ℕ → Bool
every p [] = true
every p (x ∷ xs) = p x && every p xs

-- The targets of link and footnote-ref name a block; those of image and link-ext are URIs.
unfoldable pub names_block : ℕ → Bool
names_block k = eqb k Class.link || eqb k Class.footnote_ref

unfoldable pub target_character : ℕ → ℕ → Bool
target_character k b = cond (names_block k) (id_character b) (uri_character b)

-- These bytes may be the value of a parameter of class c in an element of kind k.
unfoldable pub is_value : ℕ → ℕ → List ℕ → Bool
is_value k c s =
    non_empty s
    && cond (eqb c Class.type) (every type_character s)
    (cond (eqb c Class.id) (every id_character s)
    (cond (eqb c Class.target) (every (target_character k) s) false))

-- "at most 65,535 each"
unfoldable pub is_size : ℕ → ℕ → Bool
is_size w h = leb w 65535 && leb h 65535

-- The number that decimal digits stand for, after the number n of those before.
unfoldable pub decimal_after : ℕ → List ℕ → ℕ
decimal_after n [] = n
decimal_after n (d ∷ ds) = decimal_after (n * 10 + (d - 0x30)) ds

-- "one to five decimal digits"
unfoldable pub is_decimal : List ℕ → Bool
is_decimal ds = non_empty ds && leb (length ds) 5 && every is_digit ds
