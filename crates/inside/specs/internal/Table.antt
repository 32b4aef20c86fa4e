-- The rows of `Rules` as the code has them: a number for each parameter, and one for each row.
use Rattle.std.specs.Prelude.{ℕ, zero, suc, ◌+◌, ◌-◌, ◌*◌, ◌^◌, Bool, true, false, Option, Some, None, cond, List, [], ◌∷◌, eqb, ltb}
use Rattle.elements.specs.rules.Rules.{Slot, must, may, id_type, Content}
use Rattle.elements.specs.rules.Inside.{allows}
use Rattle.inside.specs.declared.rows.Parameter.{Parameter}
use Rattle.inside.specs.declared.rows.Parameter.TheVariants.{Required, Optional, IdType}

-- What is added to the class of an optional parameter; it is above every class.
abbrev pub optional_bit : ℕ
optional_bit = 64

-- `id?/type?`, "either order"
abbrev pub either_order : ℕ
either_order = 255

-- The parameters that one and what follows it are; `id?/type?` is always the last.
unfoldable pub led : Option Parameter → List Slot → List Slot
led None ps = []
led (Some (Required n)) ps = must n ∷ ps
led (Some (Optional n)) ps = may n ∷ ps
led (Some IdType) ps = id_type ∷ []

abbrev pub is_required : Parameter → Bool
is_required (Required n) = true
is_required (Optional n) = false
is_required IdType = false

-- The parameter of a number: 0 is none, a class alone a required one, `optional_bit` and a class an optional one.
unfoldable pub coded : ℕ → Option Parameter
coded n =
    cond (eqb n 0) None
    (cond (ltb n optional_bit) (Some (Required n))
    (cond (eqb n either_order) (Some IdType) (Some (Optional (n - optional_bit)))))

-- The number of a parameter.
unfoldable pub code : Slot → ℕ
code (must n) = n
code (may n) = optional_bit + n
code id_type = either_order

-- Parameters in the bytes of one number, the first in the lowest.
unfoldable pub packed : List Slot → ℕ
packed [] = 0
packed (p ∷ ps) = code p + 256 * packed ps

-- The classes below n that may stand in a content, each the bit of its number.
unfoldable pub bits : Content → ℕ → ℕ
bits t zero = 0
bits t (suc n) = cond (allows t n) (2 ^ n) 0 + bits t n

-- The first parameter is required.
unfoldable pub begins_required : List Slot → Bool
begins_required [] = false
begins_required (must n ∷ ps) = true
begins_required (may n ∷ ps) = false
begins_required (id_type ∷ ps) = false
