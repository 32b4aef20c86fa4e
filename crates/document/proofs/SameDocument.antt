-- Two texts within the limits that spell one document, in either spelling each, are read alike.
use Prim.Native.Nat.{ℕ}
use mathlib.Core.Path.{◌≡◌, refl}
use mathlib.Core.Bool.{Bool, true, false, cond}
use mathlib.Core.List.{List}
use lib.Dec.{ltb}
use lib.ListN.{length}
use Rattle.document.specs.rules.Document.{Node}
use Rattle.document.specs.rules.Spelling.{Spelling, Spells, WithinLimits}
use Rattle.document.specs.rules.Table.{count, pool}
use Rattle.document.specs.reference.Outcome.{stored, outcome}
use Rattle.document.specs.rules.Memory.{answer_at, Memory, Outcome, no_room, filled, node_room}
use Rattle.document.specs.rules.Readable.{Alike}
use Rattle.document.proofs.Account.{spelled_stored}

either : (b : Bool) {x y x' y' : Outcome} → Alike x x' → Alike y y' → Alike (cond b x y) (cond b x' y')
either true f g = f
either false f g = g

alike : {o o' : Outcome} → o.answer.number ≡ o'.answer.number → o.answer.nodes ≡ o'.answer.nodes → o.answer.pool ≡ o'.answer.pool
    → o.memory.nodes ≡ o'.memory.nodes → o.memory.pool ≡ o'.memory.pool → Alike o o'
alike a b c d e = record { number = a; nodes = b; bytes = c; node_words = d; pool_bytes = e }

-- What is stored of a document depends on the text in places alone.
stored_alike : (text text' ps ps' : List ℕ) (m : Memory) (d : Node) → Alike (stored text m ps d) (stored text' m ps' d)
unfolding stored no_room filled answer_at
stored_alike text text' ps ps' m d =
    either (ltb (node_room m) (count d)) (alike refl refl refl refl refl)
    (either (ltb (length m.pool) (length (pool d))) (alike refl refl refl refl refl) (alike refl refl refl refl refl))

pub spelled_alike : (s s' : Spelling) (d : Node) (text text' : List ℕ) (m : Memory) (a : Spells s d text) (b : Spells s' d text')
    → WithinLimits s text a.forest → WithinLimits s' text' b.forest → Alike (outcome s text m) (outcome s' text' m)
spelled_alike s s' d text text' m a b l l' =
    rw (spelled_stored s text m d a l, spelled_stored s' text' m d b l') (stored_alike text text' _ _ m d)
