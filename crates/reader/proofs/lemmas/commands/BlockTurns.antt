-- The loops of `block` and `content`: their invariant, kept by each way through a loop's body.
use Prim.Native.Nat.{ℕ, ◌+◌, ◌≤◌, ◌<◌}
use mathlib.Core.Path.{◌≡◌}
use mathlib.Core.Bool.{true, false, cond}
use mathlib.Core.List.{List}
use native.Mathlib.Omega.{arith}
use lib.ListN.{length}
use Rattle.std.specs.Prelude.{Ok}
use Rattle.base.specs.rules.Limits.{most_bytes}
use Rattle.elements.specs.rules.Class as Class
use Rattle.elements.specs.rules.Inside.{ended}
use Rattle.inside.specs.Machine.{state_of}
use Rattle.document.specs.reference.Meaning.{fine, fault}
use Rattle.reader.specs.internal.WalkAnswer.{Walked, told, walked_to, Bounded, PoolBound, MayStart, MayEnter}
use Rattle.reader.specs.internal.Tape.{Tape, entered}
use Rattle.reader.specs.internal.TapeWord.{most_word}
use Rattle.reader.specs.internal.Walk.{JudgesList, past_bracket}
use Rattle.reader.specs.internal.BlockWalk.{command_class, loose_class, ends_at, InCommand, InContent, Belongs, JudgesChild}
use Rattle.reader.specs.internal.Walks.{Refuses, TakenAs}
use Rattle.reader.specs.declared.walk.Reached.{Reached}
use Rattle.reader.proofs.lemmas.walk.OneTurn.{Looked}
use Rattle.reader.proofs.lemmas.commands.CommandClasses.{not_ended}
use Rattle.reader.proofs.lemmas.commands.BlockLoops.{place_from, place_within, past_bounded, closed_at, command_end, content_end, turn_fits, atom_forward, list_forward, taken_forward}
use Rattle.reader.proofs.lemmas.commands.BlockLoops.{command_refused, content_refused, command_atom, content_atom, parameter_stopped, parameter_passed, belongs, child_stopped, child_passed}

-- The walk over the text s that began at `from` has got to i, and what is the answer from there, and the tape, as `P` says, is that of the walk.
pub record Gone (P : ℕ → ℕ → ℕ → ℕ → Tape → Tape → Walked → Type 0) (s : List ℕ) (from st₀ nodes pool : ℕ) (t₀ : Tape) (i st n p : ℕ)
    (t : Tape) : Type 0 where
  pub forward : from ≤ i
  pub within : i ≤ length s
  pub nodes_within : n ≤ i
  pub pool_within : PoolBound p i
  pub goes : (z : Tape) (w : Walked) → P i st n p t z w → P from st₀ nodes pool t₀ z w

module _ {P : ℕ → ℕ → ℕ → ℕ → Tape → Tape → Walked → Type 0} {s : List ℕ} {t₀ t : Tape} {from st₀ nodes pool i st n p : ℕ}
    (walk : Gone P s from st₀ nodes pool t₀ i st n p t) where
  answered : {z : Tape} {w : Walked} → Bounded s i w → P i st n p t z w → Bounded s from w × P from st₀ nodes pool t₀ z w
  answered {z} {w} b a = (record { bounds = λ y. omega (arith, b.bounds y, walk.forward) }, walk.goes z w a)

  -- Another turn; the bytes left fall.
  gone_on : {t' : Tape} {j st' n' p' : ℕ} → (i < j) × (j ≤ length s) × (n' ≤ j) × (p' ≤ j)
      → ((z : Tape) (w : Walked) → P j st' n' p' t' z w → P i st n p t z w) → (i < j) × Gone P s from st₀ nodes pool t₀ j st' n' p' t'
  gone_on b h = (
    b.0,
    record {
      forward = omega (arith, walk.forward, b);
      within = b.1;
      nodes_within = b.2;
      pool_within = b.3;
      goes = λ z w x. walk.goes z w (h z w x);
    },
  )

  -- Something is seen.
  module _ {sort q c j l : ℕ} (looked : Looked s i sort q c j l) (some : sort ≡ 0 → ⊥) where
    pub may_turn : length s ≤ most_bytes → (n ≤ i) × (i < j → PoolBound (p + l) j) × (i ≤ most_bytes) × (q ≤ most_bytes)
    may_turn short = (
      walk.nodes_within,
      turn_fits s i looked walk.within some walk.pool_within,
      omega (arith, walk.within),
      omega (arith, place_within s i looked walk.within),
    )

    -- A list is opened, and its content may be walked.
    pub list_starts : {d k node st' q' c' j' n' p' : ℕ} {t' : Tape}
        → TakenAs i j d k st j' st' × (sort ≡ 3) × (q' ≡ q) × (c' ≡ d) × (n' ≡ n) × (p' ≡ p) × (t' ≡ t)
        → length s ≤ most_bytes → node ≤ most_word → (from < j') × MayEnter s q' j' n' p' node
    list_starts (taking, a, f, g, x, y, z) short word =
        let h = list_forward s i looked walk.within some taking in (
          omega (arith, h, walk.forward),
          (
            h.1,
            omega (arith, h, x, walk.nodes_within),
            omega (arith, h, y, walk.pool_within),
            short,
            word,
            omega (arith, f, place_within s i looked walk.within),
          ),
        )

-- ---- in a command's bracket

module _ {s : List ℕ} {t₀ t : Tape} {at k node from st₀ nodes pool i st n p sort q c j l : ℕ}
    (walk : Gone (InCommand s at k node) s from st₀ nodes pool t₀ i st n p t) (looked : Looked s i sort q c j l) where
  -- It ends at a bracket, and the content may be walked; what that answers is the answer.
  pub content_starts : {r : Reached} → told (Ok r) ≡ past_bracket (length s) (told (Ok (record { place = q; nodes = n; pool = p })))
      → length s ≤ most_bytes → node ≤ most_word → (from < r.place) × MayStart s r.place r.nodes r.pool node
  content_starts e short word =
      let h = place_from s i looked walk.within in
      let (inside, place, nodes, pool) = closed_at e in (
        omega (arith, h, walk.forward, place),
        (
          omega (arith, inside, place),
          omega (arith, h, walk.nodes_within, place, nodes),
          omega (arith, h, walk.pool_within, place, pool),
          short,
          word,
        ),
      )

  pub content_answers : sort ≡ 0 → {r : Reached} {z : Tape} {w : Walked}
      → told (Ok r) ≡ past_bracket (length s) (told (Ok (record { place = q; nodes = n; pool = p })))
      → Bounded s r.place w → InContent s at k node r.place st r.nodes r.pool t z w
      → Bounded s from w × InCommand s at k node from st₀ nodes pool t₀ z w
  content_answers z e b a =
      let h = place_from s i looked walk.within in
      let (inside, place, nodes, pool) = closed_at e in
      answered walk (record { bounds = λ y. omega (arith, b.bounds y, h, place) }) (command_end looked z (rw (place, nodes, pool) at a))

  -- What is seen counts as of class d.
  module _ (some : sort ≡ 0 → ⊥) {d : ℕ} (counts : d ≡ command_class c) where
    pub parameter_refused : {z : Tape} {w : Walked} → Refuses at i q j d k st w → InCommand s at k node from st₀ nodes pool t₀ z w
    parameter_refused {z} {w} r = walk.goes z w (command_refused s i looked walk.within some (rw counts at r))

    module _ {st' j' n' p' : ℕ} {t' : Tape} where
      pub past_atom : TakenAs i j d k st j' st' × (sort ≡ 3 → ⊥) × (n' ≡ n + 1) × (p' ≡ p + l)
          × (t' ≡ entered t n q Class.text node (n + 1))
          → (i < j') × Gone (InCommand s at k node) s from st₀ nodes pool t₀ j' st' n' p' t'
      past_atom (taking, a, x, y, stored) =
          gone_on walk (atom_forward s i looked walk.within some taking walk.nodes_within walk.pool_within x y)
          (command_atom s i looked walk.within some (rw counts at taking) a)

      -- A list: w is its answer, and r that past its closing bracket.
      module _ {q' c' : ℕ} {z : Tape} {w r : Walked}
          (turn : TakenAs i j d k st j' st' × (sort ≡ 3) × (q' ≡ q) × (c' ≡ d) × (n' ≡ n) × (p' ≡ p) × (t' ≡ t)) (bounded : Bounded s j' w)
          (judged : JudgesList s q' j' k c' n' p' node t' z w) (past-it : r ≡ past_bracket (length s) w) where
        taking : TakenAs i j (command_class c) k st j' st'
        taking = rw counts at turn.0

        of_seen : JudgesList s q j' k (command_class c) n p node t z w
        of_seen = rw (turn.2, turn.3, counts, turn.4, turn.5, turn.6) at judged

        pub in_parameter : (r.number ≡ 0 → ⊥) → InCommand s at k node from st₀ nodes pool t₀ z r
        in_parameter y = walk.goes z r (parameter_stopped s i looked walk.within some taking turn.1 bounded of_seen past-it y)

        pub past_parameter : r.number ≡ 0 → (i < r.next) × Gone (InCommand s at k node) s from st₀ nodes pool t₀ r.next st' r.nodes r.pool z
        past_parameter y =
            gone_on walk (taken_forward taking (past_bounded bounded past-it) y)
            (parameter_passed s i looked walk.within some taking turn.1 bounded of_seen past-it y)

-- ---- in a block's content

module _ {s : List ℕ} {t₀ t : Tape} {at k node from st₀ nodes pool i st n p sort q c j l : ℕ}
    (walk : Gone (InContent s at k node) s from st₀ nodes pool t₀ i st n p t) (looked : Looked s i sort q c j l) where
  pub content_ended : ends_at k sort c ≡ true → {w : Walked} → w ≡ walked_to i n p (cond (ended k (state_of k st)) fine (fault 9 at))
      → Bounded s from w × InContent s at k node from st₀ nodes pool t₀ t w
  content_ended h e =
      let a = content_end looked walk.within walk.nodes_within walk.pool_within h e in
      answered walk a.0 a.1

  module _ (goes_on : ends_at k sort c ≡ false) {d : ℕ} (counts : d ≡ loose_class c) where
    some : sort ≡ 0 → ⊥
    some = (not_ended k sort c goes_on).0

    pub child_refused : {z : Tape} {w : Walked} → Refuses at i q j d k st w → InContent s at k node from st₀ nodes pool t₀ z w
    child_refused {z} {w} r =
        walk.goes z w (content_refused s i looked walk.within some (not_ended k sort c goes_on).1 (rw counts at r))

    module _ {st' j' n' p' : ℕ} {t' : Tape} where
      pub past_atom_child : TakenAs i j d k st j' st' × (sort ≡ 3 → ⊥) × (n' ≡ n + 1) × (p' ≡ p + l)
          × (t' ≡ entered t n q Class.text node (n + 1))
          → (i < j') × Gone (InContent s at k node) s from st₀ nodes pool t₀ j' st' n' p' t'
      past_atom_child (taking, a, x, y, stored) =
          gone_on walk (atom_forward s i looked walk.within some taking walk.nodes_within walk.pool_within x y)
          (content_atom s i looked walk.within some (rw counts at taking) a x y stored)

      -- A list: r is its answer, and that of what it leads.
      module _ {q' c' : ℕ} (turn : TakenAs i j d k st j' st' × (sort ≡ 3) × (q' ≡ q) × (c' ≡ d) × (n' ≡ n) × (p' ≡ p) × (t' ≡ t)) where
        child_taking : TakenAs i j (loose_class c) k st j' st'
        child_taking = rw counts at turn.0

        pub child_belongs : Belongs k c'
        child_belongs = rw (turn.3, counts) (belongs s i looked walk.within some child_taking (not_ended k sort c goes_on).1)

        module _ {z : Tape} {r : Walked} (bounded : Bounded s j' r) (judged : JudgesChild s q' j' k c' n' p' node t' z r) where
          child_of_seen : JudgesChild s q j' k (loose_class c) n p node t z r
          child_of_seen = rw (turn.2, turn.3, counts, turn.4, turn.5, turn.6) at judged

          pub in_child : (r.number ≡ 0 → ⊥) → InContent s at k node from st₀ nodes pool t₀ z r
          in_child y = walk.goes z r (child_stopped s i looked walk.within some child_taking turn.1 bounded child_of_seen y)

          pub past_child : r.number ≡ 0 → (i < r.next) × Gone (InContent s at k node) s from st₀ nodes pool t₀ r.next st' r.nodes r.pool z
          past_child y =
              gone_on walk (taken_forward child_taking bounded y) (child_passed s i looked walk.within some child_taking turn.1 bounded child_of_seen y)
