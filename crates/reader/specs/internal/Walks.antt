-- What the functions of a walk promise, of an element, a list and how far a walk has come. It serves the contracts of private functions.
use Rattle.std.specs.Prelude.{ℕ, ◌+◌, ◌≤◌, ◌<◌, ◌≡◌, cond, List, Result, Ok, Err, eqb, length}
use Rattle.base.specs.rules.Limits.{most_bytes, missing}
use Rattle.base.specs.rules.Numbers as Number
use Rattle.elements.specs.rules.Class as Class
use Rattle.elements.specs.rules.Inside.{step as stepped, bad}
use Rattle.inside.specs.Machine.{state_of}
use Rattle.lexer.specs.Token.{seen, the_end, a_list}
use Rattle.document.specs.reference.Meaning.{fault}
use Rattle.reader.specs.declared.walk.Reached.{Reached}
use Rattle.reader.specs.declared.walk.Refused.{Refused}
use Rattle.reader.specs.declared.walk.Element.{Element}
use Rattle.reader.specs.declared.walk.Opening.{Opening}
use Rattle.reader.specs.declared.walk.Turn.{Turn}
use Rattle.reader.specs.declared.walk.Turn.TheVariants.{Atom, List as Opened}
use Rattle.reader.specs.internal.WalkAnswer.{Walked, told, walked_to, MayStart, MayEnter, PoolBound, Bounded}
use Rattle.reader.specs.internal.Tape.{Tape, entered}
use Rattle.reader.specs.internal.TapeWord.{most_word}
use Rattle.reader.specs.internal.Walk.{AnswersFrom, Finishes, JudgesList, StepTakes}
use Rattle.reader.specs.internal.BlockWalk.{InCommand, InContent, JudgesChild}

-- A walk may go on from there in the element with number `node`.
abbrev pub WalkStarts : List ℕ → Reached → ℕ → Type 0
WalkStarts s from node = MayStart s from.place from.nodes from.pool node

-- The same from the place after the name of a list on.
abbrev pub ListStarts : List ℕ → Opening → Reached → ℕ → Type 0
ListStarts s l from node = MayEnter s l.at from.place from.nodes from.pool node

-- Where a walk that started there has got to.
abbrev pub Within : List ℕ → Reached → Result Reached Refused → Type 0
Within s from r = Bounded s from.place (told r)

-- r is the answer from there on, in an element that is read to state st, t the tape and z the one after it.
abbrev pub Answers : List ℕ → Element → Reached → ℕ → Tape → Tape → Result Reached Refused → Type 0
Answers s x from st t z r = AnswersFrom s x.at x.kind from.place st from.nodes from.pool x.node t z (told r)

abbrev pub Finished : List ℕ → Element → Reached → Tape → Tape → Result Reached Refused → Type 0
Finished s x from t z r = Finishes s x.at x.kind from.place from.nodes from.pool x.node t z (told r)

-- r is the answer of a list in an element of kind k with number `node`.
abbrev pub Judges : List ℕ → ℕ → ℕ → Opening → Reached → Tape → Tape → Result Reached Refused → Type 0
Judges s k node l from t z r = JudgesList s l.at from.place k l.class from.nodes from.pool node t z (told r)

-- r is the answer from there on in a command's bracket, and in the content after it.
abbrev pub CommandAnswers : List ℕ → Element → Reached → ℕ → Tape → Tape → Result Reached Refused → Type 0
CommandAnswers s x from st t z r = InCommand s x.at x.kind x.node from.place st from.nodes from.pool t z (told r)

abbrev pub ContentAnswers : List ℕ → Element → Reached → ℕ → Tape → Tape → Result Reached Refused → Type 0
ContentAnswers s x from st t z r = InContent s x.at x.kind x.node from.place st from.nodes from.pool t z (told r)

-- r is the answer of a list in the content of a block of kind k with number `node`.
abbrev pub JudgesChildren : List ℕ → ℕ → ℕ → Opening → Reached → Tape → Tape → Result Reached Refused → Type 0
JudgesChildren s k node l from t z r = JudgesChild s l.at from.place k l.class from.nodes from.pool node t z (told r)

-- What is seen at q, up to j, counts as of class c in an element of kind k at `at`: that is refused, or nothing is passed from i on.
pub data Refuses (at i q j c k st : ℕ) (w : Walked) : Type 0 where
  by_step : (f : ℕ) → (f ≡ 0 → ⊥) → stepped k (state_of k st) c ≡ bad f → w ≡ walked_to 0 0 0 (fault f (cond (eqb f Number.absent) at q)) → Refuses at i q j c k st w
  stuck : j ≤ i → w ≡ walked_to 0 0 0 (fault Number.not_allowed q) → Refuses at i q j c k st w

-- It is taken, and something is passed.
pub record TakenAs (i j c k st j' st' : ℕ) : Type 0 where
  pub taken : StepTakes k st c st'
  pub forward : i < j
  pub next : j' ≡ j

-- What is seen at q, up to j, with l bytes, may be passed in an element: whatever the text holds, the numbers stay words.
abbrev pub MayTurn : Element → Reached → ℕ → ℕ → ℕ → Type 0
MayTurn x from q j l =
    (from.nodes ≤ from.place) × (from.place < j → PoolBound (from.pool + l) j) × (from.place ≤ most_bytes) × (q ≤ most_bytes) × (x.node ≤ most_word)

-- A turn, of what is seen at q, up to j, as of this sort and with l bytes, and counts as of class c. A list is not yet on the tape.
abbrev pub TurnAs : Element → Reached → ℕ → ℕ → ℕ → ℕ → ℕ → ℕ → Tape → Tape → Result Turn Refused → Type 0
TurnAs x from sort q j l c st t z (Err f) = Refuses x.at from.place q j c x.kind st (told (Err f))
TurnAs x from sort q j l c st t z (Ok (Atom r st')) =
    TakenAs from.place j c x.kind st r.place st' × (sort ≡ a_list → ⊥) × (r.nodes ≡ from.nodes + 1) × (r.pool ≡ from.pool + l)
    × (z ≡ entered t from.nodes q Class.text x.node (from.nodes + 1))
TurnAs x from sort q j l c st t z (Ok (Opened o r st')) =
    TakenAs from.place j c x.kind st r.place st' × (sort ≡ a_list) × (o.at ≡ q) × (o.class ≡ c) × (r.nodes ≡ from.nodes) × (r.pool ≡ from.pool) × (z ≡ t)

-- The root's element x and where its content starts, r, where a document is seen first in the text, and the tape then.
pub record RootOpened (s : List ℕ) (t z : Tape) (x : Element) (r : Reached) : Type 0 where
  pub is_seen : (seen 0 s).sort ≡ the_end → ⊥
  pub is_document : (seen 0 s).class ≡ Class.document
  pub element : x ≡ record { at = (seen 0 s).place; kind = Class.document; node = 0 }
  pub inner : r ≡ record { place = (seen 0 s).next; nodes = 1; pool = 0 }
  pub forward : 0 < r.place
  pub on_tape : z ≡ entered t 0 (seen 0 s).place Class.document missing 0

-- Else it is refused.
pub data RootRefused (s : List ℕ) (w : Walked) : Type 0 where
  no_expression : (seen 0 s).sort ≡ the_end → w ≡ walked_to 0 0 0 (fault Number.not_one_expression (length s)) → RootRefused s w
  no_document : ((seen 0 s).sort ≡ the_end → ⊥) → ((seen 0 s).class ≡ Class.document → ⊥) → w ≡ walked_to 0 0 0 (fault Number.not_allowed (seen 0 s).place) → RootRefused s w
  stuck : ((seen 0 s).sort ≡ the_end → ⊥) → (seen 0 s).next ≡ 0 → w ≡ walked_to 0 0 0 (fault Number.not_allowed (seen 0 s).place) → RootRefused s w

abbrev pub OpensRoot : List ℕ → Tape → Tape → Result (Element × Reached) Refused → Type 0
OpensRoot s t z (Ok p) = RootOpened s t z p.0 p.1
OpensRoot s t z (Err f) = RootRefused s (told (Err f))
