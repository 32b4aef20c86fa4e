-- What a walk still has to answer at a place, what a step takes, and the answer of a list. It serves the contracts of private functions.
use Rattle.std.specs.Prelude.{ℕ, suc, ◌+◌, ◌≡◌, cond, List, eqb, leb}
use Rattle.base.specs.rules.Numbers as Number
use Rattle.elements.specs.rules.Class.{is_element}
use Rattle.elements.specs.rules.Inside.{step as stepped, start, go}
use Rattle.inside.specs.Machine.{state_of}
use Rattle.syntax.specs.rules.Byte.{Bracket, closing}
use Rattle.syntax.specs.rules.Expression.{Expr, list, Exprs, and}
use Rattle.document.specs.rules.Lead.{lead_class}
use Rattle.document.specs.reference.Meaning.{Verdict, fine, fault, finish, run, judge_value, value_tree}
use Rattle.reader.specs.internal.RunStands.{Has, RunStands}
use Rattle.reader.specs.internal.Counts.{node_count_in, pool_bytes_in, value_size}
use Rattle.reader.specs.internal.WalkAnswer.{Walked, walked_to}
use Rattle.reader.specs.internal.Tape.{Tape, entered, left, noted, taped_all}

-- What is to be answered of the expressions es, which end at e, in the element of kind k at `at` that is read so far to state st.
-- So far n nodes and p pool bytes are counted.
unfoldable pub run_answer : ℕ → ℕ → ℕ → ℕ → ℕ → ℕ → Exprs → Walked
run_answer at k st n p e es = walked_to e (n + node_count_in es) (p + pool_bytes_in es) (finish at k (run at k (state_of k st) es))

-- z is the tape t after the expressions from place i on, in the element with number `node`, unless w refuses them. A tape has `most_nodes` entries.
abbrev pub TapedFrom : List ℕ → ℕ → ℕ → ℕ → Tape → Tape → Walked → Type 0
TapedFrom s i n node t z w = (es : Exprs) (e : ℕ) → RunStands s i es e → w.number ≡ 0 → z ≡ taped_all t n node es

-- w is the answer from place i on, and z the tape.
pub record AnswersFrom (s : List ℕ) (at k i st n p node : ℕ) (t z : Tape) (w : Walked) : Type 0 where
  pub answers : (es : Exprs) (e : ℕ) → RunStands s i es e → w ≡ run_answer at k st n p e es
  pub tapes : TapedFrom s i n node t z w

-- The same from an element's first state on.
abbrev pub Finishes : List ℕ → ℕ → ℕ → ℕ → ℕ → ℕ → ℕ → Tape → Tape → Walked → Type 0
Finishes s at k i n p node t z w =
    ((es : Exprs) (e : ℕ) → RunStands s i es e → w ≡ walked_to e (n + node_count_in es) (p + pool_bytes_in es) (finish at k (run at k (start k) es)))
    × TapedFrom s i n node t z w

-- Of the expressions es, which end at e, the first is a list at `place`, led by a name of class c that is followed by what starts at j.
pub record NamedListFirst (s : List ℕ) (place c j : ℕ) (es : Exprs) (e : ℕ) : Type 0 where
  pub lead : Expr
  pub rest : Exprs
  pub others : Exprs
  pub end : ℕ
  pub bracket : Bracket
  pub made : es ≡ and (list place (and lead rest)) others
  pub of_class : lead_class lead ≡ c
  pub follows : RunStands s j rest end
  pub closed : Has s end (closing bracket)
  pub goes_on : RunStands s (end + 1) others e

-- In an element of kind k, an expression of class c is taken.
abbrev pub StepTakes : ℕ → ℕ → ℕ → ℕ → Type 0
StepTakes k st c st' = stepped k (state_of k st) c ≡ go (state_of k st')

-- What is to be answered of a list at `at` led by a name of class c, in an element of kind k, where es follow the name.
unfoldable pub verdict_of : ℕ → ℕ → ℕ → Exprs → Verdict
verdict_of k at c es = cond (is_element c) (finish at c (run at c (start c) es)) (judge_value k at (value_tree c es))

-- w is the answer of a list at `at`, where j is the place after the name that leads it, and z the tape with the element or value that it is.
pub record JudgesList (s : List ℕ) (at j k c n p node : ℕ) (t z : Tape) (w : Walked) : Type 0 where
  pub judged : (es : Exprs) (e : ℕ) → RunStands s j es e
      → w ≡ walked_to e (n + cond (is_element c) (suc (node_count_in es)) 0) (p + cond (is_element c) (pool_bytes_in es) (value_size c es)) (verdict_of k at c es)
  pub tapes : (es : Exprs) (e : ℕ) → RunStands s j es e → w.number ≡ 0
      → z ≡ cond (is_element c) (left (taped_all (entered t n at c node 0) (n + 1) n es) n (n + 1 + node_count_in es)) (noted t node c es)

-- The answer of a list, and then the place after its closing bracket, in a text of m bytes.
unfoldable pub past_bracket : ℕ → Walked → Walked
past_bracket m w =
    cond (eqb w.number 0)
    (cond (leb m w.next) (walked_to 0 0 0 (fault Number.not_allowed w.next)) (walked_to (w.next + 1) w.nodes w.pool fine))
    w
