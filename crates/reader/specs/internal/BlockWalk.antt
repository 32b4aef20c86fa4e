-- What a walk over the blocks of an imperative text answers. It serves the contracts of private functions.
use Rattle.std.specs.Prelude.{ℕ, ◌+◌, ◌<◌, ◌≡◌, Bool, true, not, cond, ◌&&◌, ◌||◌, List, eqb, leb}
use Rattle.elements.specs.rules.Class as Class
use Rattle.syntax.specs.rules.Byte.{Bracket, closing}
use Rattle.syntax.specs.rules.Expression.{Expr, Exprs, none, and}
use Rattle.lexer.specs.Token.{the_end}
use Rattle.document.specs.rules.Spelling.{is_block_parameter}
use Rattle.document.specs.rules.Command.{join, in_command}
use Rattle.document.specs.rules.Lead.{expr_class}
use Rattle.document.specs.reference.Meaning.{judge}
use Rattle.reader.specs.internal.RunStands.{Has, RunStands}
use Rattle.reader.specs.internal.Counts.{node_count, pool_bytes}
use Rattle.reader.specs.internal.WalkAnswer.{Walked, walked_to}
use Rattle.reader.specs.internal.Tape.{Tape, taped, taped_all}
use Rattle.document.specs.rules.Takes.{Takes}
use Rattle.reader.specs.internal.Walk.{run_answer, NamedListFirst}

-- The class that an expression of class c counts as in a command's bracket (`in_command`), and in a block's content if it is no command (`loose`).
unfoldable pub command_class : ℕ → ℕ
command_class c = cond (is_block_parameter c) c 0

unfoldable pub loose_class : ℕ → ℕ
loose_class c = cond (is_block_parameter c || eqb c Class.document) 0 c

-- A list led by a name of class c is a command (`is_command`).
unfoldable pub leads_command : ℕ → Bool
leads_command c = Class.is_block c && not (eqb c Class.document)

-- A block of kind k ends here: nothing of any sort is seen, or a command of no lesser significance.
unfoldable pub ends_at : ℕ → ℕ → ℕ → Bool
ends_at k sort c = eqb sort the_end || (leads_command c && leb (Class.significance k) (Class.significance c))

-- w is the answer of a block of kind k at `at` that is read so far to state st, with n nodes and p pool bytes counted, where `before` are left of its
-- command and es, which end at e, follow; z is the tape after it, where t is the one before and `node` the block's number.
pub record BlockAnswer (s : List ℕ) (at k node st n p : ℕ) (t z : Tape) (before es : Exprs) (e : ℕ) (w : Walked) : Type 0 where
  pub content : Exprs
  pub rest : Exprs
  pub takes : Takes (Class.significance k) es content rest
  pub same : w ≡ run_answer at k st n p w.next (join before content)
  pub tapes : w.number ≡ 0 → z ≡ taped_all t n node (join before content)
  pub goes_on : w.number ≡ 0 → RunStands s w.next rest e

-- w is the answer from place i on, in the command's bracket, and in the content after it.
pub record InCommand (s : List ℕ) (at k node i st n p : ℕ) (t z : Tape) (w : Walked) : Type 0 where
  pub answers : (ps : Exprs) (m : ℕ) (x : Bracket) (es : Exprs) (e : ℕ) → RunStands s i ps m → Has s m (closing x) → RunStands s (m + 1) es e
      → BlockAnswer s at k node st n p t z (in_command ps) es e w

pub record InContent (s : List ℕ) (at k node i st n p : ℕ) (t z : Tape) (w : Walked) : Type 0 where
  pub answers : (es : Exprs) (e : ℕ) → RunStands s i es e → BlockAnswer s at k node st n p t z none es e w

-- A list led by a name of class c may stand in the content of a block of kind k: as a block of lesser significance, or as itself.
pub record Belongs (k c : ℕ) : Type 0 where
  pub lesser : leads_command c ≡ true → Class.significance c < Class.significance k
  pub itself : loose_class c ≡ c

-- The first of the expressions es, which end at e, is of class c and counts as an expression, with those that follow if it is a command, and w is its answer in an
-- element of kind k; z is the tape t with it.
pub record ChildAnswer (s : List ℕ) (k c n p node : ℕ) (t z : Tape) (es : Exprs) (e : ℕ) (w : Walked) : Type 0 where
  pub one : Expr
  pub after : Exprs
  pub takes : (content rest : Exprs) → Takes (Class.significance k) after content rest → Takes (Class.significance k) es (and one content) rest
  pub of_class : expr_class one ≡ c
  pub same : w ≡ walked_to w.next (n + node_count one) (p + pool_bytes one) (judge k one)
  pub tapes : w.number ≡ 0 → z ≡ taped t n node one
  pub goes_on : w.number ≡ 0 → RunStands s w.next after e

-- w is the answer of a list at `at`, led by a name of class c that is followed by what starts at j, in the content of a block of kind k.
pub record JudgesChild (s : List ℕ) (at j k c n p node : ℕ) (t z : Tape) (w : Walked) : Type 0 where
  pub counted : (es : Exprs) (e : ℕ) → NamedListFirst s at c j es e → ChildAnswer s k c n p node t z es e w
