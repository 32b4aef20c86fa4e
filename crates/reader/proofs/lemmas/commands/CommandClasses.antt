-- What an expression counts as in a command and in a block's content.
use Prim.Native.Nat.{ℕ, ◌+◌, ◌<◌}
use mathlib.Core.Path.{◌≡◌, refl, sym, ◌∙◌}
use mathlib.Core.Bool.{true, false, not, cond, ◌&&◌, ◌||◌}
use mathlib.Core.List.{List}
use native.Mathlib.Omega.{arith}
use lib.Dec.{eqb, leb}
use lib.ListN.{drop}
use borrow.Author.Tests.{eqb-false, leb-false}
use Rattle.base.proofs.Booleans.{cond_case, cond_under, bool_case, both, or_false, true_T, T_true, not-true}
use Rattle.elements.specs.rules.Class as Class
use Rattle.syntax.specs.rules.Expression.{Expr, symbol, quoted, list, Exprs, none, and, place}
use Rattle.atoms.specs.Atom.{atom_value}
use Rattle.lexer.specs.Token.{Seen}
use Rattle.document.specs.rules.Spelling.{is_block_parameter}
use Rattle.document.specs.rules.Lead.{expr_class, list_class}
use Rattle.document.specs.reference.Meaning.{fine, judge}
use Rattle.document.specs.rules.Command.{as_not_allowed}
use Rattle.document.specs.rules.Command.{loose, is_command, block}
use Rattle.document.proofs.BlockExpressions.{block_no_parameter}
use Rattle.document.proofs.Regroup.{block_class}
use Rattle.reader.specs.internal.RunStands.{RunStands}
use Rattle.reader.specs.internal.Counts.{node_count, pool_bytes}
use Rattle.reader.specs.internal.Tape.{Tape, entered, taped}
use Rattle.document.specs.rules.Takes.{Takes, at_command, expression, a_block}
use Rattle.reader.specs.internal.BlockWalk.{command_class, loose_class, leads_command, ends_at}
use Rattle.reader.proofs.lemmas.walk.SeenExpressions.{SeenAs, saw_end, saw_symbol, saw_string, saw_list}

-- ---- classes

-- What is no class in a command is no parameter, and what is one counts as itself.
pub command_itself : (c : ℕ) → (command_class c ≡ 0 → ⊥) → is_block_parameter c ≡ true
unfolding command_class
command_itself c h = bool_case (is_block_parameter c) (λ e. e) (λ e. absurd (h (rw e)))

pub parameter_class : (c : ℕ) → is_block_parameter c ≡ true → command_class c ≡ c
unfolding command_class
parameter_class c e = rw e

pub loose_itself : (c : ℕ) → (loose_class c ≡ 0 → ⊥) → loose_class c ≡ c
unfolding loose_class
loose_itself c h = bool_case (is_block_parameter c || eqb c Class.document) (λ e. absurd (h (rw e))) (λ e. rw e)

command_loose : (c : ℕ) → leads_command c ≡ true → loose_class c ≡ c
unfolding leads_command loose_class
command_loose c h =
    let (b, d) = both (Class.is_block c) (not (eqb c Class.document)) (true_T h) in
    rw (block_no_parameter c b, not-true (eqb c Class.document) (T_true (not (eqb c Class.document)) d))

-- Where a block does not end, something is seen, and a command is of lesser significance.
pub not_ended : (k sort c : ℕ) → ends_at k sort c ≡ false → (sort ≡ 0 → ⊥) × (leads_command c ≡ true → Class.significance c < Class.significance k)
unfolding ends_at
not_ended k sort c h =
    let (a, b) = or_false (eqb sort 0) (leads_command c && leb (Class.significance k) (Class.significance c)) h in
    (eqb-false sort 0 a, λ e. leb-false (Class.significance k) (Class.significance c) (rw e at b))

-- ---- expressions

-- What an expression counts as in a command.
abbrev pub as_parameter : Expr → Expr
as_parameter x = cond (is_block_parameter (expr_class x)) x (as_not_allowed x)

pub parameter_of_class : (x : Expr) → expr_class (as_parameter x) ≡ command_class (expr_class x)
unfolding as_not_allowed expr_class list_class command_class
parameter_of_class x = cond_under expr_class (is_block_parameter (expr_class x)) x (as_not_allowed x)

pub parameter_place : (x : Expr) → place (as_parameter x) ≡ place x
unfolding as_not_allowed place
parameter_place x = cond_case (λ (y : Expr). place y ≡ place x) (is_block_parameter (expr_class x)) (λ e. refl) (λ e. refl)

loose_of_class : (x : Expr) → expr_class (loose x) ≡ loose_class (expr_class x)
unfolding loose as_not_allowed expr_class list_class loose_class
loose_of_class x = cond_under expr_class (is_block_parameter (expr_class x) || eqb (expr_class x) Class.document) (as_not_allowed x) x

loose_place : (x : Expr) → place (loose x) ≡ place x
unfolding loose as_not_allowed place
loose_place x =
    cond_case (λ (y : Expr). place y ≡ place x) (is_block_parameter (expr_class x) || eqb (expr_class x) Class.document) (λ e. refl) (λ e. refl)

-- What counts as its own class counts as itself.
pub loose_same : (x : Expr) → loose_class (expr_class x) ≡ expr_class x → loose x ≡ x
unfolding loose loose_class is_block_parameter
loose_same x h =
    bool_case (is_block_parameter (expr_class x) || eqb (expr_class x) Class.document)
    (λ e. let z : expr_class x ≡ 0 = sym h ∙ rw e in absurd (true_T (rw z at e)))
    (λ e. rw e)

pub block_place : (x : Expr) (inside : Exprs) → place (block x inside) ≡ place x
unfolding place block
block_place (symbol at s) inside = refl
block_place (quoted at s) inside = refl
block_place (list at none) inside = refl
block_place (list at (and e es)) inside = refl

-- The first of what a block takes: it stands where the first expression does, and is of the class that this one counts as.
pub record FirstTaken (x : Expr) (content : Exprs) : Type 0 where
  pub one : Expr
  pub others : Exprs
  pub made : content ≡ and one others
  pub of_class : expr_class one ≡ loose_class (expr_class x)
  pub placed : place one ≡ place x

pub first_taken : {t : ℕ} {x : Expr} {es content rest : Exprs} → (leads_command (expr_class x) ≡ true → Class.significance (expr_class x) < t)
    → Takes t (and x es) content rest → FirstTaken x content
unfolding is_command leads_command
first_taken h (at_command c l) = absurd (omega (arith, h c, l))
first_taken h (expression {x = x} {content = content} c t) =
    record { one = loose x; others = content; made = refl; of_class = loose_of_class x; placed = loose_place x }
first_taken h (a_block {x = x} {inside = inside} {content = content} c l t u) =
    record {
      one = block x inside;
      others = content;
      made = refl;
      of_class = block_class x inside ∙ sym (command_loose (expr_class x) c);
      placed = block_place x inside;
    }

-- The first of the expressions where something is seen.
pub record FirstSeen (r : Seen) (es : Exprs) : Type 0 where
  pub one : Expr
  pub others : Exprs
  pub made : es ≡ and one others
  pub placed : place one ≡ r.place
  pub of_class : expr_class one ≡ r.class

pub first_seen : {s : List ℕ} {r : Seen} {es : Exprs} {e : ℕ} → SeenAs s r es e → (r.sort ≡ 0 → ⊥) → FirstSeen r es
unfolding place expr_class
first_seen (saw_end h) z = absurd (z h)
first_seen (saw_symbol h c l f t) z = record { one = _; others = _; made = refl; placed = refl; of_class = sym c }
first_seen (saw_string h c l f t) z = record { one = _; others = _; made = refl; placed = refl; of_class = sym c }
first_seen (saw_list x h c f t d b u) z = record { one = _; others = _; made = refl; placed = refl; of_class = sym c }

-- Where a symbol or a string is seen, it is the first of the expressions.
pub record AtomSeen (s : List ℕ) (r : Seen) (es : Exprs) (e : ℕ) : Type 0 where
  pub one : Expr
  pub others : Exprs
  pub made : es ≡ and one others
  pub stands : RunStands s r.next others e
  pub text : r.class ≡ Class.text
  pub of_class : expr_class one ≡ Class.text
  pub no_command : is_command one ≡ false
  pub itself : loose one ≡ one
  pub judged : (k : ℕ) → judge k one ≡ fine
  pub nodes : node_count one ≡ 1
  pub bytes : pool_bytes one ≡ r.length
  pub on_tape : (t : Tape) (n node : ℕ) → taped t n node one ≡ entered t n r.place Class.text node (n + 1)

pub atom_seen : {s : List ℕ} {r : Seen} {es : Exprs} {e : ℕ} → SeenAs s r es e → (r.sort ≡ 0 → ⊥) → (r.sort ≡ 3 → ⊥) → AtomSeen s r es e
unfolding expr_class is_command loose is_block_parameter Class.is_block judge node_count pool_bytes taped
atom_seen (saw_end h) z a = absurd (z h)
atom_seen {s} {r} (saw_symbol h c l f t) z a =
    record {
      one = symbol r.place (atom_value (drop r.place s));
      others = _;
      made = refl;
      stands = t;
      text = c;
      of_class = refl;
      no_command = refl;
      itself = refl;
      judged = λ k. refl;
      nodes = refl;
      bytes = sym l;
      on_tape = λ t n node. refl;
    }
atom_seen {s} {r} (saw_string h c l f t) z a =
    record {
      one = quoted r.place (atom_value (drop r.place s));
      others = _;
      made = refl;
      stands = t;
      text = c;
      of_class = refl;
      no_command = refl;
      itself = refl;
      judged = λ k. refl;
      nodes = refl;
      bytes = sym l;
      on_tape = λ t n node. refl;
    }
atom_seen (saw_list x h c f t d b u) z a = absurd (a h)
