-- What a block takes: title, id and type, and then children that are no parameters, all of one alternative and so of one significance.
-- What is said of the rows of the rules is one test that antt computes over the seven blocks.
use Prim.Native.Nat.{ℕ, ◌≤◌, ◌<◌}
use mathlib.Core.Path.{◌≡◌, refl}
use mathlib.Core.Bool.{Bool, true, false, not, cond, ◌&&◌}
use mathlib.Core.List.{List, [], ◌∷◌, Memᴰ}
use native.Mathlib.Omega.{arith}
use lib.Dec.{T, eqb, leb, ltb, leb→le, ltb→lt, eqb→eq}
use borrow.Author.Tests.{eqb-true}
use Rattle.base.proofs.Tables.{every, each, below, each_below}
use Rattle.base.proofs.Booleans.{cond_case, both, true_T, T_true, not-true}
use Rattle.elements.specs.rules.Bytes.{among}
use Rattle.elements.specs.rules.Class as Class
use Rattle.elements.specs.rules.Rules.{Slot, must, may, id_type, Content, alternatives, exactly_one, alternatives_of, rules, rule_in, rule_of}
use Rattle.elements.specs.rules.Inside.{State, expecting, holding, Step, go, bad, is_include, some_has, first_child_step, next_child_step, next_parameter, step, start}
use Rattle.elements.proofs.Same.{each_among}
use Rattle.elements.proofs.Alternatives.{chosen_case, one_has}
use Rattle.elements.proofs.Significance.{one_significance}
use Rattle.document.specs.rules.Spelling.{is_block_parameter}

-- Parameters that a block may have.
unfoldable pub of_block : List Slot → Bool
of_block [] = true
of_block (must n ∷ ps) = is_block_parameter n && of_block ps
of_block (may n ∷ ps) = is_block_parameter n && of_block ps
of_block (id_type ∷ ps) = of_block ps

-- In a block of kind k a child of the class c is a block of lesser significance, or no block, which only blocks of significance 0 hold.
abbrev fits : ℕ → ℕ → Bool
fits k c = cond (Class.is_block c) (ltb (Class.significance c) (Class.significance k)) (eqb (Class.significance k) 0)

is_child : ℕ → ℕ → Bool
is_child k c = not (is_block_parameter c) && (not (eqb c Class.document) && fits k c)

pub record BlockChild (k c : ℕ) : Type 0 where
  pub no_parameter : is_block_parameter c ≡ false
  pub no_document : eqb c Class.document ≡ false
  pub lesser : T (Class.is_block c) → Class.significance c < Class.significance k
  pub alone : Class.is_block c ≡ false → Class.significance k ≡ 0

child : (k c : ℕ) → T (is_child k c) → BlockChild k c
unfolding is_child
child k c h =
    let (p, h₁) = both (not (is_block_parameter c)) (not (eqb c Class.document) && fits k c) h in
    let (d, f) = both (not (eqb c Class.document)) (fits k c) h₁ in
    record {
      no_parameter = not-true _ (T_true _ p);
      no_document = not-true _ (T_true _ d);
      lesser = λ b. ltb→lt _ _ (rw (T_true (Class.is_block c) b) at f);
      alone = λ n. eqb→eq _ _ (rw n at f);
    }

abbrev children : ℕ → Content → Bool
children k t = every (every (is_child k)) (alternatives_of t)

abbrev named : ℕ → Bool
named k = of_block (rule_of k).parameters

abbrev filled : ℕ → Bool
filled k = children k (rule_of k).content

-- The test of every block's row: its parameters, and what its content allows.
rows : T (below (λ k. named k && filled k) 8)
unfolding of_block is_child is_block_parameter alternatives_of rules rule_in rule_of Class.is_block Class.significance
rows = tt

pub block_range : (c : ℕ) → T (Class.is_block c) → (1 ≤ c) × (c ≤ 7)
unfolding Class.is_block
block_range c b = let (low, high) = both (leb 1 c) (leb c 7) b in (leb→le 1 c low, leb→le c 7 high)

row : (k : ℕ) → T (Class.is_block k) → T (named k) × T (filled k)
row k b =
    let h = block_range k b in
    both (named k) (filled k) (each_below (λ k. named k && filled k) 8 k (omega arith) rows)

-- All kinds of an alternative have one significance.
abbrev pub Level : List ℕ → Type 0
Level ks = (c d : ℕ) → T (among c ks) → T (among d ks) → Class.significance d ≡ Class.significance c

-- What is known of a block's content: its kinds are children's, and each alternative has one significance.
abbrev Known : ℕ → Content → Type 0
Known k t = T (children k t) × ((ks : List ℕ) → Memᴰ ks (alternatives_of t) → Level ks)

known : (k : ℕ) → T (Class.is_block k) → Known k (rule_of k).content
known k b = ((row k b).1, λ ks m. one_significance k m)

-- How far a block is read: only parameters of blocks are still to come, or children of one significance.
unfoldable pub BlockState : State → Type 0
BlockState (expecting ps) = T (of_block ps)
BlockState (holding ks) = Level ks

-- What leads on to a state is a parameter, or a child of the alternative that is held there.
unfoldable pub LeadsTo : ℕ → ℕ → State → Type 0
LeadsTo k c (expecting ps) = T (is_block_parameter c)
LeadsTo k c (holding ks) = BlockChild k c × T (among c ks)

-- The alternative that is held stays.
unfoldable pub Follows : State → State → Type 0
Follows (expecting ps) s' = Unit {0}
Follows (holding ks) s' = holding ks ≡ s'

unfoldable pub BlockStep : ℕ → State → ℕ → Step → Type 0
BlockStep k s c (bad n) = Unit {0}
BlockStep k s c (go s') = BlockState s' × LeadsTo k c s' × Follows s s'

module _ (k c : ℕ) where
  child_of_lem : {kss : List (List ℕ)} {ks : List ℕ} → T (every (every (is_child k)) kss) → Memᴰ ks kss → T (among c ks) → BlockChild k c
  child_of_lem {ks = ks} ok m a = child k c (each_among (is_child k) c ks a (each (every (is_child k)) m ok))

  first_takes : (ps : List Slot) (t : Content) → Known k t → BlockStep k (expecting ps) c (first_child_step t c)
  unfolding BlockStep BlockState LeadsTo Follows first_child_step
  first_takes ps t ok =
      cond_case (BlockStep k (expecting ps) c) (is_include c) (λ i. tt)
      (λ i. chosen_case c (BlockStep k (expecting ps) c) (alternatives_of t) (λ ks m a. (ok.1 ks m, (child_of_lem ok.0 m a, a), tt)) (λ n. tt))

  next_takes : (t : Content) (ks : List ℕ) → Level ks → Known k t → BlockStep k (holding ks) c (next_child_step t ks c)
  unfolding BlockStep BlockState LeadsTo Follows next_child_step alternatives_of
  next_takes (alternatives kss) ks l ok =
      cond_case (BlockStep k (holding ks) c) (is_include c) (λ i. tt)
      (λ i. cond_case (BlockStep k (holding ks) c) (some_has kss c)
      (λ s. cond_case (BlockStep k (holding ks) c) (among c ks)
      (λ a. let (hs, m, b) = one_has c kss (true_T s) in (l, (child_of_lem ok.0 m b, true_T a), refl))
      (λ a. tt))
      (λ s. tt))
  next_takes (exactly_one n) ks l ok = cond_case (BlockStep k (holding ks) c) (is_include c) (λ i. tt) (λ i. tt)

  parameter : (n : ℕ) → eqb c n ≡ true → T (is_block_parameter n) → T (is_block_parameter c)
  parameter n e t = rw (eqb-true c n e) t

  parameter_takes : (qs ps : List Slot) (t : Content) → T (of_block ps) → Known k t → BlockStep k (expecting qs) c (next_parameter ps t c)
  unfolding BlockStep BlockState LeadsTo Follows next_parameter of_block is_block_parameter
  parameter_takes qs [] t ps-ok ok = first_takes qs t ok
  parameter_takes qs (must n ∷ ps) t ps-ok ok =
      let (now, later) = both (is_block_parameter n) (of_block ps) ps-ok in
      cond_case (BlockStep k (expecting qs) c) (eqb c n) (λ e. (later, parameter n e now, tt)) (λ e. tt)
  parameter_takes qs (may n ∷ ps) t ps-ok ok =
      let (now, later) = both (is_block_parameter n) (of_block ps) ps-ok in
      cond_case (BlockStep k (expecting qs) c) (eqb c n) (λ e. (later, parameter n e now, tt)) (λ e. parameter_takes qs ps t later ok)
  parameter_takes qs (id_type ∷ ps) t ps-ok ok =
      cond_case (BlockStep k (expecting qs) c) (eqb c Class.id) (λ e. (ps-ok, parameter Class.id e tt, tt))
      (λ e. cond_case (BlockStep k (expecting qs) c) (eqb c Class.type)
      (λ e'. (ps-ok, parameter Class.type e' tt, tt))
      (λ e'. parameter_takes qs ps t ps-ok ok))

-- A block takes its parameters, and then children of one alternative.
pub step_takes : (k : ℕ) → T (Class.is_block k) → (s : State) → BlockState s → (c : ℕ) → BlockStep k s c (step k s c)
unfolding step BlockState
step_takes k b (expecting ps) w c = parameter_takes k c ps ps (rule_of k).content w (known k b)
step_takes k b (holding ks) w c = next_takes k c (rule_of k).content ks w (known k b)

pub start_within : (k : ℕ) → T (Class.is_block k) → BlockState (start k)
unfolding start BlockState
start_within k b = (row k b).0
