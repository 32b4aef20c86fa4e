-- Each tree in an element that keeps the rules keeps them, and in a block the parameters stand before the content.
use Prim.Native.Nat.{ℕ}
use mathlib.Core.Path.{◌≡◌, refl}
use mathlib.Core.List.{List}
use lib.Dec.{T}
use Rattle.base.proofs.Booleans.{cond_case, both, T_true}
use Rattle.elements.specs.rules.Class as Class
use Rattle.elements.specs.rules.Inside.{State, expecting, holding, go, step, start}
use Rattle.document.specs.rules.Document.{Tree, element, Trees, empty, holds, tree_class}
use Rattle.document.specs.reference.RulesTest.{step_goes_on, keeps_rules, keep_rules}
use Rattle.document.specs.rules.Spelling.{is_block_parameter, parameters_of, content_of}
use Rattle.document.proofs.NestedMeaning.{goes_on}
use Rattle.document.proofs.BlockRules.{BlockState, LeadsTo, Follows, BlockStep, step_takes, start_within}

-- Each of the trees keeps the rules inside an element of kind k.
abbrev pub Kept : ℕ → Trees → Type 0
Kept k empty = Unit {0}
Kept k (holds t ts) = T (keeps_rules k t) × Kept k ts

-- One step of an element's rules: the tree keeps the rules, and leads to where those that follow keep them.
kept_first : (k : ℕ) (s : State) (t : Tree) (ts : Trees) → T (keep_rules k s (holds t ts))
    → T (keeps_rules k t) × (s' : State) × (step k s (tree_class t) ≡ go s') × T (keep_rules k s' ts)
unfolding keeps_rules
kept_first k s t ts h =
    let (now, later) = both (keeps_rules k t) (step_goes_on (step k s (tree_class t)) (λ s'. keep_rules k s' ts)) h in
    let (s', went, rest) = goes_on (step k s (tree_class t)) (λ s'. keep_rules k s' ts) later in
    (now, s', went, rest)

kept_all : (k : ℕ) (s : State) (ts : Trees) → T (keep_rules k s ts) → Kept k ts
kept_all k s empty h = tt
kept_all k s (holds t ts) h = let (now, s', _, later) = kept_first k s t ts h in (now, kept_all k s' ts later)

kept_inside : (k c : ℕ) (ts : Trees) → T (keeps_rules k (element c ts)) → T (keep_rules c (start c) ts)
unfolding keeps_rules
kept_inside k c ts h = (both (Class.is_element c) (keep_rules c (start c) ts) h).1

-- So do the trees in an element that keeps the rules.
pub element_kept : (k c : ℕ) (ts : Trees) → T (keeps_rules k (element c ts)) → Kept c ts
element_kept k c ts h = kept_all c (start c) ts (kept_inside k c ts h)

pub parameters_kept : (k : ℕ) (ts : Trees) → Kept k ts → Kept k (parameters_of ts)
unfolding parameters_of
parameters_kept k empty h = tt
parameters_kept k (holds t ts) h =
    cond_case (Kept k) (is_block_parameter (tree_class t)) (λ p. (h.0, parameters_kept k ts h.1)) (λ p. parameters_kept k ts h.1)

pub content_kept : (k : ℕ) (ts : Trees) → Kept k ts → Kept k (content_of ts)
unfolding content_of
content_kept k empty h = tt
content_kept k (holds t ts) h =
    cond_case (Kept k) (is_block_parameter (tree_class t)) (λ p. content_kept k ts h.1) (λ p. (h.0, content_kept k ts h.1))

-- The trees are ps and then cs.
pub data Parts : Trees → Trees → Trees → Type 0 where
  no_more : {cs : Trees} → Parts cs empty cs
  one_more_lem : {t : Tree} {ts ps cs : Trees} → Parts ts ps cs → Parts (holds t ts) (holds t ps) cs

-- Where a block holds children no parameter follows.
no_parameters : (k : ℕ) → T (Class.is_block k) → (ts : Trees) (ks : List ℕ) → BlockState (holding ks) → T (keep_rules k (holding ks) ts) → (parameters_of ts ≡ empty) × (content_of ts ≡ ts)
unfolding parameters_of content_of BlockState LeadsTo Follows BlockStep
no_parameters k b empty ks w h = (refl, refl)
no_parameters k b (holds t ts) ks w h =
    let (_, s', went, later) = kept_first k (holding ks) t ts h in
    let taken : BlockStep k (holding ks) (tree_class t) (go s') = rw went at (step_takes k b (holding ks) w (tree_class t)) in
    let leads : LeadsTo k (tree_class t) (holding ks) = rw (← taken.2) at taken.1 in
    let (ps, cs) = no_parameters k b ts ks w (rw (← taken.2) at later) in
    (rw leads.0.no_parameter ps, rw (leads.0.no_parameter, cs))

parts_from : (k : ℕ) → T (Class.is_block k) → (ts : Trees) (s : State) → BlockState s → T (keep_rules k s ts) → Parts ts (parameters_of ts) (content_of ts)
unfolding parameters_of content_of LeadsTo BlockStep
parts_from k b empty s w h = no_more
parts_from k b (holds t ts) s w h =
    let (_, s', went, later) = kept_first k s t ts h in
    let (w', leads, _) : BlockStep k s (tree_class t) (go s') = rw went at (step_takes k b s w (tree_class t)) in
    split s' w' leads later (parts_from k b ts s' w' later)
  where
    split : (s' : State) → BlockState s' → LeadsTo k (tree_class t) s' → T (keep_rules k s' ts) → Parts ts (parameters_of ts) (content_of ts)
        → Parts (holds t ts) (parameters_of (holds t ts)) (content_of (holds t ts))
    split (expecting ps) w l later ih = rw (T_true (is_block_parameter (tree_class t)) l) (one_more_lem ih)
    split (holding ks) w l later ih =
        let (ps, cs) = no_parameters k b ts ks w later in
        rw (l.0.no_parameter, ps, cs) no_more

-- In a block the parameters stand before the content.
pub block_parts : (k c : ℕ) (ts : Trees) → T (Class.is_block c) → T (keeps_rules k (element c ts)) → Parts ts (parameters_of ts) (content_of ts)
block_parts k c ts b h = parts_from c b ts (start c) (start_within c b) (kept_inside k c ts h)
