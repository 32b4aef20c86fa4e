-- Which nested expressions have a fault 8 to 12, and its place: which expression, in which element, after which others. Document 01, "Elements" and "Numbers answered".
-- No walk and no judge is in these rules. That they name the fault that reading answers is proved in `proofs/Faults.antt`.
use Rattle.std.specs.Prelude.{ℕ, ◌≡◌, false, T}
use mathlib.Core.List.{List, [], ◌∷◌, Memᴰ}
use Rattle.base.specs.rules.Numbers as Number
use Rattle.elements.specs.rules.Bytes.{among}
use Rattle.elements.specs.rules.Class as Class
use Rattle.elements.specs.rules.Rules.{Slot, must, may, id_type, Content, alternatives, exactly_one, rule_of}
use Rattle.elements.specs.rules.Inside.{is_include}
use Rattle.syntax.specs.rules.Expression.{Expr, list, Exprs, none, and, place}
use Rattle.document.specs.rules.Document.{Tree, KeepsRules}
use Rattle.document.specs.rules.Spelling.{Writes}
use Rattle.document.specs.rules.Lead.{expr_class, lead_class}

-- "an expression is the next one if it is a list led by that name": an expression of class c is the next of these parameters, and leaves those.
pub data Next : List Slot → ℕ → List Slot → Type 0 where
  required : {c : ℕ} {ps : List Slot} → Next (must c ∷ ps) c ps
  optional : {c : ℕ} {ps : List Slot} → Next (may c ∷ ps) c ps
  id_first : {ps : List Slot} → Next (id_type ∷ ps) Class.id (may Class.type ∷ ps)
  type_first : {ps : List Slot} → Next (id_type ∷ ps) Class.type (may Class.id ∷ ps)
  passed_over : {c n : ℕ} {ps qs : List Slot} → (c ≡ n → ⊥) → Next ps c qs → Next (may n ∷ ps) c qs
  both_passed_over : {c : ℕ} {ps qs : List Slot} → (c ≡ Class.id → ⊥) → (c ≡ Class.type → ⊥) → Next ps c qs → Next (id_type ∷ ps) c qs

-- An expression of class c is none of these parameters, and none of them is required before it: "What follows the last one taken is content."
pub data NoneDue : List Slot → ℕ → Type 0 where
  no_more : {c : ℕ} → NoneDue [] c
  passed_over : {c n : ℕ} {ps : List Slot} → (c ≡ n → ⊥) → NoneDue ps c → NoneDue (may n ∷ ps) c
  both_passed_over : {c : ℕ} {ps : List Slot} → (c ≡ Class.id → ⊥) → (c ≡ Class.type → ⊥) → NoneDue ps c → NoneDue (id_type ∷ ps) c

-- With an expression of class c here, a required parameter is absent.
pub data Absent : List Slot → ℕ → Type 0 where
  here : {c n : ℕ} {ps : List Slot} → (c ≡ n → ⊥) → Absent (must n ∷ ps) c
  passed_over : {c n : ℕ} {ps : List Slot} → (c ≡ n → ⊥) → Absent ps c → Absent (may n ∷ ps) c
  both_passed_over : {c : ℕ} {ps : List Slot} → (c ≡ Class.id → ⊥) → (c ≡ Class.type → ⊥) → Absent ps c → Absent (id_type ∷ ps) c

-- How an element has begun: these parameters may still come, or it has children of this alternative of its row, which the first child chose.
pub data Begun : Type 0 where
  due : List Slot → Begun
  children : List ℕ → Begun

-- An expression of class c stands at a content place.
pub data ContentPlace (c : ℕ) : Begun → Type 0 where
  first : {ps : List Slot} → NoneDue ps c → ContentPlace c (due ps)
  further : {ks : List ℕ} → ContentPlace c (children ks)

-- A child of class c may stand in this content: it is of one of its alternatives. A verbatim's second text may not.
pub data Allowed (c : ℕ) : Content → Begun → Type 0 where
  one_of : {kss : List (List ℕ)} {ks : List ℕ} {b : Begun} → Memᴰ ks kss → T (among c ks) → Allowed c (alternatives kss) b
  the_one : {ps : List Slot} → Allowed c (exactly_one c) (due ps)

-- A first child of class c chooses this alternative of a content: "parts only or sections only", "subsections only, or paragraphs, formal items and footnotes".
pub data Chooses (c : ℕ) : Content → List ℕ → Type 0 where
  one_of : {kss : List (List ℕ)} {ks : List ℕ} → Memᴰ ks kss → T (among c ks) → Chooses c (alternatives kss) ks
  the_one : Chooses c (exactly_one c) (c ∷ [])

-- A child of class c is of the first child's sort, which is the alternative that this chose, or is the first.
pub data SameSort (c : ℕ) : Begun → Type 0 where
  the_first : {ps : List Slot} → SameSort c (due ps)
  as_first : {ks : List ℕ} → T (among c ks) → SameSort c (children ks)

-- How an element that has begun so goes on after an expression of class c that may stand there.
pub data Taken (k c : ℕ) : Begun → Begun → Type 0 where
  parameter : {ps qs : List Slot} → Next ps c qs → Taken k c (due ps) (due qs)
  first_child : {ps : List Slot} {ks : List ℕ} → NoneDue ps c → (T (is_include c) → ⊥) → Chooses c (rule_of k).content ks → Taken k c (due ps) (children ks)
  next_child : {ks : List ℕ} → (T (is_include c) → ⊥) → Allowed c (rule_of k).content (children ks) → SameSort c (children ks) → Taken k c (children ks) (children ks)

-- The expression writes a tree that keeps the rules inside an element of kind k.
pub record Fine (k : ℕ) (e : Expr) : Type 0 where
  pub tree : Tree
  pub writes : Writes tree e
  pub lawful : KeepsRules k tree

-- None of these parameters is required.
pub data NoneRequired : List Slot → Type 0 where
  no_more : NoneRequired []
  optional : {n : ℕ} {ps : List Slot} → NoneRequired ps → NoneRequired (may n ∷ ps)
  both_optional : {ps : List Slot} → NoneRequired ps → NoneRequired (id_type ∷ ps)

-- An element that has begun so may end: with a child, or where no required parameter is left and its content may be empty.
pub data MayEnd (k : ℕ) : Begun → Type 0 where
  no_child : {ps : List Slot} {kss : List (List ℕ)} → NoneRequired ps → (rule_of k).content ≡ alternatives kss → MayEnd k (due ps)
  some_child : {ks : List ℕ} → MayEnd k (children ks)

mutual
  -- The expressions that follow in an element of kind k at place `at`, which has begun so, have the fault n at place p.
  pub data FaultIn : ℕ → ℕ → Begun → Exprs → ℕ → ℕ → Type 0 where
    -- "12 at a content place, a list led by include or import": its bracket.
    included : {at k : ℕ} {b : Begun} {e : Expr} {es : Exprs} → ContentPlace (expr_class e) b → T (is_include (expr_class e)) → FaultIn at k b (and e es) Number.include (place e)
    -- "8 expression not allowed as content here": its first byte.
    not_allowed : {at k : ℕ} {b : Begun} {e : Expr} {es : Exprs} → ContentPlace (expr_class e) b → (T (is_include (expr_class e)) → ⊥)
        → (Allowed (expr_class e) (rule_of k).content b → ⊥) → FaultIn at k b (and e es) Number.not_allowed (place e)
    -- "11 child of the other sort than the first child": the child.
    other_sort : {at k : ℕ} {b : Begun} {e : Expr} {es : Exprs} → ContentPlace (expr_class e) b → (T (is_include (expr_class e)) → ⊥)
        → Allowed (expr_class e) (rule_of k).content b → (SameSort (expr_class e) b → ⊥) → FaultIn at k b (and e es) Number.other_sort (place e)
    -- "9 required parameter absent, or verbatim with no content": the element's bracket.
    absent : {at k : ℕ} {ps : List Slot} {e : Expr} {es : Exprs} → Absent ps (expr_class e) → FaultIn at k (due ps) (and e es) Number.absent at
    unfinished : {at k : ℕ} {b : Begun} → (MayEnd k b → ⊥) → FaultIn at k b none Number.absent at
    -- "10 id, type, target or size malformed": its bracket.
    malformed : {at k : ℕ} {ps qs : List Slot} {e : Expr} {es : Exprs} → Next ps (expr_class e) qs → Class.is_element (expr_class e) ≡ false → (Fine k e → ⊥)
        → FaultIn at k (due ps) (and e es) Number.malformed (place e)
    -- An expression that may stand here has a fault inside it; or it has none, and what follows has one.
    inside : {at k : ℕ} {b b' : Begun} {e : Expr} {es : Exprs} {n p : ℕ} → Taken k (expr_class e) b b' → FaultOf e n p → FaultIn at k b (and e es) n p
    later : {at k : ℕ} {b b' : Begun} {e : Expr} {es : Exprs} {n p : ℕ} → Taken k (expr_class e) b b' → Fine k e → FaultIn at k b' es n p → FaultIn at k b (and e es) n p

  -- An element has the fault n at place p inside it.
  pub data FaultOf : Expr → ℕ → ℕ → Type 0 where
    fault_of : {at : ℕ} {e : Expr} {es : Exprs} {n p : ℕ} → T (Class.is_element (lead_class e))
        → FaultIn at (lead_class e) (due (rule_of (lead_class e)).parameters) es n p → FaultOf (list at (and e es)) n p

-- The root has a fault: "The root must be a document, else 8, include and import too."
pub data RootFault (e : Expr) : ℕ → ℕ → Type 0 where
  no_document : (expr_class e ≡ Class.document → ⊥) → RootFault e Number.not_allowed (place e)
  in_document : {n p : ℕ} → expr_class e ≡ Class.document → FaultOf e n p → RootFault e n p
