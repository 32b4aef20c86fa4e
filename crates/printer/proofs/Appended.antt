-- A spelling in front of bytes is the spelling and then those bytes.
use Prim.Native.Nat.{ℕ}
use mathlib.Core.Path.{◌≡◌, refl, sym, ap, ◌∙◌}
use mathlib.Core.Bool.{Bool, cond}
use mathlib.Core.List.{List, [], ◌∷◌, ◌++◌, append_assoc}
use Rattle.elements.specs.rules.Class as Class
use Rattle.base.proofs.Booleans.{cond_under}
use Rattle.document.specs.rules.Document.{Tree, text, value, size, element, Trees, empty, holds}
use Rattle.document.specs.rules.Canonical.{unicode_before, byte_before, bytes_before, quoted_before, brackets_before, string_before, spelled_before, inside_before, digits}

cond_append : (k : List ℕ) (b : Bool) (x y : List ℕ) → cond b x y ++ k ≡ cond b (x ++ k) (y ++ k)
cond_append k b x y = cond_under (λ (l : List ℕ). l ++ k) b x y

pub byte_append : (b : ℕ) (k : List ℕ) → byte_before b k ≡ byte_before b [] ++ k
unfolding byte_before unicode_before
byte_append b k = simp (cond_append k)

pub bytes_append : (s k : List ℕ) → bytes_before s k ≡ bytes_before s [] ++ k
unfolding bytes_before
bytes_append [] k = refl
bytes_append (b ∷ s) k = rw (byte_append b (bytes_before s k), byte_append b (bytes_before s []), append_assoc, bytes_append s k)

pub quoted_append : (s k : List ℕ) → quoted_before s k ≡ quoted_before s [] ++ k
unfolding quoted_before
quoted_append s k = rw (bytes_append s (0x22 ∷ k), bytes_append s (0x22 ∷ []), append_assoc)

pub string_append : (c : ℕ) (s k : List ℕ) → string_before c s k ≡ string_before c s [] ++ k
unfolding string_before
string_append c s k = simp (cond_append k, ← (quoted_append s k), append_assoc)

-- What stands in brackets ends in front of the closing one.
brackets_append : (c : ℕ) (f : List ℕ → List ℕ) → ((r : List ℕ) → f r ≡ f [] ++ r) → (k : List ℕ)
    → brackets_before c f k ≡ brackets_before c f [] ++ k
unfolding brackets_before
brackets_append c f e k =
    ap (λ (l : List ℕ). 0x5B ∷ (Class.name_of c ++ l)) (e (0x5D ∷ k) ∙ sym (append_assoc (f []) (0x5D ∷ []) k) ∙ ap (λ (l : List ℕ). l ++ k) (sym (e (0x5D ∷ []))))
    ∙ ap (λ (l : List ℕ). 0x5B ∷ l) (sym (append_assoc (Class.name_of c) (f (0x5D ∷ [])) k))

size_append : (w h r : List ℕ) → ◌≡◌ {A = List ℕ} (0x20 ∷ (w ++ (0x20 ∷ (h ++ r)))) ((0x20 ∷ (w ++ (0x20 ∷ (h ++ [])))) ++ r)
size_append w h r = simp append_assoc

two_append : (t : Tree) (a b k : List ℕ) → ((r : List ℕ) → spelled_before t r ≡ spelled_before t [] ++ r) → a ≡ b ++ k
    → ◌≡◌ {A = List ℕ} (0x20 ∷ spelled_before t a) (0x20 ∷ (spelled_before t b ++ k))
two_append t a b k e f =
    ap (λ (l : List ℕ). 0x20 ∷ l)
    (ap (spelled_before t) f ∙ e (b ++ k) ∙ sym (append_assoc (spelled_before t []) b k) ∙ ap (λ (l : List ℕ). l ++ k) (sym (e b)))

mutual
  unfolding spelled_before

  pub spelled_append : (t : Tree) (k : List ℕ) → spelled_before t k ≡ spelled_before t [] ++ k
  spelled_append (text s) k = quoted_append s k
  spelled_append (value c s) k = brackets_append c (λ r. 0x20 ∷ string_before c s r) (λ r. ap (λ (l : List ℕ). 0x20 ∷ l) (string_append c s r)) k
  spelled_append (size w h) k = brackets_append Class.size (λ r. 0x20 ∷ (digits w ++ (0x20 ∷ (digits h ++ r)))) (size_append (digits w) (digits h)) k
  spelled_append (element c ts) k = brackets_append c (λ r. inside_before ts r) (λ r. inside_append ts r) k

  pub inside_append : (ts : Trees) (k : List ℕ) → inside_before ts k ≡ inside_before ts [] ++ k
  inside_append empty k = refl
  inside_append (holds t ts) k = two_append t (inside_before ts k) (inside_before ts []) k (λ r. spelled_append t r) (inside_append ts k)
