-- `token::string_seen` meets its contract.
use mathlib.Core.Path.{◌≡◌, refl, ap, ◌∙◌}
use Rattle.std.specs.Prelude.{Result, Ok, Err}
use Rattle.std.specs.Result.{result_unwrap_or}
use Rattle.atoms.specs.declared.string.StringEnd as Code
use Rattle.atoms.specs.declared.string.BadString.{BadString}
use Rattle.atoms.specs.Atom.{StringEnd, ended}
use Rattle.lexer.proofs.token.string_seen.Goals as goal

-- A string that has a fault ends nowhere.
ends : (r : Result Code.StringEnd BadString) (a : StringEnd) (s : Code.StringEnd) → ended r ≡ a → s ≡ result_unwrap_or r (record { next = 0; length = 0 })
    → (s.next ≡ a.next) × (s.length ≡ a.length)
unfolding ended
ends (Ok t) a s e f = (ap (λ (x : Code.StringEnd). x.next) f ∙ ap (λ (x : StringEnd). x.next) e, ap (λ (x : Code.StringEnd). x.length) f ∙ ap (λ (x : StringEnd). x.length) e)
ends (Err b) a s e f = (ap (λ (x : Code.StringEnd). x.next) f ∙ ap (λ (x : StringEnd). x.next) e, ap (λ (x : Code.StringEnd). x.length) f ∙ ap (λ (x : StringEnd). x.length) e)

pub returns : goal.returns
returns c =
    let told = ends c.string_at.result _ c.unwrap_or-string.result c.string_at.ensures c.unwrap_or-string.ensures in
    (refl, refl, refl, told.0, told.1)
