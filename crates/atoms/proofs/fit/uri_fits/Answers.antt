-- `fit::uri_fits` meets its contract.
use mathlib.Core.Path.{sym, ap, ◌∙◌}
use mathlib.Core.Bool.{not}
use lib.ListN.{drop_of_length-le}
use Rattle.syntax.specs.reference.Scan.{ordinary_run}
use Rattle.characters.specs.Codes.{alphabet_number}
use Rattle.atoms.specs.Atom.{fits}
use Rattle.atoms.proofs.fit.CharactersFit.{symbol_done, symbol_turn, symbol_refused}
use Rattle.atoms.proofs.fit.uri_fits.Goals as goal

pub returns-then-not-has : goal.returns-then-not-has
unfolding alphabet_number
returns-then-not-has c =
    ap not c.is_ordinary-ordinary.ensures ∙ symbol_refused _ _ c.loop-i.i c.loop-i-test.true (sym c.has.ensures ∙ c.if-not-has.true) ∙ c.loop-i.invariant

pub returns-then-not-ordinary : goal.returns-then-not-ordinary
returns-then-not-ordinary c =
    sym (symbol_done _ _ c.loop-i.i c.loop-i-test.true (sym c.is_ordinary-ordinary.ensures ∙ c.if-not-ordinary.true)) ∙ c.loop-i.invariant

pub loop-i-preserved : goal.loop-i-preserved
unfolding alphabet_number
loop-i-preserved c =
    symbol_turn _ _ c.loop-i.i c.loop-i-test.true (sym c.is_ordinary-ordinary.ensures ∙ c.if-not-ordinary.false) (sym c.has.ensures ∙ c.if-not-has.false)
    ∙ c.loop-i.invariant

pub returns : goal.returns
unfolding fits ordinary_run
returns c = rw (drop_of_length-le _ c.loop-i-test.false) at c.loop-i.invariant
