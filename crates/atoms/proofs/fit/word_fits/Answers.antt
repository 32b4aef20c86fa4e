-- `fit::word_fits` meets its contract.
use mathlib.Core.Path.{sym, ap, ◌∙◌}
use mathlib.Core.Bool.{not}
use lib.ListN.{get_or, drop_of_length-le}
use Rattle.syntax.specs.reference.Scan.{ordinary_run}
use Rattle.characters.specs.Codes.{alphabet_number}
use Rattle.atoms.specs.Atom.{fits}
use Rattle.atoms.proofs.fit.CharactersFit.{symbol_turn, symbol_refused, named_ordinary}
use Rattle.atoms.proofs.fit.word_fits.Goals as goal

pub returns-then-not-has : goal.returns-then-not-has
returns-then-not-has c =
    ap not c.is_ordinary.ensures ∙ symbol_refused _ _ c.loop-i.i c.loop-i-test.true (sym c.has.ensures ∙ c.if-not-has.true) ∙ c.loop-i.invariant

pub loop-i-preserved : goal.loop-i-preserved
loop-i-preserved c = let text = c.args.text.now in
    let loop = c.loop-i in
    let stands = sym c.has.ensures ∙ c.if-not-has.false in
    symbol_turn text _ loop.i c.loop-i-test.true (named_ordinary (alphabet_number c.args.alphabet) (get_or text loop.i 0) c.requires stands) stands ∙ loop.invariant

pub returns : goal.returns
unfolding fits ordinary_run
returns c = rw (drop_of_length-le _ c.loop-i-test.false) at c.loop-i.invariant
