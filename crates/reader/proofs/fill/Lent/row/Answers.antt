-- `fill::Lent::row` meets its contract.
use mathlib.Core.Path.{sym, ◌∙◌}
use native.Mathlib.Omega.{arith}
use borrow.Author.Tests.{ne_eqb}
use Rattle.reader.proofs.lemmas.fill.Rows.{held_within, nothing_put, rowed, text_rowed, element_rowed}
use Rattle.reader.proofs.fill.Lent.row.Goals as goal

pub put-typename-requires : goal.put-typename-requires
put-typename-requires c = omega (arith, held_within c.args.text.now c.args.e.now.key)

pub returns-then-e-clause-row : goal.returns-then-e-clause-row
returns-then-e-clause-row c = let g = c.args in
    let own = c.put-own.ensures.put in
    rowed g.e.now g.node _ _ _ _ _ _ _ _ _ _ _ (nothing_put _) (nothing_put _) own c.write.ensures.written
    ∙ sym (text_rowed g.text.now g.e.now _ c.if-e.true)

pub returns-clause-row : goal.returns-clause-row
returns-clause-row c = let g = c.args in
    rowed g.e.now g.node _ _ _ _ _ _ _ _ _ _ _ c.put-key.ensures.put c.put-typename.ensures.put (nothing_put _) c.write-2.ensures.written
    ∙ sym (element_rowed g.text.now g.e.now _ (ne_eqb _ 9 c.if-e.false))
