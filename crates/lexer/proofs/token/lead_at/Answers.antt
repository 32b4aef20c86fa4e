-- `token::lead_at` meets its contract: the name is told, or it is read.
use native.Mathlib.Omega.{arith}
use Rattle.lexer.proofs.Looks.{name_fits, name_class, name_end, lead_fits, no_lead}
use Rattle.lexer.proofs.token.lead_at.Goals as goal

pub returns-then-text-place : goal.returns-then-text-place
returns-then-text-place c = no_lead _ _ c.if-text-place.true

pub overflow_add-result : goal.overflow_add-result
overflow_add-result c = omega (
  arith,
  c.name_at-told.ensures.length_is c.if-told-ne0.true,
  lead_fits c.args.text.now c.args.place (omega arith),
)

pub returns-then-told-ne0 : goal.returns-then-told-ne0
returns-then-told-ne0 c = let told = c.name_at-told.ensures in
    (told.class_is c.if-told-ne0.true, omega (arith, told.length_is c.if-told-ne0.true))

pub slice_bounds-class_of-end : goal.slice_bounds-class_of-end
slice_bounds-class_of-end c = let args = c.args in
    omega (
      arith,
      name_fits args.text.now args.place c.skip_blanks-from.result c.symbol_end-next.result c.skip_blanks-from.ensures
          c.symbol_end-next.ensures (omega arith),
    )

pub returns : goal.returns
returns c = let args = c.args in
    let from = c.skip_blanks-from in
    let next = c.symbol_end-next in (
      name_class args.text.now args.place from.result next.result from.ensures next.ensures c.class_of-class.result c.class_of-class.ensures,
      name_end args.text.now args.place from.result next.result from.ensures next.ensures,
    )
