-- `token::past_blanks` meets its contract: the ways that are tried first are those of no white space and of one space.
use Prim.Native.Nat.{◌+◌, ◌<◌}
use native.Mathlib.Omega.{arith}
use lib.ListN.{get_or}
use Rattle.std.proofs.lemmas.Grind.{common_steps}
use Rattle.lexer.proofs.Blanks.{blanks_end, above_stop, one_space}
use Rattle.lexer.proofs.token.past_blanks.Goals as goal

pub returns-then-text-place : goal.returns-then-text-place
returns-then-text-place c = omega (arith, blanks_end c.args.text.now c.args.place c.if-text-place.true)

pub returns-then-b-gt32 : goal.returns-then-b-gt32
returns-then-b-gt32 c = omega (arith, above_stop c.args.text.now c.args.place c.if-b-gt32.true)

pub returns : goal.returns
returns c =
    let next : 0x20 < get_or c.args.text.now (c.args.place + 1) 0 = grind (arith, common_steps) in
    one_space c.args.text.now c.args.place c.if-text-place.false c.if-b-eq32.true next
