-- `token::look` meets its contract.
use Rattle.lexer.proofs.Looks.{seen_after}
use Rattle.lexer.proofs.token.look.Goals as goal

pub returns : goal.returns
returns c = rw (seen_after c.args.text.now c.args.place c.past_blanks.result
    c.past_blanks.ensures) at c.first_seen.ensures
