-- `put_refusal` meets its contract.
use Rattle.std.proofs.Common.{rules, append_assoc}
use Rattle.elements.specs.rules.Bytes.{codes}
use Rattle.listing.specs.Listing.{refused_line}
use Rattle.listing.proofs.Puts.{appends_on, puts_whole, left_whole}
use Rattle.listing.proofs.put_refusal.Goals as goal

pub returns : goal.returns
unfolding codes refused_line
returns c =
    let line = simp append_assoc at
    (appends_on c.bytes.ensures (appends_on c.number.ensures (appends_on c.number-2.ensures c.number-3.ensures))) in
    record { value = (puts_whole line.puts).0; out_after = left_whole line.puts (search rules) }
