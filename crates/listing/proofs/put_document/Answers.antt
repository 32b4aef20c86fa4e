-- `put_document` meets its contract.
use Rattle.std.proofs.Common.{rules}
use Rattle.listing.specs.Listing.{document_lines}
use Rattle.listing.proofs.Lengths.{document_length}
use Rattle.listing.proofs.Puts.{appends_on, puts_whole, left_whole}
use Rattle.listing.proofs.put_document.Goals as goal

pub returns : goal.returns
unfolding document_lines
returns c =
    let lines = appends_on c.header.ensures c.nodes.ensures in
    record {
      value = (puts_whole lines.puts).0;
      out_after = left_whole lines.puts (search rules);
      pool_len_bound = document_length c.args.table.now (search rules) c.args.nodes c.args.pool (search rules) (search rules);
    }
