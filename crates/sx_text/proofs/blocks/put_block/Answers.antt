use Rattle.std.specs.Prelude.{codes, string_bytes}
use Rattle.sx_bytes.proofs.Written.{written_then}
use Rattle.sx_text.specs.Blocks.{header_text}
use Rattle.sx_text.specs.Transactions.{transactions_text}
use Rattle.sx_text.proofs.blocks.put_block.Goals as goal

pub returns : goal.returns
returns g c =
    let block = c.args.block.now in
    written_then c.put_transactions.result (string_bytes c.args.to.now) (header_text block.header)
    (string_bytes c.put_header.new.to) (transactions_text (codes "transactions") block.txs)
    (string_bytes c.put_transactions.new.to) c.in_ok-put_header.ensures (rw c.items.ensures at c.put_transactions.ensures)
