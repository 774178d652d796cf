use Rattle.std.proofs.Common.{◌≡◌, true, None, sym, ap, ◌∙◌, arith, rules}
use Rattle.sx_bytes.specs.Grammar.{in_order}
use Rattle.sx_ledger.specs.Body.{tx_before}
use Rattle.sx_ledger.specs.Body.{tx_before}
use Rattle.sx_block.proofs.InParts.{in_parts}
use Rattle.sx_block.proofs.reading_in_parts.read_by.Goals as goal

pub returns : goal.returns
returns g c =
    let payload = c.args.payload.now in
    let txs = c.in_ok-txs.txs in
    let ordered : in_order tx_before None txs ≡ true =
    ap (in_order tx_before None) (sym c.items.ensures) ∙ (sym c.are_in_order.ensures ∙ search rules) in
    in_parts payload c.new-from.result c.read_header.new.from c.in_ok-header.header c.place.result c.in_ok-txs.end txs
    (λ i. omega (arith, c.type_inv.payload i)) c.new-from.ensures c.in_ok-header.ensures c.place.ensures.place
    c.in_ok-txs.ensures c.if-end-payload.false ordered
