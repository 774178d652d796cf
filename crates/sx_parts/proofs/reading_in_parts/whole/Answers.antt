use Rattle.std.proofs.Common.{subst}
use Rattle.sx_parts.specs.Decoded.{IsListAt}
use Rattle.sx_parts.proofs.WholeLists.{ends_whole}
use Rattle.sx_parts.proofs.reading_in_parts.whole.Goals as goal

pub returns : goal.returns
returns g c =
    let payload = c.args.payload.now in
    ends_whole payload c.in_ok-txs.txs
    (subst (IsListAt payload 0 c.in_ok-txs.txs) c.if-end-payload.false c.in_ok-txs.ensures)
