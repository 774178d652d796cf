use Rattle.std.proofs.Common.{◌≡◌, length, ap, ◌∙◌, arith}
use Rattle.sx_block.specs.Trades.{trades_from, trades_of}
use Rattle.sx_block.proofs.Counts.{trades_most}
use Rattle.sx_block.proofs.header_writing.put_flow.Goals as goal

pub overflow_cast-trade_count : goal.overflow_cast-trade_count
overflow_cast-trade_count c =
    let flow = c.args.flow.now in
    let count : c.trade_count.result ≡ length (trades_of flow) = c.trade_count.ensures ∙
    ap (λ n. length (trades_from n 0 c.values.result.now)) c.assets-assets.ensures.assets ∙
    ap (λ vs. length (trades_from flow.assets 0 vs)) c.values.ensures.values in
    omega (arith, trades_most flow c.values.ensures.flow)
