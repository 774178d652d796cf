use Rattle.std.proofs.Common.{sym, ◌∙◌}
use Rattle.sx_clear.proofs.BlockLaws.{can_trade}
use Rattle.sx_clear.proofs.OfferLaws.{middle_is, offers_is}
use Rattle.sx_clear.proofs.Tradings.{counted_at, is_trading, traded_at}
use Rattle.sx_clear.proofs.clearing.trade_body.Goals as goal

pub returns-in_err-trade-clause-counted : goal.returns-in_err-trade-clause-counted
returns-in_err-trade-clause-counted g c =
    counted_at c.args.ledger.now c.args.txs.now c.args.prices.now c.args.mu c.args.bounds c.args.steps.now
    c.trade_within.new.steps c.requires.bounds c.trade_within.ensures.counted

pub fill-requires-clause-assets : goal.fill-requires-clause-assets
fill-requires-clause-assets g c =
    let trade = traded_at c.args.ledger.now c.args.txs.now c.args.prices.now c.args.mu c.args.bounds
    c.in_ok-trade.trade c.requires.bounds c.in_ok-trade.ensures.traded in
    trade.best.same_assets ∙ sym c.requires.assets

pub fill-requires-clause-tradable : goal.fill-requires-clause-tradable
fill-requires-clause-tradable g c =
    let parts = c.args.ledger.now in
    let txs = c.args.txs.now in
    let body = c.args.body.now in
    let prices = c.args.prices.now in
    let asked = c.requires in
    can_trade parts txs prices c.args.mu c.in_ok-trade.trade
    (middle_is parts txs body c.height-height.ensures.kept asked.admissible asked.body) asked.assets
    c.price_ranges.ensures
    (traded_at parts txs prices c.args.mu c.args.bounds c.in_ok-trade.trade asked.bounds c.in_ok-trade.ensures.traded)
    c.after.result.now (c.after.ensures ∙ offers_is parts txs body asked.admissible asked.body)

pub returns-in_err-filled-clause-counted : goal.returns-in_err-filled-clause-counted
returns-in_err-filled-clause-counted g c =
    counted_at c.args.ledger.now c.args.txs.now c.args.prices.now c.args.mu c.args.bounds c.args.steps.now
    c.trade_within.new.steps c.requires.bounds c.trade_within.ensures.counted

pub returns-clause-trading : goal.returns-clause-trading
returns-clause-trading g c =
    let parts = c.args.ledger.now in
    let txs = c.args.txs.now in
    let body = c.args.body.now in
    let prices = c.args.prices.now in
    let asked = c.requires in
    is_trading parts txs body prices c.args.mu
    (record { trade = c.in_ok-trade.trade; filled = c.in_ok-filled.filled }) c.after.result.now asked.admissible
    asked.body
    (middle_is parts txs body c.height-height.ensures.kept asked.admissible asked.body) asked.assets
    c.price_ranges.ensures (c.after.ensures ∙ offers_is parts txs body asked.admissible asked.body)
    (traded_at parts txs prices c.args.mu c.args.bounds c.in_ok-trade.trade asked.bounds c.in_ok-trade.ensures.traded)
    c.in_ok-filled.ensures.fills c.in_ok-filled.ensures.one_each c.in_ok-filled.ensures.rounding

pub returns-clause-counted : goal.returns-clause-counted
returns-clause-counted g c =
    counted_at c.args.ledger.now c.args.txs.now c.args.prices.now c.args.mu c.args.bounds c.args.steps.now
    c.trade_within.new.steps c.requires.bounds c.trade_within.ensures.counted
