use Rattle.std.proofs.Common.{List, Ok, length, refl, ap, subst, ◌∙◌}
use Rattle.sx_bytes.specs.declared.memory.NoMemory.{NoMemory}
use Rattle.sx_clear.specs.Found.{IsBodyOf}
use Rattle.sx_clear.specs.Trading.{IsCountedAt, IsTrading}
use Rattle.sx_clear.proofs.BlockLaws.{drops_exactly}
use Rattle.sx_clear.proofs.Tradings.{counted_block, terms_of}
use Rattle.sx_clear.proofs.clearing.clear_at.Goals as goal
use Rattle.sx_dual.specs.Tables.{value_of}
use Rattle.sx_block.proofs.ValidBlocks.{block_trades_most}
use Rattle.sx_tx.specs.declared.tx.Tx.{Tx}

pub block_of-requires-clause-terms : goal.block_of-requires-clause-terms
block_of-requires-clause-terms g c =
    let parts = c.args.ledger.now in
    let txs = c.args.txs in
    let trading = c.in_ok-trade.field-0 in
    let prices = c.in_ok-body.field-0.prices in
    let body = c.in_ok-body.field-0.body in
    let found = subst (λ (xs : List Tx). IsBodyOf parts xs body) c.items-2.ensures c.in_ok-body.ensures.body in
    let trades = subst (λ (xs : List Tx). IsTrading parts xs body prices c.args.mu trading)
    c.items-3.ensures c.in_ok-trade.ensures.trading in
    let left = c.in_ok-after.ensures.hash txs (value_of trading.trade.flow)
    c.requires.admissible found (c.items-4.ensures ∙ trades.fills) in
    rw c.of.ensures (terms_of parts txs body trading
    (record {
      mu = c.args.mu;
      prices = prices;
      trade = trading.trade;
      rounding = trading.filled.rounding;
      after = c.in_ok-after.after;
    })
    trades (ap length c.in_ok-body.ensures.prices ∙ c.requires.prices) c.trade_body.ensures.in_range refl refl left)

pub returns-clause-greatest : goal.returns-clause-greatest
returns-clause-greatest g c = block_trades_most c.args.ledger.now c.block_of.result (rw c.of.ensures at c.block_of.ensures.valid)

pub returns-clause-dropped : goal.returns-clause-dropped
returns-clause-dropped g c = drops_exactly c.args.ledger.now c.block_of.result (rw c.of.ensures at c.block_of.ensures.valid)

pub returns-clause-counted : goal.returns-clause-counted
returns-clause-counted g c =
    let parts = c.args.ledger.now in
    let prices = c.in_ok-body.field-0.prices in
    counted_block {E = NoMemory} parts c.args.txs prices c.args.steps.now c.trade_body.new.steps (Ok c.block_of.result)
    (subst (λ (xs : List Tx). IsCountedAt parts xs prices c.args.steps.now c.trade_body.new.steps) c.items-3.ensures
    c.trade_body.ensures.counted)
    c.block_of.ensures.txs c.block_of.ensures.prices
